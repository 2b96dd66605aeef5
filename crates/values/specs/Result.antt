-- Answers: a value, or what refused it. Assumes nothing.
use Rattle.std.specs.Prelude.{ℕ, zero, suc, Bool, true, false}
use Rattle.values.specs.declared.Answer.{Answer}

pub data Result (E A : Type 0) : Type 0 where
  ok : A → Result E A
  refuse : E → Result E A

infixl 20 ◌>>=◌
-- the second judges what the first answers, unless the first refuses
unfoldable pub ◌>>=◌ : {E A B : Type 0} → Result E A → (A → Result E B) → Result E B
ok a >>= k = k a
refuse e >>= k = refuse e

-- `require b e r`: r where the test b passes, the refusal e where it fails
unfoldable pub require : {E A : Type 0} → Bool → E → Result E A → Result E A
require true e r = r
require false e r = refuse e

-- the same refusal, said in other terms
unfoldable pub refused_as : {E F A : Type 0} → (E → F) → Result E A → Result F A
refused_as f (ok a) = ok a
refused_as f (refuse e) = refuse (f e)

-- checks 0, 1, .. n - 1, each where all before it passed
unfoldable pub in_turn : {E : Type 0} → ℕ → (ℕ → Result E (Unit {0})) → Result E (Unit {0})
in_turn zero f = ok tt
in_turn (suc n) f = in_turn n f >>= λ _. f n

-- the number of a check's refusal, or 0
unfoldable pub refusal_of : {A : Type 0} → Result ℕ A → ℕ
refusal_of (ok a) = 0
refusal_of (refuse e) = e

-- Document 01, "Who can cause which refusal": "Each answer is number, block, offset, steps." `Answer` is the struct of src/lib.rt.
abbrev pub says : (number block offset steps : ℕ) → Answer
says number block offset steps = record { number = number; block = block; offset = offset; steps = steps }

-- "Numbers 1 to 8, 11 and 12 give block, offset and steps 0"
unfoldable pub unplaced : ℕ → Answer
unplaced e = says e 0 0 0
