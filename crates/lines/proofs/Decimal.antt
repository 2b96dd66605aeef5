-- Laws of decimal texts. Assumes nothing.
use Prim.Native.Nat.{ℕ, zero, suc, ◌+◌, ◌-◌, ◌*◌, ◌/◌, ◌%◌, ◌^◌, ◌≤◌, ◌<◌}
use mathlib.Core.Path.{◌≡◌, refl, ◌∙◌}
use mathlib.Core.Bool.{Bool, true, false}
use mathlib.Core.List.{List, [], ◌∷◌, ◌++◌}
use native.Mathlib.Omega.{arith}
use lib.ListN.{length, get_or, length-append, get_or-append}
use lib.Seq.{get_or-append_seam}
use lib.Dec.{ltb}
use borrow.Author.Tests.{lt-ltb, le-ltb, ltb-true, ltb-false}
use Rattle.lines.specs.Decimal.{digit, decimal_within, most_places, read_on, DecimalText}

-- the last digit, after those before it
abbrev ending : ℕ → ℕ → List ℕ
ending places n = decimal_within places (n / 10) ++ (digit (n % 10) ∷ [])

module _ (places n : ℕ) where
  pub one_digit : n < 10 → decimal_within (suc places) n ≡ digit n ∷ []
  unfolding decimal_within
  one_digit h = rw (decimal_within, lt-ltb n 10 h)

  pub more_digits : 10 ≤ n → decimal_within (suc places) n ≡ ending places n
  unfolding decimal_within
  more_digits h = rw (decimal_within, le-ltb n 10 h)

  -- one digit or more
  pub by_digits : (P : List ℕ → Type 0) → (n < 10 → P (digit n ∷ [])) → (10 ≤ n → P (ending places n)) → P (decimal_within (suc places) n)
  by_digits P one more = either (ltb n 10) refl
    where
      either : (b : Bool) → ltb n 10 ≡ b → P (decimal_within (suc places) n)
      either true e = let h = ltb-true n 10 e in rw (one_digit h) (one h)
      either false e = let h = ltb-false n 10 e in rw (more_digits h) (more h)

length_ending : (l : List ℕ) (b : ℕ) → length (l ++ (b ∷ [])) ≡ length l + 1
length_ending l b = length-append l (b ∷ [])

-- no more digits than places
pub length_decimal : (places n : ℕ) → length (decimal_within places n) ≤ places
unfolding decimal_within
length_decimal zero n = omega arith
length_decimal (suc places) n =
    by_digits places n (λ l. length l ≤ suc places)
    (λ _. omega arith)
    (λ _. omega (arith, length_ending (decimal_within places (n / 10)) (digit (n % 10)), length_decimal places (n / 10)))

-- every byte a digit
abbrev Digits : List ℕ → Type 0
Digits l = (i : ℕ) → i < length l → (digit 0 ≤ get_or l i 0) × (get_or l i 0 ≤ digit 9)

-- one digit behind others
digits_ending : (l : List ℕ) (d : ℕ) → d < 10 → Digits l → Digits (l ++ (digit d ∷ []))
digits_ending l d h ds i lt = either (ltb i (length l)) refl
  where
    either : (b : Bool) → ltb i (length l) ≡ b → (digit 0 ≤ get_or (l ++ (digit d ∷ [])) i 0) × (get_or (l ++ (digit d ∷ [])) i 0 ≤ digit 9)
    either true e = let k = ltb-true i (length l) e in rw (get_or-append l (digit d ∷ []) 0 i k) (ds i k)
    either false e =
        let k : i ≡ length l = omega (arith, ltb-false i (length l) e, length_ending l (digit d)) in
        rw (k, get_or-append_seam l (digit d) [] 0) (omega arith, omega arith)

all_digits : (places n : ℕ) → Digits (decimal_within places n)
unfolding decimal_within
all_digits zero n = λ i h. absurd (omega arith)
all_digits (suc places) n =
    by_digits places n Digits
    (λ h i lt. let k : i ≡ 0 = omega arith in rw k (omega arith, omega arith))
    (λ _. digits_ending (decimal_within places (n / 10)) (n % 10) (omega arith) (all_digits places (n / 10)))

-- digits read one by one
read_ending : (n : ℕ) (l : List ℕ) (b : ℕ) → read_on n (l ++ (b ∷ [])) ≡ 10 * read_on n l + (b - digit 0)
unfolding read_on
read_ending n [] b = refl
read_ending n (x ∷ l) b = read_ending (10 * n + (x - digit 0)) l b

pub reads_back : (places n : ℕ) → n < 10 ^ places → read_on 0 (decimal_within places n) ≡ n
unfolding decimal_within read_on
reads_back zero n h = omega arith
reads_back (suc places) n h =
    by_digits places n (λ l. read_on 0 l ≡ n)
    (λ k. omega arith)
    (λ k.
    read_ending 0 (decimal_within places (n / 10)) (digit (n % 10))
    ∙ omega (arith, reads_back places (n / 10) (omega arith)))

-- a number other than 0 has digits, and the first is not 0
first_digit : (places n : ℕ) → 1 ≤ n → n < 10 ^ places → (1 ≤ length (decimal_within places n)) × (digit 0 < get_or (decimal_within places n) 0 0)
unfolding decimal_within
first_digit zero n p h = absurd (omega arith)
first_digit (suc places) n p h =
    by_digits places n (λ l. (1 ≤ length l) × (digit 0 < get_or l 0 0))
    (λ k. (omega arith, omega arith))
    (λ k.
    let r = first_digit places (n / 10) (omega arith) (omega arith) in (
      omega (arith, length_ending (decimal_within places (n / 10)) (digit (n % 10))),
      rw (get_or-append (decimal_within places (n / 10)) (digit (n % 10) ∷ []) 0 0 r.0) r.1,
    ))

pub decimal_text : DecimalText
unfolding decimal_within
decimal_text =
    record {
      some = λ n h. by_digits 19 n (λ l. 1 ≤ length l) (λ _. omega arith) (λ _. omega (arith, length_ending (decimal_within 19 (n / 10)) (digit (n % 10))));
      digits = λ n h. all_digits most_places n;
      reads = λ n h. reads_back most_places n (omega arith);
      shortest = λ n h k. (first_digit most_places n (by_digits 19 n (λ l. 1 < length l → 1 ≤ n) (λ _ w. absurd (omega arith)) (λ w _. omega arith) k) (omega arith)).1;
    }
