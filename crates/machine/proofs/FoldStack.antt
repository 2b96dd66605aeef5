-- The values that wait in the array of `fold` for the right operands of their operations. Assumes nothing.
use Prim.Native.Nat.{ℕ, ◌<◌, ◌≤◌}
use mathlib.Core.Path.{◌≡◌}
use mathlib.Core.List.{List, [], ◌∷◌}
use native.Mathlib.Omega.{arith}
use lib.ListN.{length, get_or, set}
use lib.Seq.{get_or-set_same, get_or-set_other}
use Rattle.lattice.specs.declared.Table.{Table}
use Rattle.syntax.specs.Code.{most_nested}
use Rattle.calculus.specs.Calculus.{Labelled}
use Rattle.machine.specs.declared.expressions.Labelled.{Labelled as Waiting}
use Rattle.machine.specs.MachineNumbers.{ValueHeld}

-- an entry that is not there is read as this
abbrev pub no_value : Waiting
no_value = record { kind = 0; payload = 0; label = 0 }

-- a value as the code holds it
abbrev pub HeldAs : Table → Labelled → Waiting → Type 0
HeldAs t x v = ValueHeld t x v.kind v.payload v.label

-- the value at i
abbrev pub HeldIn : Table → List Waiting → ℕ → Labelled → Type 0
HeldIn t a i x = HeldAs t x (get_or a i no_value)

-- The values that wait, the last one first: the first stands at 0.
unfoldable pub Wait : Table → List Waiting → List Labelled → Type 0
Wait t a [] = Unit {0}
Wait t a (x ∷ xs) = HeldIn t a (length xs) x × Wait t a xs

module _ (t : Table) (a : List Waiting) (i : ℕ) (v : Waiting) where
  -- those before it stay
  put_wait : (xs : List Labelled) → length xs ≤ i → Wait t a xs → Wait t (set a i v) xs
  unfolding Wait
  put_wait [] h w = tt
  put_wait (x ∷ xs) h w = (rw (get_or-set_other a i (length xs) v no_value (λ e. omega arith)) w.0, put_wait xs (omega arith) w.1)

  -- one more waits
  pub wait_more : (x : Labelled) (xs : List Labelled) → length a ≡ most_nested → i < most_nested → length xs ≡ i → HeldAs t x v → Wait t a xs
      → Wait t (set a i v) (x ∷ xs)
  unfolding Wait
  wait_more x xs r h e y w = (rw (e, get_or-set_same a i v no_value (omega (arith, r))) y, put_wait xs (omega arith) w)

-- the last one that waits, and the others
pub wait_last : (t : Table) (a : List Waiting) (x : Labelled) (xs : List Labelled) → Wait t a (x ∷ xs) → HeldIn t a (length xs) x × Wait t a xs
unfolding Wait
wait_last t a x xs w = w
