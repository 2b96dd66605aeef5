-- Laws of `well_formed` (values/specs/Value.antt): a value that is well-formed is an integer, or its payload is small. Assumes nothing.
use Prim.Native.Nat.{ℕ, ◌≤◌, ◌<◌}
use mathlib.Core.Path.{◌≡◌}
use mathlib.Core.Logic.{◌⊎◌, inl, inr, ⊎_elim}
use mathlib.Core.Bool.{true}
use native.Mathlib.Omega.{arith}
use lib.Dec.{ltb}
use borrow.Author.Tests.{ltb-true, eqb-true}
use Rattle.lattice.proofs.Tests.{and_l, and_r, or_at}
use Rattle.values.specs.declared.Value.{Value}
use Rattle.values.specs.Value.{integer, truth, read_view, write_view, kinds, is, well_formed}
use Rattle.store.specs.Sheet.{most_slots}

module _ (m : ℕ) (l : m ≤ most_slots) (v : Value) (h : well_formed m v ≡ true) where
  -- a value that is well-formed is an integer, or its payload is small
  pub formed_cases : (v.kind ≡ integer) ⊎ ((v.kind < kinds) × (v.payload < most_slots))
  unfolding well_formed
  formed_cases =
      ⊎_elim
      (λ x. ⊎_elim (λ e. inl (eqb-true _ _ e))
      (λ t. inr (kind truth (omega arith) (and_l _ _ t), payload 2 (omega arith) (and_r _ _ t))) (or_at _ _ x))
      (λ y. inr (⊎_elim (kind read_view (omega arith)) (kind write_view (omega arith)) (or_at _ _ (and_l _ _ y)), payload m l (and_r _ _ y)))
      (or_at _ _ h)
    where
      kind : (k : ℕ) → k < kinds → is k v ≡ true → v.kind < kinds
      kind k i e = omega (arith, eqb-true v.kind k e)

      payload : (k : ℕ) → k ≤ most_slots → ltb v.payload k ≡ true → v.payload < most_slots
      payload k i e = omega (arith, ltb-true v.payload k e)
