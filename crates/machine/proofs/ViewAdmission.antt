-- Rule 1's test of a value (`may_hold`), by its kind and its slot's owner. Serves `admitted` and `read_through`. Assumes nothing.
use Prim.Native.Nat.{ℕ, ◌<◌}
use mathlib.Core.Path.{◌≡◌, refl, sym, ◌∙◌}
use mathlib.Core.Bool.{Bool, true, false}
use mathlib.Core.List.{List}
use native.Mathlib.Omega.{arith}
use lib.ListN.{get_or}
use Rattle.lattice.specs.Tests.{◌and◌, ◌implies◌}
use Rattle.lattice.specs.Order.{most_principals, bit}
use Rattle.values.specs.declared.Value.{Value}
use Rattle.values.specs.Value.{is_write_view, viewed, empty_slot}
use Rattle.store.specs.declared.HeldSlot.{HeldSlot}
use Rattle.store.specs.Sheet.{owner_of}
use Rattle.calculus.specs.Rules.{judges_views}
use Rattle.calculus.specs.Calculus.{Setting, in_region, may_hold}
use Rattle.machine.specs.declared.rules.Terms.{Terms}
use Rattle.machine.specs.MachineNumbers.{Serves}
use Rattle.machine.specs.MachineContracts.{Grounds, CanJudge, RowRead}
use Rattle.machine.proofs.RuleTerms.{serves_views}
use Rattle.machine.proofs.SlotRows.{row_owner}
use Rattle.lattice.proofs.HeldLabels.{bit_held}
use Rattle.machine.proofs.OwnerLabels.{owner_few}

any_implies : (a b : Bool) → true ≡ (a and false implies b)
unfolding ◌and◌ ◌implies◌
any_implies true b = refl
any_implies false b = refl

-- the owner that the code reads in a slot's row is a principal
pub owner_in : {g : Grounds} (i : ℕ) (row : HeldSlot) → CanJudge g → RowRead g.store i row → row.owner < most_principals
owner_in i row j h =
    let w = j.setting.tables in
    let b = j.behind in
    omega (arith, row_owner (get_or j.store i empty_slot) (owner_of w i) row (h w j.store b.held), owner_few w b.serves.grounds i)

-- the region may hold what is no write view
pub no_view : (w : Setting) (v : Value) → is_write_view v ≡ false → true ≡ may_hold w v
no_view w v h = rw h (any_implies (judges_views w.rules) (in_region w (viewed v)))

module _ (w : Setting) (terms : Terms) (masks : List ℕ) (h : Serves w terms masks) where
  -- and anything where views are not judged
  pub unjudged : (v : Value) → terms.judges.views ≡ false → true ≡ may_hold w v
  unfolding ◌and◌ ◌implies◌
  unjudged v e = rw (sym (serves_views h) ∙ e) refl

  -- the test of an owner against the region's mask
  pub in_region_law : (i o : ℕ) → o ≡ owner_of w.tables i → bit terms.region o ≡ in_region w i
  unfolding in_region
  in_region_law i o q = rw q (bit_held w.tables.order h.region (owner_of w.tables i))

  -- a write view is judged by its slot's owner
  pub view_judged : (v : Value) (i o : ℕ) (b : Bool) → terms.judges.views ≡ true → is_write_view v ≡ true → i ≡ viewed v → o ≡ owner_of w.tables i
      → b ≡ bit terms.region o → b ≡ may_hold w v
  unfolding ◌and◌ ◌implies◌
  view_judged v i o b e k n q r = rw (sym (serves_views h) ∙ e, k, ← n) (r ∙ in_region_law i o q)
