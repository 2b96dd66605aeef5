-- What a rule number judges, and that a block's terms serve its setting. Serves `judges_of`, `floor_of` and `terms_of`. Assumes nothing.
use Prim.Native.Nat.{ℕ, ◌-◌, ◌^◌, ◌<◌, min}
use mathlib.Core.Path.{◌≡◌, refl, sym, ap, ◌∙◌}
use mathlib.Core.Bool.{Bool, true, false}
use mathlib.Core.List.{List}
use native.Mathlib.Omega.{arith}
use lib.ListN.{get_or}
use Rattle.std.proofs.Common.{Some, None}
use borrow.Author.Tests.{ne_eqb}
use Rattle.lattice.specs.declared.Table.{Table}
use Rattle.lattice.specs.Order.{most_principals, good, top}
use Rattle.lattice.proofs.Order.{good_at, top_lt, mask_top}
use Rattle.syntax.specs.declared.Header.{Header}
use Rattle.calculus.specs.Rules.{rules_of, judges_views, judges_region}
use Rattle.calculus.specs.Calculus.{Setting}
use Rattle.machine.specs.declared.rules.Judges.{Judges}
use Rattle.machine.specs.declared.rules.Terms.{Terms}
use Rattle.machine.specs.MachineNumbers.{judges_labels, judges_branch, judging_of, floor_held, Serves}
use Rattle.lattice.specs.HeldLabels.{LabelHeld, top_mask}
use Rattle.machine.specs.BlockRuns.{judges_of, Under}

-- What the rule set of a rule number judges
abbrev JudgesAs : Bool → Bool → Bool → Bool → ℕ → Type 0
JudgesAs v r l b rule = Some (record { views = v; regions = r; labels = l; branches = b }) ≡ judges_of (rules_of rule)

module _ (rule : ℕ) where
  pub judges_0 : rule ≡ 0 → JudgesAs false true false false rule
  unfolding judges_of judging_of rules_of judges_views judges_region judges_labels judges_branch
  judges_0 h = rw h

  pub judges_1 : rule ≡ 1 → JudgesAs true false false false rule
  unfolding judges_of judging_of rules_of judges_views judges_region judges_labels judges_branch
  judges_1 h = rw h

  pub judges_2 : rule ≡ 2 → JudgesAs false true true false rule
  unfolding judges_of judging_of rules_of judges_views judges_region judges_labels judges_branch
  judges_2 h = rw h

  pub judges_3 : rule ≡ 3 → JudgesAs false true true true rule
  unfolding judges_of judging_of rules_of judges_views judges_region judges_labels judges_branch
  judges_3 h = rw h

  pub judges_255 : rule ≡ 255 → JudgesAs false true true true rule
  unfolding judges_of judging_of rules_of judges_views judges_region judges_labels judges_branch
  judges_255 h = rw h

  pub judges_none : (rule ≡ 0 → ⊥) → (rule ≡ 1 → ⊥) → (rule ≡ 2 → ⊥) → (rule ≡ 3 → ⊥) → (rule ≡ 255 → ⊥) → None ≡ judges_of (rules_of rule)
  unfolding judges_of rules_of
  judges_none a b c d e = rw (rules_of, ne_eqb rule 0 a, ne_eqb rule 1 b, ne_eqb rule 2 c, ne_eqb rule 3 d, ne_eqb rule 255 e)

-- a floor as it is held: where the block is endorsed, and where it is not
pub floor_endorsed : (e : Bool) (f : ℕ) → e ≡ true → f ≡ floor_held e f
unfolding floor_held
floor_endorsed e f h = rw h refl

pub floor_bare : (e : Bool) (f : ℕ) → e ≡ false → most_principals ≡ floor_held e f
unfolding floor_held
floor_bare e f h = rw h refl

-- the top is held as its mask
pub top_held : (t : Table) → good t ≡ true → LabelHeld t (top t) (top_mask t.n)
top_held t h =
    let g = good_at t h in
    let n : min most_principals t.n ≡ t.n = omega (arith, g.few) in
    record { inside = top_lt t h; same = ap (λ (x : ℕ). 2 ^ x - 1) n ∙ sym (mask_top t h) }

-- a block's terms serve its setting
pub serves_under : (w : Setting) (t : Table) (j : Judges) (h : Header) (region full floor : ℕ) → Under w t j h
    → floor ≡ floor_held h.endorsed h.floor → region ≡ get_or t.masks h.region 0 → full ≡ top_mask t.n
    → Serves w
    (record { judges = j; floor = floor; region = region; top = full })
    t.masks
serves_under w t j h region full floor u f p q =
    record {
      grounds = u.grounds;
      masks = ap (λ (x : Table). x.masks) u.order;
      region = record { inside = rw (← u.header, u.order) u.region; same = rw (← u.header, u.order) p };
      top = rw (q, ← u.order) (top_held w.tables.order u.grounds.table);
      floor = f ∙ ap (λ (x : Header). floor_held x.endorsed x.floor) u.header;
      judges = u.judges;
    }

-- its terms judge what its rule set does
module _ {w : Setting} {terms : Terms} {masks : List ℕ} (h : Serves w terms masks) where
  pub serves_views : terms.judges.views ≡ judges_views w.rules
  unfolding judging_of
  serves_views = ap (λ (x : Judges). x.views) h.judges

  pub serves_regions : terms.judges.regions ≡ judges_region w.rules
  unfolding judging_of
  serves_regions = ap (λ (x : Judges). x.regions) h.judges

  pub serves_labels : terms.judges.labels ≡ judges_labels w.rules
  unfolding judging_of
  serves_labels = ap (λ (x : Judges). x.labels) h.judges

  pub serves_branches : terms.judges.branches ≡ judges_branch w.rules
  unfolding judging_of
  serves_branches = ap (λ (x : Judges). x.branches) h.judges

-- a region is a principal
pub region_few : (w : Setting) (t : Table) (j : Judges) (h : Header) → Under w t j h → h.region < most_principals
region_few w t j h u = omega (arith, (good_at w.tables.order u.grounds.table).few, u.region, ap (λ (x : Table). x.n) u.order)
