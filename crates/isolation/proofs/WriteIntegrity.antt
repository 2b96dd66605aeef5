-- Proves `write_integrity`: under every rule number a block leaves the slots outside its region as they are. Assumes nothing.
use Prim.Native.Nat.{ℕ, zero, suc, ◌+◌, ◌*◌, ◌<◌}
use mathlib.Core.Path.{◌≡◌, refl, sym, ap, ◌∙◌}
use mathlib.Core.Bool.{Bool, false, true≢false}
use mathlib.Core.List.{List, [], ◌∷◌}
use native.Mathlib.Numerals.{add-one}
use native.Mathlib.Omega.{arith}
use lib.ListN.{get_or, take}
use lib.Seq.{get_or-set_other}
use borrow.Table.Steps.{cases}
use Rattle.lattice.specs.Tests.{some}
use Rattle.lattice.specs.Order.{below, top}
use Rattle.lattice.proofs.Tests.{is_false, some_of}
use Rattle.values.specs.Result.{Result, refused_as}
use Rattle.values.specs.Bytes.{part}
use Rattle.values.specs.Value.{Slot, empty_slot, slot_width, slot_bytes}
use Rattle.values.proofs.Result.{Any, post_all, post_map, bind_with}
use Rattle.store.specs.Sheet.{Tables, owner_of}
use Rattle.syntax.specs.Sheet.{Block, k_of, header_at}
use Rattle.syntax.proofs.SheetBlocks.{IsBlock, Placed, none, more}
use Rattle.calculus.specs.Rules.{RuleSet}
use Rattle.calculus.specs.Calculus.{Limits, limits, Store, State, in_region, written, exec}
use Rattle.calculus.specs.Blocks.{Halt, halt_in, setting, run_blocks}
use Rattle.calculus.specs.Run.{Call, limits_of, answer, output}
use Rattle.calculus.specs.Faithfulness.{Good}
use Rattle.calculus.specs.Tasks.{reached}
use Rattle.exactness.specs.StepByStep.{state_within}
use Rattle.isolation.specs.SlotsAtEveryStep.{Integrity, WriteIntegrity}
use Rattle.calculus.proofs.CalculusInvariant.{all_ends}
use Rattle.calculus.proofs.CalculusAuthority.{assigned_in_region}
use Rattle.exactness.proofs.StepByStepInvariant.{Keeps, blocks_keep, blocks_placed, put_out_keeps}
use Rattle.calculus.proofs.StepsBounded.{at_reached}

module _ (w : Tables) (rules : RuleSet) (k : Limits) (i : ℕ) where
  -- slot i holds d
  abbrev Steady : Slot → Store → Type 0
  Steady d s = get_or s i empty_slot ≡ d

  block_steady : (d : Slot) (j : ℕ) (b : Block) → below w.order (owner_of w i) b.header.region ≡ false → Keeps (Steady d) w rules k j b
  unfolding written in_region
  block_steady d j b out s m =
      all_ends (setting w rules k j b) (Steady d)
      (λ branch s t v m. post_map _ _ _ _ _ (assigned_in_region (setting w rules k j b) branch s t v)
      (λ x p. get_or-set_other s x.slot i _ empty_slot (λ e. true≢false (sym (rw (← e) at p) ∙ out)) ∙ m) (λ _ _. tt))
      b.command _ s m

  -- slot i is the same where two runs end or are stopped
  abbrev SlotSame : Result Halt State → Result Halt State → Type 0
  SlotSame r r' = Steady (get_or (reached r').store i empty_slot) (reached r).store

  -- slot i after the first j blocks and after one more
  module _ (p : List ℕ) where
    one_more : (n : ℕ) (bs : List Block) → Placed (IsBlock w.slots p) n bs → (j : ℕ) (s : State)
        → below w.order (owner_of w i) (header_at p (n + j)).region ≡ false
        → SlotSame (run_blocks w rules k n (take (suc j) bs) s) (run_blocks w rules k n (take j bs) s)
    unfolding reached run_blocks
    one_more n [] none zero s out = refl
    one_more n [] none (suc j) s out = refl
    one_more n (b ∷ bs) (more is rest) zero s out =
        let e : n + 0 ≡ n = omega arith in
        at_reached (λ t. Steady _ t.store) _
        (blocks_keep (Steady _) w rules k n (b ∷ []) (more (block_steady _ n b (rw is.header (rw e at out))) none) s refl)
    one_more n (b ∷ bs) (more is rest) (suc j) s out =
        let e : n + suc j ≡ n + 1 + j = omega arith in
        bind_with SlotSame Any Any (refused_as (halt_in n) (exec (setting w rules k n b) b.command (top w.order) s)) _ _
        (post_all _ _ _ (λ _. tt) (λ _. tt)) (λ t _. one_more (n + 1) bs rest j t (rw e at out)) (λ _. refl)

module _ (c : Call) (old : List ℕ) (g : Good c) where
  abbrev w : Tables
  w = g.opening.tables

  abbrev owned : ℕ → ℕ → Bool
  owned i j = below w.order (owner_of w i) (header_at c.programme j).region

  within : (k j i : ℕ) → owned i j ≡ false
      → get_or (state_within g k (j + 1)).store i empty_slot ≡ get_or (state_within g k j).store i empty_slot
  unfolding state_within
  within k j i out =
      let e : 0 + j ≡ j = omega arith in
      rw (add-one) (one_more w g.rules (limits k c.entries) i c.programme 0 g.blocks (blocks_placed c old g) j _ (rw (← e) at out))

  -- where no block's region has authority over slot i, no block changes it
  unowned : (i : ℕ) → some (k_of c.programme) (owned i) ≡ false → (j : ℕ) (b : Block) → IsBlock w.slots c.programme j b
      → below w.order (owner_of w i) b.header.region ≡ false
  unowned i out j b is = rw is.header (is_false _ (λ t. true≢false (sym (some_of _ (owned i) j is.inside t) ∙ out)))

  same_output : (answer c).number ≡ 0 → (i : ℕ) → i < w.slots → some (k_of c.programme) (owned i) ≡ false
      → part (output c old) (slot_width * i) slot_width ≡ slot_bytes (get_or g.opening.store i empty_slot)
  same_output e i h out =
      let x =
      put_out_keeps c old g (Steady w g.rules (limits_of c) i (get_or g.opening.store i empty_slot)) refl
      (λ k j b is. block_steady w g.rules k i _ j b (unowned i out j b is)) e in
      x.2 i h ∙ ap slot_bytes x.1

  integrity : Integrity c old g
  integrity =
      record {
        held = λ k j i changed. cases (owned i j) (λ e. e) (λ out. absurd (changed (within k j i out)));
        put_out = λ e i h changed. cases (some (k_of c.programme) (owned i)) (λ e. e) (λ out. absurd (changed (same_output e i h out)));
      }

pub write_integrity : WriteIntegrity
write_integrity = integrity
