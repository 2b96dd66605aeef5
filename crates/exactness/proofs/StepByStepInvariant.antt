-- Laws of `store_after` (specs/StepByStep.antt): what every block keeps, a run keeps, after any number of steps and in its output. Assumes nothing.
use Prim.Native.Nat.{ℕ, ◌+◌, ◌*◌, ◌<◌}
use mathlib.Core.Path.{◌≡◌, ap, ◌∙◌}
use mathlib.Core.List.{List, [], ◌∷◌}
use lib.ListN.{get_or}
use lib.Seq.{take-length}
use Rattle.lattice.specs.Order.{top}
use Rattle.values.specs.Result.{Result}
use Rattle.values.specs.Bytes.{part}
use Rattle.values.specs.Value.{empty_slot, slot_width, slot_bytes}
use Rattle.values.proofs.Result.{Post, post_ok, post_at, post_refused_as, post_bind}
use Rattle.store.specs.Sheet.{Tables}
use Rattle.store.proofs.SheetOpening.{slot_part}
use Rattle.syntax.specs.Sheet.{Block}
use Rattle.syntax.proofs.SheetBlocks.{IsBlock, Placed, none, more, placed_map, programme_placed}
use Rattle.calculus.specs.Rules.{RuleSet}
use Rattle.calculus.specs.Calculus.{Limits, limits, Store, State, exec}
use Rattle.calculus.specs.Blocks.{Halt, setting, run_blocks, start}
use Rattle.calculus.specs.Run.{Call, limits_of, answer, output}
use Rattle.calculus.specs.Faithfulness.{Good}
use Rattle.exactness.specs.StepByStep.{state_within, store_after}
use Rattle.calculus.proofs.StepsBounded.{at_reached}
use Rattle.calculus.proofs.CalculusInvariant.{Ends}
use Rattle.calculus.proofs.Faithfulness.{faithfulness}

module _ (I : Store → Type 0) where
  -- I holds where a run ends or is stopped
  abbrev pub RunEnds : Result Halt State → Type 0
  RunEnds r = Post (λ s. I s.store) (λ h. I h.stop.state.store) r

  -- a block that keeps I from any state on
  abbrev pub Keeps : Tables → RuleSet → Limits → ℕ → Block → Type 0
  Keeps w rules k j b = (s : State) → I s.store → Ends I (exec (setting w rules k j b) b.command (top w.order) s)

  pub keeps_under : (w : Tables) (rules rules' : RuleSet) (k : Limits) (j : ℕ) (b : Block) → rules ≡ rules' → Keeps w rules' k j b → Keeps w rules k j b
  keeps_under w rules rules' k j b e h = rw e h

  pub blocks_keep : (w : Tables) (rules : RuleSet) (k : Limits) (i : ℕ) (bs : List Block) → Placed (Keeps w rules k) i bs
      → (s : State) → I s.store → RunEnds (run_blocks w rules k i bs s)
  unfolding run_blocks
  blocks_keep w rules k i [] none s m = post_ok _ _ _ m
  blocks_keep w rules k i (b ∷ bs) (more p ps) s m =
      post_bind _ _ _ _ _ (post_refused_as _ _ _ _ (p s m)) (λ t q. blocks_keep w rules k (i + 1) bs ps t q)

module _ (c : Call) (old : List ℕ) (g : Good c) where
  abbrev w : Tables
  w = g.opening.tables

  pub blocks_placed : Placed (IsBlock w.slots c.programme) 0 g.blocks
  blocks_placed = post_at _ _ _ _ (programme_placed _ _ c.programme) g.taken

  module _ (I : Store → Type 0) (opens : I g.opening.store)
      (keeps : (k : Limits) (j : ℕ) (b : Block) → IsBlock w.slots c.programme j b → Keeps I w g.rules k j b) where
    -- within any limits
    pub run_keeps : (k : Limits) → RunEnds I (run_blocks w g.rules k 0 g.blocks (start g.opening.store))
    unfolding start
    run_keeps k = blocks_keep I w g.rules k 0 g.blocks (placed_map _ _ _ _ (keeps k) blocks_placed) _ opens

    pub held_keeps : (k : ℕ) → I (store_after g k)
    unfolding state_within
    held_keeps k = at_reached (λ s. I s.store) _ (rw (take-length g.blocks) (run_keeps (limits k c.entries)))

    -- a run that finishes puts out a store of which I holds
    pub put_out_keeps : (answer c).number ≡ 0
        → (s : Store) × I s
        × ((i : ℕ) → i < w.slots → part (output c old) (slot_width * i) slot_width ≡ slot_bytes (get_or s i empty_slot))
    put_out_keeps e =
        let f = faithfulness c old [] g in
        let x = f.finishes.0 e in (
          x.0.store,
          post_at _ _ _ _ (run_keeps (limits_of c)) x.1,
          λ i h.
              ap (λ (l : List ℕ). part l (slot_width * i) slot_width) (f.ends x.0 x.1).1 ∙ slot_part x.0.store w.slots i h,
        )
