-- For `capability_safety` and `provenance_safety`: where every block keeps the protected slots, a run does (`ProtectedKept`). Assumes nothing.
use Prim.Native.Nat.{ℕ}
use mathlib.Core.Path.{ap, ◌∙◌}
use mathlib.Core.List.{List}
use Rattle.lattice.specs.Order.{Label}
use Rattle.values.specs.Value.{slot_bytes}
use Rattle.syntax.specs.Sheet.{Block}
use Rattle.syntax.proofs.SheetBlocks.{IsBlock}
use Rattle.calculus.specs.Calculus.{Limits, Store}
use Rattle.calculus.specs.Run.{Call}
use Rattle.calculus.specs.Faithfulness.{Good}
use Rattle.isolation.specs.Isolation.{StoresAgree}
use Rattle.isolation.specs.SlotsAtEveryStep.{ProtectedKept}
use Rattle.exactness.proofs.StepByStepInvariant.{Keeps, held_keeps, put_out_keeps}

module _ (c : Call) (old : List ℕ) (g : Good c) where
  module _ (I : Store → Type 0) (opens : I g.opening.store)
      (keeps : (k : Limits) (j : ℕ) (b : Block) → IsBlock g.opening.tables.slots c.programme j b → Keeps I g.opening.tables g.rules k j b) where
    pub protected_kept : (a : Label) → ((s : Store) → I s → StoresAgree g.opening.tables a s g.opening.store)
        → ProtectedKept a c old g
    protected_kept a agree =
        record {
          held = λ k. agree _ (held_keeps c old g I opens keeps k);
          put_out = λ e i p. let x = put_out_keeps c old g I opens keeps e in x.2 i p.inside ∙ ap slot_bytes (agree x.0 x.1 i p);
        }
