-- For `deputy_safety` and its like: the store that a run ends with where it finishes (`FinishedRun`), and what it puts out. Assumes nothing.
use Prim.Native.Nat.{ℕ, ◌*◌, ◌<◌}
use mathlib.Core.Path.{◌≡◌, ap, ◌∙◌}
use mathlib.Core.Bool.{true}
use mathlib.Core.List.{List, []}
use lib.ListN.{get_or, length}
use Rattle.lattice.specs.Order.{Label}
use Rattle.values.specs.Result.{ok}
use Rattle.values.specs.Bytes.{part}
use Rattle.values.specs.Value.{well_formed, empty_slot, slot_width, slot_bytes}
use Rattle.values.proofs.Result.{post_at}
use Rattle.store.specs.Sheet.{Tables, store_sheet}
use Rattle.store.proofs.SheetOpening.{slot_part}
use Rattle.syntax.specs.Sheet.{Block}
use Rattle.syntax.proofs.CodeWellFormed.{block_literals}
use Rattle.syntax.proofs.SheetBlocks.{IsBlock}
use Rattle.calculus.specs.Calculus.{Limits, Store, State}
use Rattle.calculus.specs.Blocks.{setting}
use Rattle.calculus.specs.Run.{Call, call, limits_of, FinishedRun}
use Rattle.calculus.specs.Faithfulness.{Good, own_run}
use Rattle.isolation.specs.Isolation.{Protected}
use Rattle.isolation.specs.SlotsAtEveryStep.{ProtectedKept}
use Rattle.calculus.proofs.CalculusOperations.{gives_formed}
use Rattle.calculus.proofs.CalculusInvariant.{Slots, slots_keep}
use Rattle.calculus.proofs.RunFinishedGood.{good_run}
use Rattle.calculus.proofs.Faithfulness.{faithfulness}
use Rattle.exactness.proofs.StepByStepInvariant.{Keeps, run_keeps}
use Rattle.isolation.proofs.Isolation.{opens}

module _ (rule : ℕ) (store : List ℕ) (w : Tables) (s : Store) (sheet : store_sheet store ≡ ok (record { tables = w; store = s }))
    (q out : List ℕ) (x : FinishedRun rule store q out) where
  abbrev pub end_call : Call
  end_call = call store q rule x.budget (length x.old) x.entries

  abbrev pub end_good : Good end_call
  end_good = good_run end_call (record { tables = w; store = s }) sheet x.finishes

  abbrev end : (t : State) × (own_run end_good ≡ ok t)
  end = (faithfulness end_call x.old [] end_good).finishes.0 x.finishes

  abbrev pub end_store : Store
  end_store = end.0.store

  pub end_part : (i : ℕ) → i < w.slots → part out (slot_width * i) slot_width ≡ slot_bytes (get_or end_store i empty_slot)
  end_part i h =
      ap (λ (l : List ℕ). part l (slot_width * i) slot_width)
      (x.ends ∙ ((faithfulness end_call x.old [] end_good).ends end.0 end.1).1) ∙ slot_part end_store w.slots i h

  -- what every block keeps
  pub end_keeps : (I : Store → Type 0) → I s → ((k : Limits) (j : ℕ) (b : Block) → IsBlock w.slots q j b → Keeps I w end_good.rules k j b) → I end_store
  end_keeps I first keeps = post_at _ _ _ _ (run_keeps end_call x.old end_good I first keeps (limits_of end_call)) end.1

  pub end_formed : Slots (λ v. well_formed w.slots v ≡ true) end_store
  end_formed =
      end_keeps (Slots (λ v. well_formed w.slots v ≡ true)) (opens store w s sheet).formed
      (λ k j b is. slots_keep _ (setting w end_good.rules k j b) (gives_formed w.slots) b.command (post_at _ _ _ _ (block_literals _ _) is.code) _)

  -- protected slots that are kept end as they opened
  pub end_kept : (a : Label) → ProtectedKept a end_call x.old end_good → (i : ℕ) → Protected w a i
      → part out (slot_width * i) slot_width ≡ slot_bytes (get_or s i empty_slot)
  end_kept a k i p = ap (λ (l : List ℕ). part l (slot_width * i) slot_width) x.ends ∙ k.put_out x.finishes i p
