-- Document 02, N8: "each sheet and output came back as written". Said in a weaker way, that some call wrote them, demand 3 over stretches is false: 19 lets
-- forged labels pass, and carrying on with no steps left copies them into a sheet that a call did write. The statement, and the example that refutes it.
-- Assumes nothing.
use Rattle.std.specs.Prelude.{ℕ, ◌<◌, ◌≡◌, List, [], ◌∷◌, ◌++◌, length}
use Rattle.values.specs.Result.{ok, says}
use Rattle.store.specs.Sheet.{Tables, tables_of, opening_of, store_sheet}
use Rattle.calculus.specs.Vectors.{int, bool, wrote, kept, flagged, one, branches, branch_at, blank}
use Rattle.isolation.specs.Isolation.{Protected, StoresAgree, FloorsOutOfReach, FullRule, IsolationOf}
use Rattle.pausing.specs.Stretches.{From, opening, checkpoint, stretch, answer, output, pause}
use Rattle.promises.specs.IsolatedInStretches.{LastStretch}
use Rattle.promises.specs.StretchesWorked.{sheet, lent, unflagged, fitted}

-- a start, or a checkpoint that some call over this store and programme wrote under full provenance, wherever that call itself went on from
pub data SomeCallWrote (store programme : List ℕ) : From → Type 0 where
  begun : SomeCallWrote store programme opening
  wrote_from : (from : From) (rule budget : ℕ) (out sheet : List ℕ) → FullRule rule
      → (answer from (stretch store programme rule budget (length out) (length sheet))).number ≡ 17
      → SomeCallWrote store programme (checkpoint (output from (stretch store programme rule budget (length out) (length sheet)) out)
      (pause from (stretch store programme rule budget (length out) (length sheet)) sheet))

-- as `FullStretches` (IsolatedInStretches.antt), without the unbroken chain from a start
abbrev pub LooseStretches : (store programme out : List ℕ) → Type 0
LooseStretches store programme = LastStretch (SomeCallWrote store programme) store programme

abbrev pub LooseIsolation : Type 0
LooseIsolation = IsolationOf LooseStretches FloorsOutOfReach

-- P9: if slot 0 then slot 1 := 41 else slot 1 := 42, in region 1. The adversary is 0, and slot 0 its own, true in one store and false in the other; slot 1
-- is protected, and 7 in both.
abbrev pub programme : List ℕ
programme = one 1 branches

abbrev pub tables : Tables
tables = tables_of flagged

-- the run before its branch's step, with slot 0's value and the part taken: the label inside is 0, and 1, the top, is forged
abbrev pub before : List ℕ → List ℕ
before flag = kept flag ++ kept (int 7)

abbrev pub labelled : (part label : ℕ) → List ℕ
labelled part label = sheet (1 ∷ 0 ∷ 0 ∷ 0 ∷ 1 ∷ 0 ∷ part ∷ label ∷ [])

-- Of a store, slot 0's value, the part that the guard then takes and its offset, and the value that it writes: the pause sheet has label 0, and carrying
-- on from it is refused by 16. With the label forged it is copied with no steps left, and carrying on finishes.
pub record ForgedWorked (store flag : List ℕ) (part offset written : ℕ) : Type 0 where
  pub pauses : answer opening (fitted 3 1 store programme) ≡ says 17 0 offset 1
  pub out_paused : output opening (fitted 3 1 store programme) blank ≡ before flag
  pub sheet_paused : pause opening (fitted 3 1 store programme) lent ≡ labelled part 0
  pub refused : answer (checkpoint (before flag) (labelled part 0)) (fitted 3 10 store programme) ≡ says 16 0 offset 1
  pub copies : answer (checkpoint (before flag) (labelled part 1)) (fitted 3 0 store programme) ≡ says 17 0 offset 1
  pub out_copied : output (checkpoint (before flag) (labelled part 1)) (fitted 3 0 store programme) blank ≡ before flag
  pub sheet_copied : pause (checkpoint (before flag) (labelled part 1)) (fitted 3 0 store programme) lent ≡ labelled part 1
  pub finishes : answer (checkpoint (before flag) (labelled part 1)) (fitted 3 10 store programme) ≡ says 0 1 0 2
  pub ends : output (checkpoint (before flag) (labelled part 1)) (fitted 3 10 store programme) blank ≡ kept flag ++ wrote 1 (int written)

-- The stores agree, no block is endorsed, and slot 1 ends with 41 and with 42.
pub record LooseWorked : Type 0 where
  pub left_opens : store_sheet flagged ≡ ok (record { tables = tables; store = (opening_of flagged).store })
  pub right_opens : store_sheet unflagged ≡ ok (record { tables = tables; store = (opening_of unflagged).store })
  pub principal : 0 < tables.order.n
  pub protected : Protected tables 0 1
  pub agree : StoresAgree tables 0 (opening_of flagged).store (opening_of unflagged).store
  pub floors : FloorsOutOfReach tables 0 programme
  pub left : ForgedWorked flagged (bool 1) 0 branch_at 41
  pub right : ForgedWorked unflagged (bool 0) 1 33 42
