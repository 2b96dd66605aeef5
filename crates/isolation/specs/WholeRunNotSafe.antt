-- Source 003, theorem 5, is false over whole runs that have endorsed blocks, though their floors be out of the adversary's reach: the statement, and
-- the example that refutes it. An endorsed block stores a write view, and a later block that is not endorsed writes through it what the adversary
-- chose. Assumes nothing.
use Rattle.std.specs.Prelude.{ℕ, ◌<◌, ◌≡◌, true, false, List, [], ◌∷◌, ◌++◌, get_or}
use Rattle.values.specs.Result.{ok}
use Rattle.values.specs.Value.{empty_slot, slot_bytes}
use Rattle.store.specs.Sheet.{Tables, tables_of, opening_of, store_sheet}
use Rattle.syntax.specs.Sheet.{header_at}
use Rattle.calculus.specs.Calculus.{Store}
use Rattle.calculus.specs.Run.{FinishedRun}
use Rattle.calculus.specs.Vectors.{int, bool, writes, wrote, kept, assign, lit, read, block, floored, sheet_of}
use Rattle.isolation.specs.Isolation.{Protected, within_reach, FloorsOutOfReach, Replacement}
use Rattle.isolation.specs.ConfusedDeputy.{ProtectedSpare, BareBlocksSpare, Prevents}

-- theorem 5 with endorsed blocks let in, over whole runs: only the others are held to definition 4
abbrev pub WholeRunSafety : Type 0
WholeRunSafety = Prevents 2 (λ w adversary s p. ProtectedSpare w adversary s × BareBlocksSpare w adversary p × FloorsOutOfReach w adversary p)

-- The adversary is principal 0, and principal 1 stands above it. Slot 0 is the adversary's own, true; slots 1 and 2 are principal 1's, 7.
abbrev pub sheet : List ℕ
sheet = 2 ∷ 3 ∷ 0 ∷ 1 ∷ 0 ∷ 0 ∷ 0 ∷ 3 ∷ 0 ∷ 0 ∷ 0 ∷ 0 ∷ 1 ∷ 1 ∷ (bool 1 ++ int 7 ++ int 7)

abbrev pub tables : Tables
tables = tables_of sheet

abbrev pub slots : Store
slots = (opening_of sheet).store

-- block 0, in region 0: slot 0 := x
abbrev pub chooses : ℕ → List ℕ
chooses x = assign (writes 0) (lit (bool x))

-- block 1, in region 1, endorsed down to principal 1: slot 2 := write view of slot 1
abbrev pub stores : List ℕ
stores = assign (writes 2) (lit (writes 1))

-- the slot that slot 2 has a write view of := x
abbrev pub through : ℕ → List ℕ
through x = 0x21 ∷ (read 2 ++ lit (int x))

-- block 2, in region 1: if slot 0 then through slot 2 := 41 else through slot 2 := 42
abbrev pub obeys : List ℕ
obeys = 0x23 ∷ (read 0 ++ through 41 ++ through 42)

abbrev pub sent : ℕ → List ℕ
sent x = sheet_of (block 0 (chooses x) ∷ floored 0x81 1 stores ∷ block 1 obeys ∷ [])

-- what the runs end with where the adversary sends true and where it sends false
abbrev pub left : List ℕ
left = wrote 1 (bool 1) ++ wrote 1 (int 41) ++ wrote 1 (writes 1)

abbrev pub right : List ℕ
right = wrote 1 (bool 0) ++ wrote 1 (int 42) ++ wrote 1 (writes 1)

-- Theorem 5's conditions hold but that block 1, outside the adversary's reach, is endorsed, and its floor is out of reach. Slot 1, protected, opens with
-- 7 and ends with 41 or with 42, as the adversary chose.
pub record WholeWorked : Type 0 where
  pub opens : store_sheet sheet ≡ ok (record { tables = tables; store = slots })
  pub principal : 0 < tables.order.n
  pub protected : Protected tables 0 1
  pub slots_spare : ProtectedSpare tables 0 slots
  pub blocks_spare : BareBlocksSpare tables 0 (sent 1)
  pub outside : within_reach tables 0 (sent 1) 1 ≡ false
  pub endorsed : (header_at (sent 1) 1).endorsed ≡ true
  pub floors : FloorsOutOfReach tables 0 (sent 1)
  pub other : Replacement tables 0 (sent 1) (sent 0)
  pub seven : slot_bytes (get_or slots 1 empty_slot) ≡ kept (int 7)
  pub left_run : FinishedRun 2 sheet (sent 1) left
  pub right_run : FinishedRun 2 sheet (sent 0) right
