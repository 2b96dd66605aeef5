-- Source 003, theorem 7, is false under rule 1: the statement, and the example that refutes it. A block outside the adversary's reach puts the
-- write view that the adversary chose into a slot that is not protected. No protected slot is written, so there is noninterference; and no
-- block within reach may hold such a view. Assumes nothing.
use Rattle.std.specs.Prelude.{ℕ, ◌<◌, ◌≡◌, true, List, ◌∷◌, ◌++◌}
use Rattle.lattice.specs.Order.{below}
use Rattle.values.specs.Result.{ok}
use Rattle.values.specs.Value.{integer}
use Rattle.store.specs.Sheet.{Tables, owner_of, tables_of, opening_of, store_sheet}
use Rattle.calculus.specs.Calculus.{Store, contents}
use Rattle.calculus.specs.Run.{FinishedRun}
use Rattle.calculus.specs.Vectors.{int, reads, writes, wrote, kept, assign, lit, read, both}
use Rattle.isolation.specs.Isolation.{Protected, Replacement}
use Rattle.isolation.specs.ConfusedDeputy.{Prevents, Noninterference}

-- theorem 7 under rule 1
abbrev pub SufficesUnderCapability : Type 0
SufficesUnderCapability = Prevents 1 (λ w adversary s p. Noninterference 1 w adversary p)

-- The adversary is principal 0, and principal 1 stands above it. Slots 0 and 1 are the adversary's own, 7; slots 2 and 3 are principal 1's,
-- and each holds a write view of itself.
abbrev pub sheet : List ℕ
sheet = 2 ∷ 4 ∷ 0 ∷ 1 ∷ 0 ∷ 0 ∷ 0 ∷ 3 ∷ 0 ∷ 0 ∷ 0 ∷ 0 ∷ 0 ∷ 1 ∷ 1 ∷ (int 7 ++ int 7 ++ writes 2 ++ writes 3)

abbrev pub tables : Tables
tables = tables_of sheet

abbrev pub slots : Store
slots = (opening_of sheet).store

-- block 0, in region 0: slot 0 := read view of slot x
abbrev pub chooses : ℕ → List ℕ
chooses x = assign (writes 0) (lit (reads x))

-- block 1, in region 1: slot 1 := what the slot holds that slot 0 has a read view of
abbrev pub obeys : List ℕ
obeys = assign (writes 1) (0x11 ∷ read 0)

abbrev pub sent : ℕ → List ℕ
sent x = both 0 (chooses x) 1 obeys

-- what the run ends with
abbrev pub left : ℕ → List ℕ
left x = wrote 1 (reads x) ++ wrote 1 (writes x) ++ kept (writes 2) ++ kept (writes 3)

-- Whatever the adversary sends, protected slots stay as they open. Slot 1, the adversary's own, ends with the write view that it chose.
pub record ChosenWorked : Type 0 where
  pub opens : store_sheet sheet ≡ ok (record { tables = tables; store = slots })
  pub principal : 0 < tables.order.n
  pub inside : 1 < tables.slots
  pub own : below tables.order (owner_of tables 1) 0 ≡ true
  pub seven : contents slots 1 ≡ record { kind = integer; payload = 7 }
  pub protected : Protected tables 0 2
  pub noninterference : Noninterference 1 tables 0 (sent 2)
  pub other : Replacement tables 0 (sent 2) (sent 3)
  pub first_run : FinishedRun 1 sheet (sent 2) (left 2)
  pub second_run : FinishedRun 1 sheet (sent 3) (left 3)
