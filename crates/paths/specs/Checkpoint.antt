-- Between a row of a block and a pause sheet: what taking a block up along a sheet's path, and writing a sheet, ensure. Assumes nothing.
use Rattle.std.specs.Prelude.{ℕ, ◌+◌, ◌≡◌, Bool, true, false, List, length, replicate, leb, Option, MatchOption}
use Rattle.lattice.specs.Tests.{◌and◌}
use Rattle.lattice.specs.declared.Table.{Table}
use Rattle.lattice.specs.Order.{Label, top, good}
use Rattle.values.specs.Result.{ok}
use Rattle.syntax.specs.Syntax.{Cmd}
use Rattle.syntax.specs.Code.{read_block, most_deep}
use Rattle.calculus.specs.Calculus.{State}
use Rattle.pausing.specs.Paths.{leads}
use Rattle.pausing.specs.Stretches.{standing, pause_width, most_open, pause_sheet, open_in, path_in, unused_zero}
use Rattle.pausing.specs.RowPaths.{LabelsHeld}
use Rattle.pausing.specs.RowPaths.{path_to, row_to, Along}
use Rattle.paths.specs.CodeLayout.{Stepping}

-- the part of 19 that is judged of a block and a pause sheet: the path's length, the unused bytes, and where the path leads
unfoldable pub takes_up : Table → Cmd → List ℕ → Bool
takes_up t c sheet = leb (open_in sheet) most_open and unused_zero sheet and leads t c (top t) (path_in sheet)

-- A block is taken up at a row of it, counted from its first, with these labels by depth, held as masks.
pub record TakenUp (t : Table) (c : Cmd) (sheet held : List ℕ) (row : ℕ) : Type 0 where
  pub good : takes_up t c sheet ≡ true
  pub row_is : row ≡ row_to c (path_in sheet) 0
  pub labels : List Label
  pub labels_held : LabelsHeld t labels held
  pub along : Along labels c 0 (top t) (path_in sheet)

-- what `resume` answers: the row, or that there is none
abbrev pub Resumes : (t : Table) (c : Cmd) (sheet held : List ℕ) → Option ℕ → Type 0
Resumes t c sheet held r = MatchOption r (takes_up t c sheet ≡ false) (λ row. TakenUp t c sheet held row)

-- what it needs: code that was read, a good order table, a sheet of its size, and the top's mask as each label
pub record CanResume (code sheet : List ℕ) (t : Table) (held : List ℕ) : Type 0 where
  pub slots : ℕ
  pub command : Cmd
  pub was_read : read_block slots code ≡ ok command
  pub table_good : good t ≡ true
  pub sheet_size : length sheet ≡ pause_width
  pub tops : LabelsHeld t (replicate (most_deep + 1) (top t)) held

-- What `pause` leaves in the sheet: the pause sheet of the path to a row of the block, counted from its first.
abbrev pub Pauses : (code : List ℕ) (t : Table) (held : List ℕ) (row steps block : ℕ) (sheet : List ℕ) → Type 0
Pauses code t held row steps block sheet =
    (slots : ℕ) (c : Cmd) (l : List Label) (s : State) → read_block slots code ≡ ok c → LabelsHeld t l held → Stepping c row → s.steps ≡ steps
    → sheet ≡ pause_sheet (standing block (path_to l c 0 row) s)

-- what it needs: the row takes a step
pub record CanPause (code : List ℕ) (t : Table) (held sheet : List ℕ) (row : ℕ) : Type 0 where
  pub slots : ℕ
  pub command : Cmd
  pub was_read : read_block slots code ≡ ok command
  pub table_good : good t ≡ true
  pub sheet_size : length sheet ≡ pause_width
  pub labels : List Label
  pub labels_held : LabelsHeld t labels held
  pub steps : Stepping command row
