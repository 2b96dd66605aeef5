-- A stretch over an opened store: where a block lies, taking a run up at a checkpoint, and what playing it from there comes to. Assumes nothing.
use Rattle.store.specs.declared.HeldSlot.{HeldSlot}
use Rattle.std.specs.Prelude.{ℕ, ◌+◌, ◌-◌, ◌*◌, ◌≤◌, ◌<◌, ◌≡◌, true, false, Bool, Option, None, Some, Ok, Err, List, length, drop, replicate}
use Rattle.std.specs.Prelude as std
use Rattle.lattice.specs.declared.Table.{Table}
use Rattle.lattice.specs.Order.{Label, good}
use Rattle.values.specs.declared.Answer.{Answer}
use Rattle.values.specs.Result.{Result, ok, refuse, unplaced}
use Rattle.values.specs.Value.{slot_width}
use Rattle.store.specs.declared.Opened.{Opened}
use Rattle.store.specs.Sheet.{Opening}
use Rattle.syntax.specs.Code.{read_block, most_deep}
use Rattle.syntax.specs.Sheet.{Block, k_of, code_of, lent, blocks_from}
use Rattle.syntax.specs.RunningStarts.{GoodLengths}
use Rattle.syntax.specs.declared.Compiled.{Compiled}
use Rattle.calculus.specs.Rules.{RuleSet}
use Rattle.calculus.specs.Calculus.{limits, State}
use Rattle.calculus.specs.Blocks.{most_budget}
use Rattle.pausing.specs.Stretches.{pause_width, Position, standing, pause_sheet, Halted, From, opening, checkpoint, stretch, fitting, take_up_blocks, Ended, end_of, answer_of, output_of, pause_of, checkpoint_good, position_of}
use Rattle.machine.specs.declared.rules.Judges.{Judges}
use Rattle.machine.specs.declared.blocks.Place.{Place}
use Rattle.runner.specs.declared.stretches.Located.{Located}
use Rattle.lattice.specs.HeldLabels.{top_mask}
use Rattle.pausing.specs.RowPaths.{path_to}
use Rattle.paths.specs.CodeLayout.{Stepping}
use Rattle.machine.specs.CompiledRuns.{rows_before}
use Rattle.pausing.specs.RowPaths.{LabelsHeld}
use Rattle.machine.specs.BlockRuns.{played, ToPlay}
use Rattle.machine.specs.declared.blocks.Finished.{Finished}
use Rattle.machine.specs.declared.blocks.Halted.{Halted as Halting}
use Rattle.values.specs.declared.refusal.Refusal.{Refusal}
use Rattle.values.specs.declared.refusal.Refused.{Refused}
use Rattle.values.specs.Refusal.{number}
use Rattle.machine.specs.BlockRuns.{EndedAs}
use Rattle.runner.specs.declared.carrying.Origin.{Origin}
use Rattle.runner.specs.declared.carrying.Origin.TheVariants as o
use Rattle.runner.specs.WholeRun.{answered, OpeningHeld, Prepared}

-- Where a block lies

-- the i-th block of a programme that was read
pub record CanLocate (p : List ℕ) (i : ℕ) : Type 0 where
  pub slots : ℕ
  pub blocks : List Block
  pub lengths : GoodLengths p (k_of p)
  pub reads : blocks_from slots p (k_of p) 0 ≡ ok blocks
  pub inside : i < k_of p

-- its code in the sheet, and its first row
pub record LiesAt (p : List ℕ) (blocks : List Block) (i : ℕ) (r : Located) : Type 0 where
  pub code : lent p r.start r.end ≡ code_of p i
  pub ordered : r.start ≤ r.end
  pub within : r.end ≤ length p
  pub row : r.row ≡ rows_before blocks i

abbrev pub Locates : List ℕ → ℕ → Located → Type 0
Locates p i r = (slots : ℕ) (blocks : List Block) → GoodLengths p (k_of p) → blocks_from slots p (k_of p) 0 ≡ ok blocks → i < k_of p → LiesAt p blocks i r

-- Writing the pause sheet of a run that is out of budget at a row

-- the row, of the i-th block, takes a step, with these branch labels by depth
pub record AtRow (p : List ℕ) (t : Table) (held : List ℕ) (i row : ℕ) (slots : ℕ) (blocks : List Block) (block : Block) (l : List Label) : Type 0 where
  pub lengths : GoodLengths p (k_of p)
  pub reads : blocks_from slots p (k_of p) 0 ≡ ok blocks
  pub inside : i < k_of p
  pub listed : read_block slots (code_of p i) ≡ ok block.command
  pub from : rows_before blocks i ≤ row
  pub steps : Stepping block.command (row - rows_before blocks i)
  pub labels_held : LabelsHeld t l held

pub record CanWritePause (p : List ℕ) (t : Table) (held : List ℕ) (i row : ℕ) (sheet : List ℕ) : Type 0 where
  pub slots : ℕ
  pub blocks : List Block
  pub block : Block
  pub labels : List Label
  pub at : AtRow p t held i row slots blocks block labels
  pub table_good : good t ≡ true
  pub sheet_size : length sheet ≡ pause_width

abbrev pub WritesPause : (p : List ℕ) (t : Table) (held : List ℕ) (i row steps : ℕ) (sheet : List ℕ) → Type 0
WritesPause p t held i row steps sheet =
    (slots : ℕ) (blocks : List Block) (block : Block) (l : List Label) (s : State) → AtRow p t held i row slots blocks block l → s.steps ≡ steps
    → sheet ≡ pause_sheet (standing i (path_to l block.command 0 (row - rows_before blocks i)) s)

-- What a stretch goes by

-- the blocks from a place on, within the steps that are allowed and with room for every write
abbrev pub Along : (rules : RuleSet) (o : Opening) (blocks : List Block) (t : Opened) (j : Judges) (p : List ℕ) (tables : Compiled) (limit : ℕ) (from : Place) (labels : List ℕ) (held : List HeldSlot) (whole : Result Halted State) → Type 0
Along rules o blocks t j p tables limit from labels held whole =
    ToPlay o.tables rules (limits limit most_budget) (played tables t.table j limit) (k_of p) blocks from labels held whole

-- room for the slots, and for a pause sheet
pub record Fitting (slots : ℕ) (out sheet : List ℕ) : Type 0 where
  pub out_fits : length out ≡ slot_width * slots
  pub sheet_fits : length sheet ≡ pause_width

-- the end of a stretch: what it answers, and what it leaves in both buffers
pub record EndsWith (e : Result Answer Ended) (old oldSheet out sheet : List ℕ) (r : std.Result Answer Refused) : Type 0 where
  pub answered_is : answered r ≡ answer_of e
  pub written : out ≡ output_of e old
  pub paused : sheet ≡ pause_of e oldSheet

-- the blocks came to an end, with no entry lent
abbrev pub Ends : (rules : RuleSet) (o : Opening) (blocks : List Block) (t : Opened) (j : Judges) (p : List ℕ) (tables : Compiled) (limit : ℕ) (labels : List ℕ) (held : List HeldSlot) → std.Result Finished Halting → Result Halted State → Type 0
Ends rules o blocks t j p tables limit labels held end whole = EndedAs o.tables (limits limit most_budget) (played tables t.table j limit) blocks labels held end whole

abbrev pub Settles : (t : Opened) (p : List ℕ) (labels : List ℕ) (held : List HeldSlot) → std.Result Finished Halting → (old oldSheet out sheet : List ℕ) → std.Result Answer Refused → Type 0
Settles t p labels held end old oldSheet out sheet r =
    (rules : RuleSet) (o : Opening) (blocks : List Block) (j : Judges) (tables : Compiled) (limit : ℕ) (whole : Result Halted State) → Prepared rules o blocks t j p tables
    → Ends rules o blocks t j p tables limit labels held end whole → EndsWith (end_of (length blocks) o.tables.slots whole) old oldSheet out sheet r

pub record CanSettle (t : Opened) (p : List ℕ) (labels : List ℕ) (held : List HeldSlot) (end : std.Result Finished Halting) (out sheet : List ℕ) : Type 0 where
  pub rules : RuleSet
  pub opening : Opening
  pub blocks : List Block
  pub judges : Judges
  pub tables : Compiled
  pub limit : ℕ
  pub whole : Result Halted State
  pub prepared : Prepared rules opening blocks t judges p tables
  pub ends : Ends rules opening blocks t judges p tables limit labels held end whole
  pub fits : Fitting t.slots out sheet

-- Taking up

-- a run goes on from a position: within any steps that are not below those so far, the blocks go on from there
pub record StandsAt (rules : RuleSet) (o : Opening) (blocks : List Block) (t : Opened) (j : Judges) (p : List ℕ) (tables : Compiled) (from : From) (labels : List ℕ) (held : List HeldSlot) (place : Place) : Type 0 where
  pub position : Position
  pub is : position_of o blocks from ≡ ok position
  pub steps_are : position.state.steps ≡ place.steps
  pub along : (limit : ℕ) → place.steps ≤ limit
      → Along rules o blocks t j p tables limit place labels held
      (take_up_blocks o.tables rules (limits limit most_budget) position.block (drop position.block blocks) position.path position.state)

-- no place: the checkpoint is not good
unfoldable pub ResumedAs : (rules : RuleSet) (o : Opening) (blocks : List Block) (t : Opened) (j : Judges) (p : List ℕ) (tables : Compiled) (out sheet : List ℕ) (labels : List ℕ) (held : List HeldSlot) → Option Place → Type 0
ResumedAs rules o blocks t j p tables out sheet labels held (Some place) = StandsAt rules o blocks t j p tables (checkpoint out sheet) labels held place
ResumedAs rules o blocks t j p tables out sheet labels held None = checkpoint_good o.tables blocks out sheet ≡ false

pub record CanTakeUp (t : Opened) (p : List ℕ) (out sheet : List ℕ) (labels : List ℕ) (held : List HeldSlot) : Type 0 where
  pub rules : RuleSet
  pub opening : Opening
  pub blocks : List Block
  pub judges : Judges
  pub tables : Compiled
  pub opening_held : OpeningHeld opening t held
  pub prepared : Prepared rules opening blocks t judges p tables
  pub fits : Fitting t.slots out sheet
  pub tops : labels ≡ replicate (most_deep + 1) (top_mask t.table.n)

abbrev pub TakesUp : (t : Opened) (p : List ℕ) (out sheet : List ℕ) (held : List HeldSlot) (labels' : List ℕ) (held' : List HeldSlot) (r : Option Place) → Type 0
TakesUp t p out sheet held labels' held' r =
    (rules : RuleSet) (o : Opening) (blocks : List Block) (j : Judges) (tables : Compiled) → OpeningHeld o t held → Prepared rules o blocks t j p tables
    → ResumedAs rules o blocks t j p tables out sheet labels' held' r

-- Where a stretch goes on from

unfoldable pub from_of : Origin → From
from_of o.Opening = opening
from_of (o.Checkpoint output sheet) = checkpoint output.now sheet.now

-- all lengths fit
abbrev pub AllFit : ℕ → From → (room pause_room : ℕ) → Bool → Type 0
AllFit slots from room pause_room b = (store p : List ℕ) (rule budget : ℕ) → b ≡ fitting slots from (stretch store p rule budget room pause_room)

unfoldable pub FromFits : ℕ → From → Type 0
FromFits slots opening = Unit {0}
FromFits slots (checkpoint out sheet) = Fitting slots out sheet

pub record CanStand (t : Opened) (p : List ℕ) (from : From) (labels : List ℕ) (held : List HeldSlot) : Type 0 where
  pub rules : RuleSet
  pub opening : Opening
  pub blocks : List Block
  pub judges : Judges
  pub tables : Compiled
  pub opening_held : OpeningHeld opening t held
  pub prepared : Prepared rules opening blocks t judges p tables
  pub fits : FromFits t.slots from
  pub tops : labels ≡ replicate (most_deep + 1) (top_mask t.table.n)

unfoldable pub StandsAs : (rules : RuleSet) (o : Opening) (blocks : List Block) (t : Opened) (j : Judges) (p : List ℕ) (tables : Compiled) (from : From) (labels : List ℕ) (held : List HeldSlot) → std.Result Place Refusal → Type 0
StandsAs rules o blocks t j p tables from labels held (Ok place) = StandsAt rules o blocks t j p tables from labels held place
StandsAs rules o blocks t j p tables from labels held (Err e) = position_of o blocks from ≡ refuse (unplaced (number e))

abbrev pub Stands : (t : Opened) (p : List ℕ) (from : From) (held : List HeldSlot) (labels' : List ℕ) (held' : List HeldSlot) → std.Result Place Refusal → Type 0
Stands t p from held labels' held' r =
    (rules : RuleSet) (o : Opening) (blocks : List Block) (j : Judges) (tables : Compiled) → OpeningHeld o t held → Prepared rules o blocks t j p tables
    → StandsAs rules o blocks t j p tables from labels' held' r
