-- A run of blocks as the machine plays it: what its numbers mean, and what `play_blocks` ensures. Assumes nothing.
use Rattle.std.specs.Prelude.{ℕ, ◌+◌, ◌-◌, ◌≤◌, ◌<◌, ◌≡◌, true, false, ◌⊎◌, List, [], ◌∷◌, length, drop, Option, Some, None, Ok, Err}
use Rattle.std.specs.Prelude as std
use Rattle.lattice.specs.declared.Table.{Table}
use Rattle.lattice.specs.Order.{Label, most_principals}
use Rattle.values.specs.Result.{Result, ok, refuse, ◌>>=◌, refused_as}
use Rattle.values.specs.declared.refusal.Refused.{Refused}
use Rattle.values.specs.Refusal.{number}
use Rattle.store.specs.Sheet.{Tables}
use Rattle.store.specs.declared.HeldSlot.{HeldSlot}
use Rattle.store.specs.HeldStore.{Ordered}
use Rattle.syntax.specs.declared.Header.{Header}
use Rattle.syntax.specs.Sheet.{Block, k_of, code_at, header_at}
use Rattle.syntax.specs.declared.Compiled.{Compiled}
use Rattle.syntax.specs.Rows.{assign_kind, guard_kind}
use Rattle.calculus.specs.Rules.{RuleSet}
use Rattle.calculus.specs.Calculus.{Limits, Setting, State}
use Rattle.calculus.specs.Blocks.{Halt, setting, run_blocks}
use Rattle.pausing.specs.Paths.{Pause}
use Rattle.pausing.specs.Stretches.{Halted as Halting, halted_in, take_up_blocks}
use Rattle.machine.specs.declared.rules.Judges.{Judges}
use Rattle.machine.specs.declared.rules.Terms.{Terms}
use Rattle.machine.specs.declared.blocks.Played.{Played as HeldPlayed}
use Rattle.machine.specs.declared.blocks.Place.{Place}
use Rattle.machine.specs.declared.blocks.Finished.{Finished}
use Rattle.machine.specs.declared.blocks.Halted.{Halted}
use Rattle.machine.specs.MachineNumbers.{judging_of, Serves, StoreHeld, FewCounts}
use Rattle.pausing.specs.RowPaths.{path_to}
use Rattle.machine.specs.CompiledRuns.{kind_at, InSpan, span_of, rows_before, BlocksAt}
use Rattle.pausing.specs.RowPaths.{LabelsHeld}
use Rattle.machine.specs.Machine.{GoesOn, place}

-- what the rule set judges, nothing where there is none
unfoldable pub judges_of : Result ℕ RuleSet → Option Judges
judges_of (ok r) = Some (judging_of r)
judges_of (refuse e) = None

-- what a block runs under, as the machine is told
pub record Under (w : Setting) (t : Table) (j : Judges) (h : Header) : Type 0 where
  pub grounds : Ordered w.tables
  pub order : w.tables.order ≡ t
  pub judges : j ≡ judging_of w.rules
  pub header : h ≡ w.header
  pub region : h.region < t.n

-- a block's terms serve whatever setting it runs under
abbrev pub Served : Table → Judges → Header → Terms → Type 0
Served t j h terms = (w : Setting) → Under w t j h → Serves w terms t.masks

-- What blocks are played by: the compiled tables, the order table, what the rule set judges, and the budget
pub record Played : Type 0 where
  pub tables : Compiled
  pub order : Table
  pub judges : Judges
  pub budget : ℕ

abbrev pub played : Compiled → Table → Judges → ℕ → Played
played tables order judges budget = record { tables = tables; order = order; judges = judges; budget = budget }

-- as the code holds it
abbrev pub played_of : HeldPlayed → Played
played_of g = played g.tables.now g.order.now g.judges g.budget

-- Blocks

-- a block's header stands in its sheet, and its region is a principal
pub record CanTell (sheet : List ℕ) (block : ℕ) : Type 0 where
  pub sheet_room : code_at (k_of sheet) ≤ length sheet
  pub inside : block < k_of sheet
  pub region : (header_at sheet block).region < most_principals

-- "Blocks run in order": their headers stand in the sheet from the i-th on, and their regions are principals
unfoldable pub HeadersAt : ℕ → List ℕ → ℕ → List Block → Type 0
HeadersAt n p i [] = Unit {0}
HeadersAt n p i (b ∷ bs) = (b.header ≡ header_at p i) × (b.header.region < n) × HeadersAt n p (i + 1) bs

-- tables and a rule set stand behind what blocks are played by
pub record AllUnder (w : Tables) (rules : RuleSet) (g : Played) : Type 0 where
  pub grounds : Ordered w
  pub order : w.order ≡ g.order
  pub judges : g.judges ≡ judging_of rules

-- where a run opens
abbrev pub opening_place : ℕ → Place
opening_place entries = record { block = 0; row = 0; steps = 0; free = entries }

-- the blocks from a place on, up to the k-th: played from the state behind the held rows, within limits, they come to `whole`
pub record LeftToPlay (w : Tables) (rules : RuleSet) (l : Limits) (g : Played) (p : List ℕ) (k : ℕ) (from : Place) (held : List HeldSlot) (whole : Result Halt State) : Type 0 where
  pub budget : l.budget ≡ g.budget
  pub rest : List Block
  pub count : from.block + length rest ≡ k
  pub headers : HeadersAt w.order.n p from.block rest
  pub operand : ℕ
  pub stand : BlocksAt g.tables from.row operand rest
  pub state : State
  pub store_held : StoreHeld w state.store held
  pub steps : state.steps ≡ from.steps
  pub counts : FewCounts state
  pub entries : length state.journal + from.free ≡ l.entries
  pub kept : from.steps ≤ g.budget
  pub means : run_blocks w rules l from.block rest state ≡ whole

-- a programme's blocks stand in its sheet and in the tables
pub record Loaded (w : Tables) (g : Played) (p : List ℕ) (k : ℕ) (blocks : List Block) : Type 0 where
  pub headers : HeadersAt w.order.n p 0 blocks
  pub stand : BlocksAt g.tables 0 0 blocks
  pub count : length blocks ≡ k

-- a place in a block, with these branch labels: the block goes on from there to `inner`, and with the blocks after it to `whole`
pub record InBlock (w : Tables) (rules : RuleSet) (l : Limits) (g : Played) (blocks : List Block) (from : Place) (labels : List ℕ) (held : List HeldSlot) (whole : Result Halting State) : Type 0 where
  pub block : Block
  pub rest : List Block
  pub listed : drop from.block blocks ≡ block ∷ rest
  pub inner : Result Pause State
  pub goes : GoesOn (setting w rules l from.block block) g.tables (span_of block.command (rows_before blocks from.block)) l.entries
      (place from.row from.steps from.free labels held) inner
  pub means : (refused_as (halted_in from.block) inner >>= λ t. take_up_blocks w rules l (from.block + 1) rest [] t) ≡ whole

-- a place after the last block
pub record Over (w : Tables) (l : Limits) (k : ℕ) (from : Place) (held : List HeldSlot) (whole : Result Halting State) : Type 0 where
  pub over : k ≤ from.block
  pub state : State
  pub store_held : StoreHeld w state.store held
  pub steps : state.steps ≡ from.steps
  pub entries : length state.journal + from.free ≡ l.entries
  pub means : whole ≡ ok state

-- the blocks played from a place on, within limits, come to `whole`
pub record ToPlay (w : Tables) (rules : RuleSet) (l : Limits) (g : Played) (k : ℕ) (blocks : List Block) (from : Place) (labels : List ℕ) (held : List HeldSlot) (whole : Result Halting State) : Type 0 where
  pub budget : l.budget ≡ g.budget
  pub kept : from.steps ≤ g.budget
  pub left : Over w l k from held whole ⊎ InBlock w rules l g blocks from labels held whole

-- out of budget at a row of a block: the path of the stop is the path to that row, with the branch labels held
pub record PausesAs (w : Tables) (g : Played) (blocks : List Block) (labels : List ℕ) (held : List HeldSlot) (row : ℕ) (h : Halting) : Type 0 where
  pub block : Block
  pub rest : List Block
  pub listed : drop h.block blocks ≡ block ∷ rest
  pub inside : InSpan (span_of block.command (rows_before blocks h.block)) row
  pub due : (kind_at g.tables row ≡ assign_kind) ⊎ (kind_at g.tables row ≡ guard_kind)
  pub principals : List Label
  pub labels_held : LabelsHeld w.order principals labels
  pub store_held : StoreHeld w h.pause.stop.state.store held
  pub path : h.pause.path ≡ path_to principals block.command 0 (row - rows_before blocks h.block)

-- how a run of blocks ended
pub data EndedAs (w : Tables) (l : Limits) (g : Played) (blocks : List Block) (labels : List ℕ) (held : List HeldSlot) : std.Result Finished Halted → Result Halting State → Type 0 where
  finished : {n free : ℕ} {s : State} → StoreHeld w s.store held → s.steps ≡ n → length s.journal + free ≡ l.entries
      → EndedAs w l g blocks labels held (Ok (record { steps = n; free = free })) (ok s)
  halted : {row : ℕ} {r : Refused} {h : Halting} → h.pause.stop.number ≡ number r.refusal → h.block ≡ r.block → h.pause.stop.offset ≡ r.offset
      → h.pause.stop.state.steps ≡ r.steps → (number r.refusal ≡ 17 → PausesAs w g blocks labels held row h)
      → EndedAs w l g blocks labels held (Err (record { row = row; refused = r })) (refuse h)

-- the blocks from a place on are played
abbrev pub PlaysOn : Played → List ℕ → ℕ → Place → List ℕ → List HeldSlot → List ℕ → List HeldSlot → std.Result Finished Halted → Type 0
PlaysOn g p k from labels held labels' held' r =
    (w : Tables) (rules : RuleSet) (l : Limits) (blocks : List Block) (whole : Result Halting State) → AllUnder w rules g → Loaded w g p k blocks
    → ToPlay w rules l g k blocks from labels held whole → EndedAs w l g blocks labels' held' r whole

-- some can be
pub record CanPlayOn (g : Played) (p : List ℕ) (k : ℕ) (from : Place) (labels : List ℕ) (held : List HeldSlot) : Type 0 where
  pub tables : Tables
  pub rules : RuleSet
  pub under : AllUnder tables rules g
  pub limits : Limits
  pub blocks : List Block
  pub loaded : Loaded tables g p k blocks
  pub whole : Result Halting State
  pub left : ToPlay tables rules limits g k blocks from labels held whole
  pub count : k ≡ k_of p
  pub sheet : code_at k ≤ length p
