-- The second pass over a run that finishes, which fills the journal: what it goes by, where it stands, and which writes are left. Assumes nothing.
use Rattle.store.specs.declared.HeldSlot.{HeldSlot}
use Rattle.std.specs.Prelude.{ℕ, ◌+◌, ◌≤◌, ◌<◌, ◌≡◌, List, [], ◌∷◌, ◌++◌, length, drop, replicate}
use Rattle.values.specs.declared.Entry.{Entry}
use Rattle.values.specs.Result.{Result, ok, ◌>>=◌, refused_as}
use Rattle.store.specs.Sheet.{Tables}
use Rattle.syntax.specs.declared.Header.{Header}
use Rattle.syntax.specs.Code.{most_deep}
use Rattle.syntax.specs.Rows.{assign_kind, most_rows}
use Rattle.syntax.specs.Sheet.{Block, k_of, code_at, header_at}
use Rattle.calculus.specs.Rules.{RuleSet}
use Rattle.calculus.specs.Calculus.{Limits, Setting, State}
use Rattle.pausing.specs.Paths.{Pause, bare}
use Rattle.calculus.specs.Blocks.{halt_in, run_blocks}
use Rattle.lattice.specs.HeldLabels.{top_mask}
use Rattle.machine.specs.MachineNumbers.{Serves}
use Rattle.machine.specs.CompiledRuns.{Span, BlocksAt}
use Rattle.machine.specs.declared.blocks.Place.{Place as From}
use Rattle.machine.specs.Machine.{Given, Place, place, GoesOn, Allows, CanStep}
use Rattle.machine.specs.BlockRuns.{Played, HeadersAt, AllUnder, opening_place}

-- What a second pass goes by: the programme sheet, and what its blocks are played by
pub record Replayed : Type 0 where
  pub sheet : List ℕ
  pub by : Played

abbrev pub replayed : List ℕ → Played → Replayed
replayed sheet by = record { sheet = sheet; by = by }

-- Where it stands: the branch labels, the held store, and the place
pub record Seated : Type 0 where
  pub labels : List ℕ
  pub store : List HeldSlot
  pub place : From

abbrev pub seated : List ℕ → List HeldSlot → From → Seated
seated labels store place = record { labels = labels; store = store; place = place }

-- where it stands at its start: the branch label is the top, at every depth to begin with
abbrev pub opens : Replayed → List HeldSlot → Seated
opens g store = seated (replicate (most_deep + 1) (top_mask g.by.order.n)) store (opening_place 0)

-- a run that finishes in a state stands behind it
pub record Finishing (g : Replayed) : Type 0 where
  pub tables : Tables
  pub rules : RuleSet
  pub limits : Limits
  pub end : State
  pub under : AllUnder tables rules g.by
  pub budget : limits.budget ≡ g.by.budget
  pub sheet : code_at (k_of g.sheet) ≤ length g.sheet

-- what its i-th block runs under, by its header
abbrev pub setting_in : {g : Replayed} → Finishing g → ℕ → Header → Setting
setting_in f i h = record { tables = f.tables; rules = f.rules; header = h; block = i; limits = f.limits }

-- In a block: from a row on, where no entry is free, it comes to `inner`, and with the blocks after it to the end. The entries js are left.
pub record Inside (g : Replayed) (f : Finishing g) (labels : List ℕ) (store : List HeldSlot) (js : List Entry) (block row steps : ℕ) : Type 0 where
  pub header : Header
  pub heads : header ≡ header_at g.sheet block
  pub region : header.region < f.tables.order.n
  pub span : Span
  pub early : span.last < most_rows
  pub room : ℕ
  pub inner : Result Pause State
  pub goes : GoesOn (setting_in f block header) g.by.tables span room (place row steps 0 labels store) inner
  pub fits : room ≤ f.limits.entries
  pub within : steps ≤ g.by.budget
  pub rest : List Block
  pub count : block + 1 + length rest ≡ k_of g.sheet
  pub headers : HeadersAt f.tables.order.n g.sheet (block + 1) rest
  pub operand : ℕ
  pub stand : BlocksAt g.by.tables (span.last + 1) operand rest
  pub means : (refused_as (halt_in block) (bare inner) >>= λ t. run_blocks f.tables f.rules f.limits (block + 1) rest t) ≡ ok f.end
  pub left : f.end.journal ≡ goes.state.journal ++ js

-- it stands in a block
pub record Seat (g : Replayed) (s : Seated) (js : List Entry) : Type 0 where
  pub run : Finishing g
  pub inside : Inside g run s.labels s.store js s.place.block s.place.row s.place.steps

-- The writes that are left
unfoldable pub Left : Replayed → Seated → List Entry → Type 0
Left g s [] = Unit {0}
Left g s (e ∷ es) = Seat g s (e ∷ es)

-- there is a next write
pub record Going (g : Replayed) (s : Seated) : Type 0 where
  pub first : Entry
  pub rest : List Entry
  pub left : Left g s (first ∷ rest)

-- the next write was made, and is e
pub record Wrote (g : Replayed) (s s' : Seated) (e : Entry) : Type 0 where
  pub so : (x : Entry) (es : List Entry) → Left g s (x ∷ es) → (e ≡ x) × Left g s' es

-- the writes that are left are as many as the first pass counted, and there is room for them
pub record Ready (g : Replayed) (store : List HeldSlot) (count room : ℕ) : Type 0 where
  pub writes : List Entry
  pub many : length writes ≡ count
  pub fits : count ≤ room
  pub left : Left g (opens g store) writes

-- the journal xs became ys
pub record Filled (g : Replayed) (store : List HeldSlot) (count : ℕ) (xs ys : List Entry) : Type 0 where
  pub so : (es : List Entry) → length es ≡ count → Left g (opens g store) es → ys ≡ es ++ drop count xs

-- Parts of a write

-- an assignment that is allowed is made, and its entry handed out
pub record CanMake (g : Given) (p : Place) : Type 0 where
  pub can : CanStep assign_kind g p
  pub end : State
  pub ends : can.can.whole ≡ ok end
  pub more : length can.can.goes.state.journal < can.can.setting.limits.entries

abbrev pub Makes : Given → Place → ℕ → List HeldSlot → Entry → Type 0
Makes g p block store e =
    (w : Setting) (span : Span) (room : ℕ) (whole : Result Pause State) (end : State) → Serves w g.terms g.masks → Allows w g room → w.block ≡ block
    → (o : GoesOn w g.tables span room p whole) → length o.state.journal < w.limits.entries → whole ≡ ok end
    → (q : GoesOn w g.tables span (length o.state.journal + 1) (place (p.row + 1) (p.steps + 1) 0 p.labels store) whole)
    × (q.state.journal ≡ o.state.journal ++ (e ∷ []))
