-- The machine over the compiled tables: what its numbers mean, and what a move and a run from a row ensure. Assumes nothing.
use Rattle.std.specs.Prelude.{ℕ, ◌+◌, ◌-◌, ◌*◌, ◌≤◌, ◌<◌, ◌≡◌, true, false, ◌⊎◌, List, eqb, Ok, Err}
use Rattle.std.specs.Prelude as std
use Rattle.lattice.specs.Order.{Label}
use Rattle.values.specs.Result.{Result}
use Rattle.values.specs.declared.refusal.Refusal.{Refusal}
use Rattle.values.specs.declared.refusal.Refusal.TheVariants.{BudgetSpent}
use Rattle.values.specs.Refusal.{number}
use Rattle.store.specs.declared.HeldSlot.{HeldSlot}
use Rattle.syntax.specs.declared.Compiled.{Compiled}
use Rattle.syntax.specs.Rows.{assign_row, guard_row, assign_kind, guard_kind, jump_kind, most_rows}
use Rattle.calculus.specs.Calculus.{Setting, State}
use Rattle.pausing.specs.Paths.{Pause}
use Rattle.pausing.specs.RowPaths.{LabelsHeld}
use Rattle.machine.specs.Answers.{Control}
use Rattle.machine.specs.declared.rules.Terms.{Terms}
use Rattle.machine.specs.declared.rows.Given.{Given as HeldGiven}
use Rattle.machine.specs.declared.rows.Place.{Place as At}
use Rattle.machine.specs.declared.rows.Stop.{Stop}
use Rattle.machine.specs.MachineNumbers.{Serves, StateHeld, StopsAs, DoneAs}
use Rattle.machine.specs.CompiledRuns.{row_at, kind_at, offset_at, Span, Runs}

-- What a run goes by: the terms and the masks, the compiled tables, and the budget
pub record Given : Type 0 where
  pub terms : Terms
  pub masks : List ℕ
  pub tables : Compiled
  pub budget : ℕ

abbrev pub given : Terms → List ℕ → Compiled → ℕ → Given
given terms masks tables budget = record { terms = terms; masks = masks; tables = tables; budget = budget }

-- as the code holds it
abbrev pub given_of : HeldGiven → Given
given_of g = given g.terms.now g.masks.now g.tables.now g.budget

-- Where a run stands: the row, the steps done and the entries that are free, the branch labels by depth, and the held store
pub record Place : Type 0 where
  pub row : ℕ
  pub steps : ℕ
  pub free : ℕ
  pub labels : List ℕ
  pub store : List HeldSlot

abbrev pub place : ℕ → ℕ → ℕ → List ℕ → List HeldSlot → Place
place row steps free labels store = record { row = row; steps = steps; free = free; labels = labels; store = store }

-- the code's place, with the labels and the store
abbrev pub place_of : At → List ℕ → List HeldSlot → Place
place_of at labels store = place at.row at.steps at.free labels store

-- from a place on, with a journal of `room` entries, the block with these rows comes to `whole`
pub record GoesOn (w : Setting) (t : Compiled) (span : Span) (room : ℕ) (p : Place) (whole : Result Pause State) : Type 0 where
  pub labels : List Label
  pub state : State
  pub labels_held : LabelsHeld w.tables.order labels p.labels
  pub state_held : StateHeld w room p.store p.steps p.free state
  pub runs : Runs w t span p.row labels state whole

-- the limits of a setting are the machine's, or larger
pub record Allows (w : Setting) (g : Given) (room : ℕ) : Type 0 where
  pub budget : g.budget ≤ w.limits.budget
  pub entries : room ≤ w.limits.entries

-- The budget is spent before the step at a place: a run with a larger one goes on from there.
pub record Paused (w : Setting) (g : Given) (span : Span) (room : ℕ) (p : Place) (whole : Result Pause State) : Type 0 where
  pub due : (kind_at g.tables p.row ≡ assign_kind) ⊎ (kind_at g.tables p.row ≡ guard_kind)
  pub spent : p.steps ≡ g.budget
  pub goes : GoesOn w g.tables span room p whole

-- No entry is free for the assignment at a place: a run with a longer journal goes on from there.
pub record Full (w : Setting) (g : Given) (span : Span) (room : ℕ) (p : Place) (whole : Result Pause State) : Type 0 where
  pub due : kind_at g.tables p.row ≡ assign_kind
  pub left : p.steps < g.budget
  pub none : p.free ≡ 0
  pub goes : GoesOn w g.tables span room p whole

-- A run was stopped: by 17 or 18, and it is paused there; by another number, and that is its end, within any limits.
pub record Halts (w : Setting) (g : Given) (span : Span) (room number : ℕ) (p : Place) (whole : Result Pause State) : Type 0 where
  pub paused : number ≡ 17 → Paused w g span room p whole
  pub full : number ≡ 18 → Full w g span room p whole
  pub final : (number ≡ 17 → ⊥) → (number ≡ 18 → ⊥) → StopsAs number (offset_at g.tables p.row) p.steps whole

-- what a move means, with these labels and this store after it
unfoldable pub Moves : Setting → Given → Span → ℕ → List ℕ → List HeldSlot → Control → Result Pause State → Type 0
Moves w g span room labels store (Control.On row steps free) whole = GoesOn w g.tables span room (place row steps free labels store) whole
Moves w g span room labels store (Control.Stopped number row steps free) whole = Halts w g span room number (place row steps free labels store) whole

-- how many jumps may come before the next step
unfoldable pub rank : Compiled → ℕ → ℕ
rank t row = elim (eqb (kind_at t row) jump_kind) [ true ↦ most_rows - row | false ↦ 0 ]

-- Each move lessens the weight.
unfoldable pub weight : Given → Control → ℕ
weight g (Control.On row steps free) = (g.budget - steps) * (most_rows + 1) + rank g.tables row + 1
weight g (Control.Stopped number row steps free) = 0

-- no step is made past the budget, and a step that was refused has its row among the rows
unfoldable pub Within : ℕ → Control → Type 0
Within budget (Control.On row steps free) = steps ≤ budget
Within budget (Control.Stopped number row steps free) = (steps ≤ budget) × (row < most_rows)

-- What a move from a place ensures, for every setting that it serves, the limits being the machine's or larger ones
pub record Moved (g : Given) (p : Place) (labels : List ℕ) (store : List HeldSlot) (x : Control) : Type 0 where
  pub same : (w : Setting) (span : Span) (room : ℕ) (whole : Result Pause State) → Serves w g.terms g.masks → Allows w g room
      → GoesOn w g.tables span room p whole → Moves w g span room labels store x whole
  pub less : weight g x < weight g (Control.On p.row p.steps p.free)
  pub within : Within g.budget x

-- the machine can go on: something stands behind its numbers
pub record CanGo (g : Given) (p : Place) : Type 0 where
  pub setting : Setting
  pub serves : Serves setting g.terms g.masks
  pub room : ℕ
  pub enough : Allows setting g room
  pub span : Span
  pub whole : Result Pause State
  pub goes : GoesOn setting g.tables span room p whole
  pub within : p.steps ≤ g.budget

-- an assignment, or a guard, with these places stands at a row
pub record AssignRow (g : Given) (p : Place) (depth target value : ℕ) : Type 0 where
  pub offset : ℕ
  pub holds : row_at g.tables p.row ≡ assign_row depth offset target value

pub record GuardRow (g : Given) (p : Place) (depth operand other : ℕ) : Type 0 where
  pub offset : ℕ
  pub holds : row_at g.tables p.row ≡ guard_row depth offset operand other

-- it can take that row
pub record IsAssign (g : Given) (p : Place) (depth target value : ℕ) : Type 0 where
  pub can : CanGo g p
  pub row : AssignRow g p depth target value

pub record IsGuard (g : Given) (p : Place) (depth operand other : ℕ) : Type 0 where
  pub can : CanGo g p
  pub row : GuardRow g p depth operand other

-- a step is due within the budget, or none is left (17)
unfoldable pub Due : At → ℕ → std.Result (Unit {0}) Refusal → Type 0
Due at budget (Ok u) = at.steps ≡ budget → ⊥
Due at budget (Err e) = (at.steps ≡ budget) × (e ≡ BudgetSpent)

-- it can take a step at a row of this kind
pub record CanStep (kind : ℕ) (g : Given) (p : Place) : Type 0 where
  pub can : CanGo g p
  pub is : kind_at g.tables p.row ≡ kind
  pub left : p.steps < g.budget

-- what a run that ended means: the end of its block, or a stop
unfoldable pub Ends : Setting → Given → Span → ℕ → List ℕ → List HeldSlot → std.Result At Stop → Result Pause State → Type 0
Ends w g span room labels store (Ok x) whole = (x.row ≡ span.last) × DoneAs w room store x.steps x.free whole
Ends w g span room labels store (Err x) whole =
    (x.offset ≡ offset_at g.tables x.row) × ((free : ℕ) × Halts w g span room (number x.refusal) (place x.row x.steps free labels store) whole)

-- What a run from a place ensures, within its own limits and within any larger ones: the answer of the whole, or where the whole goes on
pub record Went (g : Given) (p : Place) (labels : List ℕ) (store : List HeldSlot) (x : std.Result At Stop) : Type 0 where
  pub ends : (w : Setting) (span : Span) (room : ℕ) (whole : Result Pause State) → Serves w g.terms g.masks → Allows w g room
      → GoesOn w g.tables span room p whole → Ends w g span room labels store x whole
