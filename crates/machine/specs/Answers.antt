-- What the machine's parts answer: by cases, a refusal by its number. Assumes nothing.
use Rattle.std.specs.Prelude.{ℕ, Bool, true, false, Ok, Err}
use Rattle.std.specs.Prelude as std
use Rattle.values.specs.declared.refusal.Refusal.{Refusal}
use Rattle.values.specs.Refusal.{number}
use Rattle.machine.specs.declared.expressions.Labelled.{Labelled}
use Rattle.machine.specs.declared.steps.Judged.{Judged}
use Rattle.machine.specs.declared.steps.Write.{Write as Written}
use Rattle.machine.specs.declared.rows.Place.{Place}

-- an expression's
pub data Got : Type 0 where
  Value : (kind payload label : ℕ) → Got
  Refused : (number : ℕ) → Got

abbrev pub got : std.Result Labelled Refusal → Got
got (Ok x) = Got.Value x.kind x.payload x.label
got (Err e) = Got.Refused (number e)

-- a guard's
pub data Judging : Type 0 where
  Passes : (label : ℕ) → Judging
  Fails : (label : ℕ) → Judging
  Refused : (number : ℕ) → Judging

unfoldable pub judging_by : Bool → ℕ → Judging
judging_by true label = Judging.Passes label
judging_by false label = Judging.Fails label

abbrev pub judging : std.Result Judged Refusal → Judging
judging (Ok x) = judging_by x.passes x.label
judging (Err e) = Judging.Refused (number e)

-- an assignment's
pub data Making : Type 0 where
  Write : (slot kind payload owner : ℕ) → Making
  Refused : (number : ℕ) → Making

abbrev pub making : std.Result Written Refusal → Making
making (Ok x) = Making.Write x.slot x.kind x.payload x.owner
making (Err e) = Making.Refused (number e)

-- what comes next: a row; or the step at a row was refused
pub data Control : Type 0 where
  On : (row steps free : ℕ) → Control
  Stopped : (number row steps free : ℕ) → Control

-- a step that is refused leaves a run where it stands
abbrev pub control : Place → std.Result Place Refusal → Control
control at (Ok x) = Control.On x.row x.steps x.free
control at (Err e) = Control.Stopped (number e) at.row at.steps at.free
