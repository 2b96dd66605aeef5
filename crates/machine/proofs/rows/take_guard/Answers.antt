use Prim.Native.Nat.{ℕ}
use mathlib.Core.Path.{◌≡◌, refl, ◌∙◌}
use mathlib.Core.Logic.{inr}
use native.Mathlib.Omega.{arith}
use Rattle.values.specs.Refusal.{number}
use Rattle.machine.specs.CompiledRuns.{next}
use Rattle.std.proofs.Common.{Ok}
use Rattle.syntax.specs.Rows.{guard_kind}
use Rattle.machine.specs.declared.rows.Place.{Place as At}
use Rattle.machine.specs.Machine.{Given, Place, CanStep, IsGuard, Due}
use Rattle.machine.proofs.Exits.{exit}
use Rattle.machine.proofs.CompiledTables.{kind_guard}
use Rattle.machine.proofs.MachineRuns.{spent_stops, can_step}
use Rattle.machine.proofs.MachineSteps.{guard_on, guard_stops}
use Rattle.machine.proofs.rows.take_guard.Goals as goal

pub returns-in_err-due : goal.returns-in_err-due
unfolding Due number
returns-in_err-due c =
    let n = c.requires in
    let e = c.in_err-due.ensures in
    rw (exit _ c.from_residual.ensures.1, e.1) (spent_stops n.can (inr (kind_guard n.row.holds)) e.0)

-- a step is left, so the guard is judged
module _ {g : Given} {p : Place} {depth operand other : ℕ} (n : IsGuard g p depth operand other) where
  pub step : (at : At) → Due at g.budget (Ok tt) → at.steps ≡ p.steps → CanStep guard_kind g p
  unfolding Due
  step at d e = can_step n.can (kind_guard n.row.holds) (λ q. d (e ∙ q))

pub returns-in_err-guard : goal.returns-in_err-guard
returns-in_err-guard c =
    let n = c.requires in
    rw (exit _ c.from_residual-in_err-guard.ensures.1) (guard_stops (step n c.args.at c.in_ok-due.ensures refl) n.row (rw c.from.ensures at c.in_err-guard.ensures))

pub overflow_add-result-then-guard : goal.overflow_add-result-then-guard
overflow_add-result-then-guard c = let n = c.requires in omega (arith, (step n c.args.at c.in_ok-due.ensures refl).left)

pub returns-then-guard : goal.returns-then-guard
unfolding next
returns-then-guard c =
    let n = c.requires in
    rw c.from-depth.ensures
    (rw c.if-guard.true at (guard_on (step n c.args.at c.in_ok-due.ensures refl) n.row _ _ (rw c.from.ensures at c.in_ok-guard.ensures)))

pub overflow_add-result-2 : goal.overflow_add-result-2
overflow_add-result-2 c = let n = c.requires in omega (arith, (step n c.args.at c.in_ok-due.ensures refl).left)

pub returns : goal.returns
unfolding next
returns c =
    let n = c.requires in
    rw (c.from-depth.ensures, c.from-2.ensures)
    (rw c.if-guard.false at (guard_on (step n c.args.at c.in_ok-due.ensures refl) n.row _ _ (rw c.from.ensures at c.in_ok-guard.ensures)))
