use Prim.Native.Nat.{ℕ}
use mathlib.Core.Path.{◌≡◌, refl, ◌∙◌}
use mathlib.Core.Logic.{inl}
use native.Mathlib.Omega.{arith}
use Rattle.std.proofs.Common.{Ok}
use Rattle.values.specs.Refusal.{number}
use Rattle.syntax.specs.Rows.{assign_kind}
use Rattle.machine.specs.declared.rows.Place.{Place as At}
use Rattle.machine.specs.Machine.{Given, Place, CanStep, IsAssign, Due}
use Rattle.machine.proofs.Exits.{exit}
use Rattle.machine.proofs.CompiledTables.{kind_assign}
use Rattle.machine.proofs.MachineRuns.{spent_stops, can_step}
use Rattle.machine.proofs.MachineSteps.{assign_slot, assign_few, assign_on, assign_stops, full_stops}
use Rattle.machine.proofs.rows.take_assign.Goals as goal

pub returns-in_err-due : goal.returns-in_err-due
unfolding Due number
returns-in_err-due c =
    let n = c.requires in
    let e = c.in_err-due.ensures in
    rw (exit _ c.from_residual.ensures.1, e.1) (spent_stops n.can (inl (kind_assign n.row.holds)) e.0)

-- a step is left, so the assignment is judged
module _ {g : Given} {p : Place} {depth target value : ℕ} (n : IsAssign g p depth target value) where
  pub step : (at : At) → Due at g.budget (Ok tt) → at.steps ≡ p.steps → CanStep assign_kind g p
  unfolding Due
  step at d e = can_step n.can (kind_assign n.row.holds) (λ q. d (e ∙ q))

pub returns-then-at-eq0 : goal.returns-then-at-eq0
unfolding number
returns-then-at-eq0 c = full_stops (step c.requires c.args.at c.in_ok-due.ensures refl) c.if-at-eq0.true

pub returns-in_err-write : goal.returns-in_err-write
returns-in_err-write c =
    let n = c.requires in
    rw (exit _ c.from_residual-in_err-write.ensures.1)
    (assign_stops (step n c.args.at c.in_ok-due.ensures refl) n.row c.if-at-eq0.false (rw (c.from.ensures, c.from-2.ensures, c.from-3.ensures) at c.in_err-write.ensures))

pub put-requires : goal.put-requires
put-requires c =
    let n = c.requires in
    let d = step n c.args.at c.in_ok-due.ensures refl in
    let a = rw (c.from.ensures, c.from-2.ensures, c.from-3.ensures) at c.in_ok-write.ensures in (
      assign_slot d n.row c.in_ok-write.write a,
      omega (arith, assign_few d n.row c.in_ok-write.write a),
    )

pub overflow_add-result-2 : goal.overflow_add-result-2
overflow_add-result-2 c = omega (arith, (step c.requires c.args.at c.in_ok-due.ensures refl).left)

pub returns : goal.returns
returns c =
    let n = c.requires in
    assign_on (step n c.args.at c.in_ok-due.ensures refl) n.row c.in_ok-write.write (rw (c.from.ensures, c.from-2.ensures, c.from-3.ensures) at c.in_ok-write.ensures)
    c.if-at-eq0.false c.put.ensures
