use Rattle.std.proofs.Common.{◌≡◌, ℕ, refl}
use native.Mathlib.Omega.{arith}
use Rattle.syntax.specs.declared.Row.{Row}
use Rattle.syntax.specs.declared.Row.TheVariants as r
use Rattle.syntax.specs.Rows.{assign_row, guard_row, jump_row, end_row}
use Rattle.machine.specs.Answers.{control}
use Rattle.machine.specs.Machine.{given_of, place_of, Moved}
use Rattle.machine.proofs.MachineRuns.{jump_on, opening, goes_on, row_inside, moved, finished, halted}
use Rattle.machine.proofs.rows.go.Goals as goal
use Rattle.machine.proofs.rows.go.Goals.{Joined-row, in-Jump, in_default+in-Assign, in_default+in_default-row+in-Guard}

pub loop-target-init : goal.loop-target-init
loop-target-init c = opening c.requires

pub offset_bounds-by-at : goal.offset_bounds-by-at
offset_bounds-by-at c = omega (arith, row_inside c.requires c.loop-target.invariant)

pub bounds-by-at : goal.bounds-by-at
bounds-by-at c = row_inside c.requires c.loop-target.invariant

-- a row of none of the three kinds is an end row
only_end : (x : Row) → ((to : ℕ) → x ≡ jump_row to → ⊥) → ((depth at target value : ℕ) → x ≡ assign_row depth at target value → ⊥)
    → ((depth at operand other : ℕ) → x ≡ guard_row depth at operand other → ⊥) → x ≡ end_row
only_end r.End j a g = refl
only_end (r.Assign depth at target value) j a g = absurd (a depth at target value refl)
only_end (r.Guard depth at operand other) j a g = absurd (g depth at operand other refl)
only_end (r.Jump to) j a g = absurd (j to refl)

pub returns-in_default-row-2 : goal.returns-in_default-row-2
returns-in_default-row-2 c =
    finished c.loop-target.invariant (only_end _ c.in_default.not-Jump c.in_default-row.not-Assign c.in_default-row-2.not-Guard)

pub take_assign-requires : goal.take_assign-requires
take_assign-requires c =
    record { can = goes_on c.requires c.loop-target.invariant; row = record { offset = c.in-Assign.offset; holds = c.in-Assign.is } }

pub take_guard-requires : goal.take_guard-requires
take_guard-requires c =
    record { can = goes_on c.requires c.loop-target.invariant; row = record { offset = c.in-Guard.offset; holds = c.in-Guard.is } }

-- whichever row it is, it is taken
taken : (c : Joined-row)
    → Moved (given_of c.args.by)
    (place_of c.loop-target.at c.loop-target.labels c.loop-target.held)
    c.match-row.labels c.match-row.held (control c.loop-target.at c.match-row.next)
taken c =
    (elim c.match-row.branch [
      | in-Jump w ↦ rw (w.labels-is, w.held-is, w.next-is, w.from.ensures) (jump_on (goes_on c.requires c.loop-target.invariant) w.in-Jump.target w.in-Jump.is)
      | in_default+in-Assign w ↦ rw (w.labels-is, w.held-is, w.next-is) w.take_assign.ensures
      | in_default+in_default-row+in-Guard w ↦ rw (w.labels-is, w.held-is, w.next-is) w.take_guard.ensures
    ])

pub loop-target-smaller : goal.loop-target-smaller
loop-target-smaller c = (rw c.in-Ok.is at (taken (goal.at.loop-target-smaller c).Joined-row)).less

pub loop-target-preserved : goal.loop-target-preserved
loop-target-preserved c = moved c.loop-target.invariant (rw c.in-Ok.is at (taken (goal.at.loop-target-preserved c).Joined-row))

pub offset_bounds-by-at-in-Err : goal.offset_bounds-by-at-in-Err
offset_bounds-by-at-in-Err c = omega (arith, row_inside c.requires c.loop-target.invariant)

pub bounds-by-at-in-Err : goal.bounds-by-at-in-Err
bounds-by-at-in-Err c = row_inside c.requires c.loop-target.invariant

pub returns-in-Err : goal.returns-in-Err
returns-in-Err c =
    halted c.loop-target.invariant _ refl refl c.offset_of.ensures (rw c.in-Err.is at (taken (goal.at.returns-in-Err c).Joined-row))
