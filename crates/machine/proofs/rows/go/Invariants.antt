use Rattle.machine.specs.Answers.{Control}
use Rattle.machine.specs.Machine.{given_of, place_of, weight}
use Rattle.machine.proofs.MachineRuns.{Goes}
use Rattle.machine.proofs.rows.go.Given as goal

abbrev pub invariant-loop-target : goal.invariant-loop-target
invariant-loop-target l =
    Goes (given_of l.by) (place_of l.initial.at l.initial.labels l.initial.held)
    l.labels l.held (Control.On l.at.row l.at.steps l.at.free)

abbrev pub decreases-loop-target : goal.decreases-loop-target
decreases-loop-target l =
    weight (given_of l.by) (Control.On l.at.row l.at.steps l.at.free)
