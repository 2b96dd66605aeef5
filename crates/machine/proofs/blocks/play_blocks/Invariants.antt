use Rattle.machine.specs.BlockRuns.{played_of}
use Rattle.machine.proofs.BlockRunsLoop.{Underway}
use Rattle.machine.proofs.blocks.play_blocks.Given as goal

abbrev pub invariant-loop-block : goal.invariant-loop-block
invariant-loop-block l =
    Underway (played_of l.by) l.sheet l.k l.fn.from l.initial.labels l.initial.held
    (record { block = l.block; row = l.at.row; steps = l.at.steps; free = l.at.free }) l.labels l.held
