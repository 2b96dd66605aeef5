use Rattle.runner.proofs.StretchLocate.{Passed}
use Rattle.runner.proofs.stretches.locate.Given as goal

-- The blocks before the i-th were passed.
abbrev pub invariant-loop-i : goal.invariant-loop-i
invariant-loop-i l = Passed l.programme l.i l.start l.row
