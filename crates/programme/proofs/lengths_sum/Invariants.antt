use Prim.Native.Nat.{◌≤◌, ◌*◌}
use Rattle.syntax.specs.RunningStarts.{RunningStart}
use Rattle.programme.proofs.lengths_sum.Given as goal

abbrev pub invariant-loop-i : goal.invariant-loop-i
invariant-loop-i l = RunningStart l.sheet l.i l.sum × (l.sum ≤ 65536 * l.i)
