use borrow.Author.Rules.{rules}
use mathlib.Core.Path.{◌≡◌}
use native.Mathlib.Omega.{arith}
use Rattle.syntax.proofs.RunningStarts.{running_first, running_next}
use Rattle.programme.proofs.lengths_sum.Goals as goal

pub loop-i-init : goal.loop-i-init
loop-i-init c = (running_first _, omega arith)

pub loop-i-preserved : goal.loop-i-preserved
loop-i-preserved c = (running_next _ _ _ _ c.loop-i.invariant.0 (search rules), omega arith)

pub returns : goal.returns
returns c =
    let e : c.loop-i.i ≡ c.args.k = omega arith in
    rw e at c.loop-i.invariant.0
