-- What a step does, and where a run ends. Assumes nothing.
use Rattle.lattice.specs.Order.{Label}
use Rattle.values.specs.Result.{Result, ok, refuse}
use Rattle.syntax.specs.Syntax.{Expr}
use Rattle.calculus.specs.Calculus.{State}
use Rattle.calculus.specs.Blocks.{Halt}

-- "A step is one guard judged or one assignment made; nothing else counts." An assignment is made under a branch label.
pub data Task : Type 0 where
  judging : Expr → Task
  assigning : Label → Expr → Expr → Task

-- where a run ends, or where it is stopped
unfoldable pub reached : Result Halt State → State
reached (ok s) = s
reached (refuse h) = h.stop.state
