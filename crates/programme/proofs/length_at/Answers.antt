use Prim.Native.Nat.{◌<◌}
use native.Mathlib.Omega.{arith}
use Rattle.syntax.proofs.RunningStarts.{length_read, count_small}
use Rattle.programme.proofs.length_at.Goals as goal
use Rattle.programme.proofs.length_at.Goals.{After-blocks_of-k}

few : (c : After-blocks_of-k) → c.blocks_of-k.result < 256
few c = count_small _ _ (λ j. (c.type_inv.sheet j).fits) c.blocks_of-k.ensures

pub overflow_add-k : goal.overflow_add-k
overflow_add-k c = omega (arith, few c)

pub overflow_add-k-2 : goal.overflow_add-k-2
overflow_add-k-2 c = omega (arith, few (goal.at.overflow_add-k-2 c).After-blocks_of-k)

pub returns : goal.returns
returns c =
    length_read _ _ _ _ (λ j. (c.type_inv.sheet j).fits) c.blocks_of-k.ensures (rw c.from.ensures at c.number_at.ensures)
