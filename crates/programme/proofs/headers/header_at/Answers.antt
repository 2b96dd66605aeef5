use Rattle.std.proofs.Common.{◌<◌, arith}
use Rattle.syntax.proofs.RunningStarts.{count_small}
use Rattle.programme.proofs.headers.header_at.Goals as goal
use Rattle.programme.proofs.headers.header_at.Goals.{After-blocks_of}

few : (c : After-blocks_of) → c.blocks_of.result < 256
few c = count_small _ _ (λ j. (c.type_inv.sheet j).fits) c.blocks_of.ensures

pub overflow_mul-floors : goal.overflow_mul-floors
overflow_mul-floors c = omega (arith, few c)

pub overflow_add-floors : goal.overflow_add-floors
overflow_add-floors c = omega (arith, few (goal.at.overflow_add-floors c).After-blocks_of)
