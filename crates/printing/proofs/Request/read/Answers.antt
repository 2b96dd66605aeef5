use native.Mathlib.Omega.{arith}
use Rattle.values.proofs.BytesNumbers.{number_lt}
use Rattle.printing.proofs.Request.read.Goals as goal

pub overflow_cast-result : goal.overflow_cast-result
overflow_cast-result c = omega (arith, c.number_at.ensures, number_lt c.args.input.now (λ j. (c.type_inv.input j).fits) 4 1)
