use Rattle.std.proofs.Common.{arith}
use Rattle.reader.proofs.expression.read_expr.Goals as goal

pub read_part-requires : goal.read_part-requires
read_part-requires c = (c.requires, omega arith, omega arith)
