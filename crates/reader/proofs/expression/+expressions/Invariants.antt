-- The measure is how deep reads and operations may still nest, and within a depth the order of the calls.
use Rattle.std.proofs.Common.{◌+◌, ◌*◌}
use Rattle.reader.proofs.expression.+expressions.Given as goal

abbrev pub decreases-read_operation : goal.decreases-read_operation
decreases-read_operation l = 2 * l.deep + 1

abbrev pub decreases-read_part : goal.decreases-read_part
decreases-read_part l = 2 * l.deep
