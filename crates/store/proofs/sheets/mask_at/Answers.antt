use Rattle.std.proofs.Common.{◌+◌, ◌*◌, arith}
use Rattle.values.specs.Bytes.{sizes_width}
use Rattle.values.proofs.BytesNumbers.{number_lt}
use Rattle.store.specs.Sheet.{mask_width}
use Rattle.store.proofs.sheets.mask_at.Goals as goal

pub overflow_cast-result : goal.overflow_cast-result
overflow_cast-result c =
    omega (arith, c.number_at.ensures, number_lt c.args.s.now (λ i. (c.type_inv.s i).fits) mask_width (sizes_width + mask_width * c.from.result))
