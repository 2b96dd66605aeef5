-- The promises hold: without any one of these theorems this file is refused. Assumes nothing.
use Rattle.lines.specs.Promises.{Promises}
use Rattle.lines.proofs.Decimal.{decimal_text}
use Rattle.lines.proofs.Examples.{ends_hold, values_hold}

pub promises : Promises
promises = record { decimal_text = decimal_text; ends_hold = ends_hold; values_hold = values_hold }
