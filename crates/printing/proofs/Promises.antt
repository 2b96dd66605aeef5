-- The promises hold: without any one of these theorems this file is refused. Assumes nothing.
use Rattle.printing.specs.Promises.{Promises}
use Rattle.printing.proofs.PrintedText.{first_word, bytes_read}
use Rattle.printing.proofs.Examples.{inputs_hold}
use Rattle.lines.proofs.Decimal.{decimal_text}
use Rattle.lines.proofs.Examples.{ends_hold, values_hold}

pub promises : Promises
promises = record {
  decimal_text = decimal_text;
  first_word = first_word;
  bytes_read = bytes_read;
  inputs_hold = inputs_hold;
  ends_hold = ends_hold;
  values_hold = values_hold;
}
