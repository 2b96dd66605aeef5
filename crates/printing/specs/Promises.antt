-- Every promised theorem on what is printed; the checker proves the record (`promises`). That the program's text is `printed` of its input is
-- the contract of `print_run`. Assumes nothing.
use Rattle.std.specs.Prelude.{ℕ, ◌≡◌, List, take}
use Rattle.lines.specs.Decimal.{ascii, DecimalText}
use Rattle.lines.specs.Examples.{EndsHold, ValuesHold}
use Rattle.printing.specs.PrintedText.{most_input, printed}
use Rattle.printing.specs.Examples.{InputsHold}

pub record Promises : Type 0 where
  -- "Fields are decimal"
  pub decimal_text : DecimalText
  -- "The first line always starts with the word `end`"
  pub first_word : (input : List ℕ) → take 4 (printed input) ≡ ascii "end "
  -- "It reads at most 32,768 bytes": what stands behind them is not printed
  pub bytes_read : (input : List ℕ) → printed (take most_input input) ≡ printed input
  -- document 01's example with document 02's fields, unrelated principals, no slot, refusals; and payloads
  pub inputs_hold : InputsHold
  pub ends_hold : EndsHold
  pub values_hold : ValuesHold
