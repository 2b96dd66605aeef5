-- Every promised theorem on the lines; the checker proves the record (`promises`). That a text holds the lines of a run is the contract of
-- `put_lines`. Assumes nothing.
use Rattle.lines.specs.Decimal.{DecimalText}
use Rattle.lines.specs.Examples.{EndsHold, ValuesHold}

pub record Promises : Type 0 where
  -- "Fields are decimal"
  pub decimal_text : DecimalText
  -- document 01's example with document 02's fields, unrelated principals, no slot, a refusal; and payloads
  pub ends_hold : EndsHold
  pub values_hold : ValuesHold
