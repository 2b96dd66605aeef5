-- The worked examples hold by computation. Assumes nothing.
use mathlib.Core.Path.{refl}
use Rattle.lattice.specs.Tests.{◌and◌}
use Rattle.lattice.specs.Order.{bit}
use Rattle.values.specs.Bytes.{number_at, number_bytes, entries, filled}
use Rattle.values.specs.Value.{value_at, value_bytes, slot_bytes}
use Rattle.values.specs.SignedIntegers.{negative, magnitude}
use Rattle.store.specs.Sheet.{order_of}
use Rattle.lines.specs.Decimal.{decimal_within}
use Rattle.lines.specs.PrincipalsAbove.{one_if, how_many, number_above}
use Rattle.store.specs.Counts.{total}
use Rattle.lines.specs.Lines.{field, answer_fields, answer_line, payload_field, slot_line, slot_lines, total_line, lines}
use Rattle.lines.specs.Examples.{ends, values, EndsHold, ValuesHold}

pub ends_hold : EndsHold
unfolding ends decimal_within field answer_fields answer_line payload_field slot_line slot_lines total_line total lines negative magnitude
    one_if how_many number_above ◌and◌ bit number_at number_bytes entries filled value_at value_bytes slot_bytes order_of
ends_hold = refl

pub values_hold : ValuesHold
unfolding values value_at number_at negative magnitude ◌and◌ payload_field field decimal_within
values_hold = refl
