-- Proves `sheets_hold`: the worked examples of programme sheets (specs/SheetWorked.antt), by computation. Assumes nothing.
use mathlib.Core.Path.{refl}
use Rattle.lattice.specs.Tests.{◌and◌, ◌or◌, ◌implies◌, every}
use Rattle.values.specs.Result.{◌>>=◌, require, refused_as, unplaced}
use Rattle.values.specs.Bytes.{number_at}
use Rattle.values.specs.Value.{well_formed, value_at}
use Rattle.syntax.specs.Code.{read_value, expr_sorted, expr_byte, read_literal, read_operation, expr_by, expr_too_deep, read_expr, sorted, cmd_byte, read_cmds, read_assign, read_seq, read_if, read_while, body_by, body_too_deep, read_body, read_block}
use Rattle.syntax.specs.Sheet.{floor_of, header_of, start_of, header_good, block_at, blocks_from, programme_sheet, check_answer}
use Rattle.syntax.specs.SheetWorked.{nested, reading, cases, SheetsHold}

pub sheets_hold : SheetsHold
unfolding nested reading cases ◌and◌ ◌or◌ ◌implies◌ every ◌>>=◌ require refused_as unplaced number_at well_formed value_at
    read_value expr_sorted expr_byte read_literal read_operation expr_by expr_too_deep read_expr sorted cmd_byte read_cmds read_assign read_seq read_if read_while body_by body_too_deep read_body read_block
    floor_of header_of start_of header_good block_at blocks_from programme_sheet check_answer
sheets_hold = refl
