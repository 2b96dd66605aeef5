-- The worked examples hold by computation. Assumes nothing.
use mathlib.Core.Path.{refl}
use Rattle.lattice.specs.Tests.{◌and◌, ◌or◌, ◌implies◌, every, some, find}
use Rattle.lattice.specs.Order.{bit, in_range, reflexive, antisymmetric, transitive, is_meet, has_meets, is_top, has_top, good, meet, top}
use Rattle.values.specs.Result.{◌>>=◌, require, refused_as, in_turn, unplaced}
use Rattle.values.specs.Bytes.{number_at, number_bytes, entries, filled}
use Rattle.values.specs.Value.{well_formed, value_at, value_bytes, opened, assigned, empty_slot, slot_bytes}
use Rattle.values.specs.SignedIntegers.{negative, magnitude}
use Rattle.store.specs.Sheet.{order_of, tables_of, opening_of, value_width_in, value_good, sizes_allowed, slot_checked, body_checked, sheet_checked, store_sheet, slots_bytes}
use Rattle.store.specs.Counts.{total}
use Rattle.lines.specs.Decimal.{decimal_within}
use Rattle.lines.specs.PrincipalsAbove.{one_if, how_many, number_above}
use Rattle.lines.specs.Lines.{field, answer_fields, answer_line, payload_field, slot_line, slot_lines, total_line, lines}
use Rattle.syntax.specs.Code.{read_value, expr_sorted, expr_byte, read_literal, expr_by, read_expr, sorted, cmd_byte, read_cmds, read_assign, read_seq, read_if, read_while, body_by, body_too_deep, read_body, read_block}
use Rattle.syntax.specs.Sheet.{floor_of, header_of, start_of, header_good, block_at, blocks_from, programme_sheet}
use Rattle.calculus.specs.Rules.{rules_of, judges_views, judges_region, labels_judged, all_above, labels_suffice}
use Rattle.calculus.specs.Calculus.{in_region, admit, fetch, eval, judge, authorised, reliable, permit, assignment, counted, written, entry_of, recorded, performed, step, attempt, choose, loop, exec, exec_body, execs}
use Rattle.calculus.specs.Blocks.{halt_answer, run_blocks, start}
use Rattle.calculus.specs.Run.{run_programme, run_opened, run_under, run, answer_of, output_of}
use Rattle.printing.specs.PrintedText.{store_length, slots_of, lent, printed_run, printed_sheets, printed_read, printed}
use Rattle.printing.specs.Examples.{inputs, InputsHold}

pub inputs_hold : InputsHold
unfolding inputs decimal_within field answer_fields answer_line payload_field slot_line slot_lines total_line total lines one_if how_many number_above negative magnitude
    store_length slots_of lent printed_run printed_sheets printed_read printed
    run_programme run_opened run_under run answer_of output_of
    ◌and◌ ◌or◌ ◌implies◌ every some find bit in_range reflexive antisymmetric transitive is_meet has_meets is_top has_top good meet top
    ◌>>=◌ require refused_as in_turn unplaced number_at number_bytes entries filled well_formed value_at value_bytes opened assigned empty_slot slot_bytes
    order_of tables_of opening_of value_width_in value_good sizes_allowed slot_checked body_checked sheet_checked store_sheet slots_bytes
    read_value expr_sorted expr_byte read_literal expr_by read_expr sorted cmd_byte read_cmds read_assign read_seq read_if read_while body_by body_too_deep read_body read_block
    floor_of header_of start_of header_good block_at blocks_from programme_sheet
    rules_of judges_views judges_region labels_judged all_above labels_suffice in_region admit fetch eval judge authorised reliable permit assignment
    counted written entry_of recorded performed step attempt choose loop exec exec_body execs halt_answer run_blocks start
inputs_hold = refl
