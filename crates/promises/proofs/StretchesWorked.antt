-- Proves `stretches_hold` and `checkpoints_hold`: the worked examples of stretches and of checkpoints, by computation. Assumes nothing.
use mathlib.Core.Path.{refl}
use Rattle.lattice.specs.Tests.{◌and◌, ◌or◌, ◌implies◌, every, some, find}
use Rattle.lattice.specs.Order.{bit, in_range, reflexive, antisymmetric, transitive, is_meet, has_meets, is_top, has_top, good, meet, top}
use Rattle.values.specs.Result.{◌>>=◌, require, refused_as, in_turn, unplaced}
use Rattle.values.specs.Bytes.{number_at, number_bytes, entries, filled}
use Rattle.values.specs.Value.{well_formed, value_at, value_bytes, opened, assigned, empty_slot, slot_bytes}
use Rattle.values.specs.Integers.{signed, sum_of, difference_of, less_of}
use Rattle.store.specs.Sheet.{order_of, tables_of, opening_of, value_width_in, value_good, sizes_allowed, slot_checked, body_checked, sheet_checked, store_sheet, slots_bytes}
use Rattle.syntax.specs.Code.{read_value, expr_sorted, expr_byte, read_literal, read_operation, expr_by, expr_too_deep, read_expr, sorted, cmd_byte, read_cmds, read_assign, read_seq, read_if, read_while, body_by, body_too_deep, read_body, read_block}
use Rattle.syntax.specs.Sheet.{floor_of, header_of, start_of, header_good, block_at, blocks_from, programme_sheet}
use Rattle.calculus.specs.Rules.{rules_of, judges_views, judges_region, labels_judged, all_above, labels_suffice}
use Rattle.calculus.specs.Calculus.{in_region, admit, fetch, takes, truth_of, gives, operate, eval, judge, authorised, reliable, permit, assignment, counted, written, entry_of, recorded, performed, step, attempt, choose}
use Rattle.calculus.specs.Blocks.{halt_answer, start}
use Rattle.store.specs.Counts.{total}
use Rattle.pausing.specs.Paths.{rounds, play, play_body, play_all, take_up, take_up_body, take_up_all, child_in, child_of, child, steps_body, takes_step, at_or_below, leads}
use Rattle.pausing.specs.Stretches.{pause_sheet, unused_zero, slot_in, store_in, output_good, path_good, checkpoint_good, take_up_blocks, settled, end_of, limits_at, run_from, fitting, position_of, stretch_opened, stretch_under, run_stretch, answer_of, output_of, pause_of}
use Rattle.promises.specs.StretchesWorked.{places, budgets, values, changes, StretchesHold}
use Rattle.promises.specs.CheckpointsWorked.{paths, labels, unused, contents, lengths, order, CheckpointsHold}

computed : StretchesHold × CheckpointsHold
unfolding places budgets values changes paths labels unused contents lengths order
    pause_sheet unused_zero slot_in store_in output_good path_good checkpoint_good take_up_blocks settled end_of limits_at run_from fitting position_of stretch_opened stretch_under run_stretch answer_of output_of pause_of
    rounds play play_body play_all take_up take_up_body take_up_all child_in child_of child steps_body takes_step at_or_below leads total
    ◌and◌ ◌or◌ ◌implies◌ every some find bit in_range reflexive antisymmetric transitive is_meet has_meets is_top has_top good meet top
    ◌>>=◌ require refused_as in_turn unplaced number_at number_bytes entries filled well_formed value_at value_bytes opened assigned empty_slot slot_bytes
    signed sum_of difference_of less_of order_of tables_of opening_of value_width_in value_good sizes_allowed slot_checked body_checked sheet_checked store_sheet slots_bytes
    read_value expr_sorted expr_byte read_literal read_operation expr_by expr_too_deep read_expr sorted cmd_byte read_cmds read_assign read_seq read_if read_while body_by body_too_deep read_body read_block
    floor_of header_of start_of header_good block_at blocks_from programme_sheet
    rules_of judges_views judges_region labels_judged all_above labels_suffice in_region admit fetch takes truth_of gives operate eval judge authorised reliable permit assignment
    counted written entry_of recorded performed step attempt choose halt_answer start
computed = (refl, refl)

pub stretches_hold : StretchesHold
stretches_hold = computed.0

pub checkpoints_hold : CheckpointsHold
checkpoints_hold = computed.1
