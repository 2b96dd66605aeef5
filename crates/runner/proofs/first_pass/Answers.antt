use native.Mathlib.Omega.{arith}
use Rattle.runner.proofs.WholeRunFinish.{few_slots, finish_room, finish_can, finish_few, finish_done, finish_halt}
use Rattle.runner.proofs.first_pass.Goals as goal

pub overflow_mul-slots : goal.overflow_mul-slots
overflow_mul-slots c = record { fits = omega (arith, few_slots _ _ c.requires) }

pub returns-then-out-slots : goal.returns-then-out-slots
returns-then-out-slots c = finish_room _ _ c.args.entries _ _ _ _ c.from.ensures c.if-out-slots.true

pub play_blocks-requires : goal.play_blocks-requires
play_blocks-requires c = rw c.opening-from.ensures (finish_can _ _ c.args.entries _ _ _ c.blocks_of-k.ensures _ c.top_mask-labels.ensures c.requires)

pub overflow_sub-result : goal.overflow_sub-result
overflow_sub-result c =
    finish_few _ _ _ _ _ _ c.blocks_of-k.ensures _ c.top_mask-labels.ensures _ _ _ c.if-out-slots.false c.requires _ (rw (c.in-Ok.is, c.opening-from.ensures) at c.play_blocks.ensures)

pub returns-in-Ok : goal.returns-in-Ok
returns-in-Ok c =
    finish_done _ _ _ _ _ _ c.blocks_of-k.ensures _ c.top_mask-labels.ensures _ _ _ c.if-out-slots.false _ _ (rw (c.in-Ok.is, c.opening-from.ensures) at c.play_blocks.ensures)
    c.write_store.ensures _ c.finishing.ensures

pub returns-in-Err : goal.returns-in-Err
returns-in-Err c =
    finish_halt _ _ _ _ _ _ c.blocks_of-k.ensures _ c.top_mask-labels.ensures _ _ _ c.if-out-slots.false _ (rw (c.in-Err.is, c.opening-from.ensures) at c.play_blocks.ensures)
