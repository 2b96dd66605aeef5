use native.Mathlib.Omega.{arith}
use Rattle.machine.proofs.BlockRunsLoop.{underway_start, underway_ends, underway_tell, underway_can, underway_next, underway_row, underway_stops}
use Rattle.machine.proofs.blocks.play_blocks.Goals as goal

pub loop-block-init : goal.loop-block-init
loop-block-init c = underway_start

pub block_terms-terms-requires : goal.block_terms-terms-requires
block_terms-terms-requires c = underway_tell c.loop-block.invariant (omega arith) c.requires

pub go-requires : goal.go-requires
go-requires c = underway_can c.loop-block.invariant (omega arith) c.requires _ c.block_terms-terms.ensures

pub overflow_add-at : goal.overflow_add-at
overflow_add-at c =
    omega (arith, underway_row c.loop-block.invariant (omega arith) c.requires _ c.block_terms-terms.ensures _ _ _ _ _ c.in-Ok.ensures)

pub loop-block-preserved : goal.loop-block-preserved
loop-block-preserved c =
    underway_next c.loop-block.invariant (omega arith) _ c.block_terms-terms.ensures _ _ _ _ _ c.in-Ok.ensures

pub returns-in-Err : goal.returns-in-Err
returns-in-Err c =
    underway_stops c.loop-block.invariant (omega arith) _ c.block_terms-terms.ensures _ _ _ c.in-Err.ensures

pub returns : goal.returns
returns c = underway_ends c.loop-block.invariant (omega arith)
