use Prim.Native.Nat.{◌+◌}
use native.Mathlib.Omega.{arith}
use borrow.Author.Rules.{rules}
use Rattle.syntax.specs.RunningStarts.{Stands}
use Rattle.syntax.proofs.RunningStarts.{stands_next, stands_on, end_small, part_within}
use Rattle.programme.proofs.CompiledSheetBlocks.{compiling_first, compiling_done, compiling_next, compiling_refused, can_compile}
use Rattle.programme.proofs.blocks_compiled.Goals as goal
use Rattle.programme.proofs.blocks_compiled.Goals.{After-length_at}

pub loop-i-init : goal.loop-i-init
loop-i-init c = compiling_first _ _ _ _

stands : (c : After-length_at) → Stands c.args.sheet.now c.args.k c.loop-i.i c.loop-i.start (c.loop-i.start + c.length_at.result)
stands c = stands_next _ _ _ _ _ c.requires (omega arith) c.loop-i.invariant.running c.length_at.ensures.0

pub overflow_add-next : goal.overflow_add-next
overflow_add-next c = omega (arith, end_small (stands c))

pub overflow_add-own : goal.overflow_add-own
overflow_add-own c = let w = stands (goal.at.overflow_add-own c).After-length_at in omega (arith, stands_on w, end_small w, w.good.few)

pub overflow_add-own-in-loop-i : goal.overflow_add-own-in-loop-i
overflow_add-own-in-loop-i c = let w = stands (goal.at.overflow_add-own-in-loop-i c).After-length_at in omega (arith, end_small w, w.good.few)

pub slice_bounds-own-end : goal.slice_bounds-own-end
slice_bounds-own-end c =
    let w = stands (goal.at.slice_bounds-own-end c).After-length_at in
    let on = stands_on w in
    let within = part_within w in
    search rules

pub read_block-requires : goal.read_block-requires
read_block-requires c = can_compile c.loop-i.invariant (stands (goal.at.read_block-requires c).After-length_at)

pub returns-in-Err : goal.returns-in-Err
returns-in-Err c = compiling_refused c.loop-i.invariant (stands (goal.at.returns-in-Err c).After-length_at) _ c.in-Err.fault c.in-Err.ensures

pub loop-i-preserved : goal.loop-i-preserved
loop-i-preserved c = compiling_next c.loop-i.invariant (stands (goal.at.loop-i-preserved c).After-length_at) c.in-Ok.ensures

pub returns : goal.returns
returns c = compiling_done c.loop-i.invariant (omega arith)
