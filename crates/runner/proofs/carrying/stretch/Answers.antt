use mathlib.Core.Path.{ap}
use Rattle.std.proofs.lemmas.Result.{err_from_is_err_and}
use Rattle.machine.proofs.BlockRuns.{everywhere}
use Rattle.runner.specs.StretchRun.{from_of}
use Rattle.runner.proofs.StretchCalls.{enter_unready, slots_few, enter_12, enter_stand, enter_19, enter_play, enter_settle, enter_settled}
use Rattle.runner.proofs.carrying.stretch.Goals as goal

pub returns-in_err-ready : goal.returns-in_err-ready
returns-in_err-ready c =
    let e = err_from_is_err_and c.from_residual.result c.from_residual.ensures.1 in
    rw (e.1, e.2) (enter_unready _ _ _ _ _ _ _ _ _ _ c.in_err-ready.ensures)

pub all_fit-requires : goal.all_fit-requires
all_fit-requires c = slots_few _ _ _ _ _ _ (from_of c.args.from) c.args.out.now c.args.pause.now _ c.in_ok-ready.ensures

pub returns-then-not-all_fit : goal.returns-then-not-all_fit
returns-then-not-all_fit c = enter_12 _ _ _ _ _ _ _ _ _ _ c.in_ok-ready.ensures _ c.all_fit.ensures c.if-not-all_fit.true _ c.from.ensures

pub stand-requires : goal.stand-requires
stand-requires c =
    enter_stand _ _ _ _ _ _ _ c.args.out.now c.args.pause.now _ c.in_ok-ready.ensures _ c.all_fit.ensures c.if-not-all_fit.false _ (ap everywhere c.top_mask-labels.ensures)

pub returns-in_err-place : goal.returns-in_err-place
returns-in_err-place c =
    let e = err_from_is_err_and c.from_residual-in_err-place.result c.from_residual-in_err-place.ensures.1 in
    rw e.1 (enter_19 _ _ _ _ _ _ _ _ _ _ c.in_ok-ready.ensures _ c.all_fit.ensures c.if-not-all_fit.false _ _ _ c.in_err-place.ensures _ e.2)

pub play_blocks-end-requires : goal.play_blocks-end-requires
play_blocks-end-requires c =
    enter_play _ _ _ _ _ _ _ c.args.out.now c.args.pause.now _ c.in_ok-ready.ensures _ c.all_fit.ensures c.if-not-all_fit.false _ _ _ c.in_ok-place.ensures _ c.max.ensures _ c.blocks_of.ensures

pub settle-requires : goal.settle-requires
settle-requires c =
    enter_settle _ _ _ _ _ _ _ _ _ _ c.in_ok-ready.ensures _ c.all_fit.ensures c.if-not-all_fit.false _ _ _ c.in_ok-place.ensures _ c.max.ensures _ _ _ c.blocks_of.ensures _
    c.play_blocks-end.ensures

pub returns : goal.returns
returns c =
    enter_settled _ _ _ _ _ _ _ _ _ _ c.in_ok-ready.ensures _ c.all_fit.ensures c.if-not-all_fit.false _ _ _ c.in_ok-place.ensures _ c.max.ensures _ _ _ c.blocks_of.ensures _
    c.play_blocks-end.ensures _ _ _ c.settle.ensures
