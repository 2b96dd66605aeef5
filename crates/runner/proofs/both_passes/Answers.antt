use Rattle.std.proofs.lemmas.Result.{err_from_is_err_and}
use Rattle.runner.proofs.WholeRunReady.{runs_unready, can_finish, runs_refused, can_replay, runs_done}
use Rattle.runner.proofs.both_passes.Goals as goal

pub returns-in_err-ready : goal.returns-in_err-ready
returns-in_err-ready c =
    let e = err_from_is_err_and c.from_residual.result c.from_residual.ensures.1 in
    rw (e.1, e.2) (runs_unready _ _ _ _ _ _ _ _ _ c.in_err-ready.ensures)

pub first_pass-requires : goal.first_pass-requires
first_pass-requires c = can_finish _ _ _ _ _ _ c.args.out.now c.args.journal.now _ c.in_ok-ready.ensures

pub returns-in_err-first : goal.returns-in_err-first
returns-in_err-first c =
    let e = err_from_is_err_and c.from_residual-in_err-first.result c.from_residual-in_err-first.ensures.1 in
    rw (e.1, e.2) (runs_refused _ _ _ _ _ _ _ _ _ c.in_ok-ready.ensures _ _ c.in_err-first.ensures)

pub replay-requires : goal.replay-requires
replay-requires c = can_replay _ _ _ _ _ _ _ _ _ c.in_ok-ready.ensures _ _ c.in_ok-first.ensures

pub returns : goal.returns
returns c = runs_done _ _ _ _ _ _ _ _ _ c.in_ok-ready.ensures _ _ c.in_ok-first.ensures _ c.replay.ensures
