use Rattle.runner.specs.StretchRun.{from_of}
use Rattle.runner.proofs.StretchCalls.{fit_opening, fit_both, fit_not}
use Rattle.runner.proofs.carrying.all_fit.Goals as goal

pub returns-in-Opening : goal.returns-in-Opening
unfolding from_of
returns-in-Opening c = rw c.in-Opening.is (fit_opening _ _ _ _ c.fitting-fit.ensures)

pub returns-then-fit : goal.returns-then-fit
unfolding from_of
returns-then-fit c = rw c.in-Checkpoint.is (fit_both _ _ _ _ _ _ c.fitting-fit.ensures c.if-fit.true _ c.fitting.ensures)

pub returns-else-fit : goal.returns-else-fit
unfolding from_of
returns-else-fit c = rw c.in-Checkpoint.is (fit_not _ _ _ _ _ _ c.fitting-fit.ensures c.if-fit.false)
