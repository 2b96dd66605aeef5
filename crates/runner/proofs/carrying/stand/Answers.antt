use Rattle.runner.specs.StretchRun.{from_of}
use Rattle.runner.proofs.StretchCalls.{stand_opening, stand_take, stand_taken}
use Rattle.runner.proofs.carrying.stand.Goals as goal

pub returns-in-Opening : goal.returns-in-Opening
unfolding from_of
returns-in-Opening c = rw c.in-Opening.is (stand_opening _ _ _ _ (rw c.in-Opening.is at c.requires) _ c.opening.ensures)

pub take_up-requires : goal.take_up-requires
unfolding from_of
take_up-requires c = stand_take _ _ _ _ _ _ (rw c.in-Checkpoint.is at c.requires)

pub returns-in-Checkpoint : goal.returns-in-Checkpoint
unfolding from_of
returns-in-Checkpoint c = rw c.in-Checkpoint.is (stand_taken _ _ _ _ _ _ _ _ c.take_up.ensures _ c.ok_or.ensures.value)
