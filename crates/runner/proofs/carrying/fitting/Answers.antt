use borrow.Author.Tests.{eq-eqb, ne_eqb}
use Rattle.lattice.specs.Tests.{◌and◌}
use Rattle.runner.proofs.carrying.fitting.Goals as goal

pub returns-then-out-slots : goal.returns-then-out-slots
unfolding ◌and◌
returns-then-out-slots c = rw (eq-eqb _ _ c.if-out-slots.true)

pub returns-else-out-slots : goal.returns-else-out-slots
unfolding ◌and◌
returns-else-out-slots c = rw (ne_eqb _ _ c.if-out-slots.false)
