use Rattle.lattice.specs.Tests.{◌and◌}
use Rattle.pausing.specs.Stretches.{output_good}
use Rattle.runner.proofs.outputs.output_good.Goals as goal

pub returns-then-values_good : goal.returns-then-values_good
unfolding output_good ◌and◌
returns-then-values_good c = rw (c.counts_total.ensures, c.from.ensures, ← c.values_good.ensures, c.if-values_good.true)

pub returns-else-values_good : goal.returns-else-values_good
unfolding output_good ◌and◌
returns-else-values_good c = rw (← c.values_good.ensures, c.if-values_good.false)
