use Rattle.values.specs.Value.{value_at}
use Rattle.store.specs.HeldStore.{row_of}
use Rattle.pausing.specs.Stretches.{slot_in}
use Rattle.runner.proofs.outputs.row_in.Goals as goal

pub returns : goal.returns
unfolding row_of slot_in value_at
returns c = rw (c.of.ensures, c.value_at-value.ensures, c.count_at.ensures)
