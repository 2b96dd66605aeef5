use Rattle.machine.proofs.SlotRows.{row_at_law}
use Rattle.machine.proofs.slots.row_of.Goals as goal

pub returns : goal.returns
returns c w s h = row_at_law w s _ _ h c.requires
