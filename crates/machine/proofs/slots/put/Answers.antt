use Rattle.machine.proofs.SlotRowWrite.{put_inside}
use Rattle.machine.proofs.slots.put.Goals as goal

pub returns : goal.returns
returns c w s x h formed slot kind payload owner = put_inside w s x _ h _ _ _ _ formed slot kind payload owner c.requires.0
