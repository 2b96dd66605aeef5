use Rattle.lines.proofs.OwnerBytes.{owner_read}
use Rattle.lines.proofs.Lines.{slot_next, slots_none}
use Rattle.lines.proofs.putting.Writer.put_slots.Goals as goal

pub loop-i-init : goal.loop-i-init
loop-i-init c = slots_none _ _ _ _

pub loop-i-preserved : goal.loop-i-preserved
loop-i-preserved c =
    let a = c.args in
    slot_next a.sheet.now a.out.now c.loop-i.i _ _ _ _
    (owner_read a.sheet.now _ _ _ c.said_principals-n.ensures.value c.number_at-owner.ensures)
    c.value_at-v.ensures
    c.count_at-writes.ensures
    c.number_above-above.ensures
    c.loop-i.invariant
    c.put_slot.ensures
