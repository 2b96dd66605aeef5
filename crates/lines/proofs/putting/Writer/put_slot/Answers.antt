use Rattle.lines.proofs.Lines.{slot_puts}
use Rattle.lines.proofs.putting.Writer.put_slot.Goals as goal

pub returns : goal.returns
returns c =
    let a = c.args in
    slot_puts a.slot a.owner a.v a.writes a.above c.put_field.ensures c.put_field-2.ensures (rw c.from.ensures at c.put_field-3.ensures)
    c.put_payload.ensures c.put_field-4.ensures c.put_field-5.ensures c.put_bytes.ensures
