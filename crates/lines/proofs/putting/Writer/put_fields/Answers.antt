use Rattle.lines.proofs.Lines.{fields_put}
use Rattle.lines.proofs.putting.Writer.put_fields.Goals as goal

pub returns : goal.returns
returns c =
    fields_put c.args.a (rw c.from.ensures at c.put_field.ensures) c.put_field-2.ensures c.put_field-3.ensures (rw c.from-2.ensures at c.put_field-4.ensures)
