use Rattle.lines.proofs.Lines.{total_put}
use Rattle.lines.proofs.putting.Writer.put_total.Goals as goal

pub returns : goal.returns
returns c = total_put c.args.out.now c.args.slots c.counts_total.ensures c.put_field.ensures c.put_bytes.ensures
