use Rattle.lines.proofs.Lines.{answer_put}
use Rattle.lines.proofs.putting.Writer.put_answer.Goals as goal

pub returns : goal.returns
returns c = answer_put c.args.a c.put_fields.ensures c.put_bytes.ensures
