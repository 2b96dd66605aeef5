use Rattle.lines.specs.Lines.{field}
use Rattle.lines.proofs.PutText.{written_then}
use Rattle.lines.proofs.putting.Writer.put_field.Goals as goal

pub returns : goal.returns
unfolding field
returns c = written_then c.put_bytes.ensures c.put_digits.ensures
