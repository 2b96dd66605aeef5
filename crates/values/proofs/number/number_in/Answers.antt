use Rattle.std.proofs.Common.{◌∙◌}
use Rattle.values.proofs.BytesNumbers.{number_read_in}
use Rattle.values.proofs.number.number_in.Goals as goal

pub returns : goal.returns
returns c = c.from_le_bytes.ensures ∙ rw c.copy_from_slice.ensures.after (number_read_in c.args.bytes.now c.requires)
