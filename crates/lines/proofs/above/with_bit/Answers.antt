use Rattle.lines.proofs.PrincipalsAbove.{bit_added}
use Rattle.lines.proofs.above.with_bit.Goals as goal

pub returns : goal.returns
returns c = bit_added c.args.m c.args.p c.args.set _ c.from.ensures c.requires.1
