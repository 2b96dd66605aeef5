use Rattle.lines.proofs.OwnerBytes.{one_byte}
use Rattle.lines.proofs.above.said_principals.Goals as goal

pub returns-clause-small : goal.returns-clause-small
returns-clause-small c = one_byte c.args.sheet.now (λ j. (c.type_inv.sheet j).fits) _ c.number_at.ensures
