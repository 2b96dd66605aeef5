use Rattle.printing.proofs.InputSizes.{sizes_small}
use Rattle.printing.proofs.sizes_of.Goals as goal

pub returns-clause-small : goal.returns-clause-small
returns-clause-small c = sizes_small c.args.sheet.now (λ j. (c.type_inv.sheet j).fits) _ _ c.number_at-n.ensures c.number_at-m.ensures
