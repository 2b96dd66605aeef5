use mathlib.Core.Path.{refl}
use Rattle.machine.proofs.RuleTerms.{serves_under}
use Rattle.machine.proofs.rules.terms_of.Goals as goal

pub returns : goal.returns
returns c = λ w u. serves_under w _ _ _ _ _ _ u c.floor_of.ensures refl c.top_mask.ensures
