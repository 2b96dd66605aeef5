use mathlib.Core.Path.{◌∙◌}
use Rattle.runner.proofs.run.Goals as goal

pub returns : goal.returns
returns c = let r = c.both_passes.ensures in (c.answered.ensures ∙ r.answered_is, r.written, r.filled)
