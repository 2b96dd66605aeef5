use mathlib.Core.Path.{◌∙◌}
use Rattle.runner.specs.StretchRun.{from_of}
use Rattle.runner.proofs.carrying.carry_on.Goals as goal

pub returns : goal.returns
unfolding from_of
returns c = let w = c.stretch.ensures in (c.answered.ensures ∙ w.answered_is, w.written, w.paused)
