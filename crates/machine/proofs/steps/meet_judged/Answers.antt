use mathlib.Core.Path.{sym, ◌∙◌}
use Rattle.machine.proofs.StepJudgements.{meet_two, meet_three}
use Rattle.machine.proofs.steps.meet_judged.Goals as goal

pub returns-then-branches : goal.returns-then-branches
returns-then-branches c t r x y b p q tx ly cb o = meet_three t r x y b _ _ _ tx ly cb o (sym q ∙ c.if-branches.true)

pub returns-else-branches : goal.returns-else-branches
returns-else-branches c t r x y b p q tx ly cb o = meet_two t r x y b _ _ _ tx ly cb o p (sym q ∙ c.if-branches.false)
