use Rattle.paths.proofs.CodeLayout.{some_within}
use Rattle.paths.proofs.CodeParts.{skip_steps, other_steps}
use Rattle.paths.proofs.walking.takes_step.Goals as goal

pub bounds-code-at : goal.bounds-code-at
bounds-code-at c = some_within _ c.requires

pub returns-then-byte-ne-SKIP : goal.returns-then-byte-ne-SKIP
returns-then-byte-ne-SKIP c = other_steps _ _ c.if-byte-ne-SKIP.true

pub returns-else-byte-ne-SKIP : goal.returns-else-byte-ne-SKIP
returns-else-byte-ne-SKIP c = skip_steps _ _ c.if-byte-ne-SKIP.false
