use Rattle.paths.proofs.CodeExtents.{jump_none, jump_one}
use Rattle.paths.proofs.walking.jump_rows.Goals as goal

pub returns-then-n-eq0 : goal.returns-then-n-eq0
returns-then-n-eq0 c = jump_none _ c.if-n-eq0.true

pub returns-else-n-eq0 : goal.returns-else-n-eq0
returns-else-n-eq0 c = jump_one _ c.if-n-eq0.false
