use Rattle.paths.proofs.CodeBlanks.{jump_some, jump_not}
use Rattle.paths.proofs.walking.jump_before.Goals as goal

pub returns-in-Some : goal.returns-in-Some
returns-in-Some c = jump_not _ _ _ c.in-Some.ensures

pub returns-in-None : goal.returns-in-None
returns-in-None c = jump_some _ _ c.in-None.ensures
