use Rattle.paths.proofs.SheetPaths.{few_principals}
use Rattle.paths.proofs.checkpoint.principal.Goals as goal

pub shared_ref_as_front-iter : goal.shared_ref_as_front-iter
shared_ref_as_front-iter c = few_principals _ c.requires.0
