use native.Mathlib.Omega.{arith}
use lib.ListN.{length-set}
use Rattle.paths.proofs.SheetPaths.{one_label, names_more, names_all}
use Rattle.paths.proofs.checkpoint.names_of.Goals as goal

pub loop-j-preserved : goal.loop-j-preserved
loop-j-preserved c =
    let i = c.loop-j.invariant in
    (simp length-set i.0, λ l h. names_more c.loop-j.names _ _ h i.0 (omega arith) (λ p k. one_label _ c.requires.table_good c.principal.ensures k) (i.1 l h))

pub returns : goal.returns
returns c l h = let i = c.loop-j.invariant in names_all c.loop-j.names _ h i.0 (omega arith) (i.1 l h)
