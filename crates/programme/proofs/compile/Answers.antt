use mathlib.Core.Path.{refl}
use Rattle.std.proofs.lemmas.Result.{err_from_is_err_and}
use Rattle.values.specs.Refusal.{said_at}
use Rattle.values.specs.Result.{unplaced}
use Rattle.syntax.specs.Sheet.{check_answer}
use Rattle.reader.proofs.CodeReaderTables.{kept_self}
use Rattle.programme.specs.CompiledSheet.{Compiles}
use Rattle.programme.proofs.compile.Goals as goal

-- a sheet that is refused before its code is read leaves the tables as they were
pub returns-in_err-k : goal.returns-in_err-k
unfolding Compiles check_answer said_at unplaced
returns-in_err-k c =
    let p = err_from_is_err_and c.from_residual.result c.from_residual.ensures.1 in
    rw (p.1, p.2, c.in_err-k.ensures.refused c.args.slots) (refl, (λ l. refl, kept_self _ _ _))
