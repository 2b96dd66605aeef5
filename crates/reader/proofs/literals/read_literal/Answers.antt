use Prim.Native.Nat.{◌+◌}
use mathlib.Core.Path.{refl}
use native.Mathlib.Omega.{arith}
use Rattle.values.specs.Result.{◌>>=◌}
use Rattle.values.proofs.Result.{post_at}
use Rattle.syntax.specs.Syntax.{literal}
use Rattle.syntax.specs.Code.{read_literal}
use Rattle.syntax.specs.Rows.{postfix}
use Rattle.syntax.proofs.RowsByteSpans.{value_spans}
use Rattle.reader.proofs.CodeReaderTables.{own_put}
use Rattle.reader.proofs.CodeReaderParts.{refused, handed_on}
use Rattle.reader.proofs.literals.read_literal.Goals as goal

pub returns-in_err-value : goal.returns-in_err-value
unfolding read_literal ◌>>=◌
returns-in_err-value c =
    handed_on _ _ c.from_residual.result c.from_residual.ensures (refused refl (rw c.in_err-value.ensures))

pub bounds-tables-from : goal.bounds-tables-from
bounds-tables-from c = omega (arith, (post_at _ _ _ _ (value_spans c.args.slots c.args.code.now (c.args.from.at + 1)) c.in_ok-value.ensures).within)

pub returns : goal.returns
unfolding read_literal postfix ◌>>=◌
returns c = record { tree = literal c.in_ok-value.value; is = rw c.in_ok-value.ensures; emitted = own_put _ _ _ _ refl refl }
