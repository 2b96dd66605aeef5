use native.Mathlib.Omega.{arith}
use lib.ListN.{length}
use Rattle.syntax.specs.Syntax.{assign}
use Rattle.syntax.specs.Code.{read_assign}
use Rattle.reader.proofs.CodeReaderRoom.{Onwards, bytes_on, on_on, part_taken, taken_on, can_go, small_on}
use Rattle.reader.proofs.CodeReaderParts.{handed_on, later, stopped, stopped_on, went, ended}
use Rattle.reader.proofs.CodeReaderTables.{emitted_from}
use Rattle.reader.proofs.CodeReaderEmission.{assign_emitted}
use Rattle.reader.proofs.expression.read_assign.Goals as goal
use Rattle.reader.proofs.expression.read_assign.Goals.{In_ok-value}

value_on : (c : In_ok-value) → Onwards (length c.args.code.now) c.args.from c.in_ok-value.value
value_on c = on_on (bytes_on (omega arith) (omega arith)) (taken_on (part_taken _ _ _ _ c.in_ok-value.ensures))

pub returns-in_err-value : goal.returns-in_err-value
unfolding read_assign
returns-in_err-value c =
    handed_on _ _ c.from_residual.result c.from_residual.ensures (later (bytes_on (omega arith) (omega arith)) (stopped _ c.in_err-value.ensures))

pub read_expr-requires-2 : goal.read_expr-requires-2
read_expr-requires-2 c = can_go 0 c.requires.0 (value_on (goal.at.read_expr-requires-2 c).In_ok-value) (omega arith)

pub returns-in_err-end : goal.returns-in_err-end
unfolding read_assign
returns-in_err-end c =
    let o = value_on (goal.at.returns-in_err-end c).In_ok-value in
    handed_on _ _ c.from_residual-in_err-end.result c.from_residual-in_err-end.ensures (stopped_on _ c.in_ok-value.ensures (omega (arith, o.rows)) (omega (arith, o.operands)) (later o (stopped _ c.in_err-end.ensures)))

pub overflow_cast-tables-4 : goal.overflow_cast-tables-4
overflow_cast-tables-4 c = omega (arith, (small_on c.requires.0 (value_on (goal.at.overflow_cast-tables-4 c).In_ok-value)).operand)

pub returns : goal.returns
unfolding read_assign
returns c =
    let p = c.in_ok-value.ensures in
    let q = c.in_ok-end.ensures in
    went _ p (went _ q (ended (assign p.tree q.tree) (assign_emitted c.args.from.at c.args.depth p.tree q.tree (emitted_from _ p.emitted) q.emitted)))
