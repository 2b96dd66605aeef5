use Prim.Native.Nat.{ℕ, ◌+◌, ◌-◌, ◌≤◌}
use lib.ListN.{get_or}
use Rattle.syntax.specs.Syntax.{operation}
use mathlib.Core.Path.{◌∙◌}
use native.Mathlib.Omega.{arith}
use Rattle.syntax.specs.Code.{read_operation}
use Rattle.syntax.specs.Rows.{most_operands}
use Rattle.syntax.proofs.CodeFirstByte.{expr_low, expr_high, operation_of}
use Rattle.reader.proofs.CodeReaderRoom.{bytes_on, part_taken, taken_on, both_on, can_go, small_on}
use Rattle.reader.proofs.CodeReaderParts.{handed_on, refused, later, stopped, stopped_on, went, ended, passed}
use Rattle.reader.proofs.CodeReaderExpressions.{part_none, part_unknown, part_literal, part_too_deep, part_operation, reads_refused, after_reads, no_read, operation_emitted}
use Rattle.reader.proofs.expression.+expressions.Goals as goal
use Rattle.reader.proofs.expression.+expressions.Goals.{read_operation-In_ok-end, read_part-in_default-via-then-first-lt16, read_part-in_default-via-else-first-lt16+else-first-lt22}

pub read_operation-returns-in_err-middle : goal.read_operation-returns-in_err-middle
unfolding read_operation
read_operation-returns-in_err-middle t c o e =
    handed_on _ _ c.from_residual.result c.from_residual.ensures (stopped _ c.in_err-middle.ensures)

-- the operation's own operand has room
own_fits : (t : ℕ) (c : read_operation-In_ok-end t) → c.in_ok-end.end.operand + 1 ≤ most_operands
own_fits t c =
    (small_on c.requires.0 (both_on (part_taken _ _ _ _ c.in_ok-middle.ensures) (part_taken _ _ _ _ c.in_ok-end.ensures))).operand

pub read_operation-read_part-requires-2 : goal.read_operation-read_part-requires-2
read_operation-read_part-requires-2 t c =
    (omega arith, (can_go 0 c.requires.0 (taken_on (part_taken _ _ _ _ c.in_ok-middle.ensures)) (omega arith), omega (arith, c.requires.1), omega arith))

pub read_operation-returns-in_err-end : goal.read_operation-returns-in_err-end
unfolding read_operation
read_operation-returns-in_err-end t c o e =
    let o = taken_on (part_taken _ _ _ _ c.in_ok-middle.ensures) in
    handed_on _ _ c.from_residual-in_err-end.result c.from_residual-in_err-end.ensures (stopped_on _ c.in_ok-middle.ensures (omega (arith, o.rows)) (omega (arith, o.operands)) (later o (stopped _ c.in_err-end.ensures)))

pub read_operation-offset_bounds-tables-end : goal.read_operation-offset_bounds-tables-end
read_operation-offset_bounds-tables-end t c = omega (arith, own_fits t c)

pub read_operation-bounds-tables-end : goal.read_operation-bounds-tables-end
read_operation-bounds-tables-end t c = omega (arith, own_fits t (goal.at.read_operation-bounds-tables-end t c).In_ok-end)

pub read_operation-overflow_add-result : goal.read_operation-overflow_add-result
read_operation-overflow_add-result t c = omega (arith, own_fits t (goal.at.read_operation-overflow_add-result t c).In_ok-end)

pub read_operation-returns : goal.read_operation-returns
unfolding read_operation
read_operation-returns t c o e =
    let p = c.in_ok-middle.ensures in
    let q = c.in_ok-end.ensures in
    rw (← e) (went _ p (went _ q (ended (operation o p.tree q.tree) (operation_emitted o c.args.reads p.tree q.tree p.emitted q.emitted))))

pub read_part-returns-in_err-first : goal.read_part-returns-in_err-first
read_part-returns-in_err-first t c =
    handed_on _ _ c.from_residual.result c.from_residual.ensures
    (refused c.in_err-first.ensures.1 (reads_refused _ _ _ _ _ c.reads_at-reads.ensures (part_none _ _ _ _ c.in_err-first.ensures.0)))

pub read_part-returns-then-reads-deep : goal.read_part-returns-then-reads-deep
read_part-returns-then-reads-deep t c =
    refused c.too_deep.ensures
    (reads_refused _ _ _ _ _ c.reads_at-reads.ensures (part_too_deep _ _ _ _ (omega arith) c.in_ok-first.ensures.0 (omega (arith, c.in_ok-first.ensures.1)) (omega (arith, c.in_ok-first.ensures.1))))

pub read_part-returns-in-16 : goal.read_part-returns-in-16
read_part-returns-in-16 t c =
    let a = c.args in
    let k = c.reads_at-reads.ensures in
    after_reads a.slots a.code.now a.deep a.outer c.reads_at-reads.result a.from a.tables.now c.read_literal.new.tables c.read_literal.result k
    (rw (part_literal (a.deep - c.reads_at-reads.result) a.slots a.code.now (a.from.at + c.reads_at-reads.result) c.in_ok-first.ensures.0 (c.in_ok-first.ensures.1 ∙ c.in-16.is)) at c.read_literal.ensures)

pub read_part-returns-else-reads-deep : goal.read_part-returns-else-reads-deep
read_part-returns-else-reads-deep t c =
    let a = c.args in
    let k = c.reads_at-reads.ensures in
    let b = c.in_ok-first.ensures in
    let o = operation_of (get_or a.code.now (a.from.at + c.reads_at-reads.result) 0)
    (no_read _ _ _ _ k (omega (arith, k.few)) b.0 (omega (arith, b.1))) (omega (arith, b.1)) in
    after_reads a.slots a.code.now a.deep a.outer c.reads_at-reads.result a.from a.tables.now c.read_operation.new.tables c.read_operation.result k
    (passed _ _ _ _ c.read_operation.result (bytes_on (omega arith) (omega (arith, b.0)))
    (rw (← part_operation (a.deep - c.reads_at-reads.result) a.slots a.code.now (a.from.at + c.reads_at-reads.result) o.0 (omega (arith, k.few)) b.0 o.1) at
    (c.read_operation.ensures o.0 (o.1 ∙ b.1))))

pub read_part-returns-in_default : goal.read_part-returns-in_default
read_part-returns-in_default t c =
    refused c.ill_formed.ensures
    (reads_refused _ _ _ _ _ c.reads_at-reads.ensures (part_unknown _ _ _ _ c.in_ok-first.ensures.0
    (elim c.in_default.branch [
      | read_part-in_default-via-then-first-lt16 w ↦ expr_low _ (λ e. omega (arith, c.in_ok-first.ensures.1)) (omega (arith, c.in_ok-first.ensures.1))
      | read_part-in_default-via-else-first-lt16+else-first-lt22 w ↦ expr_high _ (omega (arith, c.in_ok-first.ensures.1))
    ])))
