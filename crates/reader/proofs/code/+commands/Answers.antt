use Prim.Native.Nat.{ℕ, ◌+◌, ◌-◌, ◌<◌}
use mathlib.Core.Path.{◌≡◌, refl}
use native.Mathlib.Omega.{arith}
use lib.ListN.{length}
use borrow.Author.Tests.{le-ltb, lt-ltb, lt-leb}
use Rattle.std.specs.Prelude.{Ok, Err}
use Rattle.values.specs.Result.{require}
use Rattle.syntax.specs.Syntax.{skip, if, while, nil}
use Rattle.syntax.specs.Code.{skip_byte, assign_byte, seq_byte, if_byte, while_byte, body_by, read_cmds, read_seq, read_cmd}
use Rattle.syntax.specs.Rows.{rows_body, body_operands, rows_all, all_operands}
use Rattle.reader.specs.CodeReader.{spot_at, row_on, limit_of, read_guarded}
use Rattle.reader.proofs.CodeReaderTables.{emitted_from, emitted_none}
use Rattle.reader.proofs.CodeReaderRoom.{Onwards, bytes_on, on_on, can_go, small_on, guard_short, part_taken, guard_on, cmd_onwards, guarded_onwards}
use Rattle.reader.proofs.CodeReaderParts.{handed_on, refused, later, stopped, stopped_on, went, ended, reads_as}
use Rattle.reader.proofs.CodeReaderCommands.{body_deep, cmd_reads, while_guarded, if_guarded, cmds_more, cmds_went, seq_counted}
use Rattle.reader.proofs.CodeReaderEmission.{guarded_emitted, while_emitted, bare_emitted, if_emitted}
use Rattle.reader.proofs.code.+commands.Goals as goal
use Rattle.reader.proofs.code.+commands.Goals.{read_guarded-In_ok-inside, read_if-In_ok-jump, read_if-In_ok-end, read_while-In_ok-jump}

pub read_cmd-returns-in_err-command : goal.read_cmd-returns-in_err-command
read_cmd-returns-in_err-command t c =
    handed_on _ _ c.from_residual.result c.from_residual.ensures (stopped _ (refused refl (c.in_err-command.ensures c.args.deep c.args.slots)))

pub read_cmd-returns-then-deep-eq0 : goal.read_cmd-returns-then-deep-eq0
read_cmd-returns-then-deep-eq0 t c =
    stopped _ (refused c.too_deep.ensures (body_deep _ _ _ _ c.in_ok-command.command c.if-deep-eq0.true c.in_ok-command.ensures.1))

pub read_cmd-returns-in-Skip : goal.read_cmd-returns-in-Skip
unfolding body_by rows_body body_operands
read_cmd-returns-in-Skip t c = let a = c.args in
    cmd_reads a.deep a.depth a.slots a.code.now (limit_of (length a.code.now) a.from) a.from a.tables.now a.tables.now skip_byte (Ok (spot_at (a.from.at + 1) a.from.row a.from.operand)) (omega arith)
    (rw c.in-Skip.is at c.in_ok-command.ensures.1) (ended skip (emitted_none _ _ _ refl refl))

pub read_cmd-returns-in-Assign : goal.read_cmd-returns-in-Assign
unfolding body_by
read_cmd-returns-in-Assign t c =
    let a = c.args in
    cmd_reads a.deep a.depth a.slots a.code.now _ a.from a.tables.now c.read_assign.new.tables assign_byte c.read_assign.result (omega arith)
    (rw c.in-Assign.is at c.in_ok-command.ensures.1) c.read_assign.ensures

pub read_cmd-returns-in-Sequence : goal.read_cmd-returns-in-Sequence
unfolding body_by
read_cmd-returns-in-Sequence t c =
    let a = c.args in
    cmd_reads a.deep a.depth a.slots a.code.now _ a.from a.tables.now c.read_seq.new.tables seq_byte c.read_seq.result (omega arith)
    (rw c.in-Sequence.is at c.in_ok-command.ensures.1) c.read_seq.ensures

pub read_cmd-returns-in-If : goal.read_cmd-returns-in-If
unfolding body_by
read_cmd-returns-in-If t c =
    let a = c.args in
    cmd_reads a.deep a.depth a.slots a.code.now _ a.from a.tables.now c.read_if.new.tables if_byte c.read_if.result (omega arith)
    (rw c.in-If.is at c.in_ok-command.ensures.1) c.read_if.ensures

pub read_cmd-returns-in-While : goal.read_cmd-returns-in-While
unfolding body_by
read_cmd-returns-in-While t c =
    let a = c.args in
    cmd_reads a.deep a.depth a.slots a.code.now _ a.from a.tables.now c.read_while.new.tables while_byte c.read_while.result (omega arith)
    (rw c.in-While.is at c.in_ok-command.ensures.1) c.read_while.ensures

-- where reading stands after a guard, ..
inside_on : (t : ℕ) (c : read_guarded-In_ok-inside t) → Onwards (length c.args.code.now) c.args.from (row_on c.in_ok-inside.inside)
inside_on t c = guard_on refl (part_taken _ _ _ _ c.in_ok-inside.ensures)

pub read_guarded-returns-in_err-inside : goal.read_guarded-returns-in_err-inside
unfolding read_guarded
read_guarded-returns-in_err-inside t c =
    handed_on _ _ c.from_residual.result c.from_residual.ensures (later (bytes_on (omega arith) (omega (arith, c.requires.1))) (stopped _ c.in_err-inside.ensures))

pub read_guarded-read_cmd-requires : goal.read_guarded-read_cmd-requires
read_guarded-read_cmd-requires t c =
    (omega arith, can_go _ c.requires.0 (inside_on t (goal.at.read_guarded-read_cmd-requires t c).In_ok-inside) (omega arith))

pub read_guarded-returns : goal.read_guarded-returns
unfolding read_guarded
read_guarded-returns t c =
    let z = c.in_ok-inside.ensures in
    let o = inside_on t (goal.at.read_guarded-returns t c).In_ok-inside in
    reads_as
    (λ to e. went _ z (went _ e (ended (record { guard = z.tree; inside = e.tree }) (guarded_emitted c.args.depth z.tree e.tree (emitted_from _ z.emitted) e.emitted))))
    (λ f u. stopped_on _ z (omega (arith, o.rows)) (omega (arith, o.operands)) (later o (stopped _ u))) c.read_cmd.result c.read_cmd.ensures

-- .. after a then-part, a jump's row being taken, ..
jump_on : (t : ℕ) (c : read_if-In_ok-jump t) → Onwards (length c.args.code.now) c.args.from (row_on c.in_ok-jump.jump)
jump_on t c = guarded_onwards _ _ _ _ c.in_ok-jump.ensures

-- .. after an else-part, ..
else_on : (t : ℕ) (c : read_if-In_ok-end t) → Onwards (length c.args.code.now) c.args.from c.in_ok-end.end
else_on t c = on_on (guarded_onwards _ _ _ _ c.in_ok-jump.ensures) (cmd_onwards _ _ _ _ c.in_ok-end.ensures)

-- .. and after a body
body_on : (t : ℕ) (c : read_while-In_ok-jump t) → Onwards (length c.args.code.now) c.args.from (row_on c.in_ok-jump.jump)
body_on t c = guarded_onwards _ _ _ _ c.in_ok-jump.ensures

pub read_if-returns-in_err-jump : goal.read_if-returns-in_err-jump
read_if-returns-in_err-jump t c =
    handed_on _ _ c.from_residual.result c.from_residual.ensures (rw if_guarded (stopped _ c.in_err-jump.ensures))

pub read_if-overflow_add-other : goal.read_if-overflow_add-other
read_if-overflow_add-other t c = omega (arith, (small_on c.requires.0 (jump_on t (goal.at.read_if-overflow_add-other t c).In_ok-jump)).row)

pub read_if-read_cmd-requires : goal.read_if-read_cmd-requires
read_if-read_cmd-requires t c =
    (omega arith, can_go _ c.requires.0 (jump_on t (goal.at.read_if-read_cmd-requires t c).In_ok-jump) (omega (arith, c.requires.0.level)))

pub read_if-returns-in_err-end : goal.read_if-returns-in_err-end
read_if-returns-in_err-end t c =
    let o = jump_on t (goal.at.read_if-returns-in_err-end t c).In_ok-jump in
    handed_on _ _ c.from_residual-in_err-end.result c.from_residual-in_err-end.ensures
    (rw if_guarded (stopped_on _ c.in_ok-jump.ensures (omega (arith, o.rows)) (omega (arith, o.operands)) (later o (stopped _ c.in_err-end.ensures))))

pub read_if-guard_row-requires : goal.read_if-guard_row-requires
read_if-guard_row-requires t c = guard_short _ c.requires.0 (jump_on t (goal.at.read_if-guard_row-requires t c).In_ok-jump) (omega arith)

pub read_if-returns-then-end-other : goal.read_if-returns-then-end-other
read_if-returns-then-end-other t c =
    let p = c.in_ok-jump.ensures in
    let q = c.in_ok-end.ensures in
    rw (if_guarded, c.guard_row.ensures)
    (went _ p (went _ q (ended (if p.tree.guard p.tree.inside q.tree)
    (bare_emitted c.args.depth c.args.from.at p.tree.guard p.tree.inside c.args.from p.emitted q.tree q.emitted c.if-end-other.true))))

pub read_if-guard_row-requires-2 : goal.read_if-guard_row-requires-2
read_if-guard_row-requires-2 t c = guard_short _ c.requires.0 (jump_on t (goal.at.read_if-guard_row-requires-2 t c).In_ok-jump) (omega arith)

pub read_if-overflow_cast-tables : goal.read_if-overflow_cast-tables
read_if-overflow_cast-tables t c = omega (arith, (small_on c.requires.0 (else_on t (goal.at.read_if-overflow_cast-tables t c).In_ok-end)).row)

pub read_if-bounds-tables-jump : goal.read_if-bounds-tables-jump
read_if-bounds-tables-jump t c = omega (arith, (small_on c.requires.0 (jump_on t (goal.at.read_if-bounds-tables-jump t c).In_ok-jump)).row)

pub read_if-returns : goal.read_if-returns
read_if-returns t c =
    let p = c.in_ok-jump.ensures in
    let q = c.in_ok-end.ensures in
    rw (if_guarded, c.guard_row-2.ensures)
    (went _ p (went _ q (ended (if p.tree.guard p.tree.inside q.tree)
    (if_emitted c.args.depth c.args.from.at p.tree.guard p.tree.inside c.args.from p.emitted q.tree q.emitted c.if-end-other.false))))

pub read_seq-returns-in_err-count : goal.read_seq-returns-in_err-count
unfolding read_seq require
read_seq-returns-in_err-count t c =
    handed_on _ _ c.from_residual.result c.from_residual.ensures (refused c.in_err-count.ensures.1 (rw (le-ltb _ _ c.in_err-count.ensures.0)))

pub read_seq-returns-then-count-lt-LEAST_COUNT : goal.read_seq-returns-then-count-lt-LEAST_COUNT
unfolding read_seq require
read_seq-returns-then-count-lt-LEAST_COUNT t c =
    refused c.ill_formed.ensures (rw (lt-ltb _ _ c.in_ok-count.ensures.0, c.in_ok-count.ensures.1, lt-leb _ _ c.if-count-lt-LEAST_COUNT.true))

pub read_seq-read_cmd-requires : goal.read_seq-read_cmd-requires
read_seq-read_cmd-requires t c = (omega arith, can_go _ c.requires.0 (on_on (bytes_on (omega arith) (omega (arith, c.in_ok-count.ensures.0))) c.loop-i.invariant.0) (omega (arith, c.requires.0.level)))

pub read_seq-loop-i-preserved : goal.read_seq-loop-i-preserved
read_seq-loop-i-preserved t c =
    let a = c.args in
    let l = c.loop-i.invariant in
    let o = on_on l.0 (cmd_onwards _ _ _ _ c.in_ok-here.ensures) in
    let h : c.in_ok-count.count - (c.loop-i.i + 1) ≡ c.in_ok-count.count - c.loop-i.i - 1 = omega arith in
    (o, λ r new b. l.1 r new (cmds_went a.depth (read_cmd a.deep a.slots a.code.now) _ _ new r (omega arith) c.in_ok-here.ensures (omega (arith, o.rows)) (omega (arith, o.operands)) (rw h at b)))

pub read_seq-returns-in_err-here : goal.read_seq-returns-in_err-here
read_seq-returns-in_err-here t c = let a = c.args in
    let l = c.loop-i.invariant in
    let k : 0 < c.in_ok-count.count - c.loop-i.i = omega arith in
    handed_on _ _ c.from_residual-in_err-here.result c.from_residual-in_err-here.ensures
    (seq_counted a.depth (read_cmd a.deep a.slots a.code.now) a.code.now a.from a.tables.now c.read_cmd.new.tables (Err c.in_err-here.field-0.0) c.in_ok-count.ensures.0 c.in_ok-count.ensures.1 (omega arith)
    (l.1 (Err c.in_err-here.field-0.0) c.read_cmd.new.tables (rw cmds_more (stopped _ (later l.0 c.in_err-here.ensures)))))

pub read_seq-returns : goal.read_seq-returns
unfolding read_cmds rows_all all_operands
read_seq-returns t c = let a = c.args in
    let h : c.in_ok-count.count - c.loop-i.i ≡ 0 = omega arith in
    let l = c.loop-i.invariant in
    seq_counted a.depth (read_cmd a.deep a.slots a.code.now) a.code.now a.from a.tables.now c.loop-i.tables (Ok c.loop-i.here) c.in_ok-count.ensures.0 c.in_ok-count.ensures.1 (omega arith)
    (l.1 (Ok c.loop-i.here) c.loop-i.tables (rw h (ended nil (emitted_none _ _ _ refl refl))))

pub read_while-returns-in_err-jump : goal.read_while-returns-in_err-jump
read_while-returns-in_err-jump t c =
    handed_on _ _ c.from_residual.result c.from_residual.ensures (rw while_guarded (stopped _ c.in_err-jump.ensures))

pub read_while-overflow_add-end : goal.read_while-overflow_add-end
read_while-overflow_add-end t c = omega (arith, (small_on c.requires.0 (body_on t (goal.at.read_while-overflow_add-end t c).In_ok-jump)).row)

pub read_while-guard_row-requires : goal.read_while-guard_row-requires
read_while-guard_row-requires t c = guard_short _ c.requires.0 (body_on t (goal.at.read_while-guard_row-requires t c).In_ok-jump) (omega arith)

pub read_while-bounds-tables-jump : goal.read_while-bounds-tables-jump
read_while-bounds-tables-jump t c = omega (arith, (small_on c.requires.0 (body_on t (goal.at.read_while-bounds-tables-jump t c).In_ok-jump)).row)

pub read_while-returns : goal.read_while-returns
read_while-returns t c =
    let p = c.in_ok-jump.ensures in
    rw (while_guarded, c.guard_row.ensures)
    (went _ p (ended (while p.tree.guard p.tree.inside) (while_emitted c.args.depth c.args.from.at p.tree.guard p.tree.inside c.args.from p.emitted)))
