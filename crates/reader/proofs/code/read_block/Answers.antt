use native.Mathlib.Omega.{arith}
use lib.ListN.{length}
use borrow.Author.Tests.{eq-eqb, ne_eqb}
use Rattle.values.specs.Result.{◌>>=◌, require}
use Rattle.syntax.specs.Code.{read_block}
use Rattle.syntax.specs.Rows.{end_row}
use Rattle.reader.specs.CodeReader.{spot_at, block_read}
use Rattle.reader.proofs.CodeReaderTables.{emitted_last, emitted_kept}
use Rattle.reader.proofs.CodeReaderParts.{handed_on}
use Rattle.reader.proofs.CodeReaderRoom.{Onwards, cmd_onwards, Small, small_on}
use Rattle.reader.proofs.code.read_block.Goals as goal
use Rattle.reader.proofs.code.read_block.Goals.{In_ok-end}

end_on : (c : In_ok-end) → Onwards (length c.args.code.now) (spot_at 0 c.args.row c.args.operand) c.in_ok-end.end
end_on c = cmd_onwards _ _ _ _ c.in_ok-end.ensures

end_small : (c : In_ok-end) → Small c.in_ok-end.end
end_small c = small_on c.requires (end_on c)

pub returns-in_err-end : goal.returns-in_err-end
unfolding block_read read_block ◌>>=◌
returns-in_err-end c =
    let t = c.in_err-end.ensures in
    handed_on _ _ c.from_residual.result c.from_residual.ensures record { is = rw t.is; kept = t.kept }

pub returns-then-end-code : goal.returns-then-end-code
unfolding block_read read_block require ◌>>=◌
returns-then-end-code c =
    let o = end_on (goal.at.returns-then-end-code c).In_ok-end in
    let z = c.in_ok-end.ensures in
    record { is = rw (z.is, ne_eqb _ _ c.if-end-code.true, c.ill_formed.ensures); kept = emitted_kept _ _ (omega (arith, o.rows)) (omega (arith, o.operands)) z.emitted }

pub offset_bounds-tables-end : goal.offset_bounds-tables-end
offset_bounds-tables-end c = omega (arith, (end_small (goal.at.offset_bounds-tables-end c).In_ok-end).row)

pub bounds-tables-end : goal.bounds-tables-end
bounds-tables-end c = omega (arith, (end_small (goal.at.bounds-tables-end c).In_ok-end).row)

pub overflow_add-result : goal.overflow_add-result
overflow_add-result c = omega (arith, (end_small (goal.at.overflow_add-result c).In_ok-end).row)

pub returns : goal.returns
unfolding block_read read_block require ◌>>=◌
returns c =
    let z = c.in_ok-end.ensures in
    record { tree = z.tree; is = rw (z.is, eq-eqb _ _ c.if-end-code.false, c.if-end-code.false); emitted = emitted_last end_row z.emitted }
