-- Laws of `Emits` (specs/CodeReader.antt): what a command's parts put into the tables in turn is what the command has there. Assumes nothing.
use Prim.Native.Nat.{ℕ, ◌+◌, ◌<◌}
use mathlib.Core.Path.{◌≡◌, refl}
use mathlib.Core.List.{[], ◌++◌, append_assoc, append-nil}
use native.Mathlib.Omega.{arith}
use lib.ListN.{length, length-append}
use Rattle.reader.specs.declared.Spot.{Spot}
use Rattle.syntax.specs.declared.Compiled.{Compiled}
use Rattle.syntax.specs.declared.Row.{Row}
use Rattle.syntax.specs.Syntax.{Expr, Cmd, assign, if, while, Cmds, cons}
use Rattle.syntax.specs.Rows.{assign_row, guard_row, jump_row, operands_of, cmd_operands, body_operands, all_operands, size, rows_of, rows_body, rows_all}
use Rattle.reader.specs.CodeReader.{spot_at, row_on, Emitted}
use Rattle.reader.proofs.CodeReaderTables.{put, emitted_on, emitted_last, emitted_first, emitted_past, emitted_rowless}
use Rattle.syntax.proofs.Rows.{rows_length, no_rows, bare_rows, jump_rows}

-- target and value, then the assignment's row
pub assign_emitted : (at depth : ℕ) (x v : Expr) {from value end : Spot} {old mid new : Compiled}
    → Emitted [] (operands_of x) from value old mid → Emitted [] (operands_of v) value end mid new
    → Emitted (rows_body (assign x v) at depth from.row from.operand) (body_operands (assign x v)) from (row_on end) old
    (put end.row (assign_row depth at from.operand value.operand) new)
unfolding rows_body body_operands
assign_emitted at depth x v {from = from} p q = rw (← p.operands_on) (emitted_last _ (emitted_on p q))

-- a guard, then the first command inside it, past the guard's own row
pub guarded_emitted : (depth : ℕ) (g : Expr) (c : Cmd) {from mid to : Spot} {old now new : Compiled}
    → Emitted [] (operands_of g) from mid old now → Emitted (rows_of c (depth + 1) (mid.row + 1) mid.operand) (cmd_operands c) (row_on mid) to now new
    → Emitted (rows_of c (depth + 1) (from.row + 1) (from.operand + length (operands_of g))) (operands_of g ++ cmd_operands c) (row_on from) to old new
guarded_emitted depth g c {from = from} {mid = mid} p q =
    let e : mid.row ≡ from.row = omega (arith, p.rows_on) in
    rw (e, p.operands_on) at (emitted_on (emitted_rowless (mid.row + 1) refl p) q)

-- The guard's row is put in, and the jump's, once the rows after them are known.
module _ (depth at : ℕ) (g : Expr) (c : Cmd) (from : Spot) {jump : Spot} {old mid : Compiled}
    (p : Emitted (rows_of c (depth + 1) (from.row + 1) (from.operand + length (operands_of g))) (operands_of g ++ cmd_operands c) (row_on from) jump old mid) where
  -- the guard's row, with the row to go on at where it is false
  abbrev guard : ℕ → Row
  guard other = guard_row depth at from.operand other

  jump_is : jump.row ≡ from.row + 1 + size c
  jump_is = omega (arith, p.rows_on, rows_length c (depth + 1) (from.row + 1) (from.operand + length (operands_of g)))

  pub while_emitted : Emitted (rows_body (while g c) at depth from.row from.operand) (body_operands (while g c)) from (row_on jump) old
      (put jump.row (jump_row from.row) (put from.row (guard (jump.row + 1)) mid))
  unfolding rows_body body_operands
  while_emitted = rw (← jump_is) (emitted_last (jump_row from.row) (emitted_first (guard (jump.row + 1)) p))

  module _ (d : Cmd) {end : Spot} {new : Compiled}
      (q : Emitted (rows_of d (depth + 1) (jump.row + 1) jump.operand) (cmd_operands d) (row_on jump) end mid new) where
    -- the guard's row is put in before the else-part's rows, or after them
    guard_past : (other : ℕ) → Emitted (rows_of d (depth + 1) (jump.row + 1) jump.operand) (cmd_operands d) (row_on jump) end
        (put from.row (guard other) mid) (put from.row (guard other) new)
    guard_past other = emitted_past from.row (guard other) (omega (arith, jump_is)) q

    size_is : end.row ≡ jump.row + 1 + size d
    size_is = omega (arith, q.rows_on, rows_length d (depth + 1) (jump.row + 1) jump.operand)

    -- The else-part has no rows: nor is there a jump past it.
    pub bare_emitted : end.row ≡ jump.row + 1
        → Emitted (rows_body (if g c d) at depth from.row from.operand) (body_operands (if g c d)) from (spot_at end.at jump.row end.operand) old
        (put from.row (guard jump.row) new)
    unfolding body_operands
    bare_emitted h =
        let z : size d ≡ 0 = omega (arith, size_is) in
        rw (bare_rows g c d at depth from.row from.operand z, ← jump_is)
        (rw (append-nil, append_assoc) at
        (emitted_on (emitted_first (guard jump.row) p) (emitted_rowless jump.row (no_rows d (depth + 1) (jump.row + 1) jump.operand z) (guard_past jump.row))))

    pub if_emitted : (end.row ≡ jump.row + 1 → ⊥)
        → Emitted (rows_body (if g c d) at depth from.row from.operand) (body_operands (if g c d)) from end old
        (put jump.row (jump_row end.row) (put from.row (guard (jump.row + 1)) new))
    unfolding body_operands
    if_emitted h =
        let z : 0 < size d = omega (arith, size_is, h) in
        let n : from.operand + length (operands_of g) + length (cmd_operands c) ≡ jump.operand =
        omega (arith, p.operands_on, length-append (operands_of g) (cmd_operands c)) in
        rw (jump_rows g c d at depth from.row from.operand z, ← jump_is, ← size_is, n)
        (rw append_assoc at
        (emitted_on (emitted_first (guard (jump.row + 1)) p) (emitted_first (jump_row end.row) (guard_past (jump.row + 1)))))

-- a command, then those after it
pub cons_emitted : (depth : ℕ) (c : Cmd) (cs : Cmds) {from mid to : Spot} {old now new : Compiled}
    → Emitted (rows_of c depth from.row from.operand) (cmd_operands c) from mid old now → Emitted (rows_all cs depth mid.row mid.operand) (all_operands cs) mid to now new
    → Emitted (rows_all (cons c cs) depth from.row from.operand) (all_operands (cons c cs)) from to old new
unfolding rows_all all_operands
cons_emitted depth c cs {from = from} {mid = mid} p q =
    let e : mid.row ≡ from.row + size c = omega (arith, p.rows_on, rows_length c depth from.row from.operand) in
    rw (← e, ← p.operands_on) (emitted_on p q)
