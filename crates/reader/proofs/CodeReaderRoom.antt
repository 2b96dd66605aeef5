-- Laws of the room that is left (`CanRead`, specs/CodeReader.antt): what was read takes no more than its bytes can come to. Assumes nothing.
use Prim.Native.Nat.{ℕ, ◌+◌, ◌*◌, ◌<◌, ◌≤◌}
use mathlib.Core.Path.{◌≡◌}
use mathlib.Core.List.{List}
use native.Mathlib.Omega.{arith}
use lib.ListN.{length, length-append}
use Rattle.values.proofs.Result.{Post, Any, post_ok, post_bind, post_at}
use Rattle.reader.specs.declared.Spot.{Spot}
use Rattle.syntax.specs.declared.Compiled.{Compiled}
use Rattle.syntax.specs.Code.{read_expr, read_cmd, most_deep}
use Rattle.syntax.specs.Rows.{operands_of, cmd_operands, size, expr_width, pair_width, most_rows, most_operands}
use Rattle.reader.specs.CodeReader.{part_emits, cmd_emits, read_guarded, guarded_emits, spot_at, row_on, limit_of, Ended, CanRead, Short}
use Rattle.syntax.specs.Sheet.{most_code}
use Rattle.syntax.proofs.RowsPostfix.{postfix_length}
use Rattle.syntax.proofs.Rows.{rows_length}
use Rattle.syntax.proofs.RowsByteSpans.{Spans, expr_deep, expr_spans, cmd_spans}
use Rattle.reader.proofs.CodeReaderTables.{operand_on}

-- from one spot of `all` bytes to another
pub record Onwards (all : ℕ) (from to : Spot) : Type 0 where
  pub onwards : from.at ≤ to.at
  pub inside : to.at ≤ all
  pub rows : (limit_of all to).rows ≤ (limit_of all from).rows
  pub operands : (limit_of all to).operands ≤ (limit_of all from).operands

-- bytes are passed, ..
pub bytes_on : {all : ℕ} {from : Spot} {at : ℕ} → from.at ≤ at → at ≤ all → Onwards all from (spot_at at from.row from.operand)
bytes_on h k = record { onwards = h; inside = k; rows = omega arith; operands = omega arith }

-- .. or something is read
spans_onwards : (all r o : ℕ) {from to : Spot} → Spans all from.at to.at r o → to.row ≤ from.row + r → to.operand ≡ from.operand + o → Onwards all from to
spans_onwards all r o w p q =
    record {
      onwards = omega (arith, w.operands);
      inside = w.within;
      rows = omega (arith, w.rows, w.within, w.operands);
      operands = omega (arith, w.within, w.operands);
    }

pub on_on : {all : ℕ} {a b c : Spot} → Onwards all a b → Onwards all b c → Onwards all a c
on_on p q = record {
  onwards = omega (arith, p.onwards, q.onwards);
  inside = q.inside;
  rows = omega (arith, p.rows, q.rows);
  operands = omega (arith, p.operands, q.operands);
}

pub at_level : {code : List ℕ} {from : Spot} {levels : ℕ} (levels' : ℕ) → CanRead code from levels → levels' ≤ most_deep → CanRead code from levels'
at_level levels' c h = record { short = c.short; inside = c.inside; rows = c.rows; operands = c.operands; level = h }

-- Reading can go on from there.
pub can_go : {code : List ℕ} {from to : Spot} {levels : ℕ} (levels' : ℕ) → CanRead code from levels → Onwards (length code) from to → levels' ≤ most_deep
    → CanRead code to levels'
can_go levels' c p h = record {
  short = c.short;
  inside = p.inside;
  rows = omega (arith, c.rows, p.rows);
  operands = omega (arith, c.operands, p.operands);
  level = h;
}

-- the numbers of a spot from which reading can go on
pub record Small (s : Spot) : Type 0 where
  pub at : s.at ≤ most_code
  pub row : s.row < most_rows
  pub operand : s.operand ≤ most_operands

pub small : {code : List ℕ} {from : Spot} {levels : ℕ} → CanRead code from levels → Small from
small c = record {
  at = omega (arith, c.short, c.inside);
  row = omega (arith, c.rows);
  operand = omega (arith, c.operands);
}

-- .. and of one further on
pub small_on : {code : List ℕ} {from to : Spot} {levels : ℕ} → CanRead code from levels → Onwards (length code) from to → Small to
small_on c p = small (can_go 0 c p (omega arith))

-- the numbers of a guard's row, which may name a row up to one further on
pub guard_short : {code : List ℕ} {from to : Spot} {depth n : ℕ} (deep : ℕ) → CanRead code from (depth + deep + 1) → Onwards (length code) from to → n ≤ to.row
    → Short depth × Short from.at × Short from.operand × Short n
guard_short deep c p h =
    let a = small c in
    (omega (arith, c.level), omega (arith, a.at), omega (arith, a.operand), omega (arith, (small_on c p).row))

-- An expression's bytes, and the operands that it takes; it takes no rows.
pub record Taken (all : ℕ) (from to : Spot) : Type 0 where
  pub within : to.at ≤ all
  pub wide : from.at + expr_width ≤ to.at
  pub row : to.row ≡ from.row
  pub operands : pair_width * (to.operand + 1) + 2 * from.at ≤ 2 * (to.at + 1) + pair_width * from.operand

pub taken_on : {all : ℕ} {from to : Spot} → Taken all from to → Onwards all from to
taken_on w = record {
  onwards = omega (arith, w.wide);
  inside = w.within;
  rows = omega (arith, w.wide, w.row);
  operands = omega (arith, w.within, w.operands);
}

-- two of them leave room for an operand more
pub both_on : {all : ℕ} {a b c : Spot} → Taken all a b → Taken all b c → Onwards all a (operand_on c)
both_on p q = record {
  onwards = omega (arith, p.wide, q.wide);
  inside = q.within;
  rows = omega (arith, p.wide, q.wide, p.row, q.row);
  operands = omega (arith, q.within, p.operands, q.operands);
}

-- a command's own byte and a guard have room for a row more
pub guard_on : {all at : ℕ} {from to : Spot} → at ≡ from.at + 1 → Taken all (spot_at at from.row from.operand) to → Onwards all from (row_on to)
guard_on h w = record {
  onwards = omega (arith, w.wide);
  inside = w.within;
  rows = omega (arith, w.within, w.wide, w.row);
  operands = omega (arith, w.within, w.operands);
}

-- What was read is onwards.
module _ (deep : ℕ) (m : ℕ) (s : List ℕ) where
  pub part_taken : (reads : ℕ) {from to : Spot} {old new : Compiled} → Ended (part_emits reads) (read_expr deep m s from.at) from to old new
      → Taken (length s) from to
  part_taken reads {from = from} z =
      let w = post_at _ _ _ _ (expr_deep m s deep from.at) z.is in
      let l = postfix_length z.tree reads 0 in
      record {
        within = w.within;
        wide = w.wide;
        row = omega (arith, z.emitted.rows_on);
        operands = omega (arith, w.operands, l, z.emitted.operands_on);
      }

  pub cmd_onwards : (depth : ℕ) {from to : Spot} {old new : Compiled} → Ended (cmd_emits depth) (read_cmd deep m s from.at) from to old new
      → Onwards (length s) from to
  cmd_onwards depth {from = from} z =
      spans_onwards _ _ _ (post_at _ _ _ _ (cmd_spans deep m s from.at) z.is)
      (omega (arith, z.emitted.rows_on, rows_length z.tree depth from.row from.operand)) z.emitted.operands_on

  guarded_spans : (depth at : ℕ) → Post (λ x. Spans (length s) at x.next (size x.tree.inside + 2) (length ((guarded_emits depth).operands x.tree))) Any
      (read_guarded (read_cmd deep m s) m s at)
  unfolding read_guarded
  guarded_spans depth at =
      post_bind _ _ _ _ _ (expr_spans m s (at + 1))
      (λ g p. post_bind _ _ _ _ _ (cmd_spans deep m s g.next)
      (λ c i. let l = length-append (operands_of g.tree) (cmd_operands c.tree) in
      post_ok _ _ _ (record { within = i.within; rows = omega (arith, p.wide, i.rows); operands = omega (arith, l, p.operands, i.operands) })))

  -- the first command inside a guard, whose own row is taken; a jump's row is paid for too
  pub guarded_onwards : (depth : ℕ) {from to : Spot} {old new : Compiled}
      → Ended (guarded_emits depth) (read_guarded (read_cmd deep m s) m s from.at) (row_on from) to old new → Onwards (length s) from (row_on to)
  guarded_onwards depth {from = from} z =
      let n = from.operand + length (operands_of z.tree.guard) in
      spans_onwards _ _ _ (post_at _ _ _ _ (guarded_spans depth from.at) z.is)
      (omega (arith, z.emitted.rows_on, rows_length z.tree.inside (depth + 1) (from.row + 1) n)) z.emitted.operands_on
