-- Laws of the code reader (specs/CodeReader.antt): the cases of reading expressions, by the first byte and after an operation's. Assumes nothing.
use Prim.Native.Nat.{ℕ, zero, suc, ◌+◌, ◌-◌, ◌<◌, ◌≤◌}
use mathlib.Core.Path.{◌≡◌, refl, sym, ap, ◌∙◌}
use mathlib.Core.Bool.{Bool, true, false}
use mathlib.Core.List.{List, []}
use native.Mathlib.Numerals.{sub-one}
use native.Mathlib.Nat.{add-zero}
use native.Mathlib.Omega.{arith}
use lib.ListN.{length, get_or}
use lib.Dec.{eqb}
use borrow.Author.Tests.{eqb-true, eqb-false}
use Rattle.std.specs.Prelude.{Ok, Err}
use Rattle.std.specs.Prelude as std
use Rattle.reader.specs.declared.Fault as reader
use Rattle.values.specs.Result.{refuse, ◌>>=◌}
use Rattle.values.proofs.Result.{bind_ok, bind_assoc}
use Rattle.reader.specs.declared.Spot.{Spot}
use Rattle.syntax.specs.declared.Compiled.{Compiled}
use Rattle.syntax.specs.Syntax.{Op, Expr, read, operation}
use Rattle.syntax.specs.Code.{Fault, up_to, ill_formed, ends_early, too_deep, ExprByte, operation_byte, expr_sorted, read_literal, read_operation, expr_by, expr_too_deep, read_expr}
use Rattle.syntax.specs.Rows.{more_come, byte_of, operand, postfix}
use Rattle.reader.specs.CodeReader.{spot_at, Emitted, PartReads, ReadsAt}
use Rattle.syntax.proofs.CodeFirstByte.{expr_ends, expr_stands, expr_is_literal, expr_is_read, expr_is_operation, expr_operation, operation_of}
use Rattle.reader.proofs.CodeReaderTables.{operand_on, put_operand, emitted_on, own_put}
use Rattle.reader.proofs.CodeReaderParts.{reads_as, passed}
use Rattle.reader.proofs.CodeReaderRoom.{bytes_on}

-- What is refused by its first byte.
module _ (deep m : ℕ) (s : List ℕ) (at : ℕ) where
  pub part_none : length s ≤ at → read_expr deep m s at ≡ refuse (ends_early s)
  unfolding read_expr expr_by expr_too_deep
  part_none h = go deep
    where
      go : (d : ℕ) → read_expr d m s at ≡ refuse (ends_early s)
      go zero = rw (expr_ends s at h)
      go (suc d) = rw (expr_ends s at h)

  pub part_unknown : at < length s → expr_sorted (get_or s at 0) ≡ ExprByte.unknown_byte → read_expr deep m s at ≡ refuse (ill_formed at)
  unfolding read_expr expr_by expr_too_deep
  part_unknown h u = go deep
    where
      go : (d : ℕ) → read_expr d m s at ≡ refuse (ill_formed at)
      go zero = rw (expr_stands s at h, u)
      go (suc d) = rw (expr_stands s at h, u)

  pub part_literal : at < length s → get_or s at 0 ≡ 0x10 → read_literal m s at ≡ read_expr deep m s at
  unfolding read_expr expr_by expr_too_deep
  part_literal h b = go deep
    where
      go : (d : ℕ) → read_literal m s at ≡ read_expr d m s at
      go zero = rw (expr_is_literal s at h b)
      go (suc d) = rw (expr_is_literal s at h b)

  -- where neither a read nor an operation is allowed any more
  deep_refused : (b : ℕ) → 0x11 ≤ b → b ≤ 0x15 → expr_too_deep (expr_sorted b) m s at ≡ refuse (too_deep at)
  unfolding expr_too_deep expr_sorted
  deep_refused b h k = go (eqb b 0x11) refl
    where
      go : (x : Bool) → eqb b 0x11 ≡ x → expr_too_deep (expr_sorted b) m s at ≡ refuse (too_deep at)
      go true p = rw (eqb-true b 0x11 p)
      go false p =
          let o = operation_of b (omega (arith, eqb-false b 0x11 p)) k in
          let e : expr_sorted b ≡ operation_byte o.0 = ap expr_sorted (sym o.1) ∙ expr_operation o.0 in
          rw e

  pub part_too_deep : deep ≡ 0 → at < length s → 0x11 ≤ get_or s at 0 → get_or s at 0 ≤ 0x15 → read_expr deep m s at ≡ refuse (too_deep at)
  unfolding read_expr
  part_too_deep z h i j = rw (z, expr_stands s at h, deep_refused (get_or s at 0) i j)

  pub part_read : 0 < deep → at < length s → get_or s at 0 ≡ 0x11
      → read_expr deep m s at ≡ (read_expr (deep - 1) m s (at + 1) >>= λ e. up_to e.next (read e.tree))
  unfolding read_expr expr_by
  part_read z h b = go deep z
    where
      go : (d : ℕ) → 0 < d → read_expr d m s at ≡ (read_expr (d - 1) m s (at + 1) >>= λ e. up_to e.next (read e.tree))
      go zero y = absurd (omega arith)
      go (suc d) y = rw (expr_is_read s at h b, sub-one)

  pub part_operation : (o : Op) → 0 < deep → at < length s → byte_of o ≡ get_or s at 0
      → read_expr deep m s at ≡ read_operation o (read_expr (deep - 1) m s) (at + 1)
  unfolding read_expr expr_by
  part_operation o z h b = go deep z
    where
      go : (d : ℕ) → 0 < d → read_expr d m s at ≡ read_operation o (read_expr (d - 1) m s) (at + 1)
      go zero y = absurd (omega arith)
      go (suc d) y = rw (expr_is_operation s at o h b, sub-one)

-- Reads in a row.
module _ (m : ℕ) (s : List ℕ) where
  unfoldable wrap : ℕ → Expr → Expr
  wrap zero e = e
  wrap (suc n) e = read (wrap n e)

  postfix_wrap : (n reads : ℕ) (e : Expr) → postfix reads (wrap n e) ≡ postfix (reads + n) e
  unfolding wrap postfix
  postfix_wrap zero reads e = rw (add-zero reads)
  postfix_wrap (suc n) reads e = let h : reads + 1 + n ≡ reads + suc n = omega arith in rw (postfix_wrap n (reads + 1) e, h)

  -- what is read after them gives what is read from the first of them on
  reads_on : (n at at' deep left : ℕ) → at' ≡ at + n → left + n ≡ deep → at' ≤ length s → ((i : ℕ) → i < n → get_or s (at + i) 0 ≡ 0x11)
      → read_expr deep m s at ≡ (read_expr left m s at' >>= λ e. up_to e.next (wrap n e.tree))
  unfolding wrap ◌>>=◌
  reads_on zero at at' deep left p q h f =
      let i : at' ≡ at = omega arith in let j : left ≡ deep = omega arith in rw (i, j) (sym (bind_ok (read_expr deep m s at)))
  reads_on (suc n) at at' deep left p q h f =
      let e : at + 0 ≡ at = omega arith in
      rw (
        part_read deep m s at (omega arith) (omega arith) (rw e at (f 0 (omega arith))),
        reads_on n (at + 1) at' (deep - 1) left (omega arith) (omega arith) h
            (λ i k. let d : at + (i + 1) ≡ at + 1 + i = omega arith in rw d at (f (i + 1) (omega arith))),
        bind_assoc,
      )

  -- .. and so does what is refused
  pub reads_refused : (at deep n : ℕ) {g : Fault} → ReadsAt s at deep n → read_expr (deep - n) m s (at + n) ≡ refuse g → read_expr deep m s at ≡ refuse g
  unfolding ◌>>=◌
  reads_refused at deep n k e = rw (reads_on n at (at + n) deep (deep - n) refl (omega (arith, k.few)) k.inside k.each, e)

  -- after all of them
  pub after_reads : (deep outer n : ℕ) (from : Spot) (old new : Compiled) (r : std.Result Spot reader.Fault) → ReadsAt s from.at deep n
      → PartReads (outer + n) s (read_expr (deep - n) m s (from.at + n)) (spot_at (from.at + n) from.row from.operand) old new r
      → PartReads outer s (read_expr deep m s from.at) from old new r
  unfolding ◌>>=◌
  after_reads deep outer n from old new r k y =
      rw (reads_on n from.at (from.at + n) deep (deep - n) refl (omega (arith, k.few)) k.inside k.each)
      (passed _ _ _ _ r (bytes_on (omega arith) k.inside)
      (reads_as (λ to z. record { tree = wrap n z.tree; is = rw z.is; emitted = rw (postfix_wrap n outer z.tree) z.emitted }) (λ f t. record { is = rw t.is; kept = t.kept }) r y))

-- the byte after them is no read, where another would be allowed
pub no_read : (s : List ℕ) (at most n : ℕ) → ReadsAt s at most n → n < most → at + n < length s → 0x11 ≤ get_or s (at + n) 0 → 0x11 < get_or s (at + n) 0
no_read s at most n k h w i = go (eqb (get_or s (at + n) 0) 0x11) refl
  where
    go : (x : Bool) → eqb (get_or s (at + n) 0) 0x11 ≡ x → 0x11 < get_or s (at + n) 0
    go true p = absurd (omega (arith, k.last h (eqb-true (get_or s (at + n) 0) 0x11 p)))
    go false p = omega (arith, eqb-false (get_or s (at + n) 0) 0x11 p)

-- the operands of both parts, then the operation's own
pub operation_emitted : (o : Op) (reads : ℕ) (l r : Expr) {from middle end : Spot} {old mid new : Compiled} → Emitted [] (postfix more_come l) from middle old mid
    → Emitted [] (postfix more_come r) middle end mid new
    → Emitted [] (postfix reads (operation o l r)) from (operand_on end) old (put_operand end.operand (operand (byte_of o) reads 0) new)
unfolding postfix
operation_emitted o reads l r {end = end} {new = new} p q =
    emitted_on p (emitted_on q (own_put (operand (byte_of o) reads 0) end (operand_on end) new refl refl))
