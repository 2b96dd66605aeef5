-- Laws of the bytes that rows and operands take at the least (`pair_width`, `expr_width`, specs/Rows.antt): what tables need room for. Assumes nothing.
use Prim.Native.Nat.{ℕ, zero, suc, ◌+◌, ◌*◌, ◌<◌, ◌≤◌}
use mathlib.Core.Path.{◌≡◌, refl}
use mathlib.Core.List.{List, ◌++◌}
use mathlib.Core.Bool.{Bool, true, false}
use native.Mathlib.Omega.{arith}
use lib.ListN.{length, get_or, length-append}
use lib.Dec.{ltb}
use borrow.Author.Tests.{ltb-true, ltb-false, leb-true, eqb-true}
use Rattle.values.specs.Result.{Result}
use Rattle.values.specs.declared.Value.{Value}
use Rattle.values.specs.Value.{value_width}
use Rattle.values.proofs.Result.{Post, Any, post_ok, post_refuse, post_require, post_bind}
use Rattle.syntax.specs.Syntax.{Op, Expr, read, operation, Cmd, Body, Cmds}
use Rattle.syntax.specs.Code.{Fault, Read, read_value, read_literal, read_expr, most_nested, expr_at, CmdByte, skip_byte, assign_byte, seq_byte, if_byte, while_byte, cmd_byte, read_cmds, read_assign, read_seq, read_if, read_while, body_by, placed, read_body, read_cmd, most_deep, read_block}
use Rattle.syntax.specs.Rows.{more_come, postfix, operands_of, cmd_operands, body_operands, all_operands, size, size_body, size_all, expr_width, pair_width}
use Rattle.syntax.proofs.CodeFirstByte.{body_none, body_deep, expr_reads}
use Rattle.syntax.proofs.RowsPostfix.{postfix_length, operation_length}
use Rattle.syntax.proofs.Rows.{between_most}

-- so many rows and operands are read from `at` up to `next` of `all` bytes
pub record Spans (all at next r o : ℕ) : Type 0 where
  pub within : next ≤ all
  pub rows : pair_width * r + 2 * at ≤ 2 * next
  pub operands : pair_width * o + 2 * at ≤ 2 * next

-- a literal's value ends where its width does
pub record Wide (all at next : ℕ) : Type 0 where
  pub within : next ≤ all
  pub wide : next ≡ at + value_width

abbrev ValueSpans : ℕ → ℕ → Read Value → Type 0
ValueSpans all at x = Wide all at x.next

-- an expression's operands: one for its first literal, and two for each operation and its right operand's first
pub record Spanned (all at next o : ℕ) : Type 0 where
  pub within : next ≤ all
  pub wide : at + expr_width ≤ next
  pub operands : pair_width * (o + 1) + 2 * at ≤ 2 * (next + 1)

abbrev ExprSpans : ℕ → ℕ → Read Expr → Type 0
ExprSpans all at x = Spanned all at x.next (length (operands_of x.tree))

abbrev BodySpans : ℕ → ℕ → Read Body → Type 0
BodySpans all at x = Spans all at x.next (size_body x.tree) (length (body_operands x.tree))

abbrev CmdSpans : ℕ → ℕ → Read Cmd → Type 0
CmdSpans all at x = Spans all at x.next (size x.tree) (length (cmd_operands x.tree))

abbrev CmdsSpans : ℕ → ℕ → Read Cmds → Type 0
CmdsSpans all at x = Spans all at x.next (size_all x.tree) (length (all_operands x.tree))

module _ (m : ℕ) (s : List ℕ) where
  pub value_spans : (at : ℕ) → Post (ValueSpans (length s) at) Any (read_value m s at)
  unfolding read_value
  value_spans at =
      post_require _ _ _ _ _ (λ _. post_require _ _ _ _ _ (λ _. post_require _ _ _ _ _ (λ w.
      post_require _ _ _ _ _ (λ _. post_ok _ _ _ (record { within = leb-true _ _ w; wide = refl })) (λ _. tt)) (λ _. tt)) (λ _. tt)) (λ _. tt)

  lit_spans : (at : ℕ) → Post (ExprSpans (length s) at) Any (read_literal m s at)
  unfolding read_literal postfix
  lit_spans at =
      post_bind (ValueSpans (length s) (at + 1)) _ _ _ _ (value_spans (at + 1))
      (λ v p. post_ok _ _ _ (record { within = p.within; wide = omega (arith, p.wide); operands = omega (arith, p.wide) }))

  read_spans : (at : ℕ) (e : Read Expr) → ExprSpans (length s) (at + 1) e
      → ExprSpans (length s) at (record { tree = read e.tree; next = e.next })
  unfolding postfix
  read_spans at e p =
      let l = postfix_length e.tree 1 0 in
      record { within = p.within; wide = omega (arith, p.wide); operands = omega (arith, l, p.operands) }

  operation_spans : (at : ℕ) (o : Op) (l r : Read Expr) → ExprSpans (length s) (at + 1) l → ExprSpans (length s) l.next r
      → ExprSpans (length s) at (record { tree = operation o l.tree r.tree; next = r.next })
  unfolding postfix
  operation_spans at o l r p q =
      let e = operation_length o l.tree r.tree 0 in
      record { within = q.within; wide = omega (arith, p.wide, q.wide); operands = omega (arith, e, postfix_length l.tree more_come 0, postfix_length r.tree more_come 0, p.operands, q.operands) }

  pub expr_deep : (d at : ℕ) → Post (ExprSpans (length s) at) Any (read_expr d m s at)
  expr_deep d at =
      expr_reads Any (λ _. tt) (λ _. tt) s (λ _. ExprSpans (length s)) m (λ _. lit_spans) (λ _. read_spans) (λ _. operation_spans) d at

  pub expr_spans : (at : ℕ) → Post (ExprSpans (length s) at) Any (expr_at m s at)
  expr_spans at = expr_deep most_nested at

module _ (m : ℕ) (s : List ℕ) (f : ℕ → Result Fault (Read Cmd)) (inner : (p : ℕ) → Post (CmdSpans (length s) p) Any (f p)) where
  cmds_spans : (n p : ℕ) → p ≤ length s → Post (CmdsSpans (length s) p) Any (read_cmds f n p)
  unfolding read_cmds size_all all_operands
  cmds_spans zero p h = post_ok _ _ _ (record { within = h; rows = omega arith; operands = omega arith })
  cmds_spans (suc n) p h =
      post_bind (CmdSpans (length s) p) _ _ _ _ (inner p)
      (λ c i. post_bind (CmdsSpans (length s) c.next) _ _ _ _ (cmds_spans n c.next i.within)
      (λ cs j. let e = length-append (cmd_operands c.tree) (all_operands cs.tree) in
      post_ok _ _ _ (record { within = j.within; rows = omega (arith, i.rows, j.rows); operands = omega (arith, e, i.operands, j.operands) })))

  body_by_law : (at : ℕ) → at < length s → (y : CmdByte) → Post (BodySpans (length s) at) Any (body_by y f m s at)
  unfolding body_by size_body body_operands read_assign read_seq read_if read_while
  body_by_law at h skip_byte = post_ok _ _ _ (record { within = omega arith; rows = omega arith; operands = omega arith })
  body_by_law at h assign_byte =
      post_bind (ExprSpans (length s) (at + 1)) _ _ _ _ (expr_spans m s (at + 1))
      (λ x p. post_bind (ExprSpans (length s) x.next) _ _ _ _ (expr_spans m s x.next)
      (λ v q. let e = length-append (operands_of x.tree) (operands_of v.tree) in
      post_ok _ _ _ (record { within = q.within; rows = omega (arith, p.wide, q.wide); operands = omega (arith, e, p.operands, q.operands) })))
  body_by_law at h seq_byte =
      post_require _ _ _ _ _
      (λ i. post_require _ _ _ _ _
      (λ _. post_bind (CmdsSpans (length s) (at + 2)) _ _ _ _
      (cmds_spans (get_or s (at + 1) 0) (at + 2) (omega (arith, ltb-true (at + 1) (length s) i)))
      (λ cs p. post_ok _ _ _ (record { within = p.within; rows = omega (arith, p.rows); operands = omega (arith, p.operands) })))
      (λ _. tt))
      (λ _. tt)
  body_by_law at h if_byte =
      post_bind (ExprSpans (length s) (at + 1)) _ _ _ _ (expr_spans m s (at + 1))
      (λ g p. post_bind (CmdSpans (length s) g.next) _ _ _ _ (inner g.next)
      (λ c i. post_bind (CmdSpans (length s) c.next) _ _ _ _ (inner c.next)
      (λ d j. let e = length-append (cmd_operands c.tree) (cmd_operands d.tree) in
      let f = length-append (operands_of g.tree) (cmd_operands c.tree ++ cmd_operands d.tree) in
      post_ok _ _ _ (record {
        within = j.within;
        rows = omega (arith, p.wide, i.rows, j.rows, between_most (size d.tree));
        operands = omega (arith, e, f, p.operands, i.operands, j.operands);
      }))))
  body_by_law at h while_byte =
      post_bind (ExprSpans (length s) (at + 1)) _ _ _ _ (expr_spans m s (at + 1))
      (λ g p. post_bind (CmdSpans (length s) g.next) _ _ _ _ (inner g.next)
      (λ c i. let e = length-append (operands_of g.tree) (cmd_operands c.tree) in
      post_ok _ _ _ (record { within = i.within; rows = omega (arith, p.wide, i.rows); operands = omega (arith, e, p.operands, i.operands) })))
  body_by_law at h CmdByte.unknown_byte = post_refuse _ _ _ tt
  body_by_law at h CmdByte.no_byte = post_refuse _ _ _ tt

placed_spans : (all at : ℕ) (r : Result Fault (Read Body)) → Post (BodySpans all at) Any r → Post (CmdSpans all at) Any (placed at r)
unfolding size cmd_operands
placed_spans all at r h = post_bind (BodySpans all at) _ _ _ _ h (λ b p. post_ok _ _ _ p)

-- a body from `at` on, where a byte stands there and where none does
body_split : (d m : ℕ) (s : List ℕ) (at : ℕ) → (at < length s → Post (BodySpans (length s) at) Any (read_body d m s at))
    → Post (BodySpans (length s) at) Any (read_body d m s at)
body_split d m s at f = go (ltb at (length s)) refl
  where
    go : (b : Bool) → ltb at (length s) ≡ b → Post (BodySpans (length s) at) Any (read_body d m s at)
    go true t = f (ltb-true _ _ t)
    go false t = rw (body_none d m s at (ltb-false _ _ t)) (post_refuse _ _ _ tt)

body_spans : (d m : ℕ) (s : List ℕ) (at : ℕ) → Post (BodySpans (length s) at) Any (read_body d m s at)
unfolding read_body
body_spans zero m s at = body_deep Any (λ _. tt) (λ _. tt) s _ at (cmd_byte s at)
body_spans (suc d) m s at =
    body_split (suc d) m s at
    (λ h. body_by_law m s (λ p. placed p (read_body d m s p)) (λ p. placed_spans (length s) p (read_body d m s p) (body_spans d m s p)) at h (cmd_byte s at))

pub cmd_spans : (d m : ℕ) (s : List ℕ) (at : ℕ) → Post (CmdSpans (length s) at) Any (read_cmd d m s at)
cmd_spans d m s at = placed_spans (length s) at (read_body d m s at) (body_spans d m s at)

-- a block's command, over all its bytes
pub block_spans : (m : ℕ) (s : List ℕ) → Post (λ c. Spans (length s) 0 (length s) (size c) (length (cmd_operands c))) Any (read_block m s)
unfolding read_block
block_spans m s =
    post_bind (CmdSpans (length s) 0) _ _ _ _ (cmd_spans most_deep m s 0)
    (λ c h. post_require _ _ _ _ _ (λ e. post_ok _ _ _ (rw (eqb-true c.next (length s) e) at h)) (λ _. tt))
