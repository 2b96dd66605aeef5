-- A block that was read (`read_block`) lies in its code from first byte to last, and nests no deeper than commands may. Assumes nothing.
use Prim.Native.Nat.{ℕ, zero, suc, ◌+◌, ◌-◌, ◌≤◌, ◌<◌}
use mathlib.Core.Path.{◌≡◌, refl, sym}
use mathlib.Core.Bool.{Bool, true, false}
use mathlib.Core.List.{List}
use native.Mathlib.Omega.{arith}
use lib.ListN.{length, get_or}
use lib.Dec.{eqb, ltb}
use borrow.Author.Tests.{ltb-true, eqb-true}
use Rattle.values.specs.Result.{Result, ok}
use Rattle.values.proofs.Result.{Post, Any, post_ok, post_refuse, post_require, post_bind, post_at}
use Rattle.syntax.specs.Syntax.{sum, difference, less, equal, Expr, Cmd, Body, Cmds}
use Rattle.syntax.specs.Rows.{byte_of}
use Rattle.syntax.specs.Code.{Fault, Read, ExprByte, literal_byte, read_byte, operation_byte, expr_sorted, expr_byte, read_literal, read_operation, expr_by, expr_too_deep, read_expr, most_nested, CmdByte, skip_byte, assign_byte, seq_byte, if_byte, while_byte, sorted, cmd_byte, read_cmds, read_assign, read_seq, read_if, read_while, body_by, read_body, read_cmd, most_deep, read_block}
use Rattle.syntax.proofs.CodeFirstByte.{body_deep}
use Rattle.syntax.proofs.RowsByteSpans.{Wide, value_spans}
use Rattle.paths.specs.CodeLayout.{count, opcode, ExprLies, Lies, LiesBody, LieAll, Levels, LevelsBody, LevelsAll}
use Rattle.paths.proofs.CodeLayout.{expr_within}

-- Expressions.
module _ (s : List ℕ) where
  -- the byte that was sorted
  unfoldable ExprIs : ExprByte → ℕ → Type 0
  ExprIs literal_byte at = get_or s at 0 ≡ 0x10
  ExprIs read_byte at = get_or s at 0 ≡ 0x11
  ExprIs (operation_byte o) at = get_or s at 0 ≡ byte_of o
  ExprIs ExprByte.unknown_byte at = Unit {0}
  ExprIs ExprByte.no_byte at = Unit {0}

  expr_is : (at : ℕ) → ExprIs (expr_byte s at) at
  unfolding ExprIs expr_byte expr_sorted byte_of
  expr_is at =
      go (ltb at (length s)) (eqb b 0x10) (eqb b 0x11) (eqb b 0x12) (eqb b 0x13) (eqb b 0x14) (eqb b 0x15) refl refl refl refl refl refl
    where
      b : ℕ
      b = get_or s at 0

      go : (n p q r t u v : Bool) → eqb b 0x10 ≡ p → eqb b 0x11 ≡ q → eqb b 0x12 ≡ r → eqb b 0x13 ≡ t → eqb b 0x14 ≡ u → eqb b 0x15 ≡ v
          → ExprIs (elim n [
            | true ↦ elim p [
              | true ↦ literal_byte
              | false ↦ elim q [
                | true ↦ read_byte
                | false ↦ elim r [
                  | true ↦ operation_byte sum
                  | false ↦ elim t [
                    | true ↦ operation_byte difference
                    | false ↦ elim u [ true ↦ operation_byte less | false ↦ elim v [ true ↦ operation_byte equal | false ↦ ExprByte.unknown_byte ] ]
                  ]
                ]
              ]
            ]
            | false ↦ ExprByte.no_byte
          ]) at
      go true true q r t u v i j k l m n = eqb-true b 0x10 i
      go true false true r t u v i j k l m n = eqb-true b 0x11 j
      go true false false true t u v i j k l m n = eqb-true b 0x12 k
      go true false false false true u v i j k l m n = eqb-true b 0x13 l
      go true false false false false true v i j k l m n = eqb-true b 0x14 m
      go true false false false false false true i j k l m n = eqb-true b 0x15 n
      go true false false false false false false i j k l m n = tt
      go false p q r t u v i j k l m n = tt

  abbrev ExprRead : ℕ → Read Expr → Type 0
  ExprRead at r = ExprLies s r.tree at r.next

  module _ (m : ℕ) where
    literal_read : (at : ℕ) → get_or s at 0 ≡ 0x10 → Post (ExprRead at) Any (read_literal m s at)
    unfolding read_literal ExprLies
    literal_read at b =
        post_bind (λ v. Wide (length s) (at + 1) v.next) _ _ _ _ (value_spans m s (at + 1))
        (λ v w. post_ok _ _ _ (b, omega (arith, w.wide), w.within))

    expr_by_law : (inner : ℕ → Result Fault (Read Expr)) → ((p : ℕ) → Post (ExprRead p) Any (inner p)) → (at : ℕ) (y : ExprByte) → ExprIs y at
        → Post (ExprRead at) Any (expr_by y inner m s at)
    unfolding ExprIs expr_by read_operation ExprLies
    expr_by_law inner f at literal_byte b = literal_read at b
    expr_by_law inner f at read_byte b = post_bind (ExprRead (at + 1)) _ _ _ _ (f (at + 1)) (λ e h. post_ok _ _ _ (b, h))
    expr_by_law inner f at (operation_byte o) b =
        post_bind (ExprRead (at + 1)) _ _ _ _ (f (at + 1)) λ l h.
        post_bind (ExprRead l.next) _ _ _ _ (f l.next) (λ r k. post_ok _ _ _ (b, record { middle = l.next; first = h; then = k }))
    expr_by_law inner f at ExprByte.unknown_byte b = post_refuse _ _ _ tt
    expr_by_law inner f at ExprByte.no_byte b = post_refuse _ _ _ tt

    expr_deepest : (at : ℕ) (y : ExprByte) → ExprIs y at → Post (ExprRead at) Any (expr_too_deep y m s at)
    unfolding ExprIs expr_too_deep
    expr_deepest at literal_byte b = literal_read at b
    expr_deepest at read_byte b = post_refuse _ _ _ tt
    expr_deepest at (operation_byte o) b = post_refuse _ _ _ tt
    expr_deepest at ExprByte.unknown_byte b = post_refuse _ _ _ tt
    expr_deepest at ExprByte.no_byte b = post_refuse _ _ _ tt

    expr_read : (deep at : ℕ) → Post (ExprRead at) Any (read_expr deep m s at)
    unfolding read_expr
    expr_read zero at = expr_deepest at (expr_byte s at) (expr_is at)
    expr_read (suc deep) at = expr_by_law (read_expr deep m s) (expr_read deep) at (expr_byte s at) (expr_is at)

-- Commands.
module _ (s : List ℕ) where
  unfoldable CmdIs : CmdByte → ℕ → Type 0
  CmdIs skip_byte at = (get_or s at 0 ≡ 0x20) × (at < length s)
  CmdIs assign_byte at = get_or s at 0 ≡ 0x21
  CmdIs seq_byte at = get_or s at 0 ≡ 0x22
  CmdIs if_byte at = get_or s at 0 ≡ 0x23
  CmdIs while_byte at = get_or s at 0 ≡ 0x24
  CmdIs CmdByte.unknown_byte at = Unit {0}
  CmdIs CmdByte.no_byte at = Unit {0}

  cmd_is : (at : ℕ) → CmdIs (cmd_byte s at) at
  unfolding CmdIs cmd_byte sorted
  cmd_is at = go (ltb at (length s)) (eqb b 0x20) (eqb b 0x21) (eqb b 0x22) (eqb b 0x23) (eqb b 0x24) refl refl refl refl refl refl
    where
      b : ℕ
      b = get_or s at 0

      go : (n p q r t u : Bool) → ltb at (length s) ≡ n → eqb b 0x20 ≡ p → eqb b 0x21 ≡ q → eqb b 0x22 ≡ r → eqb b 0x23 ≡ t → eqb b 0x24 ≡ u
          → CmdIs (elim n [
            | true ↦ elim p [
              | true ↦ skip_byte
              | false ↦ elim q [
                | true ↦ assign_byte
                | false ↦ elim r [
                  | true ↦ seq_byte
                  | false ↦ elim t [ true ↦ if_byte | false ↦ elim u [ true ↦ while_byte | false ↦ CmdByte.unknown_byte ] ]
                ]
              ]
            ]
            | false ↦ CmdByte.no_byte
          ]) at
      go true true q r t u l x y z v w = (eqb-true b 0x20 x, ltb-true at (length s) l)
      go true false true r t u l x y z v w = eqb-true b 0x21 y
      go true false false true t u l x y z v w = eqb-true b 0x22 z
      go true false false false true u l x y z v w = eqb-true b 0x23 v
      go true false false false false true l x y z v w = eqb-true b 0x24 w
      go true false false false false false l x y z v w = tt
      go false p q r t u l x y z v w = tt

  -- what was read lies between `at` and where reading goes on; it nests as deep as there were levels
  record CmdRead (deep at : ℕ) (r : Read Cmd) : Type 0 where
    lies : Lies s r.tree at r.next
    levels : (n : ℕ) → deep ≤ n → Levels r.tree n
    on : at < r.next
    within : r.next ≤ length s

  record BodyRead (deep at : ℕ) (r : Read Body) : Type 0 where
    byte : get_or s at 0 ≡ opcode r.tree
    lies : LiesBody s r.tree at r.next
    levels : (n : ℕ) → deep ≤ n + 1 → LevelsBody r.tree n
    on : at < r.next
    within : r.next ≤ length s

  record CmdsRead (deep k at : ℕ) (r : Read Cmds) : Type 0 where
    lie : LieAll s r.tree at r.next
    counted : count r.tree ≡ k
    levels : (n : ℕ) → deep ≤ n → LevelsAll r.tree n
    on : at ≤ r.next
    within : r.next ≤ length s

  module _ (m deep : ℕ) (f : ℕ → Result Fault (Read Cmd)) (inner : (p : ℕ) → Post (CmdRead deep p) Any (f p)) where
    cmds_read : (n p : ℕ) → p ≤ length s → Post (CmdsRead deep n p) Any (read_cmds f n p)
    unfolding read_cmds LieAll count LevelsAll
    cmds_read zero p k = post_ok _ _ _ (record { lie = refl; counted = refl; levels = λ d h. tt; on = omega arith; within = k })
    cmds_read (suc n) p k =
        post_bind (CmdRead deep p) _ _ _ _ (inner p)
        (λ c i. post_bind (CmdsRead deep n c.next) _ _ _ _ (cmds_read n c.next i.within)
        (λ cs j. post_ok _ _ _ (record {
          lie = record { middle = c.next; first = i.lies; then = j.lie };
          counted = omega (arith, j.counted);
          levels = λ d h. (i.levels d h, j.levels d h);
          on = omega (arith, i.on, j.on);
          within = j.within;
        })))

    body_by_law : (at : ℕ) (y : CmdByte) → CmdIs y at → Post (BodyRead (suc deep) at) Any (body_by y f m s at)
    unfolding CmdIs body_by read_assign read_seq read_if read_while LiesBody opcode LevelsBody
    body_by_law at skip_byte b = post_ok _ _ _ (record { byte = b.0; lies = refl; levels = λ d h. tt; on = omega arith; within = omega (arith, b.1) })
    body_by_law at assign_byte b =
        post_bind (ExprRead s (at + 1)) _ _ _ _ (expr_read s m most_nested (at + 1))
        (λ x p. post_bind (ExprRead s x.next) _ _ _ _ (expr_read s m most_nested x.next)
        (λ v q. let w = expr_within s x.tree (at + 1) x.next p in
        let u = expr_within s v.tree x.next v.next q in
        post_ok _ _ _ (record { byte = b; lies = record { middle = x.next; first = p; then = q }; levels = λ d h. tt; on = omega (arith, w.0, u.0); within = u.1 })))
    body_by_law at seq_byte b =
        post_require _ _ _ _ _
        (λ l. post_require _ _ _ _ _
        (λ _. post_bind (CmdsRead deep (get_or s (at + 1) 0) (at + 2)) _ _ _ _
        (cmds_read (get_or s (at + 1) 0) (at + 2) (omega (arith, ltb-true (at + 1) (length s) l)))
        (λ cs j. post_ok _ _ _ (record {
          byte = b;
          lies = (sym j.counted, ltb-true (at + 1) (length s) l, j.lie);
          levels = λ d h. j.levels d (omega arith);
          on = omega (arith, j.on);
          within = j.within;
        }))) (λ _. tt))
        (λ _. tt)
    body_by_law at if_byte b =
        post_bind (ExprRead s (at + 1)) _ _ _ _ (expr_read s m most_nested (at + 1))
        (λ g p. post_bind (CmdRead deep g.next) _ _ _ _ (inner g.next)
        (λ c i. post_bind (CmdRead deep c.next) _ _ _ _ (inner c.next)
        (λ e j. let w = expr_within s g.tree (at + 1) g.next p in
        post_ok _ _ _ (record {
          byte = b;
          lies = record { middle = g.next; first = p; then = record { middle = c.next; first = i.lies; then = j.lies } };
          levels = λ d h. (i.levels d (omega arith), j.levels d (omega arith));
          on = omega (arith, w.0, i.on, j.on);
          within = j.within;
        }))))
    body_by_law at while_byte b =
        post_bind (ExprRead s (at + 1)) _ _ _ _ (expr_read s m most_nested (at + 1))
        (λ g p. post_bind (CmdRead deep g.next) _ _ _ _ (inner g.next)
        (λ c i. let w = expr_within s g.tree (at + 1) g.next p in
        post_ok _ _ _ (record {
          byte = b;
          lies = record { middle = g.next; first = p; then = i.lies };
          levels = λ d h. i.levels d (omega arith);
          on = omega (arith, w.0, i.on);
          within = i.within;
        })))
    body_by_law at CmdByte.unknown_byte b = post_refuse _ _ _ tt
    body_by_law at CmdByte.no_byte b = post_refuse _ _ _ tt

  cmd_read : (deep m at : ℕ) → Post (CmdRead deep at) Any (read_cmd deep m s at)
  unfolding read_body Lies Levels
  cmd_read zero m at = post_bind (λ _. ⊥) _ _ _ _ (body_deep Any (λ _. tt) (λ _. tt) s _ at (cmd_byte s at)) (λ b p. absurd p)
  cmd_read (suc deep) m at =
      post_bind (BodyRead (suc deep) at) _ _ _ _ (body_by_law m deep _ (λ p. cmd_read deep m p) at (cmd_byte s at) (cmd_is at))
      (λ b p. post_ok _ _ _ (record {
        lies = (p.byte, p.on, p.within, p.lies);
        levels = λ n h. (omega arith, p.levels (n - 1) (omega arith));
        on = p.on;
        within = p.within;
      }))

  block_read_law : (m : ℕ) → Post (λ (c : Cmd). Lies s c 0 (length s) × Levels c most_deep) Any (read_block m s)
  unfolding read_block
  block_read_law m =
      post_bind (CmdRead most_deep 0) _ _ _ _ (cmd_read most_deep m 0)
      (λ c h. post_require _ _ _ _ _ (λ e. post_ok _ _ _ (rw (eqb-true c.next (length s) e) at h.lies, h.levels most_deep (omega arith))) (λ _. tt))

-- a block that was read lies in its code, from the first byte to the last ..
pub block_lies : (m : ℕ) (s : List ℕ) (c : Cmd) → read_block m s ≡ ok c → Lies s c 0 (length s)
block_lies m s c e = (post_at _ _ (read_block m s) c (block_read_law s m) e).0

-- .. and nests no deeper than commands may
pub block_levels : (m : ℕ) (s : List ℕ) (c : Cmd) → read_block m s ≡ ok c → Levels c most_deep
block_levels m s c e = (post_at _ _ (read_block m s) c (block_read_law s m) e).1
