-- Laws of the numbers of refusals: code is refused by 9 or 10 (specs/Code.antt), a programme sheet by 6 to 10 (specs/Sheet.antt). Assumes nothing.
use Prim.Native.Nat.{ℕ, zero, suc, ◌+◌, ◌≤◌}
use mathlib.Core.List.{List}
use native.Mathlib.Omega.{arith}
use Rattle.values.specs.declared.Answer.{Answer}
use Rattle.values.specs.Result.{Result, unplaced}
use Rattle.values.proofs.Result.{Any, Refuses, post_refuse, post_map, post_refused_as, refuses_ok, refuses_require, refuses_bind, Positive}
use Rattle.syntax.specs.Syntax.{Cmd}
use Rattle.syntax.specs.Code.{Fault, Read, read_value, read_literal, read_expr, most_nested, CmdByte, skip_byte, assign_byte, seq_byte, if_byte, while_byte, cmd_byte, read_cmds, read_assign, read_seq, read_if, read_while, body_by, read_body, most_deep, read_block}
use Rattle.syntax.specs.Sheet.{k_of, block_at, blocks_from, programme_sheet}
use Rattle.syntax.proofs.CodeFirstByte.{body_deep, expr_reads}

-- code is refused by 9 or 10
abbrev Numbered : Fault → Type 0
Numbered e = (9 ≤ e.number) × (e.number ≤ 10)

value : (m : ℕ) (s : List ℕ) (at : ℕ) → Refuses Numbered (read_value m s at)
unfolding read_value
value m s at =
    refuses_require _ _ _ _ (omega arith) (
    refuses_require _ _ _ _ (omega arith) (
    refuses_require _ _ _ _ (omega arith) (
    refuses_require _ _ _ _ (omega arith) (
    refuses_ok _ _))))

lit : (m : ℕ) (s : List ℕ) (at : ℕ) → Refuses Numbered (read_literal m s at)
unfolding read_literal
lit m s at = refuses_bind _ _ _ (value m s (at + 1)) (λ v. refuses_ok _ _)

expr : (deep m : ℕ) (s : List ℕ) (at : ℕ) → Refuses Numbered (read_expr deep m s at)
expr deep m s at =
    expr_reads Numbered (λ _. omega arith) (λ _. omega arith) s (λ _ _. Any) m (λ _. lit m s) (λ _ _ _ _. tt) (λ _ _ _ _ _ _ _. tt) deep at

module _ (inner : ℕ → Result Fault (Read Cmd)) (h : (p : ℕ) → Refuses Numbered (inner p)) where
  cmds : (n at : ℕ) → Refuses Numbered (read_cmds inner n at)
  unfolding read_cmds
  cmds zero at = refuses_ok _ _
  cmds (suc n) at = refuses_bind _ _ _ (h at) λ c. refuses_bind _ _ _ (cmds n c.next) (λ cs. refuses_ok _ _)

  body_by_law : (b : CmdByte) (m : ℕ) (s : List ℕ) (at : ℕ) → Refuses Numbered (body_by b inner m s at)
  unfolding body_by read_assign read_seq read_if read_while
  body_by_law skip_byte m s at = refuses_ok _ _
  body_by_law assign_byte m s at =
      refuses_bind _ _ _ (expr most_nested m s _) λ x. refuses_bind _ _ _ (expr most_nested m s _) (λ v. refuses_ok _ _)
  body_by_law seq_byte m s at =
      refuses_require _ _ _ _ (omega arith) (
      refuses_require _ _ _ _ (omega arith) (
      refuses_bind _ _ _ (cmds _ _) (λ cs. refuses_ok _ _)))
  body_by_law if_byte m s at =
      refuses_bind _ _ _ (expr most_nested m s _) λ g.
      refuses_bind _ _ _ (h _) λ c. refuses_bind _ _ _ (h _) (λ d. refuses_ok _ _)
  body_by_law while_byte m s at =
      refuses_bind _ _ _ (expr most_nested m s _) λ g. refuses_bind _ _ _ (h _) (λ c. refuses_ok _ _)
  body_by_law CmdByte.unknown_byte m s at = post_refuse _ _ _ (omega arith)
  body_by_law CmdByte.no_byte m s at = post_refuse _ _ _ (omega arith)

body : (deep m : ℕ) (s : List ℕ) (at : ℕ) → Refuses Numbered (read_body deep m s at)
unfolding read_body
body zero m s at = body_deep Numbered (λ _. omega arith) (λ _. omega arith) s Any at (cmd_byte s at)
body (suc deep) m s at = body_by_law _ (λ p. refuses_bind _ _ _ (body deep m s p) (λ b. refuses_ok _ _)) (cmd_byte s at) m s at

block : (m : ℕ) (s : List ℕ) → Refuses Numbered (read_block m s)
unfolding read_block
block m s =
    refuses_bind _ _ _ (refuses_bind _ _ _ (body most_deep m s 0) (λ b. refuses_ok _ _)) λ c.
    refuses_require _ _ _ _ (omega arith) (refuses_ok _ _)

block_numbered : (m : ℕ) (p : List ℕ) (i : ℕ) → Refuses (λ (a : Answer). (9 ≤ a.number) × (a.number ≤ 10)) (block_at m p i)
unfolding block_at
block_numbered m p i = refuses_bind _ _ _ (post_refused_as _ _ _ _ (block m _)) (λ c. refuses_ok _ _)

blocks_numbered : (m : ℕ) (p : List ℕ) (n i : ℕ) → Refuses (λ (a : Answer). (9 ≤ a.number) × (a.number ≤ 10)) (blocks_from m p n i)
unfolding blocks_from
blocks_numbered m p zero i = refuses_ok _ _
blocks_numbered m p (suc n) i =
    refuses_bind _ _ _ (block_numbered m p i) λ b. refuses_bind _ _ _ (blocks_numbered m p n (i + 1)) (λ bs. refuses_ok _ _)

pub programme_numbered : (n m : ℕ) (p : List ℕ) → Refuses (λ (a : Answer). (6 ≤ a.number) × (a.number ≤ 10)) (programme_sheet n m p)
unfolding programme_sheet unplaced
programme_numbered n m p =
    refuses_require _ _ _ _ (omega arith) (
    refuses_require _ _ _ _ (omega arith) (
    refuses_require _ _ _ _ (omega arith) (
    refuses_require _ _ _ _ (omega arith) (
    refuses_require _ _ _ _ (omega arith) (
    post_map _ _ _ _ _ (blocks_numbered m p (k_of p) 0) (λ bs h. h) (λ a h. (omega (arith, h.0), h.1)))))))

pub block_refuses : (m : ℕ) (p : List ℕ) (i : ℕ) → Refuses (λ (a : Answer). 9 ≤ a.number) (block_at m p i)
block_refuses m p i = post_map _ _ _ _ _ (block_numbered m p i) (λ c h. h) (λ a h. h.0)

pub blocks_refuse : (m : ℕ) (p : List ℕ) (n i : ℕ) → Refuses (λ (a : Answer). 9 ≤ a.number) (blocks_from m p n i)
blocks_refuse m p n i = post_map _ _ _ _ _ (blocks_numbered m p n i) (λ bs h. h) (λ a h. h.0)

pub programme_refuses : (n m : ℕ) (p : List ℕ) → Refuses (λ (a : Answer). Positive a.number) (programme_sheet n m p)
programme_refuses n m p = post_map _ _ _ _ _ (programme_numbered n m p) (λ bs h. h) (λ a h. omega (arith, h.0))
