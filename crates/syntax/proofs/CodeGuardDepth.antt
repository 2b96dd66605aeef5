-- Laws of a block that was read (`read_block`, specs/Code.antt): its guards nest no deeper than commands may (`Shallow`). Assumes nothing.
use Prim.Native.Nat.{ℕ, zero, suc, ◌+◌, ◌≤◌}
use mathlib.Core.Path.{◌≡◌}
use mathlib.Core.List.{List}
use native.Mathlib.Omega.{arith}
use Rattle.values.specs.Result.{Result, ok}
use Rattle.values.proofs.Result.{Post, Any, post_ok, post_refuse, post_require, post_all, post_bind, post_at}
use Rattle.syntax.specs.Syntax.{Cmd, Body}
use Rattle.syntax.specs.Code.{Fault, Read, CmdByte, skip_byte, assign_byte, seq_byte, if_byte, while_byte, cmd_byte, read_cmds, read_assign, read_seq, read_if, read_while, body_by, placed, read_body, most_deep, read_block}
use Rattle.syntax.specs.Rows.{Shallow, ShallowBody, ShallowAll}
use Rattle.syntax.proofs.CodeFirstByte.{body_deep}

-- where something is read, P holds of its tree
abbrev Reads : {A : Type 0} → (A → Type 0) → Result Fault (Read A) → Type 0
Reads P r = Post (λ x. P x.tree) Any r

any : {A : Type 0} (r : Result Fault (Read A)) → Post (λ x. Unit {0}) Any r
any r = post_all _ _ r (λ x. tt) (λ e. tt)

module _ (m : ℕ) (s : List ℕ) (inner : ℕ → Result Fault (Read Cmd)) where
  cmds : (depth : ℕ) → ((p : ℕ) → Reads (Shallow depth) (inner p)) → (n at : ℕ) → Reads (ShallowAll depth) (read_cmds inner n at)
  unfolding read_cmds ShallowAll
  cmds depth h zero at = post_ok _ _ _ tt
  cmds depth h (suc n) at =
      post_bind (λ x. Shallow depth x.tree) _ _ _ _ (h at) λ c g.
      post_bind (λ x. ShallowAll depth x.tree) _ _ _ _ (cmds depth h n c.next) (λ cs gs. post_ok _ _ _ (g, gs))

  body_by_law : (depth deep at : ℕ) → depth + suc deep ≤ most_deep → ((d : ℕ) → d + deep ≤ most_deep → (p : ℕ) → Reads (Shallow d) (inner p)) → (b : CmdByte)
      → Reads (ShallowBody depth) (body_by b inner m s at)
  unfolding body_by read_assign read_seq read_if read_while ShallowBody
  body_by_law depth deep at l h skip_byte = post_ok _ _ _ tt
  body_by_law depth deep at l h assign_byte =
      post_bind _ _ _ _ _ (any _) λ x _. post_bind _ _ _ _ _ (any _) (λ v _. post_ok _ _ _ (omega arith))
  body_by_law depth deep at l h seq_byte =
      post_require _ _ _ _ _ (λ _. post_require _ _ _ _ _ (λ _.
      post_bind (λ x. ShallowAll depth x.tree) _ _ _ _ (cmds depth (h depth (omega arith)) _ _) (λ cs g. post_ok _ _ _ g)) (λ _. tt)) (λ _. tt)
  body_by_law depth deep at l h if_byte =
      post_bind _ _ _ _ _ (any _) λ x _.
      post_bind (λ x. Shallow (depth + 1) x.tree) _ _ _ _ (h (depth + 1) (omega arith) _) λ c k.
      post_bind (λ x. Shallow (depth + 1) x.tree) _ _ _ _ (h (depth + 1) (omega arith) _) (λ d j. post_ok _ _ _ (omega arith, k, j))
  body_by_law depth deep at l h while_byte =
      post_bind _ _ _ _ _ (any _) λ x _.
      post_bind (λ x. Shallow (depth + 1) x.tree) _ _ _ _ (h (depth + 1) (omega arith) _) (λ c k. post_ok _ _ _ (omega arith, k))
  body_by_law depth deep at l h CmdByte.unknown_byte = post_refuse _ _ _ tt
  body_by_law depth deep at l h CmdByte.no_byte = post_refuse _ _ _ tt

placed_at : (depth at : ℕ) (r : Result Fault (Read Body)) → Reads (ShallowBody depth) r → Reads (Shallow depth) (placed at r)
unfolding Shallow
placed_at depth at r h = post_bind (λ x. ShallowBody depth x.tree) _ _ _ _ h (λ b g. post_ok _ _ _ g)

body : (deep depth m : ℕ) (s : List ℕ) (at : ℕ) → depth + deep ≤ most_deep → Reads (ShallowBody depth) (read_body deep m s at)
unfolding read_body
body zero depth m s at l = body_deep Any (λ _. tt) (λ _. tt) s _ at (cmd_byte s at)
body (suc deep) depth m s at l =
    body_by_law m s (λ p. placed p (read_body deep m s p)) depth deep at l
    (λ d k p. placed_at d p (read_body deep m s p) (body deep d m s p k)) (cmd_byte s at)

pub block_shallow : (m : ℕ) (s : List ℕ) (c : Cmd) → read_block m s ≡ ok c → Shallow 0 c
unfolding read_block
block_shallow m s c e = post_at (Shallow 0) Any _ c whole e
  where
    whole : Post (Shallow 0) Any (read_block m s)
    whole =
        post_bind (λ x. Shallow 0 x.tree) _ _ _ _ (placed_at 0 0 _ (body most_deep 0 m s 0 (omega arith))) λ x g.
        post_require _ _ _ _ _ (λ _. post_ok _ _ _ g) (λ _. tt)
