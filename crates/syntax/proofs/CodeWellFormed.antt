-- Laws of a block that was read (`read_block`, specs/Code.antt): well-formed literals, and expressions that nest no deeper than they may. Assumes nothing.
use Prim.Native.Nat.{ℕ, zero, suc, ◌+◌}
use mathlib.Core.Path.{◌≡◌}
use mathlib.Core.Bool.{true}
use mathlib.Core.List.{List}
use Rattle.values.specs.Result.{Result}
use Rattle.values.specs.declared.Value.{Value}
use Rattle.values.specs.Value.{well_formed}
use Rattle.values.proofs.Result.{Post, Any, post_ok, post_refuse, post_require, post_bind}
use Rattle.syntax.specs.Syntax.{Op, Expr, literal, read, operation, Cmd, Body, LiteralsOf, Exprs, ExprsBody, ExprsAll, Literals}
use Rattle.syntax.specs.Code.{Fault, Read, read_value, read_literal, read_expr, most_nested, expr_at, CmdByte, skip_byte, assign_byte, seq_byte, if_byte, while_byte, cmd_byte, read_cmds, read_assign, read_seq, read_if, read_while, body_by, placed, read_body, most_deep, read_block}
use Rattle.syntax.specs.Rows.{Nests}
use Rattle.syntax.proofs.CodeFirstByte.{body_deep, expr_reads}

-- where something is read, P holds of its tree
abbrev Reads : {A : Type 0} → (A → Type 0) → Result Fault (Read A) → Type 0
Reads P r = Post (λ x. P x.tree) Any r

module _ (m : ℕ) where
  abbrev Formed : Value → Type 0
  Formed v = well_formed m v ≡ true

  value : (s : List ℕ) (at : ℕ) → Reads Formed (read_value m s at)
  unfolding read_value
  value s at =
      post_require _ _ _ _ _ (λ _. post_require _ _ _ _ _ (λ _. post_require _ _ _ _ _ (λ _.
      post_require _ _ _ _ _ (λ g. post_ok _ _ _ g) (λ _. tt)) (λ _. tt)) (λ _. tt)) (λ _. tt)

  -- P holds of what is read with so many levels left: it does of a literal that is well-formed, and passes through a read and an operation
  module _ (P : ℕ → Expr → Type 0) (of-literal : (d : ℕ) (v : Value) → Formed v → P d (literal v))
      (of-read : (d : ℕ) (e : Expr) → P d e → P (suc d) (read e))
      (of-operation : (d : ℕ) (o : Op) (l r : Expr) → P d l → P d r → P (suc d) (operation o l r)) where
    lit : (s : List ℕ) (d at : ℕ) → Reads (P d) (read_literal m s at)
    unfolding read_literal
    lit s d at = post_bind _ _ _ _ _ (value s (at + 1)) (λ v g. post_ok _ _ _ (of-literal d v.tree g))

    exprs : (d : ℕ) (s : List ℕ) (at : ℕ) → Reads (P d) (read_expr d m s at)
    exprs d s at =
        expr_reads Any (λ _. tt) (λ _. tt) s (λ d _ x. P d x.tree) m (lit s)
        (λ d _ e. of-read d e.tree) (λ d _ o l r. of-operation d o l.tree r.tree) d at

  formed : (deep : ℕ) (s : List ℕ) (at : ℕ) → Reads (LiteralsOf Formed) (read_expr deep m s at)
  unfolding LiteralsOf
  formed = exprs (λ _. LiteralsOf Formed) (λ _ _ g. g) (λ _ _ g. g) (λ _ _ _ _ g k. (g, k))

  -- `deep` levels are left
  nested : (deep : ℕ) (s : List ℕ) (at : ℕ) → Reads (Nests deep) (read_expr deep m s at)
  unfolding Nests
  nested = exprs Nests (λ _ _ _. tt) (λ _ _ g. g) (λ _ _ _ _ g k. (g, k))

module _ (m : ℕ) (P : Expr → Type 0) (expr : (s : List ℕ) (at : ℕ) → Reads P (expr_at m s at)) where
  module _ (inner : ℕ → Result Fault (Read Cmd)) (h : (p : ℕ) → Reads (Exprs P) (inner p)) where
    cmds : (n at : ℕ) → Reads (ExprsAll P) (read_cmds inner n at)
    unfolding read_cmds ExprsAll
    cmds zero at = post_ok _ _ _ tt
    cmds (suc n) at =
        post_bind _ _ _ _ _ (h at) λ c g. post_bind _ _ _ _ _ (cmds n c.next) (λ cs gs. post_ok _ _ _ (g, gs))

    body_by_law : (b : CmdByte) (s : List ℕ) (at : ℕ) → Reads (ExprsBody P) (body_by b inner m s at)
    unfolding body_by read_assign read_seq read_if read_while ExprsBody
    body_by_law skip_byte s at = post_ok _ _ _ tt
    body_by_law assign_byte s at =
        post_bind _ _ _ _ _ (expr s _) λ x g. post_bind _ _ _ _ _ (expr s _) (λ v k. post_ok _ _ _ (g, k))
    body_by_law seq_byte s at =
        post_require _ _ _ _ _ (λ _. post_require _ _ _ _ _ (λ _.
        post_bind _ _ _ _ _ (cmds _ _) (λ cs g. post_ok _ _ _ g)) (λ _. tt)) (λ _. tt)
    body_by_law if_byte s at =
        post_bind _ _ _ _ _ (expr s _) λ x g.
        post_bind _ _ _ _ _ (h _) λ c k. post_bind _ _ _ _ _ (h _) (λ d l. post_ok _ _ _ (g, k, l))
    body_by_law while_byte s at =
        post_bind _ _ _ _ _ (expr s _) λ x g. post_bind _ _ _ _ _ (h _) (λ c k. post_ok _ _ _ (g, k))
    body_by_law CmdByte.unknown_byte s at = post_refuse _ _ _ tt
    body_by_law CmdByte.no_byte s at = post_refuse _ _ _ tt

  placed_at : (at : ℕ) (r : Result Fault (Read Body)) → Reads (ExprsBody P) r → Reads (Exprs P) (placed at r)
  unfolding Exprs
  placed_at at r h = post_bind _ _ _ _ _ h (λ b g. post_ok _ _ _ g)

  body : (deep : ℕ) (s : List ℕ) (at : ℕ) → Reads (ExprsBody P) (read_body deep m s at)
  unfolding read_body
  body zero s at = body_deep Any (λ _. tt) (λ _. tt) s _ at (cmd_byte s at)
  body (suc deep) s at = body_by_law _ (λ p. placed_at p (read_body deep m s p) (body deep s p)) (cmd_byte s at) s at

  block : (code : List ℕ) → Post (Exprs P) Any (read_block m code)
  unfolding read_block
  block code = post_bind _ _ _ _ _ (placed_at 0 _ (body most_deep code 0)) λ c g. post_require _ _ _ _ _ (λ _. post_ok _ _ _ g) (λ _. tt)

pub block_literals : (m : ℕ) (code : List ℕ) → Post (Literals (λ v. well_formed m v ≡ true)) Any (read_block m code)
block_literals m code = block m _ (formed m most_nested) code

pub block_nests : (m : ℕ) (code : List ℕ) → Post (Exprs (Nests most_nested)) Any (read_block m code)
block_nests m code = block m _ (nested m most_nested) code
