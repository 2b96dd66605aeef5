-- Laws of what is read by its first byte (`expr_byte`, `cmd_byte`, specs/Code.antt), and what holds of every expression that is read. Assumes nothing.
use Prim.Native.Nat.{ℕ, zero, suc, ◌+◌, ◌<◌, ◌≤◌}
use mathlib.Core.Path.{◌≡◌, refl, sym, ap, ◌∙◌}
use mathlib.Core.Bool.{Bool, true, false}
use mathlib.Core.List.{List}
use lib.ListN.{length, get_or}
use native.Mathlib.Omega.{arith}
use lib.Dec.{eqb}
use borrow.Author.Tests.{le-ltb, lt-ltb, ne_eqb, eqb-true, eqb-false}
use Rattle.syntax.specs.Syntax.{Op, sum, difference, less, equal, Expr, read, operation, Body}
use Rattle.syntax.specs.Rows.{byte_of}
use Rattle.values.specs.Result.{Result, refuse}
use Rattle.values.proofs.Result.{Post, post_ok, post_refuse, post_bind}
use Rattle.syntax.specs.Code.{Fault, Read, ill_formed, ends_early, too_deep, ExprByte, literal_byte, read_byte, operation_byte, expr_sorted, expr_byte, read_literal, read_operation, expr_by, expr_too_deep, read_expr, CmdByte, skip_byte, assign_byte, seq_byte, if_byte, while_byte, sorted, cmd_byte, body_by, body_too_deep, read_body}

module _ (s : List ℕ) (at : ℕ) where
  pub expr_ends : length s ≤ at → expr_byte s at ≡ ExprByte.no_byte
  unfolding expr_byte
  expr_ends h = simp (expr_byte, le-ltb _ _ h)

  pub expr_stands : at < length s → expr_byte s at ≡ expr_sorted (get_or s at 0)
  unfolding expr_byte
  expr_stands h = rw (expr_byte, lt-ltb _ _ h)

  pub expr_is_literal : at < length s → get_or s at 0 ≡ 0x10 → expr_byte s at ≡ literal_byte
  unfolding expr_sorted
  expr_is_literal h b = rw (expr_stands h, b)

  pub expr_is_read : at < length s → get_or s at 0 ≡ 0x11 → expr_byte s at ≡ read_byte
  unfolding expr_sorted
  expr_is_read h b = rw (expr_stands h, b)

  pub cmd_ends : length s ≤ at → cmd_byte s at ≡ CmdByte.no_byte
  unfolding cmd_byte
  cmd_ends h = rw (cmd_byte, le-ltb _ _ h)

  pub cmd_stands : at < length s → cmd_byte s at ≡ sorted (get_or s at 0)
  unfolding cmd_byte
  cmd_stands h = rw (cmd_byte, lt-ltb _ _ h)

-- a byte that starts no expression
expr_unknown : (b : ℕ) → (b ≡ 0x10 → ⊥) → (b ≡ 0x11 → ⊥) → (b ≡ 0x12 → ⊥) → (b ≡ 0x13 → ⊥) → (b ≡ 0x14 → ⊥) → (b ≡ 0x15 → ⊥)
    → expr_sorted b ≡ ExprByte.unknown_byte
unfolding expr_sorted
expr_unknown b f g h i j k =
    simp (expr_sorted, ne_eqb _ _ f, ne_eqb _ _ g, ne_eqb _ _ h, ne_eqb _ _ i, ne_eqb _ _ j, ne_eqb _ _ k)

pub expr_low : (b : ℕ) → (b ≡ 0x10 → ⊥) → b < 0x11 → expr_sorted b ≡ ExprByte.unknown_byte
expr_low b n h = expr_unknown b n (λ e. omega arith) (λ e. omega arith) (λ e. omega arith) (λ e. omega arith) (λ e. omega arith)

pub expr_high : (b : ℕ) → 0x15 < b → expr_sorted b ≡ ExprByte.unknown_byte
expr_high b h =
    expr_unknown b (λ e. omega arith) (λ e. omega arith) (λ e. omega arith) (λ e. omega arith) (λ e. omega arith) (λ e. omega arith)

-- an operation's own byte
pub expr_operation : (o : Op) → expr_sorted (byte_of o) ≡ operation_byte o
unfolding expr_sorted byte_of
expr_operation sum = refl
expr_operation difference = refl
expr_operation less = refl
expr_operation equal = refl

pub expr_is_operation : (s : List ℕ) (at : ℕ) (o : Op) → at < length s → byte_of o ≡ get_or s at 0 → expr_byte s at ≡ operation_byte o
expr_is_operation s at o h b = expr_stands s at h ∙ ap expr_sorted (sym b) ∙ expr_operation o

-- the operation of a byte from 12 to 15
pub operation_of : (b : ℕ) → 0x11 < b → b ≤ 0x15 → (o : Op) × (byte_of o ≡ b)
unfolding byte_of
operation_of b h k = go (eqb b 0x12) (eqb b 0x13) (eqb b 0x14) refl refl refl
  where
    go : (x y z : Bool) → eqb b 0x12 ≡ x → eqb b 0x13 ≡ y → eqb b 0x14 ≡ z → (o : Op) × (byte_of o ≡ b)
    go true y z p q r = (sum, sym (eqb-true b 0x12 p))
    go false true z p q r = (difference, sym (eqb-true b 0x13 q))
    go false false true p q r = (less, sym (eqb-true b 0x14 r))
    go false false false p q r = (equal, omega (arith, eqb-false b 0x12 p, eqb-false b 0x13 q, eqb-false b 0x14 r))

pub sorted_unknown : (b : ℕ) → (b ≡ 0x20 → ⊥) → (b ≡ 0x21 → ⊥) → (b ≡ 0x22 → ⊥) → (b ≡ 0x23 → ⊥) → (b ≡ 0x24 → ⊥)
    → sorted b ≡ CmdByte.unknown_byte
unfolding sorted
sorted_unknown b f g h i j = simp (sorted, ne_eqb _ _ f, ne_eqb _ _ g, ne_eqb _ _ h, ne_eqb _ _ i, ne_eqb _ _ j)

pub body_none : (d m : ℕ) (s : List ℕ) (at : ℕ) → length s ≤ at → read_body d m s at ≡ refuse (ends_early s)
unfolding read_body body_by body_too_deep
body_none zero m s at h = rw (cmd_ends s at h)
body_none (suc d) m s at h = rw (cmd_ends s at h)

-- E holds of every refusal of code: code that ends early is ill-formed at its end.
module _ (E : Fault → Type 0) (ill : (at : ℕ) → E (ill_formed at)) (deep : (at : ℕ) → E (too_deep at)) (s : List ℕ) where
  -- past the deepest level every command is refused ..
  pub body_deep : (P : Read Body → Type 0) (at : ℕ) (y : CmdByte) → Post P E (body_too_deep y s at)
  unfolding body_too_deep
  body_deep P at skip_byte = post_refuse _ _ _ (deep at)
  body_deep P at assign_byte = post_refuse _ _ _ (deep at)
  body_deep P at seq_byte = post_refuse _ _ _ (deep at)
  body_deep P at if_byte = post_refuse _ _ _ (deep at)
  body_deep P at while_byte = post_refuse _ _ _ (deep at)
  body_deep P at CmdByte.unknown_byte = post_refuse _ _ _ (ill at)
  body_deep P at CmdByte.no_byte = post_refuse _ _ _ (ill (length s))

  -- .. and of expressions only a literal is read
  expr_too_deep_law : (P : Read Expr → Type 0) (m at : ℕ) → Post P E (read_literal m s at) → (y : ExprByte) → Post P E (expr_too_deep y m s at)
  unfolding expr_too_deep
  expr_too_deep_law P m at h literal_byte = h
  expr_too_deep_law P m at h read_byte = post_refuse _ _ _ (deep at)
  expr_too_deep_law P m at h (operation_byte o) = post_refuse _ _ _ (deep at)
  expr_too_deep_law P m at h ExprByte.unknown_byte = post_refuse _ _ _ (ill at)
  expr_too_deep_law P m at h ExprByte.no_byte = post_refuse _ _ _ (ill (length s))

  -- Of what is read from `at` on with `d` levels left, P holds: it does of a literal, and passes through a read and an operation.
  module _ (P : ℕ → ℕ → Read Expr → Type 0) (m : ℕ) (lit : (d at : ℕ) → Post (P d at) E (read_literal m s at))
      (reads : (d at : ℕ) (e : Read Expr) → P d (at + 1) e → P (suc d) at (record { tree = read e.tree; next = e.next }))
      (operates : (d at : ℕ) (o : Op) (l r : Read Expr) → P d (at + 1) l → P d l.next r
      → P (suc d) at (record { tree = operation o l.tree r.tree; next = r.next })) where
    expr_by_law : (d at : ℕ) (inner : ℕ → Result Fault (Read Expr)) → ((p : ℕ) → Post (P d p) E (inner p)) → (y : ExprByte)
        → Post (P (suc d) at) E (expr_by y inner m s at)
    unfolding expr_by read_operation
    expr_by_law d at inner h literal_byte = lit (suc d) at
    expr_by_law d at inner h read_byte = post_bind (P d (at + 1)) _ _ _ _ (h (at + 1)) (λ e g. post_ok _ _ _ (reads d at e g))
    expr_by_law d at inner h (operation_byte o) =
        post_bind (P d (at + 1)) _ _ _ _ (h (at + 1)) λ l g.
        post_bind (P d l.next) _ _ _ _ (h l.next) (λ r k. post_ok _ _ _ (operates d at o l r g k))
    expr_by_law d at inner h ExprByte.unknown_byte = post_refuse _ _ _ (ill at)
    expr_by_law d at inner h ExprByte.no_byte = post_refuse _ _ _ (ill (length s))

    pub expr_reads : (d at : ℕ) → Post (P d at) E (read_expr d m s at)
    unfolding read_expr
    expr_reads zero at = expr_too_deep_law (P 0 at) m at (lit 0 at) (expr_byte s at)
    expr_reads (suc d) at = expr_by_law d at _ (expr_reads d) (expr_byte s at)
