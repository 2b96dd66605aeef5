-- Expressions and commands that lie in code end within it; a command is known by its first byte, and has fewer rows than bytes. Assumes nothing.
use Prim.Native.Nat.{ℕ, ◌+◌, ◌≤◌, ◌<◌}
use mathlib.Core.Path.{◌≡◌}
use mathlib.Core.List.{List}
use native.Mathlib.Omega.{arith}
use lib.ListN.{length, get_or}
use Rattle.syntax.specs.Syntax.{Op, sum, difference, less, equal, Expr, literal, read, operation, Cmd, cmd, Body, skip, assign, seq, if, while, Cmds, nil, cons}
use Rattle.syntax.specs.Rows.{byte_of, size, size_body, size_all}
use Rattle.syntax.proofs.Rows.{between_most}
use Rattle.paths.specs.CodeLayout.{count, opcode, ExprLies, Lies, LiesBody, LieAll, SomeCmd}

-- an operation's first byte is no literal's and no read's
pub operation_byte_law : (o : Op) → 0x11 < byte_of o
unfolding byte_of
operation_byte_law sum = omega arith
operation_byte_law difference = omega arith
operation_byte_law less = omega arith
operation_byte_law equal = omega arith

module _ (code : List ℕ) where
  pub expr_within : (e : Expr) (at end : ℕ) → ExprLies code e at end → (at < end) × (end ≤ length code)
  unfolding ExprLies
  expr_within (literal v) at end h = (omega (arith, h.1), h.2)
  expr_within (read e) at end h = let w = expr_within e (at + 1) end h.1 in (omega (arith, w.0), w.1)
  expr_within (operation o l r) at end h =
      let v = expr_within l (at + 1) h.1.middle h.1.first in
      let w = expr_within r h.1.middle end h.1.then in
      (omega (arith, v.0, w.0), w.1)

  pub lies_within : (c : Cmd) (at end : ℕ) → Lies code c at end → (at < end) × (end ≤ length code)
  unfolding Lies
  lies_within (cmd o b) at end h = (h.1, h.2)

  pub some_within : {at : ℕ} → SomeCmd code at → at < length code
  some_within {at} s = let h = lies_within s.command at s.sits.end s.sits.lies in omega arith

  mutual
    unfolding Lies LiesBody LieAll size size_body size_all

    -- a command has fewer rows than bytes
    pub lies_slim : (c : Cmd) (at end : ℕ) → Lies code c at end → size c + at < end
    lies_slim (cmd o b) at end h = body_slim b at end h.1 h.3

    body_slim : (b : Body) (at end : ℕ) → at < end → LiesBody code b at end → size_body b + at < end
    body_slim skip at end k h = omega arith
    body_slim (assign x v) at end k h =
        omega (arith, (expr_within x (at + 1) h.middle h.first).0, (expr_within v h.middle end h.then).0)
    body_slim (seq cs) at end k h = omega (arith, lie_slim cs (at + 2) end h.2)
    body_slim (if g c d) at end k h =
        omega (
          arith,
          (expr_within g (at + 1) h.middle h.first).0,
          lies_slim c h.middle h.then.middle h.then.first,
          lies_slim d h.then.middle end h.then.then,
          between_most (size d),
        )
    body_slim (while g c) at end k h =
        omega (arith, (expr_within g (at + 1) h.middle h.first).0, lies_slim c h.middle end h.then)

    pub lie_slim : (cs : Cmds) (at end : ℕ) → LieAll code cs at end → size_all cs + at ≤ end
    lie_slim nil at end h = omega arith
    lie_slim (cons c cs) at end h = omega (arith, lies_slim c at h.middle h.first, lie_slim cs h.middle end h.then)

  -- each command has a byte at the least
  pub lie_few : (cs : Cmds) (at end : ℕ) → LieAll code cs at end → count cs + at ≤ end
  unfolding LieAll count
  lie_few nil at end h = omega arith
  lie_few (cons c cs) at end h = omega (arith, lies_slim c at h.middle h.first, lie_few cs h.middle end h.then)

-- A command by its first byte.
module _ (code : List ℕ) (at end : ℕ) (P : Cmd → Type 0) where
  pub by_skip : get_or code at 0 ≡ 0x20 → ((o : ℕ) → end ≡ at + 1 → P (cmd o skip)) → (c : Cmd) → Lies code c at end → P c
  unfolding Lies LiesBody opcode
  by_skip e f (cmd o skip) h = f o h.3
  by_skip e f (cmd o (assign x v)) h = absurd (omega arith)
  by_skip e f (cmd o (seq cs)) h = absurd (omega arith)
  by_skip e f (cmd o (if g c d)) h = absurd (omega arith)
  by_skip e f (cmd o (while g c)) h = absurd (omega arith)

  pub by_assign : get_or code at 0 ≡ 0x21
      → ((o : ℕ) (x v : Expr) (m : ℕ) → ExprLies code x (at + 1) m → ExprLies code v m end → P (cmd o (assign x v)))
      → (c : Cmd) → Lies code c at end → P c
  unfolding Lies LiesBody opcode
  by_assign e f (cmd o skip) h = absurd (omega arith)
  by_assign e f (cmd o (assign x v)) h = f o x v h.3.middle h.3.first h.3.then
  by_assign e f (cmd o (seq cs)) h = absurd (omega arith)
  by_assign e f (cmd o (if g c d)) h = absurd (omega arith)
  by_assign e f (cmd o (while g c)) h = absurd (omega arith)

  pub by_seq : get_or code at 0 ≡ 0x22
      → ((o : ℕ) (cs : Cmds) → get_or code (at + 1) 0 ≡ count cs → at + 1 < length code → LieAll code cs (at + 2) end → end ≤ length code → P (cmd o (seq cs)))
      → (c : Cmd) → Lies code c at end → P c
  unfolding Lies LiesBody opcode
  by_seq e f (cmd o skip) h = absurd (omega arith)
  by_seq e f (cmd o (assign x v)) h = absurd (omega arith)
  by_seq e f (cmd o (seq cs)) h = f o cs h.3.0 h.3.1 h.3.2 h.2
  by_seq e f (cmd o (if g c d)) h = absurd (omega arith)
  by_seq e f (cmd o (while g c)) h = absurd (omega arith)

  pub by_if : get_or code at 0 ≡ 0x23
      → ((o : ℕ) (g : Expr) (c d : Cmd) (m n : ℕ) → ExprLies code g (at + 1) m → Lies code c m n → Lies code d n end → P (cmd o (if g c d)))
      → (c : Cmd) → Lies code c at end → P c
  unfolding Lies LiesBody opcode
  by_if e f (cmd o skip) h = absurd (omega arith)
  by_if e f (cmd o (assign x v)) h = absurd (omega arith)
  by_if e f (cmd o (seq cs)) h = absurd (omega arith)
  by_if e f (cmd o (if g c d)) h = f o g c d h.3.middle h.3.then.middle h.3.first h.3.then.first h.3.then.then
  by_if e f (cmd o (while g c)) h = absurd (omega arith)

  -- a while, where the byte is no other command's
  pub by_while : (get_or code at 0 ≡ 0x20 → ⊥) → (get_or code at 0 ≡ 0x21 → ⊥) → (get_or code at 0 ≡ 0x22 → ⊥) → (get_or code at 0 ≡ 0x23 → ⊥)
      → ((o : ℕ) (g : Expr) (c : Cmd) (m : ℕ) → ExprLies code g (at + 1) m → Lies code c m end → P (cmd o (while g c)))
      → (c : Cmd) → Lies code c at end → P c
  unfolding Lies LiesBody opcode
  by_while i j k l f (cmd o skip) h = absurd (i h.0)
  by_while i j k l f (cmd o (assign x v)) h = absurd (j h.0)
  by_while i j k l f (cmd o (seq cs)) h = absurd (k h.0)
  by_while i j k l f (cmd o (if g c d)) h = absurd (l h.0)
  by_while i j k l f (cmd o (while g c)) h = f o g c h.3.middle h.3.first h.3.then

  pub by_while_byte : get_or code at 0 ≡ 0x24 → ((o : ℕ) (g : Expr) (c : Cmd) (m : ℕ) → ExprLies code g (at + 1) m → Lies code c m end → P (cmd o (while g c)))
      → (c : Cmd) → Lies code c at end → P c
  by_while_byte b f c h = by_while (λ e. omega arith) (λ e. omega arith) (λ e. omega arith) (λ e. omega arith) f c h

  -- a skip or an assignment, where the byte is no other command's
  pub by_other : (get_or code at 0 ≡ 0x22 → ⊥) → (get_or code at 0 ≡ 0x23 → ⊥) → (get_or code at 0 ≡ 0x24 → ⊥) → ((o : ℕ) → P (cmd o skip))
      → ((o : ℕ) (x v : Expr) → P (cmd o (assign x v))) → (c : Cmd) → Lies code c at end → P c
  unfolding Lies opcode
  by_other i j k f g (cmd o skip) h = f o
  by_other i j k f g (cmd o (assign x v)) h = g o x v
  by_other i j k f g (cmd o (seq cs)) h = absurd (i h.0)
  by_other i j k f g (cmd o (if q c d)) h = absurd (j h.0)
  by_other i j k f g (cmd o (while q c)) h = absurd (k h.0)
