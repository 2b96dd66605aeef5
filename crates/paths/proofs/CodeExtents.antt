-- Where expressions and commands end and how many rows they have, by the first byte. Serves `skip_expr` and `span_at`. Assumes nothing.
use Prim.Native.Nat.{ℕ, zero, suc, ◌+◌, ◌≤◌, ◌<◌}
use mathlib.Core.Path.{◌≡◌, refl, sym, ap, ◌∙◌}
use mathlib.Core.List.{List}
use native.Mathlib.Omega.{arith}
use lib.ListN.{length, get_or}
use Rattle.values.specs.Value.{value_width}
use Rattle.syntax.specs.Syntax.{Expr, literal, read, operation, Cmd, Cmds, nil, cons}
use Rattle.syntax.specs.Rows.{between, size, size_body, size_all}
use Rattle.paths.specs.CodeLayout.{count, ExprLies, Lies, LieAll, SomeExpr, SomeCmd, Left, SomeCmds, SkipsExpr, Skips, SkipsAll}
use Rattle.paths.proofs.CodeLayout.{operation_byte_law, expr_within, lies_within, lies_slim, lie_few, by_skip, by_assign, by_seq, by_if, by_while}

-- Expressions.
module _ (code : List ℕ) (at : ℕ) where
  pub literal_ends : get_or code at 0 ≡ 0x10 → SkipsExpr code at (at + 1 + value_width)
  unfolding ExprLies
  literal_ends b (literal v) end h = omega (arith, h.1)
  literal_ends b (read e) end h = absurd (omega arith)
  literal_ends b (operation o l r) end h = absurd (omega (arith, operation_byte_law o))

  pub read_ends : (r : ℕ) → get_or code at 0 ≡ 0x11 → SkipsExpr code (at + 1) r → SkipsExpr code at r
  unfolding ExprLies
  read_ends r b f (literal v) end h = absurd (omega arith)
  read_ends r b f (read e) end h = f e end h.1
  read_ends r b f (operation o x y) end h = absurd (omega (arith, operation_byte_law o))

  module _ (i : get_or code at 0 ≡ 0x10 → ⊥) (j : get_or code at 0 ≡ 0x11 → ⊥) where
    pub operation_ends : (m r : ℕ) → SkipsExpr code (at + 1) m → SkipsExpr code m r → SkipsExpr code at r
    unfolding ExprLies
    operation_ends m r f g (literal v) end h = absurd (i h.0)
    operation_ends m r f g (read e) end h = absurd (j h.0)
    operation_ends m r f g (operation o x y) end h = let e = f x h.1.middle h.1.first in g y end (rw e h.1.then)

    pub some_left : SomeExpr code at → SomeExpr code (at + 1)
    unfolding ExprLies
    some_left s = go s.expr s.sits.end s.sits.lies
      where
        go : (e : Expr) (end : ℕ) → ExprLies code e at end → SomeExpr code (at + 1)
        go (literal v) end h = absurd (i h.0)
        go (read e) end h = absurd (j h.0)
        go (operation o x y) end h = record { expr = x; sits = record { end = h.1.middle; lies = h.1.first } }

    pub some_right : (m : ℕ) → SkipsExpr code (at + 1) m → SomeExpr code at → SomeExpr code m × (at < m)
    unfolding ExprLies
    some_right m f s = go s.expr s.sits.end s.sits.lies
      where
        go : (e : Expr) (end : ℕ) → ExprLies code e at end → SomeExpr code m × (at < m)
        go (literal v) end h = absurd (i h.0)
        go (read e) end h = absurd (j h.0)
        go (operation o x y) end h =
            let e = f x h.1.middle h.1.first in
            let w = expr_within code x (at + 1) h.1.middle h.1.first in
            (record { expr = y; sits = record { end = end; lies = rw e h.1.then } }, omega (arith, e, w.0))

  pub some_read : get_or code at 0 ≡ 0x11 → SomeExpr code at → SomeExpr code (at + 1)
  unfolding ExprLies
  some_read b s = go s.expr s.sits.end s.sits.lies
    where
      go : (e : Expr) (end : ℕ) → ExprLies code e at end → SomeExpr code (at + 1)
      go (literal v) end h = absurd (omega arith)
      go (read e) end h = record { expr = e; sits = record { end = end; lies = h.1 } }
      go (operation o x y) end h = absurd (omega (arith, operation_byte_law o))

  pub expr_inside : SomeExpr code at → at < length code
  expr_inside s = let w = expr_within code s.expr at s.sits.end s.sits.lies in omega (arith, w.0, w.1)

  pub literal_fits : get_or code at 0 ≡ 0x10 → SomeExpr code at → at + 1 + value_width ≤ length code
  literal_fits b s =
      omega (arith, literal_ends b s.expr s.sits.end s.sits.lies, (expr_within code s.expr at s.sits.end s.sits.lies).1)

-- The rows between the parts of an if.
pub jump_none : (n : ℕ) → n ≡ 0 → 0 ≡ between n
unfolding between
jump_none zero h = refl
jump_none (suc n) h = absurd (omega arith)

pub jump_one : (n : ℕ) → (n ≡ 0 → ⊥) → 1 ≡ between n
unfolding between
jump_one zero h = absurd (h refl)
jump_one (suc n) h = refl

-- Commands.
module _ (code : List ℕ) (at : ℕ) where
  -- an expression stands there, and what comes after it does further on
  abbrev Guard : ℕ → Type 0
  Guard m = SomeExpr code (at + 1) × (SkipsExpr code (at + 1) m → SomeCmd code m × (at < m))

  some_expr : (g : Expr) (end : ℕ) → ExprLies code g (at + 1) end → SomeExpr code (at + 1)
  some_expr g end h = record { expr = g; sits = record { end = end; lies = h } }

  some_next : (g : Expr) (c : Cmd) (n end m : ℕ) → ExprLies code g (at + 1) n → Lies code c n end → SkipsExpr code (at + 1) m → SomeCmd code m × (at < m)
  some_next g c n end m h k f =
      let e = f g n h in
      (record { command = c; sits = record { end = end; lies = rw e k } }, omega (arith, e, (expr_within code g (at + 1) n h).0))

  pub skip_span : get_or code at 0 ≡ 0x20 → Skips code at (at + 1) 0
  unfolding size size_body
  skip_span b c end h = by_skip code at end (λ c. (at + 1 ≡ end) × (0 ≡ size c)) b (λ o e. (sym e, refl)) c h

  module _ (b : get_or code at 0 ≡ 0x21) where
    pub assign_span : (m next : ℕ) → SkipsExpr code (at + 1) m → SkipsExpr code m next → Skips code at next 1
    unfolding size size_body
    assign_span m next f g c end h =
        by_assign code at end (λ c. (next ≡ end) × (1 ≡ size c)) b (λ o x v n p q. (let e = f x n p in g v end (rw e q), refl)) c h

    pub some_target : SomeCmd code at → SomeExpr code (at + 1)
    some_target s = by_assign code at s.sits.end (λ _. SomeExpr code (at + 1)) b (λ o x v n p q. some_expr x n p) s.command s.sits.lies

    pub some_value : (m : ℕ) → SkipsExpr code (at + 1) m → SomeCmd code at → SomeExpr code m
    some_value m f s =
        by_assign code at s.sits.end (λ _. SomeExpr code m) b
        (λ o x v n p q. let e = f x n p in record { expr = v; sits = record { end = s.sits.end; lies = rw e q } }) s.command s.sits.lies

  module _ (b : get_or code at 0 ≡ 0x22) where
    pub seq_span : (n next rows : ℕ) → n ≡ get_or code (at + 1) 0 → SkipsAll code (at + 2) n next rows → Skips code at next rows
    unfolding size size_body
    seq_span n next rows e f c end h =
        by_seq code at end (λ c. (next ≡ end) × (rows ≡ size c)) b
        (λ o cs k i p q. f end (size_all cs) (record { commands = cs; lie = p; counted = omega arith; sized = omega arith; within = q; slim = omega arith })) c h

    pub some_all : (n : ℕ) → n ≡ get_or code (at + 1) 0 → SomeCmd code at → SomeCmds code (at + 2) n
    some_all n e s =
        by_seq code at s.sits.end (λ _. SomeCmds code (at + 2) n) b
        (λ o cs k i p q. record {
          end = s.sits.end;
          total = size_all cs;
          left = record { commands = cs; lie = p; counted = omega arith; sized = omega arith; within = q; slim = omega arith };
        }) s.command s.sits.lies

    pub seq_second : SomeCmd code at → at + 1 < length code
    seq_second s = by_seq code at s.sits.end (λ _. at + 1 < length code) b (λ o cs k i p q. i) s.command s.sits.lies

  module _ (b : get_or code at 0 ≡ 0x23) (m : ℕ) where
    pub if_guard : SomeCmd code at → Guard m
    if_guard s =
        by_if code at s.sits.end (λ _. Guard m) b (λ o g c d n k p q r. (some_expr g n p, some_next g c n k m p q)) s.command s.sits.lies

    module _ (f : SkipsExpr code (at + 1) m) (next rows : ℕ) (h : Skips code m next rows) where
      pub some_else : SomeCmd code at → SomeCmd code next × (m < next)
      some_else s =
          by_if code at s.sits.end (λ _. SomeCmd code next × (m < next)) b
          (λ o g c d n k p q r.
          let e = f g n p in
          let y = h c k (rw e q) in
          (record { command = d; sits = record { end = s.sits.end; lies = rw y.0 r } }, omega (arith, e, y.0, (lies_within code c n k q).0)))
          s.command s.sits.lies

      pub if_span : (end jump more : ℕ) → Skips code next end more → jump ≡ between more → Skips code at end (1 + rows + jump + more)
      unfolding size size_body
      if_span end jump more l j c to z =
          by_if code at to (λ c. (end ≡ to) × (1 + rows + jump + more ≡ size c)) b
          (λ o g c d n k p q r.
          let e = f g n p in
          let y = h c k (rw e q) in
          let x = l d to (rw y.0 r) in
          let i : jump ≡ between (size d) = j ∙ ap between x.1 in
          (x.0, omega (arith, y.1, x.1, i)))
          c z

  module _ (i : get_or code at 0 ≡ 0x20 → ⊥) (j : get_or code at 0 ≡ 0x21 → ⊥) (k : get_or code at 0 ≡ 0x22 → ⊥) (l : get_or code at 0 ≡ 0x23 → ⊥) (m : ℕ) where
    pub while_guard : SomeCmd code at → Guard m
    while_guard s =
        by_while code at s.sits.end (λ _. Guard m) i j k l (λ o g c n p q. (some_expr g n p, some_next g c n s.sits.end m p q)) s.command s.sits.lies

    pub while_span : SkipsExpr code (at + 1) m → (next rows : ℕ) → Skips code m next rows → Skips code at next (1 + rows + 1)
    unfolding size size_body
    while_span f next rows h c end z =
        by_while code at end (λ c. (next ≡ end) × (1 + rows + 1 ≡ size c)) i j k l
        (λ o g c n p q. let e = f g n p in let y = h c end (rw e q) in (y.0, omega (arith, y.1))) c z

  -- a command's rows and its end lie within the code
  pub span_within : (next rows : ℕ) → Skips code at next rows → SomeCmd code at → (rows + at < next) × (next ≤ length code)
  span_within next rows f s =
      let y = f s.command s.sits.end s.sits.lies in
      (omega (arith, y.0, y.1, lies_slim code s.command at s.sits.end s.sits.lies), omega (arith, y.0, (lies_within code s.command at s.sits.end s.sits.lies).1))

-- Some commands: the first of them, and those after it.
module _ (code : List ℕ) (here left rows end total : ℕ) where
  pub left_some : 0 < left → Left code here left rows end total → SomeCmd code here
  unfolding LieAll count
  left_some k h = go h.commands h.lie h.counted
    where
      go : (cs : Cmds) → LieAll code cs here end → count cs ≡ left → SomeCmd code here
      go nil l e = absurd (omega arith)
      go (cons c cs) l e = record { command = c; sits = record { end = l.middle; lies = l.first } }

  pub left_on : (next more fewer : ℕ) → fewer + 1 ≡ left → Skips code here next more → Left code here left rows end total → Left code next fewer (rows + more) end total
  unfolding LieAll count size_all
  left_on next more fewer k f h = go h.commands h.lie h.counted h.sized
    where
      go : (cs : Cmds) → LieAll code cs here end → count cs ≡ left → rows + size_all cs ≡ total → Left code next fewer (rows + more) end total
      go nil l e z = absurd (omega arith)
      go (cons c cs) l e z =
          let x = f c l.middle l.first in
          record {
            commands = cs;
            lie = rw x.0 l.then;
            counted = omega arith;
            sized = omega (arith, x.1);
            within = h.within;
            slim = omega (arith, x.0, x.1, lies_slim code c here l.middle l.first, h.slim);
          }

  pub left_bound : Left code here left rows end total → (left + here ≤ end) × (end ≤ length code) × (rows ≤ here)
  left_bound h = (omega (arith, lie_few code h.commands here end h.lie, h.counted), h.within, h.slim)

  pub left_none : left ≤ 0 → Left code here left rows end total → (here ≡ end) × (rows ≡ total)
  unfolding LieAll count size_all
  left_none k h = go h.commands h.lie h.counted h.sized
    where
      go : (cs : Cmds) → LieAll code cs here end → count cs ≡ left → rows + size_all cs ≡ total → (here ≡ end) × (rows ≡ total)
      go nil l e z = (l, omega arith)
      go (cons c cs) l e z = absurd (omega arith)
