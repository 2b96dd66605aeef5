-- A command's children: where each lies, its first row, what leads through it. Serves `child_at`, `part_at` and `takes_step`. Assumes nothing.
use Prim.Native.Nat.{ℕ, zero, suc, ◌+◌, ◌≤◌, ◌<◌}
use mathlib.Core.Path.{◌≡◌, refl, ap, ◌∙◌}
use mathlib.Core.Bool.{false, not}
use mathlib.Core.List.{List}
use native.Mathlib.Omega.{arith}
use lib.ListN.{get_or}
use lib.Dec.{eqb}
use borrow.Author.Tests.{eq-eqb, eqb-true}
use Rattle.lattice.specs.Order.{Label}
use Rattle.syntax.specs.Syntax.{Expr, Cmd, cmd, skip, assign, seq, if, while, Cmds, nil, cons}
use Rattle.syntax.specs.Rows.{between, size, size_all}
use Rattle.syntax.proofs.Rows.{between_most}
use Rattle.calculus.specs.Calculus.{choose}
use Rattle.pausing.specs.Paths.{Open, nowhere, in_sequence, child_in, child_of, child, steps_body, takes_step}
use Rattle.pausing.specs.RowPaths.{row_to, row_body, row_in, Along, AlongBody, AlongIn}
use Rattle.paths.specs.CodeLayout.{count, opcode, Lies, LieAll, Sits, SomeCmd, Left, SomeCmds, SkipsExpr, Skips, SkipsAll}
use Rattle.paths.specs.CodeParts.{inside, Enters, PartIs}
use Rattle.paths.specs.declared.walking.Part.{Part}
use Rattle.paths.proofs.CodeLayout.{expr_within, lies_within, lies_slim, lie_slim, by_skip, by_seq, by_if, by_while_byte, by_other}

-- the k-th of commands, and those before it
record Nth (code : List ℕ) (cs : Cmds) (k at : ℕ) : Type 0 where
  tree : Cmd
  there : ℕ
  end : ℕ
  total : ℕ
  left : Left code at k 0 there total
  lies : Lies code tree there end
  is : child_in cs k ≡ in_sequence tree
  row : (q : List Open) (r : ℕ) → row_in cs k q r ≡ row_to tree q (r + total)
  along : (l : List Label) (d : ℕ) (b x : Label) (q : List Open) → get_or l d 0 ≡ b → x ≡ b → Along l tree d b q → AlongIn l cs k d b x q

module _ (code : List ℕ) where
  nth : (cs : Cmds) (k at end : ℕ) → LieAll code cs at end → k < count cs → Nth code cs k at
  unfolding LieAll count size_all child_in row_in AlongIn
  nth nil k at end h l = absurd (omega arith)
  nth (cons c cs) zero at end h l =
      let w = lies_within code c at h.middle h.first in
      record {
        tree = c;
        there = at;
        end = h.middle;
        total = 0;
        left = record { commands = nil; lie = refl; counted = refl; sized = refl; within = omega (arith, w.0, w.1); slim = omega arith };
        lies = h.first;
        is = refl;
        row = λ q r. let e : r ≡ r + 0 = omega arith in ap (λ (n : ℕ). row_to c q n) e;
        along = λ l d b x q e f g. (e, f, g);
      }
  nth (cons c cs) (suc k) at end h l =
      let n = nth cs k h.middle end h.then (omega arith) in
      record {
        tree = n.tree;
        there = n.there;
        end = n.end;
        total = size c + n.total;
        left = record {
          commands = cons c n.left.commands;
          lie = record { middle = h.middle; first = h.first; then = n.left.lie };
          counted = omega (arith, n.left.counted);
          sized = omega (arith, n.left.sized);
          within = n.left.within;
          slim = omega arith;
        };
        lies = n.lies;
        is = n.is;
        row = λ q r. let e : r + size c + n.total ≡ r + (size c + n.total) = omega arith in
            n.row q (r + size c) ∙ ap (λ (m : ℕ). row_to n.tree q m) e;
        along = n.along;
      }

child_past : (cs : Cmds) (k : ℕ) → count cs ≤ k → child_in cs k ≡ nowhere
unfolding count child_in
child_past nil k h = refl
child_past (cons c cs) zero h = absurd (omega arith)
child_past (cons c cs) (suc k) h = child_past cs k (omega arith)

-- Each child that there is.
module _ (o : ℕ) (cs : Cmds) (k : ℕ) {code : List ℕ} {at : ℕ} (n : Nth code cs k at) where
  enters_seq : Enters (cmd o (seq cs)) k n.tree 0 n.total
  unfolding child child_of row_to row_body Along AlongBody inside
  enters_seq = record {
    is = n.is;
    shallow = omega arith;
    row = λ a q r e. rw e (n.row q r);
    along = λ l a q d b e f g h. let z : d + 0 ≡ d = omega arith in rw e (n.along l d b a.label q f (g refl) (rw (z, g refl) at h));
  }

module _ (o : ℕ) (g : Expr) (c d : Cmd) where
  enters_then : Enters (cmd o (if g c d)) 0 c 1 1
  unfolding child child_of row_to row_body Along AlongBody inside choose
  enters_then = record {
    is = refl;
    shallow = omega arith;
    row = λ a q r e. rw e;
    along = λ l a q i b e f z h. (f, λ _. h, λ x. absurd (let y : ◌≡◌ {A = ℕ} 0 1 = cc (eq-eqb a.child 0 e) in omega arith));
  }

  enters_else : Enters (cmd o (if g c d)) 1 d 1 (1 + size c + between (size d))
  unfolding child child_of row_to row_body Along AlongBody inside choose
  enters_else = record {
    is = refl;
    shallow = omega arith;
    row = λ a q r e. let z : r + 1 + size c + between (size d) ≡ r + (1 + size c + between (size d)) = omega arith in rw e (ap (λ (n : ℕ). row_to d q n) z);
    along = λ l a q i b e f z h. (f, λ x. absurd (omega (arith, eqb-true a.child 0 x)), λ _. h);
  }

  enters_body : Enters (cmd o (while g c)) 0 c 1 1
  unfolding child child_of row_to row_body Along AlongBody inside
  enters_body = record {
    is = refl;
    shallow = omega arith;
    row = λ a q r e. refl;
    along = λ l a q i b e f z h. (f, h);
  }

if_past : (o : ℕ) (g : Expr) (c d : Cmd) (k : ℕ) → (k ≡ 0 → ⊥) → (k ≡ 1 → ⊥) → child (cmd o (if g c d)) k ≡ nowhere
unfolding child child_of
if_past o g c d zero i j = absurd (i refl)
if_past o g c d (suc zero) i j = absurd (j refl)
if_past o g c d (suc (suc k)) i j = refl

while_past : (o : ℕ) (g : Expr) (c : Cmd) (k : ℕ) → (k ≡ 0 → ⊥) → child (cmd o (while g c)) k ≡ nowhere
unfolding child child_of
while_past o g c zero i = absurd (i refl)
while_past o g c (suc k) i = refl

abbrev pub part : ℕ → ℕ → ℕ → Part
part there deeper rows = record { there = there; deeper = deeper; rows = rows }

-- What is found of a child.
module _ (code : List ℕ) (at k : ℕ) where
  module _ (b : get_or code at 0 ≡ 0x22) where
    pub seq_can : k < get_or code (at + 1) 0 → SomeCmd code at → SomeCmds code (at + 2) k
    seq_can l s =
        by_seq code at s.sits.end (λ _. SomeCmds code (at + 2) k) b
        (λ o cs q i h w. let n = nth code cs k (at + 2) s.sits.end h (omega arith) in record { end = n.there; total = n.total; left = n.left })
        s.command s.sits.lies

    pub seq_inside : (next rows : ℕ) → k < get_or code (at + 1) 0 → SkipsAll code (at + 2) k next rows → (c : Cmd) → Sits code c at
        → PartIs code at c k (part next 0 rows)
    seq_inside next rows l f c s =
        by_seq code at s.end (λ c. PartIs code at c k (part next 0 rows)) b
        (λ o cs q i h w.
        let n = nth code cs k (at + 2) s.end h (omega arith) in
        let e = f n.there n.total n.left in
        let u = lie_slim code n.left.commands (at + 2) n.there n.left.lie in
        record { tree = n.tree; enters = rw e.1 (enters_seq o cs k n); sits = rw e.0 (record { end = n.end; lies = n.lies }); slim = omega (arith, e.0, e.1, u, n.left.sized) })
        c s.lies

    pub seq_nowhere : get_or code (at + 1) 0 ≤ k → (c : Cmd) → Sits code c at → child c k ≡ nowhere
    unfolding child child_of
    seq_nowhere l c s =
        by_seq code at s.end (λ c. child c k ≡ nowhere) b (λ o cs q i h w. child_past cs k (omega arith)) c s.lies

  module _ (b : get_or code at 0 ≡ 0x23) (m : ℕ) (f : SkipsExpr code (at + 1) m) where
    pub then_inside : k ≡ 0 → (c : Cmd) → Sits code c at → PartIs code at c k (part m 1 1)
    then_inside z c s =
        rw z
        (by_if code at s.end (λ c. PartIs code at c 0 (part m 1 1)) b
        (λ o g c d n i h u v. let e = f g n h in
        record { tree = c; enters = enters_then o g c d; sits = rw e (record { end = i; lies = u }); slim = omega (arith, e, (expr_within code g (at + 1) n h).0) })
        c s.lies)

    pub else_inside : (next rows jump : ℕ) → k ≡ 1 → Skips code m next rows → ((c : Cmd) (end : ℕ) → Lies code c next end → jump ≡ between (size c))
        → (c : Cmd) → Sits code c at → PartIs code at c k (part next 1 (1 + rows + jump))
    else_inside next rows jump z h l c s =
        rw z
        (by_if code at s.end (λ c. PartIs code at c 1 (part next 1 (1 + rows + jump))) b
        (λ o g c d n i q u v.
        let e = f g n q in
        let y = h c i (rw e u) in
        let x = l d s.end (rw y.0 v) in
        let w : 1 + rows + jump ≡ 1 + size c + between (size d) = omega (arith, y.1, x) in
        record { tree = d; enters = rw w (enters_else o g c d); sits = rw y.0 (record { end = s.end; lies = v }); slim = omega (arith, w, y.0, lies_slim code c n i u, (expr_within code g (at + 1) n q).0, between_most (size d)) })
        c s.lies)

    pub if_nowhere : (k ≡ 0 → ⊥) → (k ≡ 1 → ⊥) → (c : Cmd) → Sits code c at → child c k ≡ nowhere
    if_nowhere i j c s =
        by_if code at s.end (λ c. child c k ≡ nowhere) b (λ o g c d n q h u v. if_past o g c d k i j) c s.lies

  module _ (b : get_or code at 0 ≡ 0x24) where
    pub body_inside : (m : ℕ) → SkipsExpr code (at + 1) m → k ≡ 0 → (c : Cmd) → Sits code c at → PartIs code at c k (part m 1 1)
    body_inside m f z c s =
        rw z
        (by_while_byte code at s.end (λ c. PartIs code at c 0 (part m 1 1)) b
        (λ o g c n h u. let e = f g n h in
        record { tree = c; enters = enters_body o g c c; sits = rw e (record { end = s.end; lies = u }); slim = omega (arith, e, (expr_within code g (at + 1) n h).0) })
        c s.lies)

    pub while_nowhere : (k ≡ 0 → ⊥) → (c : Cmd) → Sits code c at → child c k ≡ nowhere
    while_nowhere i c s =
        by_while_byte code at s.end (λ c. child c k ≡ nowhere) b (λ o g c n h u. while_past o g c k i) c s.lies

  pub other_nowhere : (get_or code at 0 ≡ 0x22 → ⊥) → (get_or code at 0 ≡ 0x23 → ⊥) → (get_or code at 0 ≡ 0x24 → ⊥) → (c : Cmd) → Sits code c at → child c k ≡ nowhere
  unfolding child child_of
  other_nowhere i j l c s =
      by_other code at s.end (λ c. child c k ≡ nowhere) i j l (λ o. refl) (λ o x v. refl) c s.lies

-- Whether a command takes a step: whether its byte is no skip's and no sequence's.
module _ (code : List ℕ) (at : ℕ) where
  pub skip_steps : get_or code at 0 ≡ 0x20 → (c : Cmd) (end : ℕ) → Lies code c at end → not (eqb (get_or code at 0) 0x20) ≡ takes_step c
  unfolding takes_step steps_body
  skip_steps e c end h = rw e (by_skip code at end (λ c. false ≡ takes_step c) e (λ o k. refl) c h)

  pub other_steps : (get_or code at 0 ≡ 0x20 → ⊥) → (c : Cmd) (end : ℕ) → Lies code c at end → not (eqb (get_or code at 0) 0x22) ≡ takes_step c
  unfolding Lies opcode takes_step steps_body
  other_steps i (cmd o skip) end h = absurd (i h.0)
  other_steps i (cmd o (assign x v)) end h = rw h.0
  other_steps i (cmd o (seq cs)) end h = rw h.0
  other_steps i (cmd o (if g c d)) end h = rw h.0
  other_steps i (cmd o (while g c)) end h = rw h.0
