-- Looking for a row that takes a step in an if, in a while and in a block. Serves `trace_if`, `trace_while` and `pause`. Assumes nothing.
use Prim.Native.Nat.{ℕ, ◌+◌, ◌-◌, ◌≤◌, ◌<◌}
use mathlib.Core.Path.{◌≡◌, refl, sym}
use mathlib.Core.Bool.{Bool, true, false}
use mathlib.Core.List.{List, []}
use native.Mathlib.Omega.{arith}
use lib.ListN.{length, get_or}
use lib.Dec.{eqb, ltb, leb}
use borrow.Author.Tests.{ltb-true, ltb-false, leb-true, leb-false, eqb-true, eqb-false, le-leb, lt-leb, eq-eqb, ne_eqb}
use Rattle.lattice.specs.Order.{Label}
use Rattle.syntax.specs.Syntax.{Expr, Cmd, cmd, Body, skip, assign, seq, if, while, Cmds, nil, cons}
use Rattle.values.specs.Result.{ok}
use Rattle.syntax.specs.Code.{most_deep, read_block}
use Rattle.syntax.specs.Rows.{between, size, size_body, size_all}
use Rattle.calculus.specs.Calculus.{choose}
use Rattle.pausing.specs.RowPaths.{path_to, path_body}
use Rattle.paths.specs.CodeLayout.{Levels, LevelsBody, SomeExpr, SomeCmd, SkipsExpr, Skips, Stepping, SteppingBody, SteppingAll}
use Rattle.paths.specs.SheetPaths.{Traced, Seeks, Past}
use Rattle.paths.specs.declared.walking.Extent.{Extent}
use Rattle.paths.proofs.CodeLayout.{by_if, by_while_byte, by_other}
use Rattle.paths.proofs.CodeReadBlock.{block_lies, block_levels}
use Rattle.paths.proofs.CodeExtents.{jump_none, jump_one, if_guard, while_guard, while_span, span_within}
use Rattle.paths.proofs.TraceSearch.{Has}

-- a row that takes a step is one of the command's
module _ (g : Expr) (c d : Cmd) (i : ℕ) where
  if_inside : (a b : Bool) → eqb i 0 ≡ a → leb i (size c) ≡ b
      → (size c < i → (1 + size c + between (size d) ≤ i) × (i - (1 + size c + between (size d)) < size d)) → i < 1 + size c + between (size d) + size d
  if_inside true b x y f = omega (arith, eqb-true i 0 x)
  if_inside false true x y f = omega (arith, leb-true i (size c) y)
  if_inside false false x y f = let q = f (leb-false i (size c) y) in omega (arith, q.0, q.1)

  while_inside : (a : Bool) → eqb i 0 ≡ a → (0 < i → i - 1 < size c) → i < 1 + size c + 1
  while_inside true x f = omega (arith, eqb-true i 0 x)
  while_inside false x f = let n = eqb-false i 0 x in omega (arith, f (omega arith))

all_inside : (c : Cmd) (cs : Cmds) (i : ℕ) (a : Bool) → ltb i (size c) ≡ a → (size c ≤ i → i - size c < size_all cs) → i < size c + size_all cs
all_inside c cs i true x f = omega (arith, ltb-true i (size c) x)
all_inside c cs i false x f = omega (arith, ltb-false i (size c) x, f (ltb-false i (size c) x))

mutual
  unfolding size size_body size_all Stepping SteppingBody SteppingAll

  step_inside : (c : Cmd) (i : ℕ) → Stepping c i → i < size c
  step_inside (cmd o b) i h = body_inside b i h

  body_inside : (b : Body) (i : ℕ) → SteppingBody b i → i < size_body b
  body_inside skip i h = absurd h
  body_inside (assign x v) i h = omega arith
  body_inside (seq cs) i h = steps_inside cs i h
  body_inside (if g c d) i h =
      if_inside g c d i (eqb i 0) (leb i (size c)) refl refl (λ k. ((h.1 k).0, step_inside d (i - (1 + size c + between (size d))) (h.1 k).1))
  body_inside (while g c) i h = while_inside g c c i (eqb i 0) refl (λ k. step_inside c (i - 1) (h k))

  steps_inside : (cs : Cmds) (i : ℕ) → SteppingAll cs i → i < size_all cs
  steps_inside nil i h = absurd h
  steps_inside (cons c cs) i h = all_inside c cs i (ltb i (size c)) refl (λ k. steps_inside cs (i - size c) (h.1 k))

pub levels_on : (c : Cmd) (len : ℕ) → Levels c (most_deep - len - 1) → Levels c (most_deep - (len + 1))
levels_on c len h = let e : most_deep - len - 1 ≡ most_deep - (len + 1) = omega arith in rw e at h

pub stands : {code : List ℕ} {c : Cmd} {at i len : ℕ} → Seeks code c at i len → SomeCmd code at
stands {c = c} h = record { command = c; sits = h.sits }

-- The parts of an if: the row i is its guard's, or the then-part's row i - 1, or the else-part's row i - 2 - the then-part's rows. Where i is that
-- of the jump, or would be, the else-part has no rows.
pub record Branches (code : List ℕ) (c : Cmd) (i len m : ℕ) : Type 0 where
  pub first : Cmd
  pub second : Cmd
  pub seeks : Seeks code first m (i - 1) (len + 1)
  pub has : (d : ℕ) → i - 1 < size first → Has c i d first 0 (i - 1) (d + 1)
  pub seeks_else : (next rows : ℕ) → Skips code m next rows → size first ≤ i - 1 → Seeks code second next (i - (rows + 2)) (len + 1)
  pub has_else : (next rows : ℕ) → Skips code m next rows → size first ≤ i - 1 → (d : ℕ) → i - (rows + 2) < size second
      → Has c i d second 1 (i - (rows + 2)) (d + 1)
  pub past : (next rows : ℕ) → Skips code m next rows → size first ≤ i - 1 → size second ≤ i - (rows + 2) → size c ≤ i

one_between : (n : ℕ) → 0 < n → between n ≡ 1
one_between n h = sym (jump_one n (λ e. omega arith))

if_past : (c d : Cmd) (i : ℕ) (b : Bool) → eqb (size d) 0 ≡ b → (i ≡ 0 → ⊥) → size c ≤ i - 1 → size d ≤ i - (size c + 2)
    → 1 + size c + between (size d) + size d ≤ i
if_past c d i true e z h k = omega (arith, eqb-true (size d) 0 e, jump_none (size d) (eqb-true (size d) 0 e))
if_past c d i false e z h k = let n = eqb-false (size d) 0 e in omega (arith, one_between (size d) (omega arith))

module _ (code : List ℕ) (at i len : ℕ) where
  pub branches : (m : ℕ) → get_or code at 0 ≡ 0x23 → (i ≡ 0 → ⊥) → SkipsExpr code (at + 1) m → (c : Cmd) → Seeks code c at i len → Branches code c i len m
  unfolding size size_body Stepping SteppingBody path_to path_body choose Levels LevelsBody
  branches m b z f c h =
      by_if code at h.sits.end (λ c. (i < size c → Stepping c i) → Levels c (most_deep - len) → Branches code c i len m) b
      (λ o g p q n k x u v t w.
      let e = f g n x in
      let steps : (0 < size q) → size p ≤ i - 1 → i - (size p + 2) < size q → Stepping q (i - (size p + 2)) =
      λ y l j. let a = one_between (size q) y in
      let r = ((t (omega (arith, a))).1 (omega arith)).1 in
      let a' : i - (1 + size p + between (size q)) ≡ i - (size p + 2) = omega arith in
      rw a' at r in
      record {
        first = p;
        second = q;
        seeks = record { sits = rw e (record { end = k; lies = u }); steps = λ y. (t (omega arith)).0 (omega arith) (omega arith); levels = levels_on p len w.1.0 };
        has = λ d y. let a : i ≤ size p = omega arith in
            record { there = omega arith; path = λ l. rw (ne_eqb i 0 z, le-leb i (size p) a) };
        seeks_else = λ next rows s l. let y = s p k (rw e u) in
            rw (y.0, y.1)
            (record { sits = record { end = h.sits.end; lies = v }; steps = λ j. steps (omega arith) l j; levels = levels_on q len w.1.1 });
        has_else = λ next rows s l d j. let y = s p k (rw e u) in
            let a : size p < i = omega arith in
            let a₁ = one_between (size q) (omega arith) in
            let a₂ : 1 + size p + between (size q) ≡ rows + 2 = omega (arith, y.1) in
            record { there = omega (arith, y.1); path = λ l. rw (ne_eqb i 0 z, lt-leb i (size p) a, a₂) };
        past = λ next rows s l j. let y = s p k (rw e u) in
            if_past p q i (eqb (size q) 0) refl z l (omega (arith, y.1));
      })
      c h.sits.lies h.steps h.levels

-- The then-part of an if does not have the row: where the else-part may have it.
pub record Elsewhere (code : List ℕ) (c : Cmd) (at i len m : ℕ) (old new : List ℕ) (e : Extent) : Type 0 where
  pub second : Cmd
  pub skips : Skips code m e.end e.rows
  pub same : new ≡ old
  pub after : at < m
  pub on : e.rows + m < e.end
  pub within : e.end ≤ length code
  pub seeks : (row : ℕ) → row ≡ i - (e.rows + 2) → Seeks code second e.end row (len + 1)
  pub has : (row : ℕ) → row ≡ i - (e.rows + 2) → (d : ℕ) → row < size second → Has c i d second 1 row (d + 1)
  pub past : (row : ℕ) → row ≡ i - (e.rows + 2) → size second ≤ row → size c ≤ i

module _ (code : List ℕ) (at i len m : ℕ) where
  pub elsewhere : {old new : List ℕ} {e : Extent} → get_or code at 0 ≡ 0x23 → (i ≡ 0 → ⊥) → SkipsExpr code (at + 1) m
      → ((y : Cmd) → Seeks code y m (i - 1) (len + 1) → Past code y m (i - 1) old new e) → (c : Cmd) → Seeks code c at i len → Elsewhere code c at i len m old new e
  elsewhere {e = e} b z f t c h =
      let v = branches code at i len m b z f c h in
      let q = t v.first v.seeks in
      let w = span_within code m e.end e.rows q.skips (stands v.seeks) in
      record {
        second = v.second;
        skips = q.skips;
        same = q.same;
        after = ((if_guard code at b m (stands h)).1 f).1;
        on = w.0;
        within = w.1;
        seeks = λ row x. rw x (v.seeks_else e.end e.rows q.skips q.past);
        has = λ row x d k. rw x (v.has_else e.end e.rows q.skips q.past d (omega arith));
        past = λ row x k. v.past e.end e.rows q.skips q.past (omega arith);
      }

-- A while, known by its byte: its guard and what comes after it, and its span.
module _ (code : List ℕ) (at : ℕ) (b : get_or code at 0 ≡ 0x24) (m : ℕ) where
  pub body_guard : SomeCmd code at → SomeExpr code (at + 1) × (SkipsExpr code (at + 1) m → SomeCmd code m × (at < m))
  body_guard s = while_guard code at (λ e. omega arith) (λ e. omega arith) (λ e. omega arith) (λ e. omega arith) m s

  pub body_span : SkipsExpr code (at + 1) m → (next rows : ℕ) → Skips code m next rows → Skips code at next (1 + rows + 1)
  body_span f next rows h = while_span code at (λ e. omega arith) (λ e. omega arith) (λ e. omega arith) (λ e. omega arith) m f next rows h

-- The body of a while: the row i is its guard's, or the body's row i - 1, as its jump takes no step.
pub record Inner (code : List ℕ) (c : Cmd) (i len m : ℕ) : Type 0 where
  pub body : Cmd
  pub seeks : Seeks code body m (i - 1) (len + 1)
  pub has : (d : ℕ) → i - 1 < size body → Has c i d body 0 (i - 1) (d + 1)
  pub past : size body ≤ i - 1 → size c ≤ i

while_past : (c : Cmd) (i : ℕ) (b : Bool) → ltb i (1 + size c + 1) ≡ b → (i ≡ 0 → ⊥) → (i < 1 + size c + 1 → 0 < i → Stepping c (i - 1)) → size c ≤ i - 1
    → 1 + size c + 1 ≤ i
while_past c i true e z f h = let k = ltb-true i (1 + size c + 1) e in absurd (omega (arith, step_inside c (i - 1) (f k (omega arith))))
while_past c i false e z f h = ltb-false i (1 + size c + 1) e

module _ (code : List ℕ) (at i len : ℕ) where
  pub inner : (m : ℕ) → get_or code at 0 ≡ 0x24 → (i ≡ 0 → ⊥) → SkipsExpr code (at + 1) m → (c : Cmd) → Seeks code c at i len → Inner code c i len m
  unfolding size size_body Stepping SteppingBody path_to path_body choose Levels LevelsBody
  inner m b z f c h =
      by_while_byte code at h.sits.end (λ c. (i < size c → Stepping c i) → Levels c (most_deep - len) → Inner code c i len m) b
      (λ o g p n x u t w.
      let e = f g n x in
      record {
        body = p;
        seeks = record { sits = rw e (record { end = h.sits.end; lies = u }); steps = λ y. t (omega arith) (omega arith); levels = levels_on p len w.1 };
        has = λ d y. record { there = omega arith; path = λ l. rw (ne_eqb i 0 z) };
        past = while_past p i (ltb i (1 + size p + 1)) refl z t;
      })
      c h.sits.lies h.steps h.levels

  -- the body does not have the row, and so the while does not
  pub further_on : (m : ℕ) {old new : List ℕ} {e : Extent} → get_or code at 0 ≡ 0x24 → (i ≡ 0 → ⊥) → SkipsExpr code (at + 1) m
      → ((y : Cmd) → Seeks code y m (i - 1) (len + 1) → Past code y m (i - 1) old new e) → (c : Cmd) → Seeks code c at i len
      → Past code c at i old new (record { end = e.end; rows = 1 + e.rows + 1 })
  further_on m b z f t c h =
      let v = inner m b z f c h in
      let q = t v.body v.seeks in
      record { skips = body_span code at b m f _ _ q.skips; past = v.past q.past; same = q.same }

  -- the guard's own row
  pub if_here : get_or code at 0 ≡ 0x23 → i ≡ 0 → (l : List Label) (d : ℕ) (c : Cmd) → Seeks code c at i len → (i < size c) × (path_to l c d i ≡ [])
  unfolding size size_body path_to path_body choose
  if_here b e l d c h =
      by_if code at h.sits.end (λ c. (i < size c) × (path_to l c d i ≡ [])) b (λ o g p q m n x u v. (omega arith, rw (eq-eqb i 0 e))) c h.sits.lies

  pub while_here : get_or code at 0 ≡ 0x24 → i ≡ 0 → (l : List Label) (d : ℕ) (c : Cmd) → Seeks code c at i len → (i < size c) × (path_to l c d i ≡ [])
  unfolding size size_body path_to path_body choose
  while_here b e l d c h =
      by_while_byte code at h.sits.end (λ c. (i < size c) × (path_to l c d i ≡ [])) b (λ o g p m x u. (omega arith, rw (eq-eqb i 0 e))) c h.sits.lies

  pub other_here : (get_or code at 0 ≡ 0x22 → ⊥) → (get_or code at 0 ≡ 0x23 → ⊥) → (get_or code at 0 ≡ 0x24 → ⊥)
      → (l : List Label) (d : ℕ) (c : Cmd) → Seeks code c at i len → path_to l c d i ≡ []
  unfolding path_to path_body
  other_here x y z l d c h = by_other code at h.sits.end (λ c. path_to l c d i ≡ []) x y z (λ o. refl) (λ o u v. refl) c h.sits.lies

-- A block that was read, at a row that takes a step: the row is there.
pub block_seeks : (m row : ℕ) (code : List ℕ) (c : Cmd) → read_block m code ≡ ok c → Stepping c row → Seeks code c 0 row 0
block_seeks m row code c e h =
    record { sits = record { end = length code; lies = block_lies m code c e }; steps = λ _. h; levels = block_levels m code c e }

pub not_past : {code old new : List ℕ} {c : Cmd} {row : ℕ} {e : Extent} → Past code c 0 row old new e → Stepping c row → ⊥
not_past {c = c} {row = row} q h = omega (arith, q.past, step_inside c row h)

pub traced_as : {old new : List ℕ} {size len : ℕ} (names l : List Label) (c : Cmd) (d i : ℕ) → names ≡ l → Traced old new len (path_to names c d i) size
    → Traced old new len (path_to l c d i) size
traced_as names l c d i e t = rw e at t
