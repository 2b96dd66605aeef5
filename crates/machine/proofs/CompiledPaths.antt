-- The paths to the rows of a command that stands in the tables: the path to the command, and then those in it. Assumes nothing.
use Prim.Native.Nat.{ℕ, suc, ◌+◌, ◌-◌, ◌≤◌, ◌<◌}
use mathlib.Core.Path.{◌≡◌, refl, sym, ap, ◌∙◌}
use mathlib.Core.List.{List, [], ◌∷◌, ◌++◌, append-nil, append_assoc}
use native.Mathlib.Omega.{arith}
use borrow.Author.Tests.{ne_eqb, le-leb, lt-leb, lt-ltb, le-ltb}
use lib.ListN.{length, get_or, set, length-set}
use lib.Seq.{get_or-set_same, get_or-set_other}
use Rattle.lattice.specs.Order.{Label}
use Rattle.values.specs.Result.{Result, ok, refuse, ◌>>=◌, refused_as}
use Rattle.syntax.specs.Syntax.{Expr, Cmd, if, while, Cmds, cons}
use Rattle.syntax.specs.Rows.{size, size_all, between}
use Rattle.calculus.specs.Calculus.{State, Stop, choose}
use Rattle.pausing.specs.Paths.{Open, Pause, pause_at, within}
use Rattle.machine.specs.CompiledRuns.{Span}
use Rattle.pausing.specs.RowPaths.{entry, path_to, path_body, find_in}

-- Results whose stops are inside more commands

-- a stop inside the commands of a path
abbrev pub under : List Open → Pause → Pause
under q x = pause_at (q ++ x.path) x.stop

-- binds stay shut elsewhere, so that `_` can be found
module _ {E A B : Type 0} where
  pub ok_bind : (a : A) (k : A → Result E B) → (ok a >>= k) ≡ k a
  unfolding ◌>>=◌
  ok_bind a k = refl

  pub refuse_bind : (e : E) (k : A → Result E B) → (refuse e >>= k) ≡ refuse e
  unfolding ◌>>=◌
  refuse_bind e k = refl

module _ {E F A : Type 0} (f : E → F) where
  pub as_ok : (a : A) → refused_as f (ok a) ≡ ok a
  unfolding refused_as
  as_ok a = refl

  pub as_refuse : (e : E) → refused_as {A = A} f (refuse e) ≡ refuse (f e)
  unfolding refused_as
  as_refuse e = refl

  pub as_bind : {B : Type 0} (r : Result E A) (k : A → Result E B) → refused_as f (r >>= k) ≡ (refused_as f r >>= λ a. refused_as f (k a))
  unfolding refused_as ◌>>=◌
  as_bind (ok a) k = refl
  as_bind (refuse e) k = refl

module _ {A : Type 0} where
  pub as_within : (q : List Open) (i : ℕ) (l : Label) (r : Result Pause A)
      → refused_as (under q) (refused_as (within i l) r) ≡ refused_as (under (q ++ (record { child = i; label = l } ∷ []))) r
  unfolding refused_as
  as_within q i l (ok a) = refl
  as_within q i l (refuse e) = ap (λ (p : List Open). refuse (pause_at p e.stop)) (sym (append_assoc q (record { child = i; label = l } ∷ []) e.path))

  pub as_none : (r : Result Pause A) → refused_as (under []) r ≡ r
  unfolding refused_as
  as_none (ok a) = refl
  as_none (refuse e) = refl

-- a step of a command, and what follows it: the command's own path is empty
step_out : {A : Type 0} (q : List Open) (r : Result Stop A) (g : A → Result Pause State) (k : State → Result Pause State)
    → (refused_as (under q) (refused_as (pause_at []) r >>= g) >>= k) ≡ (refused_as (pause_at q) r >>= λ a. refused_as (under q) (g a) >>= k)
unfolding refused_as ◌>>=◌
step_out q (ok a) g k = refl
step_out q (refuse e) g k = ap (λ (p : List Open). refuse (pause_at p e)) (append-nil q)

pub step_own : {A : Type 0} (q q' : List Open) → q' ≡ q → (r : Result Stop A) (g : A → Result Pause State) (k : State → Result Pause State)
    → (refused_as (under q) (refused_as (pause_at []) r >>= g) >>= k) ≡ (refused_as (pause_at q') r >>= λ a. refused_as (under q) (g a) >>= k)
step_own q q' e r g k = rw e (step_out q r g k)

-- Labels

-- the labels up to depth d are the same
pub record Same (d : ℕ) (l l' : List Label) : Type 0 where
  pub room : length l' ≡ length l
  pub same : (i : ℕ) → i ≤ d → get_or l' i 0 ≡ get_or l i 0

pub same_refl : {d : ℕ} {l : List Label} → Same d l l
same_refl = record { room = refl; same = λ i h. refl }

pub same_trans : {d : ℕ} {a b c : List Label} → Same d a b → Same d b c → Same d a c
same_trans p q = record { room = q.room ∙ p.room; same = λ i h. q.same i h ∙ p.same i h }

pub same_less : {d e : ℕ} {a b : List Label} → d ≤ e → Same e a b → Same d a b
same_less h q = record { room = q.room; same = λ i k. q.same i (omega arith) }

pub same_set : {d : ℕ} {l : List Label} (x : Label) → Same d l (set l (d + 1) x)
same_set {d} {l} x = record { room = length-set l (d + 1) x; same = λ i h. get_or-set_other l (d + 1) i x 0 (omega arith) }

-- Paths to the rows of a command's parts

opened : (q : List Open) (m : List Label) (k d : ℕ) (v : Label) (p p' : List Open) → get_or m d 0 ≡ v → p ≡ p'
    → q ++ (entry m k d ∷ p) ≡ (q ++ (record { child = k; label = v } ∷ [])) ++ p'
opened q m k d v p p' e z = rw (e, z) (sym (append_assoc q (record { child = k; label = v } ∷ []) p'))

-- the path to a row of a sequence's commands from the k-th on
abbrev pub among : ℕ → Cmds → ℕ → List Label → ℕ → List Open
among d cs k m i = entry m (k + (find_in m cs d i).child) d ∷ (find_in m cs d i).rest

module _ (span : Span) where
  -- n rows from r on, inside d guards with the labels l: their paths are q and then p's
  pub record Prefixed (p : List Label → ℕ → List Open) (r n d : ℕ) (q : List Open) (l : List Label) : Type 0 where
    pub from : span.first ≤ r
    pub upto : r + n ≤ span.last
    pub at : (i : ℕ) (m : List Label) → i < n → Same d l m → span.path (r + i) m ≡ q ++ p m i

  pub prefixed_same : {p : List Label → ℕ → List Open} {r n d : ℕ} {q : List Open} {l m : List Label} → Same d l m → Prefixed p r n d q l → Prefixed p r n d q m
  prefixed_same z h = record { from = h.from; upto = h.upto; at = λ i v k y. h.at i v k (same_trans z y) }

  module _ (r d : ℕ) (q : List Open) (l : List Label) where
    label_in : (v : Label) (m : List Label) → d + 1 < length l → Same (d + 1) (set l (d + 1) v) m → get_or m (d + 1) 0 ≡ v
    label_in v m k z = z.same (d + 1) (omega arith) ∙ get_or-set_same l (d + 1) v 0 k

    row_in : (a b : ℕ) (m : List Label) → a ≡ b → span.path a m ≡ span.path b m
    row_in a b m e = ap (λ (i : ℕ). span.path i m) e

    outer : (v : Label) (m : List Label) → Same (d + 1) (set l (d + 1) v) m → Same d l m
    outer v m z = same_trans (same_set v) (same_less (omega arith) z)

    -- the path to the first row, where the command's own is empty
    pub own_path : {p : List Label → ℕ → List Open} {n : ℕ} → 0 < n → p l 0 ≡ [] → Prefixed p r n d q l → span.path r l ≡ q
    own_path k e h = row_in r (r + 0) l (omega arith) ∙ h.at 0 l k same_refl ∙ rw e (append-nil q)

    module _ (g : Expr) (c e : Cmd) (h : Prefixed (λ m i. path_body m (if g c e) d i) r (1 + size c + between (size e) + size e) d q l) where
      pub if_own : span.path r l ≡ q
      unfolding path_body choose
      if_own = own_path (omega arith) refl h

      pub then_in : d + 1 < length l → (v : Label)
          → Prefixed (λ m i. path_to m c (d + 1) i) (r + 1) (size c) (d + 1) (q ++ (record { child = 0; label = v } ∷ [])) (set l (d + 1) v)
      unfolding path_body choose
      then_in k v =
          record {
            from = omega (arith, h.from);
            upto = omega (arith, h.upto);
            at = λ i m n z.
                row_in (r + 1 + i) (r + (i + 1)) m (omega arith) ∙ h.at (i + 1) m (omega arith) (outer v m z)
                ∙ rw (ne_eqb (i + 1) 0 (omega arith), le-leb (i + 1) (size c) (omega arith))
                (opened q m 0 (d + 1) v _ _ (label_in v m k z) (let y : i + 1 - 1 ≡ i = omega arith in ap (λ (j : ℕ). path_to m c (d + 1) j) y));
          }

      -- (an else-part with rows has a jump before it)
      pub else_in : (other : ℕ) → other ≡ r + 1 + size c + between (size e) → (0 < size e → between (size e) ≡ 1) → d + 1 < length l → (v : Label)
          → Prefixed (λ m i. path_to m e (d + 1) i) other (size e) (d + 1) (q ++ (record { child = 1; label = v } ∷ [])) (set l (d + 1) v)
      unfolding path_body choose
      else_in other o b k v =
          record {
            from = omega (arith, h.from);
            upto = omega (arith, h.upto);
            at = λ i m n z.
                let x = b (omega arith) in
                row_in (other + i) (r + (1 + size c + between (size e) + i)) m (omega arith) ∙ h.at (1 + size c + between (size e) + i) m (omega arith) (outer v m z)
                ∙ rw (ne_eqb (1 + size c + between (size e) + i) 0 (omega arith), lt-leb (1 + size c + between (size e) + i) (size c) (omega arith))
                (opened q m 1 (d + 1) v _ _ (label_in v m k z)
                (let y : 1 + size c + between (size e) + i - (1 + size c + between (size e)) ≡ i = omega arith in ap (λ (j : ℕ). path_to m e (d + 1) j) y));
          }

    module _ (g : Expr) (c : Cmd) (h : Prefixed (λ m i. path_body m (while g c) d i) r (1 + size c + 1) d q l) where
      pub while_own : span.path r l ≡ q
      unfolding path_body choose
      while_own = own_path (omega arith) refl h

      pub body_in : d + 1 < length l → (v : Label)
          → Prefixed (λ m i. path_to m c (d + 1) i) (r + 1) (size c) (d + 1) (q ++ (record { child = 0; label = v } ∷ [])) (set l (d + 1) v)
      unfolding path_body choose
      body_in k v =
          record {
            from = omega (arith, h.from);
            upto = omega (arith, h.upto);
            at = λ i m n z.
                row_in (r + 1 + i) (r + (i + 1)) m (omega arith) ∙ h.at (i + 1) m (omega arith) (outer v m z)
                ∙ rw (ne_eqb (i + 1) 0 (omega arith))
                (opened q m 0 (d + 1) v _ _ (label_in v m k z) (let y : i + 1 - 1 ≡ i = omega arith in ap (λ (j : ℕ). path_to m c (d + 1) j) y));
          }

    module _ (c : Cmd) (cs : Cmds) (k : ℕ) (h : Prefixed (among d (cons c cs) k) r (size c + size_all cs) d q l) where
      pub child_in_law : (b : Label) → get_or l d 0 ≡ b → Prefixed (λ m i. path_to m c d i) r (size c) d (q ++ (record { child = k; label = b } ∷ [])) l
      unfolding find_in choose
      child_in_law b e =
          record {
            from = omega (arith, h.from);
            upto = omega (arith, h.upto);
            at = λ i m n z.
                h.at i m (omega arith) z ∙ rw (lt-ltb i (size c) n)
                ((let y : k + 0 ≡ k = omega arith in ap (λ (j : ℕ). q ++ (entry m j d ∷ path_to m c d i)) y) ∙ opened q m k d b _ _ (z.same d (omega arith) ∙ e) refl);
          }

      pub rest_in : Prefixed (among d cs (k + 1)) (r + size c) (size_all cs) d q l
      unfolding find_in choose
      rest_in =
          record {
            from = omega (arith, h.from);
            upto = omega (arith, h.upto);
            at = λ i m n z.
                row_in (r + size c + i) (r + (size c + i)) m (omega arith) ∙ h.at (size c + i) m (omega arith) z
                ∙ rw (le-ltb (size c + i) (size c) (omega arith)) (let y : size c + i - size c ≡ i = omega arith in
                rw y (let v : k + suc (find_in m cs d i).child ≡ k + 1 + (find_in m cs d i).child = omega arith in ap (λ (j : ℕ). q ++ (entry m j d ∷ (find_in m cs d i).rest)) v));
          }

    -- the commands of a whole sequence
    pub all_in : (cs : Cmds) (n : ℕ) → Prefixed (λ m i. entry m (find_in m cs d i).child d ∷ (find_in m cs d i).rest) r n d q l → Prefixed (among d cs 0) r n d q l
    all_in cs n h =
        record {
          from = h.from;
          upto = h.upto;
          at = λ i m k z. h.at i m k z ∙ (let v : (find_in m cs d i).child ≡ 0 + (find_in m cs d i).child = omega arith in
              ap (λ (j : ℕ). q ++ (entry m j d ∷ (find_in m cs d i).rest)) v);
        }
