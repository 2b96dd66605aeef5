-- Laws of `judge` and `assignment` (specs/Calculus.antt): they answer the same within all limits, and refuse by 13 to 16 alone. Assumes nothing.
use Prim.Native.Nat.{ℕ, ◌<◌}
use mathlib.Core.Path.{◌≡◌, refl}
use native.Mathlib.Omega.{arith}
use Rattle.lattice.specs.Order.{Label}
use Rattle.values.proofs.Result.{Refuses}
use Rattle.syntax.specs.Syntax.{Expr, literal, read, operation}
use Rattle.calculus.specs.Calculus.{Limits, Setting, Store, State, in_region, admit, fetch, operate, eval, judge, authorised, reliable, permit, assignment, attempt}
use Rattle.calculus.proofs.Steps.{post_attempt}
use Rattle.calculus.proofs.CalculusRefusals.{Refusing, judges, assigns}

-- a setting within other limits
abbrev pub limited_by : Limits → Setting → Setting
limited_by l w = record { tables = w.tables; rules = w.rules; header = w.header; block = w.block; limits = l }

-- expressions, guards and assignments
module _ (l : Limits) (w : Setting) where
  pub eval_same : (s : Store) (e : Expr) → eval (limited_by l w) s e ≡ eval w s e
  unfolding eval admit fetch operate in_region
  eval_same s (literal v) = refl
  eval_same s (read e) = rw (eval_same s e)
  eval_same s (operation o e e') = rw (eval_same s e, eval_same s e')

  pub judge_same : (s : Store) (g : Expr) → judge (limited_by l w) s g ≡ judge w s g
  unfolding judge
  judge_same s g = rw (eval_same s g)

  pub assignment_same : (branch : Label) (s : Store) (t v : Expr) → assignment (limited_by l w) branch s t v ≡ assignment w branch s t v
  unfolding assignment permit authorised reliable in_region
  assignment_same branch s t v = rw (eval_same s t, eval_same s v)

  -- and an assignment that is tried, where journals are of one length
  pub attempt_same : l.entries ≡ w.limits.entries → (branch : Label) (s : State) (t v : Expr)
      → attempt (limited_by l w) branch s t v ≡ attempt w branch s t v
  unfolding attempt
  attempt_same room branch s t v = rw (assignment_same branch s.store t v, room)

-- the rules refuse by 13 to 16 only: by no number after those
by_rules : (n : ℕ) (w : Setting) → 16 < n → Refusing (λ e. e ≡ n → ⊥) w
by_rules n w h =
    record {
      kind = λ e. omega arith;
      region = λ _ _ e. omega arith;
      view = λ _ _ e. omega arith;
      labels = λ _ _ _ _ _ e. omega arith;
    }

module _ (w : Setting) where
  -- so no guard and no assignment is refused as out of budget or out of entries
  pub judge_not : (n : ℕ) → 16 < n → (s : Store) (g : Expr) → Refuses (λ e. e ≡ n → ⊥) (judge w s g)
  judge_not n h s g = judges _ w (by_rules n w h) s g

  pub assignment_not : (n : ℕ) → 16 < n → (branch : Label) (s : Store) (t v : Expr) → Refuses (λ e. e ≡ n → ⊥) (assignment w branch s t v)
  assignment_not n h branch s t v = assigns _ w (by_rules n w h) branch s t v

  pub judge_not_17 : (s : Store) (g : Expr) → Refuses (λ n. n ≡ 17 → ⊥) (judge w s g)
  judge_not_17 = judge_not 17 (omega arith)

  pub attempt_not_17 : (branch : Label) (s : State) (t v : Expr) → Refuses (λ n. n ≡ 17 → ⊥) (attempt w branch s t v)
  attempt_not_17 branch s t v = post_attempt _ _ w branch s t v (assignment_not 17 (omega arith) branch s.store t v) (λ e. omega arith)
