-- Laws of `play` (specs/Paths.antt): a while is its guard, then its body and itself again, and no fuel is seen. Assumes nothing.
use Prim.Native.Nat.{ℕ, zero, suc, ◌+◌, ◌-◌, ◌≤◌}
use mathlib.Core.Path.{◌≡◌, refl, sym, ◌∙◌}
use mathlib.Core.List.{[]}
use native.Mathlib.Omega.{arith}
use borrow.Author.Tests.{eq-eqb}
use Rattle.lattice.specs.Order.{Label, meet}
use Rattle.values.specs.Result.{Result, ok, ◌>>=◌, require, refused_as}
use Rattle.values.proofs.Result.{post_map, post_refused_as, bind_same}
use Rattle.syntax.specs.Syntax.{Expr, Cmd, while}
use Rattle.calculus.specs.Calculus.{Setting, State, counted, step, judge, choose}
use Rattle.pausing.specs.Paths.{Pause, pause_at, within, rounds, play, play_body}
use Rattle.calculus.proofs.Steps.{choose_both, Counted, made}
use Rattle.pausing.proofs.PathsInvariant.{play_counts}

-- one round of a while, its guard and then its body, and then k
abbrev pub round : Setting → Expr → Cmd → ℕ → Label → (State → Result Pause State) → State → Result Pause State
round w g c at branch k s =
    refused_as (pause_at []) (step w at s (judge w s.store g)) >>= λ j.
    choose j.passes
    (λ t. refused_as (within 0 (meet w.tables.order branch j.label)) (play w c (meet w.tables.order branch j.label) t) >>= k) ok (counted s)

module _ (w : Setting) (g : Expr) (c : Cmd) (at : ℕ) (branch : Label) where
  abbrev fuelled : ℕ → State → Result Pause State
  fuelled n s =
      rounds (λ t. refused_as (pause_at []) (step w at t (judge w t.store g)))
      (λ l t. refused_as (within 0 (meet w.tables.order branch l)) (play w c (meet w.tables.order branch l) t)) at n s

  -- what follows a round matters only at states that it can end in
  round_same : (k k' : State → Result Pause State) (s : State) → s.steps ≤ w.limits.budget
      → ((u : State) → Counted w.limits.budget (s.steps + 1) u → k u ≡ k' u) → round w g c at branch k s ≡ round w g c at branch k' s
  unfolding counted
  round_same k k' s h same =
      bind_same _ _ _ _ _ (post_refused_as _ (λ _. Unit {0}) _ _ (post_map _ _ _ _ _ (made w s.steps at s _ (record { grown = omega arith; kept = h })) (λ _ q. q) (λ _ _. tt))) λ j q.
      choose_both ◌≡◌ j.passes _ _ _ _ _ _
      (bind_same _ (λ _. Unit {0}) _ _ _ (post_refused_as _ _ _ _ (post_map _ _ _ _ _
      (play_counts w (s.steps + 1) c _ (counted s) (record { grown = omega arith; kept = omega arith })) (λ _ z. z) (λ _ _. tt))) same) refl

  -- where the budget is spent, fuel is of no use
  spent : (n : ℕ) (s : State) → s.steps ≡ w.limits.budget → fuelled (suc n) s ≡ fuelled zero s
  unfolding rounds step require refused_as ◌>>=◌
  spent n s e = rw (eq-eqb s.steps w.limits.budget e)

  -- any fuel that covers the steps left is as good as any other
  enough : (n m : ℕ) (s : State) → s.steps ≤ w.limits.budget → w.limits.budget ≤ n + s.steps → w.limits.budget ≤ m + s.steps
      → fuelled n s ≡ fuelled m s
  unfolding rounds
  enough zero zero s k h h' = refl
  enough zero (suc m) s k h h' = sym (spent m s (omega arith))
  enough (suc n) zero s k h h' = spent n s (omega arith)
  enough (suc n) (suc m) s k h h' =
      round_same (fuelled n) (fuelled m) s k (λ u q. enough n m u q.kept (omega (arith, q.grown)) (omega (arith, q.grown)))

  -- a while is one round of it, and then the same command again
  pub play_while : (s : State) → s.steps ≤ w.limits.budget
      → play_body w (while g c) at branch s ≡ round w g c at branch (play_body w (while g c) at branch) s
  unfolding play_body rounds
  play_while s h =
      enough (w.limits.budget - s.steps) (suc w.limits.budget) s h (omega arith) (omega arith)
      ∙ round_same (fuelled w.limits.budget) (λ u. fuelled (w.limits.budget - u.steps) u) s h
      (λ u q. enough w.limits.budget (w.limits.budget - u.steps) u q.kept (omega arith) (omega (arith, q.kept)))
