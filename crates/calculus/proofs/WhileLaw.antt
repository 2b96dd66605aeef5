-- Proves `while_law`: a while is its guard, then its body and itself again, and no fuel is seen. Assumes nothing.
use Prim.Native.Nat.{ℕ, zero, suc, ◌+◌, ◌-◌, ◌≤◌}
use mathlib.Core.Path.{◌≡◌, refl, sym, ◌∙◌}
use native.Mathlib.Omega.{arith}
use borrow.Author.Tests.{eq-eqb}
use Rattle.lattice.specs.Order.{Label, meet}
use Rattle.values.specs.Result.{Result, ◌>>=◌, require, refused_as}
use Rattle.syntax.specs.Syntax.{Expr, Cmd}
use Rattle.values.proofs.Result.{bind_same}
use Rattle.calculus.specs.Calculus.{Setting, State, Stop, counted, step, judge, loop, exec, exec_body}
use Rattle.calculus.specs.Steps.{once, WhileLaw}
use Rattle.calculus.proofs.Steps.{choose_both, Counted, made, exec_counts}

module _ (w : Setting) (g : Expr) (c : Cmd) (at : ℕ) (branch : Label) where
  abbrev rounds : ℕ → State → Result Stop State
  rounds n s = loop (λ t. step w at t (judge w t.store g)) (λ l t. exec w c (meet w.tables.order branch l) t) at n s

  -- what follows a round matters only at states that it can end in
  once_same : (k k' : State → Result Stop State) (s : State) → s.steps ≤ w.limits.budget
      → ((u : State) → Counted w.limits.budget (s.steps + 1) u → k u ≡ k' u) → once w g c at branch k s ≡ once w g c at branch k' s
  unfolding counted
  once_same k k' s h same =
      bind_same _ _ _ _ _ (made w s.steps at s _ (record { grown = omega arith; kept = h })) λ j q.
      choose_both ◌≡◌ j.passes _ _ _ _ _ _
      (bind_same _ _ _ _ _ (exec_counts w (s.steps + 1) c _ (counted s) (record { grown = omega arith; kept = omega arith })) same) refl

  spent : (n : ℕ) (s : State) → s.steps ≡ w.limits.budget → rounds (suc n) s ≡ rounds zero s
  unfolding loop step require refused_as ◌>>=◌
  spent n s e = rw (eq-eqb s.steps w.limits.budget e)

  -- any fuel that covers the steps left is as good as any other
  enough : (n m : ℕ) (s : State) → s.steps ≤ w.limits.budget → w.limits.budget ≤ n + s.steps → w.limits.budget ≤ m + s.steps → rounds n s ≡ rounds m s
  unfolding loop
  enough zero zero s k h h' = refl
  enough zero (suc m) s k h h' = sym (spent m s (omega arith))
  enough (suc n) zero s k h h' = spent n s (omega arith)
  enough (suc n) (suc m) s k h h' =
      once_same (rounds n) (rounds m) s k (λ u q. enough n m u q.kept (omega (arith, q.grown)) (omega (arith, q.grown)))

-- a while command is one round of it, and then the same command again
pub while_law : WhileLaw
unfolding exec exec_body loop
while_law w g c at branch s h =
    enough w g c at branch (w.limits.budget - s.steps) (suc w.limits.budget) s h (omega arith) (omega arith)
    ∙ once_same w g c at branch (rounds w g c at branch w.limits.budget) (λ u. rounds w g c at branch (w.limits.budget - u.steps) u) s h
    (λ u q. enough w g c at branch w.limits.budget (w.limits.budget - u.steps) u q.kept (omega arith) (omega (arith, q.kept)))
