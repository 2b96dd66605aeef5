-- For `step_by_step`: where a command is stopped, by the rules or by its limits, it has come to a step (`Comes`). Assumes nothing.
use Prim.Native.Nat.{ℕ, zero, suc, ◌-◌}
use mathlib.Core.Path.{◌≡◌, refl}
use Rattle.lattice.specs.Order.{Label, meet}
use Rattle.values.specs.Result.{Result, ok, refuse}
use Rattle.values.proofs.Result.{Post, Refuses, post_ok, post_refuse, post_self, post_map, post_bind}
use Rattle.syntax.specs.Syntax.{Expr, Cmd, cmd, Body, skip, assign, seq, if, while, Cmds, nil, cons}
use Rattle.calculus.specs.Calculus.{Setting, State, Stop, judge, counted, step, loop, exec, exec_body, execs}
use Rattle.calculus.specs.Tasks.{Task, judging}
use Rattle.exactness.specs.StepByStep.{Place, step_at, Comes, at_assignment, at_if, at_while, in_first, in_rest, in_then, in_else, in_body, in_later_round}
use Rattle.calculus.proofs.Steps.{post_choose, post_tried}

-- it is stopped before a step of which C holds
pub record Before (C : Place → Type 0) (e : Stop) : Type 0 where
  pub task : Task
  pub comes : C (step_at e.offset e.state task)

-- a part of it is, and then it itself
inner : {A : Type 0} (P : A → Type 0) (C C' : Place → Type 0) (r : Result Stop A) → ((a : A) → r ≡ ok a → P a) → ((p : Place) → C p → C' p)
    → Refuses (Before C) r → Post P (Before C') r
unfolding Post
inner P C C' (ok a) f g x = f a refl
inner P C C' (refuse e) f g x = record { task = x.task; comes = g _ x.comes }

module _ (w : Setting) where
  at_step : {A : Type 0} (C : Place → Type 0) (at : ℕ) (s : State) (t : Task) (r : Result ℕ A) → C (step_at at s t)
      → Post (λ a. r ≡ ok a) (Before C) (step w at s r)
  at_step C at s t r c =
      post_tried w at s _ _ r (post_map _ _ _ _ _ (post_self r) (λ a e. e) (λ _ _. record { task = t; comes = c })) (record { task = t; comes = c })

  module _ (g : Expr) (c : Cmd) (at : ℕ) (l : Label) (body : (l : Label) (s : State) → Refuses (Before (Comes w c l s)) (exec w c l s)) where
    rounds_come : (n : ℕ) (s : State) → Refuses (Before (Comes w (cmd at (while g c)) l s))
        (loop (λ t. step w at t (judge w t.store g)) (λ l' t. exec w c (meet w.tables.order l l') t) at n s)
    unfolding loop
    rounds_come zero s = post_refuse _ _ _ (record { task = judging g; comes = at_while })
    rounds_come (suc n) s =
        post_bind _ _ _ _ _ (at_step _ at s _ _ at_while) λ j q.
        post_choose _ _ _ _ _ _
        (λ e. post_bind _ _ _ _ _ (inner _ _ _ _ (λ _ d. d) (λ p x. in_body q e x) (body _ (counted s))) λ u d.
        inner _ _ _ _ (λ _ _. tt) (λ p x. in_later_round q e d x) (rounds_come n u))
        (λ _. post_ok _ _ _ tt)

  mutual
    unfolding exec exec_body execs

    pub exec_comes : (c : Cmd) (l : Label) (s : State) → Refuses (Before (Comes w c l s)) (exec w c l s)
    exec_comes (cmd at b) l s = body_comes b at l s

    body_comes : (b : Body) (at : ℕ) (l : Label) (s : State) → Refuses (Before (Comes w (cmd at b) l s)) (exec_body w b at l s)
    body_comes skip at l s = post_ok _ _ _ tt
    body_comes (assign x v) at l s = post_bind _ _ _ _ _ (at_step _ at s _ _ at_assignment) (λ _ _. post_ok _ _ _ tt)
    body_comes (seq cs) at l s = execs_come cs at l s
    body_comes (if g c d) at l s =
        post_bind _ _ _ _ _ (at_step _ at s _ _ at_if) λ j q.
        post_choose _ _ _ _ _ _
        (λ e. inner _ _ _ _ (λ _ _. tt) (λ p x. in_then q e x) (exec_comes c _ (counted s)))
        (λ e. inner _ _ _ _ (λ _ _. tt) (λ p x. in_else q e x) (exec_comes d _ (counted s)))
    body_comes (while g c) at l s = rounds_come g c at l (λ l t. exec_comes c l t) (w.limits.budget - s.steps) s

    execs_come : (cs : Cmds) (at : ℕ) (l : Label) (s : State) → Refuses (Before (Comes w (cmd at (seq cs)) l s)) (execs w cs l s)
    execs_come nil at l s = post_ok _ _ _ tt
    execs_come (cons c cs) at l s =
        post_bind _ _ _ _ _ (inner _ _ _ _ (λ _ d. d) (λ p x. in_first x) (exec_comes c l s)) λ t d.
        inner _ _ _ _ (λ _ _. tt) (λ p x. in_rest d x) (execs_come cs at l t)
