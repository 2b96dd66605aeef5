-- Laws of the numbers that a run's steps are refused by (`judge`, `assignment`, `exec`, specs/Calculus.antt). Assumes nothing.
use Prim.Native.Nat.{ℕ, ◌+◌, ◌-◌}
use mathlib.Core.Path.{◌≡◌}
use mathlib.Core.Bool.{false}
use mathlib.Core.List.{List, [], ◌∷◌}
use native.Mathlib.Omega.{arith}
use Rattle.lattice.specs.Order.{Label}
use Rattle.values.specs.Result.{Result}
use Rattle.values.specs.declared.Value.{Value}
use Rattle.values.proofs.Result.{Any, Refuses, post_require, post_refused_as, refuses_ok, refuses_require, refuses_bind, Positive}
use Rattle.store.specs.Sheet.{Tables}
use Rattle.syntax.specs.Sheet.{Block}
use Rattle.syntax.specs.Syntax.{Expr, literal, read, operation, Cmd, cmd, Body, skip, assign, seq, if, while, Cmds, nil, cons}
use Rattle.calculus.specs.Rules.{RuleSet, labels_judged}
use Rattle.calculus.specs.Calculus.{Limits, Setting, Store, Labelled, State, Stop, may_hold, admit, fetch, operate, eval, judge, authorised, reliable, permit, assignment, counted, step, exec, exec_body, execs}
use Rattle.calculus.specs.Blocks.{Halt, setting, run_blocks}
use Rattle.calculus.proofs.Steps.{post_choose, post_tried, post_loop, post_attempt}

-- Q holds of each number that the rules can refuse a step by under w
pub record Refusing (Q : ℕ → Type 0) (w : Setting) : Type 0 where
  pub kind : Q 13
  pub region : (i : ℕ) → authorised w i ≡ false → Q 14
  pub view : (v : Value) → may_hold w v ≡ false → Q 15
  pub labels : (i : ℕ) (x y branch : Label) → reliable w i (labels_judged w.rules x y branch) ≡ false → Q 16

module _ (Q : ℕ → Type 0) (w : Setting) (q : Refusing Q w) where
  admits : (x : Labelled) → Refuses Q (admit w x)
  unfolding admit
  admits x = post_require _ _ _ _ _ (λ _. refuses_ok _ _) (q.view x.value)

  evals : (s : Store) (e : Expr) → Refuses Q (eval w s e)
  unfolding eval fetch operate
  evals s (literal v) = admits _
  evals s (read e) = refuses_bind _ _ _ (evals s e) (λ x. refuses_require _ _ _ _ q.kind (admits _))
  evals s (operation o l r) = refuses_bind _ _ _ (evals s l) λ x. refuses_bind _ _ _ (evals s r) (λ y. refuses_require _ _ _ _ q.kind (refuses_ok _ _))

  pub judges : (s : Store) (g : Expr) → Refuses Q (judge w s g)
  unfolding judge
  judges s g = refuses_bind _ _ _ (evals s g) (λ x. refuses_require _ _ _ _ q.kind (refuses_ok _ _))

  pub assigns : (branch : Label) (s : Store) (t v : Expr) → Refuses Q (assignment w branch s t v)
  unfolding assignment permit
  assigns branch s t v =
      refuses_bind _ _ _ (evals s t) λ x.
      refuses_require _ _ _ _ q.kind (
      refuses_bind _ _ _ (evals s v) λ y.
      post_require _ _ _ _ _ (λ _. post_require _ _ _ _ _ (λ _. refuses_ok _ _) (q.labels _ _ _ _)) (q.region _))

-- and of the numbers that a spent budget and a full journal refuse it by
module _ (Q : ℕ → Type 0) (w : Setting) (q : Refusing Q w) (spent : Q 17) (full : Q 18) where
  abbrev Numbered : Stop → Type 0
  Numbered e = Q e.number

  steps : {A : Type 0} (at : ℕ) (s : State) (r : Result ℕ A) → Refuses Q r → Refuses Numbered (step w at s r)
  steps at s r h = post_tried w at s _ _ _ h spent

  mutual
    unfolding exec exec_body execs

    exec_refuses : (c : Cmd) (branch : Label) (s : State) → Refuses Numbered (exec w c branch s)
    exec_refuses (cmd at b) branch s = body_refuses b at branch s

    body_refuses : (b : Body) (at : ℕ) (branch : Label) (s : State) → Refuses Numbered (exec_body w b at branch s)
    body_refuses skip at branch s = refuses_ok _ _
    body_refuses (assign t v) at branch s = refuses_bind _ _ _ (steps at s _ (post_attempt _ _ w branch s t v (assigns Q w q branch s.store t v) full)) (λ x. refuses_ok _ _)
    body_refuses (seq cs) at branch s = all_refuse cs branch s
    body_refuses (if g c d) at branch s =
        refuses_bind _ _ _ (steps at s _ (judges Q w q s.store g)) λ j.
        post_choose _ _ _ _ _ _ (λ _. exec_refuses c _ (counted s)) (λ _. exec_refuses d _ (counted s))
    body_refuses (while g c) at branch s =
        post_loop Any Numbered (λ _ _. Unit {0}) _ _ at (λ _ _. spent) (λ t _. steps at t _ (judges Q w q t.store g)) (λ _ _ _ _. tt)
        (λ _ j _ t _. exec_refuses c _ t) (w.limits.budget - s.steps) s tt

    all_refuse : (cs : Cmds) (branch : Label) (s : State) → Refuses Numbered (execs w cs branch s)
    all_refuse nil branch s = refuses_ok _ _
    all_refuse (cons c cs) branch s = refuses_bind _ _ _ (exec_refuses c branch s) (λ t. all_refuse cs branch t)

module _ (Q : ℕ → Type 0) (w : Tables) (rules : RuleSet) (l : Limits) (q : (i : ℕ) (b : Block) → Refusing Q (setting w rules l i b)) (spent : Q 17)
    (full : Q 18) where
  pub blocks_refuse_by : (i : ℕ) (bs : List Block) (s : State) → Refuses (λ (h : Halt). Q h.stop.number) (run_blocks w rules l i bs s)
  unfolding run_blocks
  blocks_refuse_by i [] s = refuses_ok _ _
  blocks_refuse_by i (b ∷ bs) s =
      refuses_bind _ _ _ (post_refused_as _ _ _ _ (exec_refuses Q (setting w rules l i b) (q i b) spent full b.command _ s)) λ t.
      blocks_refuse_by (i + 1) bs t

-- every refusal of a run has a number from 1 on
pub blocks_refuse : (w : Tables) (rules : RuleSet) (l : Limits) (i : ℕ) (bs : List Block) (s : State)
    → Refuses (λ (h : Halt). Positive h.stop.number) (run_blocks w rules l i bs s)
blocks_refuse w rules l i bs s =
    blocks_refuse_by Positive w rules l
    (λ _ b. record {
      kind = omega arith;
      region = λ _ _. omega arith;
      view = λ _ _. omega arith;
      labels = λ _ _ _ _ _. omega arith;
    }) (omega arith) (omega arith) i bs s
