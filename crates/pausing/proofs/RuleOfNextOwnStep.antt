-- For `rule_of_next`: a command's own step, forbidden or made, against what it comes to, whatever the budget. Assumes nothing.
use Prim.Native.Nat.{ℕ, zero, suc, ◌+◌, ◌-◌, ◌<◌}
use mathlib.Core.Path.{◌≡◌, refl, subst}
use mathlib.Core.List.{[]}
use native.Mathlib.Omega.{arith}
use borrow.Author.Tests.{ne_eqb}
use Rattle.lattice.specs.Order.{Label}
use Rattle.values.specs.Result.{Result, ok, refuse, ◌>>=◌, require, refused_as}
use Rattle.values.proofs.Result.{Post, Any, post_ok, post_refuse, post_all, post_map, post_at, post_refused_as, post_bind, one_value, one_refusal, not_both}
use Rattle.syntax.specs.Syntax.{Expr, Cmd, cmd, skip, assign, seq, if, while}
use Rattle.calculus.specs.Calculus.{Limits, Setting, State, Stop, Judged, counted, recorded, performed, step, stop_at}
use Rattle.calculus.specs.Tasks.{Task, judging, assigning}
use Rattle.exactness.specs.StepByStep.{outcome}
use Rattle.pausing.specs.Paths.{Pause, pause_at, rounds, play, play_body}
use Rattle.pausing.specs.StretchesPromises.{own}
use Rattle.calculus.proofs.Steps.{post_choose}
use Rattle.calculus.proofs.CalculusLimits.{limited_by, judge_same, attempt_same}
use Rattle.pausing.proofs.PathsAside.{PostStop}
use Rattle.pausing.proofs.PathsNextStep.{SpentAt, play_spent, Doing}

-- what is known of an answer from how it goes on without refusing
module _ {A B : Type 0} (f : A → B) where
  refused_first : (r : Result ℕ A) (n : ℕ) → (r >>= λ a. ok (f a)) ≡ refuse n → Post (λ _. ⊥) (λ e. e ≡ n) r
  unfolding ◌>>=◌
  refused_first (ok a) n e = absurd (not_both (ok (f a)) (f a) n refl e)
  refused_first (refuse x) n e = post_refuse _ _ _ (one_refusal {A = B} (refuse x) x n refl e)

  made_first : (r : Result ℕ A) (b : B) → (r >>= λ a. ok (f a)) ≡ ok b → Post (λ a. f a ≡ b) (λ _. ⊥) r
  unfolding ◌>>=◌
  made_first (ok a) b e = post_ok _ _ _ (one_value (ok (f a)) (f a) b refl e)
  made_first (refuse x) b e = absurd (not_both {A = B} (refuse x) b x e refl)

-- a step within the budget is what it tries
within_budget : {A : Type 0} (w : Setting) (at : ℕ) (s : State) (r : Result ℕ A) → s.steps < w.limits.budget
    → step w at s r ≡ refused_as (stop_at at s) r
unfolding step require
within_budget w at s r h = rw (ne_eqb s.steps w.limits.budget (λ e. omega arith))

-- the first round of a while: its guard is refused; or there is no other round
module _ (guard : State → Result Pause Judged) (body : Label → State → Result Pause State) (at : ℕ) (Q : Pause → Type 0) where
  round_refused : (n : ℕ) (s : State) → 0 < n → Post (λ _. ⊥) Q (guard s) → Post (λ _. ⊥) Q (rounds guard body at n s)
  unfolding rounds
  round_refused zero s h g = absurd (omega arith)
  round_refused (suc n) s h g = post_bind (λ _. ⊥) _ _ _ _ g (λ _ x. absurd x)

  one_round : (P : State → Type 0) (J : Judged → Type 0) (n : ℕ) (s : State) → n ≡ 1 → Post J Q (guard s)
      → ((j : Judged) → J j → P (counted s)) → ((j : Judged) → J j → Post P Q (body j.label (counted s)))
      → ((u : State) → P u → Q (pause_at [] (stop_at at u 17))) → Post P Q (rounds guard body at n s)
  unfolding rounds
  one_round P J n s e g ends inside spent =
      rw e (post_bind J _ _ _ _ g λ j x.
      post_choose _ _ _ _ _ _
      (λ _. post_bind P _ _ _ _ (inside j x) (λ u q. post_refuse _ _ _ (spent u q)))
      (λ _. post_ok _ _ _ (ends j x)))

module _ (w : Setting) (s : State) (left : s.steps < w.limits.budget) where
  -- what a step that is tried tells of its stop
  tried : {A : Type 0} (P : A → Type 0) (Q : Stop → Type 0) (at : ℕ) (r : Result ℕ A) → Post P (λ e. Q (stop_at at s e)) r
      → Post P (λ (x : Pause). Q x.stop) (refused_as (pause_at []) (step w at s r))
  tried P Q at r h = post_refused_as _ _ _ _ (rw (within_budget w at s r left) (post_refused_as _ _ _ _ h))

  -- Forbidden: the command is stopped at its own offset, in the state that it met.
  module _ (offset number : ℕ) where
    abbrev Forbids : ℕ → Task → Type 0
    Forbids at t = (at ≡ offset) × (outcome w at s t ≡ refuse number)

    forbidden_step : {A : Type 0} (f : A → State) (at : ℕ) (r : Result ℕ A) → at ≡ offset → (r >>= λ a. ok (f a)) ≡ refuse number
        → Post (λ _. ⊥) (λ (x : Pause). x.stop ≡ stop_at offset s number) (refused_as (pause_at []) (step w at s r))
    forbidden_step f at r e h =
        tried _ (λ x. x ≡ stop_at offset s number) at r
        (post_map _ _ _ _ _ (refused_first f r number h) (λ _ x. x) (λ n q. rw (e, q) refl))

    pub own_forbidden : (c : Cmd) (branch : Label) → Doing Forbids (own c branch)
        → PostStop (λ _. ⊥) (λ e. e ≡ stop_at offset s number) (play w c branch s)
    unfolding own Doing play play_body outcome
    own_forbidden (cmd at skip) branch r = absurd r
    own_forbidden (cmd at (assign x v)) branch r = post_bind (λ _. ⊥) _ _ _ _ (forbidden_step _ at _ r.0 r.1) (λ _ n. absurd n)
    own_forbidden (cmd at (seq cs)) branch r = absurd r
    own_forbidden (cmd at (if g c d)) branch r = post_bind (λ _. ⊥) _ _ _ _ (forbidden_step _ at _ r.0 r.1) (λ _ n. absurd n)
    own_forbidden (cmd at (while g c)) branch r =
        round_refused _ _ at _ (w.limits.budget - s.steps) s (omega arith) (forbidden_step _ at _ r.0 r.1)

  -- Made, as the last: the command ends in the state that the step comes to, or is out of budget there.
  module _ (last : s.steps + 1 ≡ w.limits.budget) (u : State) where
    abbrev Makes : ℕ → Task → Type 0
    Makes at t = outcome w at s t ≡ ok u

    made_step : {A : Type 0} (f : A → State) (at : ℕ) (r : Result ℕ A) → (r >>= λ a. ok (f a)) ≡ ok u
        → Post (λ a. f a ≡ u) (λ (x : Pause). SpentAt u x.stop) (refused_as (pause_at []) (step w at s r))
    made_step f at r h = tried _ (SpentAt u) at r (post_map _ _ _ _ _ (made_first f r u h) (λ _ x. x) (λ _ n. absurd n))

    -- after a guard there are no steps left
    inner : (c : Cmd) (label : Label) → counted s ≡ u → PostStop (λ t. t ≡ u) (SpentAt u) (play w c label (counted s))
    unfolding counted
    inner c label e = subst (λ v. PostStop (λ t. t ≡ v) (SpentAt v) (play w c label (counted s))) e (play_spent w c label (counted s) last)

    pub own_made : (c : Cmd) (branch : Label) → Doing Makes (own c branch) → PostStop (λ t. t ≡ u) (SpentAt u) (play w c branch s)
    unfolding own Doing play play_body outcome
    own_made (cmd at skip) branch r = absurd r
    own_made (cmd at (assign x v)) branch r = post_bind _ _ _ _ _ (made_step _ at _ r) (λ _ e. post_ok _ _ _ e)
    own_made (cmd at (seq cs)) branch r = absurd r
    own_made (cmd at (if g c d)) branch r =
        post_bind _ _ _ _ _ (made_step (λ (j : Judged). counted s) at _ r) λ j e.
        post_choose _ _ _ _ _ _ (λ _. post_refused_as _ _ _ _ (inner c _ e)) (λ _. post_refused_as _ _ _ _ (inner d _ e))
    own_made (cmd at (while g c)) branch r =
        one_round _ _ at _ _ _ (w.limits.budget - s.steps) s (omega arith) (made_step (λ (j : Judged). counted s) at _ r)
        (λ j e. e) (λ j e. post_refused_as _ _ _ _ (inner c _ e)) (λ v e. record { number = refl; state = e })

-- what a step comes to does not depend on the budget
pub outcome_same : (l : Limits) (w : Setting) → l.entries ≡ w.limits.entries → (at : ℕ) (s : State) (t : Task)
    → outcome (limited_by l w) at s t ≡ outcome w at s t
unfolding outcome performed
outcome_same l w room at s (judging g) = rw (judge_same l w s.store g)
outcome_same l w room at s (assigning branch x v) = rw (attempt_same l w room branch s x v)

-- a step that is made counts
judging_counts : (w : Setting) (at : ℕ) (s : State) (g : Expr) → Post (λ (v : State). v.steps ≡ s.steps + 1) Any (outcome w at s (judging g))
unfolding outcome counted
judging_counts w at s g = post_bind Any _ _ _ _ (post_all _ _ _ (λ _. tt) (λ _. tt)) (λ j _. post_ok _ _ _ refl)

assigning_counts : (w : Setting) (at : ℕ) (s : State) (branch : Label) (x v : Expr)
    → Post (λ (v : State). v.steps ≡ s.steps + 1) Any (outcome w at s (assigning branch x v))
unfolding outcome performed counted recorded
assigning_counts w at s branch x v = post_bind Any _ _ _ _ (post_all _ _ _ (λ _. tt) (λ _. tt)) (λ y _. post_ok _ _ _ refl)

pub outcome_counts : (w : Setting) (at : ℕ) (s : State) (t : Task) (u : State) → outcome w at s t ≡ ok u → u.steps ≡ s.steps + 1
outcome_counts w at s t u e = post_at _ _ _ u (counts t) e
  where
    counts : (t : Task) → Post (λ (v : State). v.steps ≡ s.steps + 1) Any (outcome w at s t)
    counts (judging g) = judging_counts w at s g
    counts (assigning branch x v) = assigning_counts w at s branch x v
