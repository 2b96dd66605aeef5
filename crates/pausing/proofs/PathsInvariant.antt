-- Laws of `play` and `take_up` (specs/Paths.antt): what every step keeps, a command keeps, at its end and where it is stopped. Assumes nothing.
use Prim.Native.Nat.{ℕ, zero, suc, ◌+◌, ◌-◌, ◌≤◌, ◌<◌}
use mathlib.Core.Path.{◌≡◌}
use mathlib.Core.List.{List, [], ◌∷◌}
use native.Mathlib.Omega.{arith}
use borrow.Author.Tests.{eqb-true, eqb-false, not-true, not-false}
use Rattle.lattice.specs.Order.{Label, meet, top}
use Rattle.values.specs.Result.{Result, refused_as}
use Rattle.values.proofs.Result.{Post, post_ok, post_refuse, post_map, post_both, post_require, post_refused_as, post_bind}
use Rattle.store.specs.Sheet.{Tables}
use Rattle.syntax.specs.Syntax.{Expr, Cmd, cmd, Body, skip, assign, seq, if, while, Cmds, nil, cons}
use Rattle.syntax.specs.Sheet.{Block}
use Rattle.calculus.specs.Rules.{RuleSet}
use Rattle.calculus.specs.Calculus.{Limits, Setting, State, Stop, counted, performed, stop_at, step, attempt, judge}
use Rattle.calculus.specs.Blocks.{setting}
use Rattle.pausing.specs.Paths.{Open, pause_at, within, rounds, play, play_body, play_all, take_up, take_up_body, take_up_all}
use Rattle.pausing.specs.Stretches.{Halted, take_up_blocks}
use Rattle.calculus.proofs.Steps.{post_choose, Counted, StopCounted, tick, tick_write, exec_counts}
use Rattle.calculus.proofs.CalculusLimits.{judge_not_17, attempt_not_17}
use Rattle.pausing.proofs.PathsAside.{post_bare, PostStop, paths_aside}

-- steps only grow and never pass the budget, as in `exec`
pub play_counts : (w : Setting) (from : ℕ) (c : Cmd) (branch : Label) (s : State) → Counted w.limits.budget from s
    → PostStop (Counted w.limits.budget from) (StopCounted w.limits.budget from) (play w c branch s)
play_counts w from c branch s h = post_bare _ _ _ (rw (paths_aside w c branch s) (exec_counts w from c branch s h))

-- a step, by what it is judged by where budget is left, and by 17 where none is
pub step_either : {A : Type 0} (w : Setting) (at : ℕ) (s : State) (P : A → Type 0) (Q : Stop → Type 0) (r : Result ℕ A) → s.steps ≤ w.limits.budget
    → (s.steps < w.limits.budget → Post P (λ n. Q (stop_at at s n)) r) → (s.steps ≡ w.limits.budget → Q (stop_at at s 17)) → Post P Q (step w at s r)
unfolding step
step_either w at s P Q r h p q =
    post_refused_as _ _ _ _
    (post_require _ _ _ _ _ (λ e. p (omega (arith, eqb-false s.steps w.limits.budget (not-true _ e))))
    (λ e. q (eqb-true s.steps w.limits.budget (not-false _ e))))

-- I is kept by every guard judged and every assignment made; Q holds of every step that is forbidden, and where the budget is spent
pub record Keeping (w : Setting) (I : State → Type 0) (Q : Stop → Type 0) : Type 0 where
  pub bounded : (s : State) → I s → s.steps ≤ w.limits.budget
  pub guards : (at : ℕ) (s : State) (g : Expr) → I s → Post (λ _. I (counted s)) Q (step w at s (judge w s.store g))
  pub writes : (at : ℕ) (branch : Label) (s : State) (t v : Expr) → I s
      → Post (λ x. I (performed w at x s)) Q (step w at s (attempt w branch s t v))
  pub spent : (at : ℕ) (s : State) → I s → s.steps ≡ w.limits.budget → Q (stop_at at s 17)

module _ {w : Setting} {I : State → Type 0} {Q : Stop → Type 0} (k : Keeping w I Q) where
  -- the rounds of a while, with any fuel that covers the steps left
  rounds_keep : (g : Expr) (c : Cmd) (at : ℕ) (branch : Label) → ((l : Label) (t : State) → I t → PostStop I Q (play w c l t))
      → (n : ℕ) (s : State) → I s → w.limits.budget ≤ n + s.steps
      → PostStop I Q (rounds (λ t. refused_as (pause_at []) (step w at t (judge w t.store g)))
      (λ l t. refused_as (within 0 (meet w.tables.order branch l)) (play w c (meet w.tables.order branch l) t)) at n s)
  unfolding rounds counted
  rounds_keep g c at branch body zero s i f = post_refuse _ _ _ (k.spent at s i (omega (arith, k.bounded s i)))
  rounds_keep g c at branch body (suc n) s i f =
      post_bind _ _ _ _ _ (post_refused_as _ _ _ _ (k.guards at s g i)) λ j q.
      post_choose _ _ _ _ _ _
      (λ _. post_bind _ _ _ _ _
      (post_refused_as _ _ _ _ (post_map _ _ _ _ _
      (post_both _ _ _ _ _ (body (meet w.tables.order branch j.label) (counted s) q)
      (play_counts w (s.steps + 1) c (meet w.tables.order branch j.label) (counted s) (record { grown = omega arith; kept = k.bounded (counted s) q })))
      (λ t z. z) (λ x z. z.0)))
      (λ t z. rounds_keep g c at branch body n t z.0 (omega (arith, z.1.grown))))
      (λ _. post_ok _ _ _ q)

  -- a command that is played
  mutual
    unfolding play play_body play_all

    play_keeps : (c : Cmd) (branch : Label) (s : State) → I s → PostStop I Q (play w c branch s)
    play_keeps (cmd at b) branch s i = plays_keep b at branch s i

    plays_keep : (b : Body) (at : ℕ) (branch : Label) (s : State) → I s → PostStop I Q (play_body w b at branch s)
    plays_keep skip at branch s i = post_ok _ _ _ i
    plays_keep (assign t v) at branch s i = post_bind _ _ _ _ _ (post_refused_as _ _ _ _ (k.writes at branch s t v i)) (λ x q. post_ok _ _ _ q)
    plays_keep (seq cs) at branch s i = all_keep cs _ branch s i
    plays_keep (if g c d) at branch s i =
        post_bind _ _ _ _ _ (post_refused_as _ _ _ _ (k.guards at s g i)) λ j q.
        post_choose _ _ _ _ _ _ (λ _. post_refused_as _ _ _ _ (play_keeps c _ (counted s) q)) (λ _. post_refused_as _ _ _ _ (play_keeps d _ (counted s) q))
    plays_keep (while g c) at branch s i =
        rounds_keep g c at branch (λ l t q. play_keeps c l t q) (w.limits.budget - s.steps) s i (omega arith)

    all_keep : (cs : Cmds) (i : ℕ) (branch : Label) (s : State) → I s → PostStop I Q (play_all w cs i branch s)
    all_keep nil i branch s q = post_ok _ _ _ q
    all_keep (cons c cs) i branch s q = post_bind _ _ _ _ _ (post_refused_as _ _ _ _ (play_keeps c branch s q)) (λ t z. all_keep cs (i + 1) branch t z)

  -- and one that is taken up
  mutual
    unfolding take_up take_up_body take_up_all

    pub take_keeps : (c : Cmd) (branch : Label) (p : List Open) (s : State) → I s → PostStop I Q (take_up w c branch p s)
    take_keeps (cmd at b) branch p s i = takes_keep b at branch p s i

    takes_keep : (b : Body) (at : ℕ) (branch : Label) (p : List Open) (s : State) → I s → PostStop I Q (take_up_body w b at branch p s)
    takes_keep skip at branch p s i = plays_keep skip at branch s i
    takes_keep (assign t v) at branch p s i = plays_keep (assign t v) at branch s i
    takes_keep (seq cs) at branch [] s i = plays_keep (seq cs) at branch s i
    takes_keep (seq cs) at branch (o ∷ p) s i = take_all_keep cs 0 o.child branch p s i
    takes_keep (if g c d) at branch [] s i = plays_keep (if g c d) at branch s i
    takes_keep (if g c d) at branch (o ∷ p) s i =
        post_choose _ _ _ _ _ _ (λ _. post_refused_as _ _ _ _ (take_keeps c o.label p s i)) (λ _. post_refused_as _ _ _ _ (take_keeps d o.label p s i))
    takes_keep (while g c) at branch [] s i = plays_keep (while g c) at branch s i
    takes_keep (while g c) at branch (o ∷ p) s i =
        post_bind _ _ _ _ _ (post_refused_as _ _ _ _ (take_keeps c _ p s i)) (λ t z. plays_keep (while g c) at branch t z)

    take_all_keep : (cs : Cmds) (i k : ℕ) (branch : Label) (p : List Open) (s : State) → I s → PostStop I Q (take_up_all w cs i k branch p s)
    take_all_keep nil i n branch p s q = post_ok _ _ _ q
    take_all_keep (cons c cs) i zero branch p s q =
        post_bind _ _ _ _ _ (post_refused_as _ _ _ _ (take_keeps c branch p s q)) (λ t z. all_keep cs (i + 1) branch t z)
    take_all_keep (cons c cs) i (suc n) branch p s q = take_all_keep cs (i + 1) n branch p s q

-- steps only grow and never pass the budget; and where a command is out of budget, the budget is spent
abbrev pub Spent : ℕ → Stop → Type 0
Spent budget e = e.number ≡ 17 → e.state.steps ≡ budget

pub counting : (w : Setting) (from : ℕ) → Keeping w (Counted w.limits.budget from) (λ e. Counted w.limits.budget from e.state × Spent w.limits.budget e)
counting w from =
    record {
      bounded = λ s c. c.kept;
      guards = λ at s g c.
          step_either w at s _ _ _ c.kept (λ l. post_map _ _ _ _ _ (judge_not_17 w s.store g) (λ _ _. tick w from s c l) (λ n d. (c, λ e. absurd (d e))))
          (λ e. (c, λ _. e));
      writes = λ at branch s t v c.
          step_either w at s _ _ _ c.kept
          (λ l. post_map _ _ _ _ _ (attempt_not_17 w branch s t v) (λ x _. tick_write w from at x s c l) (λ n d. (c, λ e. absurd (d e)))) (λ e. (c, λ _. e));
      spent = λ at s c e. (c, λ _. e);
    }

-- so it is of a command that is taken up
pub take_counts : (w : Setting) (from : ℕ) (c : Cmd) (branch : Label) (p : List Open) (s : State) → Counted w.limits.budget from s
    → PostStop (Counted w.limits.budget from) (StopCounted w.limits.budget from) (take_up w c branch p s)
take_counts w from c branch p s h = post_map _ _ _ _ _ (take_keeps (counting w from) c branch p s h) (λ _ z. z) (λ _ z. z.0)

-- the blocks of a programme, the first of them taken up along a path
pub blocks_kept : {t : Tables} {rules : RuleSet} {l : Limits} {I : State → Type 0} {Q : Stop → Type 0}
    → ((i : ℕ) (b : Block) → Keeping (setting t rules l i b) I Q) → (i : ℕ) (bs : List Block) (p : List Open) (s : State) → I s
    → Post I (λ (h : Halted). Q h.pause.stop) (take_up_blocks t rules l i bs p s)
unfolding take_up_blocks
blocks_kept k i [] p s q = post_ok _ _ _ q
blocks_kept {t} k i (b ∷ bs) p s q =
    post_bind _ _ _ _ _ (post_refused_as _ _ _ _ (take_keeps (k i b) b.command (top t.order) p s q)) (λ u z. blocks_kept k (i + 1) bs [] u z)
