-- For `descent`, `budgets`, `further`: under milder rules or larger limits a run differs only where what is eased had refused it. Assumes nothing.
use Prim.Native.Nat.{ℕ, zero, suc, ◌+◌, ◌-◌, ◌≤◌}
use mathlib.Core.Path.{◌≡◌}
use mathlib.Core.Bool.{true, not}
use mathlib.Core.List.{List, [], ◌∷◌}
use native.Mathlib.Omega.{arith}
use lib.Dec.{ltb, eqb}
use borrow.Author.Tests.{ltb-true, lt-ltb, eqb-false, ne_eqb, not-true}
use Rattle.lattice.specs.Order.{Label, meet, top}
use Rattle.values.specs.declared.Value.{Value}
use Rattle.values.specs.Value.{is_write_view, viewed}
use Rattle.values.specs.Result.{Result}
use Rattle.values.proofs.Result.{Post, post_refuse, post_refused_as}
use Rattle.store.specs.Sheet.{Tables}
use Rattle.syntax.specs.Sheet.{Block}
use Rattle.syntax.specs.Syntax.{Expr, literal, read, operation, Cmd, cmd, Body, skip, assign, seq, if, while, Cmds, nil, cons}
use Rattle.calculus.specs.Rules.{RuleSet, labels_judged}
use Rattle.calculus.specs.Calculus.{Limits, Setting, Store, Labelled, State, Stop, may_hold, admit, fetch, operate, eval, judge, authorised, reliable, permit, assignment, counted, performed, step, attempt, loop, exec, exec_body, execs}
use Rattle.calculus.specs.Blocks.{Halt, setting, run_blocks}
use Rattle.calculus.proofs.Steps.{choose_both, Counted, tick, tried, rounds_count, exec_counts, body_counts, execs_counts}
use Rattle.calculus.proofs.StepsBounded.{stopped, halted, run_counts}
use Rattle.calculus.proofs.CalculusAuthority.{eval_held}
use Rattle.isolation.proofs.LadderPairs.{Gets, Eased, eased_end, eased_bind, eased_step, eased_halted}
use Rattle.calculus.proofs.ResultUnless.{Unless, Follows, same_test, unless_same, unless_require, unless_bind, unless_then, unless_refused_as}

-- The second limits go no less far than the first, and as far unless `own` is the number of what goes further.
pub record Roomier (own : ℕ) (l l' : Limits) : Type 0 where
  pub larger : l.budget ≤ l'.budget
  pub longer : l.entries ≤ l'.entries
  pub spent : (17 ≡ own → ⊥) → l'.budget ≡ l.budget
  pub full : (18 ≡ own → ⊥) → l'.entries ≡ l.entries

-- Each test under w' passes where the same test under w does, and has the same outcome unless it is the one that refuses by `own`.
-- The test that refuses by 17 is that of the budget, the one that refuses by 18 that of the journal.
pub record Milder (own : ℕ) (w w' : Setting) : Type 0 where
  pub views : (v : Value) → Follows (15 ≡ own) (may_hold w v) (may_hold w' v)
  pub regions : (v : Value) → is_write_view v ≡ true → may_hold w v ≡ true
      → Follows (14 ≡ own) (authorised w (viewed v)) (authorised w' (viewed v))
  pub labels : (i : ℕ) (x y branch : Label)
      → Follows (16 ≡ own) (reliable w i (labels_judged w.rules x y branch)) (reliable w' i (labels_judged w'.rules x y branch))
  pub limits : Roomier own w.limits w'.limits

abbrev under : RuleSet → Limits → Setting → Setting
under rules l w = record { tables = w.tables; rules = rules; header = w.header; block = w.block; limits = l }

-- w under the second rules and limits does what w does, unless w refuses by `own`
module _ (own : ℕ) (rules' : RuleSet) (l' : Limits) (w : Setting) (m : Milder own w (under rules' l' w)) where
  abbrev w' : Setting
  w' = under rules' l' w

  abbrev Own : ℕ → Type 0
  Own e = e ≡ own

  abbrev OwnStop : Stop → Type 0
  OwnStop e = Own e.number

  abbrev Within : State → Type 0
  Within = Counted w.limits.budget 0

  admits : (x : Labelled) → Unless Own (admit w x) (admit w' x)
  unfolding admit
  admits x = unless_require _ (m.views x.value) (λ _. unless_same)

  evals : (s : Store) (e : Expr) → Unless Own (eval w s e) (eval w' s e)
  unfolding eval fetch operate
  evals s (literal v) = admits _
  evals s (read e) = unless_then (evals s e) (λ x. unless_require _ same_test (λ _. admits _))
  evals s (operation o l r) = unless_then (evals s l) λ x. unless_then (evals s r) (λ y. unless_same)

  judges : (s : Store) (g : Expr) → Unless Own (judge w s g) (judge w' s g)
  unfolding judge
  judges s g = unless_then (evals s g) (λ x. unless_same)

  assigns : (branch : Label) (s : Store) (t v : Expr) → Unless Own (assignment w branch s t v) (assignment w' branch s t v)
  unfolding assignment permit
  assigns branch s t v =
      unless_bind _ _ (evals s t) (eval_held w s t) λ x h.
      unless_require _ same_test λ e.
      unless_then (evals s v) λ y.
      unless_require _ (m.regions x.value e h) λ _.
      unless_require _ (m.labels _ _ _ _) (λ _. unless_same)

  -- a count that has not come to the first budget has not come to the second
  unspent : (n : ℕ) → n ≤ w.limits.budget → Follows (17 ≡ own) (not (eqb n w.limits.budget)) (not (eqb n l'.budget))
  unspent n h =
      record {
        passes = λ e. rw (ne_eqb n l'.budget (λ q. omega (arith, eqb-false n w.limits.budget (not-true _ e), m.limits.larger)));
        else = λ o. rw (m.limits.spent o);
      }

  -- an entry that is free in the first journal is free in the second
  free : (n : ℕ) → Follows (18 ≡ own) (ltb n w.limits.entries) (ltb n l'.entries)
  free n =
      record {
        passes = λ e. lt-ltb n l'.entries (omega (arith, ltb-true n w.limits.entries e, m.limits.longer));
        else = λ o. rw (m.limits.full o);
      }

  attempts : (branch : Label) (s : State) (t v : Expr) → Unless Own (attempt w branch s t v) (attempt w' branch s t v)
  unfolding attempt
  attempts branch s t v = unless_require _ (free _) (λ _. assigns branch s.store t v)

  steps : {A : Type 0} (at : ℕ) (s : State) {r r' : Result ℕ A} → Within s → Unless Own r r'
      → Unless OwnStop (step w at s r) (step w' at s r')
  unfolding step
  steps at s h u = unless_refused_as _ (unless_require _ (unspent s.steps h.kept) (λ _. u))

  abbrev Easier : Result Stop State → Result Stop State → Type 0
  Easier = Eased OwnStop stopped l'.budget

  -- the second run counts on from where the first is
  from_here : (s : State) → Within s → Counted l'.budget s.steps s
  from_here s h = record { grown = omega arith; kept = omega (arith, h.kept, m.limits.larger) }

  module _ (g : Expr) (c : Cmd) (at : ℕ) (branch : Label) (body : (l : Label) (s : State) → Within s → Easier (exec w c l s) (exec w' c l s)) where
    counts : (i n : ℕ) (s : State) → Counted l'.budget i s
        → Gets stopped l'.budget i (loop (λ t. step w' at t (judge w' t.store g)) (λ l t. exec w' c (meet w.tables.order branch l) t) at n s)
    counts i n s h = rounds_count w' i g at _ (λ l t q. exec_counts w' i c _ t q) n s h

    -- the first is out of fuel with the second, or before it where `own` is 17
    rounds : (n n' : ℕ) (s : State) → n ≤ n' → ((17 ≡ own → ⊥) → n' ≡ n) → Within s
        → Easier
        (loop (λ t. step w at t (judge w t.store g)) (λ l t. exec w c (meet w.tables.order branch l) t) at n s)
        (loop (λ t. step w' at t (judge w' t.store g)) (λ l t. exec w' c (meet w.tables.order branch l) t) at n' s)
    unfolding loop
    rounds zero n' s l e h =
        record {
          alike = unfold Post in record { else = λ o. rw (e o) };
          further = post_refuse _ _ _ (counts s.steps n' s (from_here s h));
        }
    rounds (suc n) zero s l e h = absurd (omega arith)
    rounds (suc n) (suc n') s l e h =
        eased_step _ s _ _ _ _ (steps at s h (judges s.store g)) (tried w 0 at s _ h) (counts s.steps (suc n') s (from_here s h)) λ j q.
        choose_both Easier j.passes _ _ _ _ _ _
        (eased_bind _ _ _ _ _ _ (body _ (counted s) (tick w 0 s h q)) (exec_counts w 0 c _ (counted s) (tick w 0 s h q))
        (λ t k. rounds n n' t (omega arith) (λ o. omega (arith, e o)) k) (λ i t k. counts i n' t k))
        (eased_end _)

  mutual
    unfolding performed exec exec_body execs

    exec_eased : (c : Cmd) (branch : Label) (s : State) → Within s → Easier (exec w c branch s) (exec w' c branch s)
    exec_eased (cmd at b) branch s h = body_eased b at branch s h

    body_eased : (b : Body) (at : ℕ) (branch : Label) (s : State) → Within s → Easier (exec_body w b at branch s) (exec_body w' b at branch s)
    body_eased skip at branch s h = eased_end s
    body_eased (assign t v) at branch s h =
        eased_step _ s _ _ _ _ (steps at s h (attempts branch s t v)) (tried w 0 at s _ h)
        (body_counts w' s.steps (assign t v) at branch s (from_here s h)) (λ x q. eased_end _)
    body_eased (seq cs) at branch s h = execs_eased cs branch s h
    body_eased (if g c d) at branch s h =
        eased_step _ s _ _ _ _ (steps at s h (judges s.store g)) (tried w 0 at s _ h)
        (body_counts w' s.steps (if g c d) at branch s (from_here s h)) λ j q.
        choose_both Easier j.passes _ _ _ _ _ _ (exec_eased c _ (counted s) (tick w 0 s h q)) (exec_eased d _ (counted s) (tick w 0 s h q))
    body_eased (while g c) at branch s h =
        rounds g c at branch (λ l t k. exec_eased c l t k) (w.limits.budget - s.steps) (l'.budget - s.steps) s (omega (arith, m.limits.larger))
        (λ o. rw (m.limits.spent o)) h

    execs_eased : (cs : Cmds) (branch : Label) (s : State) → Within s → Easier (execs w cs branch s) (execs w' cs branch s)
    execs_eased nil branch s h = eased_end s
    execs_eased (cons c cs) branch s h =
        eased_bind _ _ _ _ _ _ (exec_eased c branch s h) (exec_counts w 0 c branch s h) (λ t k. execs_eased cs branch t k)
        (λ i t k. execs_counts w' i cs branch t k)

-- the blocks of a programme
pub blocks_eased : {own : ℕ} {rules rules' : RuleSet} {l l' : Limits} (t : Tables)
    → ((i : ℕ) (b : Block) → Milder own (setting t rules l i b) (setting t rules' l' i b))
    → (i : ℕ) (bs : List Block) (s : State) → Counted l.budget 0 s
    → Eased (λ (h : Halt). h.stop.number ≡ own) halted l'.budget (run_blocks t rules l i bs s) (run_blocks t rules' l' i bs s)
unfolding run_blocks
blocks_eased t m i [] s h = eased_end s
blocks_eased {own} {rules} {rules'} {l} {l'} t m i (b ∷ bs) s h =
    eased_bind _ (λ (e : Halt). Counted l.budget 0 (halted e)) _ _ _ _
    (eased_halted l'.budget i _ _ (exec_eased own _ _ _ (m i b) b.command (top t.order) s h))
    (post_refused_as _ _ _ _ (exec_counts (setting t rules l i b) 0 _ _ s h))
    (λ u k. blocks_eased t m (i + 1) bs u k) (λ n u k. run_counts t rules' l' (i + 1) n bs u k)
