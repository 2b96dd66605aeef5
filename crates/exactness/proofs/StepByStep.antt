-- Proves `step_by_step`: with one more step allowed a run goes on by the step that is next, which is one. Assumes nothing.
use Prim.Native.Nat.{ℕ, suc, ◌+◌, ◌≤◌, ◌<◌, min}
use mathlib.Core.Path.{◌≡◌, refl, sym, ap, ◌∙◌}
use mathlib.Core.Logic.{◌⊎◌, inl, inr, ⊎_elim}
use mathlib.Core.List.{List, [], ◌∷◌}
use native.Mathlib.Omega.{arith}
use native.Mathlib.Decide.{dec_lt}
use lib.ListN.{length, take}
use lib.Seq.{take-length}
use Rattle.lattice.specs.Order.{top}
use Rattle.values.specs.Result.{Result, ok, refuse, ◌>>=◌, refused_as}
use Rattle.values.proofs.Result.{Refuses, one_value, one_refusal, post_ok, post_self, post_map, post_both, post_join, post_at, post_refused, post_refused_as, post_bind}
use Rattle.store.specs.Sheet.{Tables}
use Rattle.syntax.specs.declared.Header.{Header}
use Rattle.syntax.specs.Sheet.{Block, block_at}
use Rattle.syntax.proofs.SheetBlocks.{IsBlock, Placed, none, more, programme_placed}
use Rattle.calculus.specs.Calculus.{Limits, limits, State, memory, Stop, exec}
use Rattle.calculus.specs.Blocks.{Halt, halt_in, setting, run_blocks, start}
use Rattle.calculus.specs.Run.{Call}
use Rattle.calculus.specs.Faithfulness.{Good}
use Rattle.exactness.specs.Reduction.{Region, done, Stage, before, Start, Comp_2}
use Rattle.exactness.specs.Forbidden.{Forbid, Due, Due_17, Due_18}
use Rattle.exactness.specs.Exactness.{here, after, held, Within, Reaches, ComesDue, under, Exact}
use Rattle.calculus.specs.Tasks.{reached}
use Rattle.exactness.specs.StepByStep.{run_within, state_within, run_after, state_after, step_at, Comes, OutOfBudget, due, Next, ended, refused, taken, forbidden, StepByStep}
use Rattle.calculus.proofs.StepsBounded.{steps_bounded}
use Rattle.exactness.proofs.ReductionSteps.{by_rule}
use Rattle.exactness.proofs.ReductionDeterministic.{Rests, finished, out_of_limits, steps_at_law, due_at, tried_adds}
use Rattle.exactness.proofs.ReductionRuns.{then_all, go_on, exec_goes, LeadsTo, onwards, comes_goes, one_place, outcome_goes}
use Rattle.exactness.proofs.Exactness.{to, from, rests_at, exactness}
use Rattle.exactness.proofs.StepByStepAtTheStop.{Before, exec_comes}

-- A run that stands still with steps to spare stands there under every budget that leaves some

within_again : {s : State} (a b n : ℕ) → s.steps < b → Within (limits a n) s → Within (limits b n) s
within_again a b n m x = omega arith

due_again : {P : Stage} {h : Halt} (a b n : ℕ) → steps_at_law P < a → steps_at_law P < b → Due (limits a n) P h → Due (limits b n) P h
due_again a b n l m (Due_17 x e) = absurd (omega arith)
due_again a b n l m (Due_18 {n = k} x d e) = Due_18 x (λ (q : k ≡ b). omega arith) e

rests_again : {ρ : ℕ → Header → Region} {P : Stage} {r : Result Halt State} (a b n : ℕ) → steps_at_law P < a → steps_at_law P < b
    → Rests ρ (limits a n) P r → Rests ρ (limits b n) P r
rests_again a b n l m (finished x) = finished (within_again a b n m x)
rests_again a b n l m (Rests.forbidden x f d) = Rests.forbidden (within_again a b n m x) f (λ h y. d h (due_again b a n m l y))
rests_again a b n l m (out_of_limits x y) = out_of_limits (within_again a b n m x) (due_again a b n l m y)

-- a run that is stopped has spent its budget, or it has steps to spare
spent : {ρ : ℕ → Header → Region} {l : Limits} {P : Stage} {h : Halt} → Rests ρ l P (refuse h)
    → (h.stop.number ≡ 17) ⊎ ((h.stop.number ≡ 17 → ⊥) × (h.stop.state.steps < l.budget))
spent {l = l} (Rests.forbidden m (Forbid {n = n} x f) d) =
    let q : n ≡ l.budget → ⊥ = λ e. d _ (Due_17 x e) in
    let r = by_rule f in inr (λ e. omega arith, omega (arith, m.steps, q))
spent (out_of_limits m (Due_17 x e)) = inl refl
spent (out_of_limits m (Due_18 x d e)) = inr (λ e. omega arith, omega (arith, m.steps, d))

all_spent : {l : Limits} {P : Stage} {h : Halt} → Due l P h → h.stop.number ≡ 17 → h.stop.state.steps ≡ l.budget
all_spent (Due_17 x e) n = e
all_spent (Due_18 x d e) n = absurd (omega arith)

module _ {c : Call} (g : Good c) where
  abbrev w : Tables
  w = g.opening.tables

  -- k steps, and the entries that there are
  abbrev lim : ℕ → Limits
  lim k = limits k c.entries

  abbrev run : ℕ → Result Halt State
  run k = under g.opening g.rules g.blocks (lim k)

  by_rules : Exact g.opening g.rules g.blocks
  by_rules = exactness g.opening g.rules g.blocks

  whole : (k : ℕ) → run_after g k ≡ run k
  whole k = rw (take-length g.blocks)

  module _ (k : ℕ) where
    -- the budget runs out in the n-th block, b, which the run came to in state s
    module _ (n : ℕ) (b : Block) (bs : List Block) (s : State) (is : IsBlock w.slots c.programme n b) (entered : run_within g k n ≡ ok s)
        (way : Reaches g.opening g.rules g.blocks (before n s.steps (memory s) (b ∷ bs))) (e : Stop)
        (x : Before (Comes (setting w g.rules (lim k) n b) b.command (top w.order) s) e) (stops : run k ≡ refuse (halt_in n e)) (m : e.number ≡ 17) where
      last : ComesDue g.opening g.rules g.blocks (lim k) (halt_in n e)
      last = (by_rules.runs_out (lim k) (halt_in n e)).1 (stops, inl m)

      all_done : e.state.steps ≡ k
      all_done = all_spent last.3 m

      within : Within (lim k) e.state
      within = rw (due_at last.3) last.2

      out : OutOfBudget g k
      unfolding block_at refused_as ◌>>=◌
      out =
          record {
            number = n;
            block = b;
            entry = s;
            place = step_at e.offset e.state x.task;
            listed = rw (is.code, ← is.header);
            entered = entered;
            comes = x.comes;
            done = all_done;
            stops = whole k ∙ stops ∙ rw (← m);
          }

      leads : LeadsTo w g.rules (lim k) n b.header bs (before 0 0 (memory (start g.opening.store)) g.blocks) (step_at e.offset e.state x.task)
      leads =
          onwards w g.rules (lim k) n b.header bs (then_all way (after Start here)) (comes_goes w g.rules (lim k) n b.header bs x.comes [] done)

      -- the step that is next is made, or it is forbidden
      next_step : Next g k (run (k + 1))
      unfolding out
      next_step =
          post_join (λ r. due g k out ≡ r → Next g k (run (k + 1))) (due g k out)
          (post_map _ _ _ _ _ (outcome_goes w g.rules (lim k) n b.header bs e.state leads.3)
          (λ u y d. let q : steps_at_law y.0.0 ≡ k + 1 = tried_adds leads.3 y.0.1 ∙ ap (λ (n : ℕ). n + 1) all_done in
          let f : length (held y.0.0).journal ≤ c.entries = rw y.0.2 (y.1 within.entries) in
          let at = by_rules.everywhere y.0.0 (then_all leads.2 (after y.0.1 here)) (lim (k + 1)) (sym q) f in
          taken out (d ∙ ap ok (sym y.0.2 ∙ at)))
          (λ n y d. rw (to _ _ _ (lim (k + 1)) _ (go_on leads.2 (y (lim (k + 1)) refl (omega (arith, all_done)) (omega (arith, within))))) (forbidden out d)))
          refl

    -- the run comes to the n-th block in state s; the budget runs out in a block from there on
    blocks_next : (n : ℕ) (bs : List Block) (s : State) → Placed (IsBlock w.slots c.programme) n bs
        → ((j m : ℕ) → j ≡ n + m → run_within g k j ≡ run_blocks w g.rules (lim k) n (take m bs) s)
        → Reaches g.opening g.rules g.blocks (before n s.steps (memory s) bs)
        → Refuses (λ h. run k ≡ refuse h → h.stop.number ≡ 17 → Next g k (run (k + 1))) (run_blocks w g.rules (lim k) n bs s)
    unfolding run_blocks refused_as ◌>>=◌
    blocks_next n [] s none same way = post_ok _ _ _ tt
    blocks_next n (b ∷ bs) s (more is rest) same way =
        post_bind (λ t. exec (setting w g.rules (lim k) n b) b.command (top w.order) s ≡ ok t) _ _ _ _
        (post_refused_as _ _ _ _
        (post_map _ _ _ _ _ (post_both _ _ _ _ _ (post_self _) (exec_comes (setting w g.rules (lim k) n b) b.command (top w.order) s))
        (λ t x. x.0) (λ e x. next_step n b bs s is (same n 0 (omega arith)) way e x.1)))
        (λ t e.
        let block = post_at _ _ _ _ (exec_goes w g.rules (lim k) n b.header bs b.command (top w.order) s [] done) e in
        blocks_next (n + 1) bs t rest (λ j m i. same j (suc m) (omega arith) ∙ rw e)
        (then_all way (after Start (then_all block.0 (after (Comp_2 refl) here)))))

  out_of_budget : (k : ℕ) (h : Halt) → run k ≡ refuse h → h.stop.number ≡ 17 → Next g k (run (k + 1))
  unfolding start
  out_of_budget k h e =
      let placed = post_at _ _ _ _ (programme_placed _ _ c.programme) g.taken in
      post_refused _ _ _ _ (blocks_next k 0 g.blocks (start g.opening.store) placed (λ j m i. let q : j ≡ m = omega arith in rw q) here) e e

  stays : (a b : ℕ) (r : Result Halt State) → run a ≡ r → (reached r).steps < a → (reached r).steps < b → run b ≡ r
  stays a b r e l m =
      let x = from _ _ _ (lim a) r e in
      let s : steps_at_law x.0 ≡ (reached r).steps = ap (λ (t : State). t.steps) (rests_at x.2) in
      to _ _ _ (lim b) r (x.0, x.1, rests_again a b c.entries (rw s l) (rw s m) x.2)

  goes : (k : ℕ) → Next g k (run_after g (k + 1))
  unfolding reached
  goes k = rw (whole (k + 1)) (go (run k) refl)
    where
      go : (r : Result Halt State) → run k ≡ r → Next g k (run (k + 1))
      go (ok s) e =
          let f = (by_rules.finishes (lim k) s).1 e in rw ((by_rules.finishes (lim (k + 1)) s).0 (f.0, omega arith)) (ended (whole k ∙ e))
      go (refuse h) e =
          ⊎_elim (out_of_budget k h e)
          (λ n. rw (stays k (k + 1) (refuse h) e n.1 (omega (arith, n.1))) (refused (whole k ∙ e) n.0 n.1))
          (spent (from _ _ _ (lim k) (refuse h) e).2)

  abbrev steps_of : ℕ → ℕ
  steps_of k = (reached (run k)).steps

  counts : (k k' : ℕ) → k ≤ k' → (state_after g k).steps ≡ min k (state_after g k').steps
  unfolding state_within start
  counts k k' l = rw (whole k, whole k') (go (dec_lt (steps_of k) k) (dec_lt (steps_of k') k))
    where
      kept : steps_of k ≤ k
      kept = (steps_bounded w g.rules (lim k) 0 g.blocks (start g.opening.store) (omega arith)).1

      go : Dec (steps_of k < k) → Dec (steps_of k' < k) → steps_of k ≡ min k (steps_of k')
      go (yes m) d = omega (arith, ap (λ r. (reached r).steps) (stays k k' (run k) refl m (omega arith)))
      go (no m) (yes m') = absurd (omega (arith, ap (λ r. (reached r).steps) (stays k' k (run k') refl (omega arith) m')))
      go (no m) (no m') = omega (arith, kept)

  -- one run is stopped at one place, in one block, which it entered in one state
  one_next : (k : ℕ) (p q : OutOfBudget g k) → (p.number ≡ q.number) × (p.block ≡ q.block) × (p.place ≡ q.place)
  one_next k p q =
      let n : p.number ≡ q.number = ap (λ (h : Halt). h.block) (one_refusal _ _ _ p.stops q.stops) in
      let b : p.block ≡ q.block = one_value _ _ _ p.listed (rw n q.listed) in
      let s : p.entry ≡ q.entry = one_value _ _ _ p.entered (rw n q.entered) in
      (n, b, one_place w g.rules (lim k) p.number p.block.header [] p.comes (rw (n, b, s) q.comes) (p.done ∙ sym q.done))

pub step_by_step : StepByStep
unfolding state_within start
step_by_step c g =
    record {
      opens = rw (whole g 0) (sym ((by_rules g).everywhere _ here (lim g 0) refl (omega arith)));
      goes = goes g;
      one_next = one_next g;
      counts = counts g;
      ends = whole g c.budget;
    }
