-- For `never_paused`: positions from which a run comes to what it comes to from its start, with any budget; a pause is one of them. Assumes nothing.
use Prim.Native.Nat.{ℕ, ◌-◌, ◌≤◌}
use mathlib.Core.Path.{◌≡◌, refl, sym, ap, ◌∙◌}
use mathlib.Core.List.{List, []}
use native.Mathlib.Omega.{arith}
use lib.ListN.{length, drop}
use Rattle.values.specs.Result.{Result, refuse}
use Rattle.values.proofs.Result.{Refuses, post_map, post_refused}
use Rattle.store.specs.Sheet.{Opening}
use Rattle.syntax.specs.Sheet.{Block}
use Rattle.calculus.specs.Rules.{RuleSet}
use Rattle.calculus.specs.Calculus.{limits, Setting, State, Write, counted, recorded, performed}
use Rattle.calculus.specs.Blocks.{setting, most_budget, start}
use Rattle.pausing.specs.Paths.{Open}
use Rattle.pausing.specs.Stretches.{Position, standing, Halted, take_up_blocks}
use Rattle.calculus.proofs.Steps.{Counted, tick, tick_write}
use Rattle.calculus.proofs.CalculusLimits.{judge_not_17, attempt_not_17}
use Rattle.pausing.proofs.PathsInvariant.{Keeping, Spent, step_either, blocks_kept}
use Rattle.pausing.proofs.NeverPausedLargerBudget.{onward, onward_17}
use Rattle.pausing.proofs.NeverPausedAtTheStop.{stop_in, resumed_blocks, blocks_onward}
use Rattle.pausing.proofs.ResultRelation.{Alike, alike_refused}
use Rattle.pausing.proofs.PathsJournals.{Beside, HaltsBeside, performed_entries, two_blocks}
use Rattle.pausing.proofs.StartsAsRun.{start_roomy}
use Rattle.pausing.proofs.StretchesSettled.{halted_at}
use Rattle.pausing.proofs.WrittenGood.{restored}

-- no more entries than steps
abbrev Few : State → Type 0
Few s = length s.journal ≤ s.steps

-- a step fills one entry at most
few_counted : (s : State) → Few s → Few (counted s)
unfolding counted
few_counted s f = omega arith

few_performed : (w : Setting) (at : ℕ) (x : Write) (s : State) → Few s → Few (performed w at x s)
unfolding performed recorded counted
few_performed w at x s f =
    omega (arith, performed_entries w at x s)

-- every step keeps it; and a stop by 17 has spent the budget
keeps_few : (w : Setting) → Keeping w (λ s. Counted w.limits.budget 0 s × Few s) (λ e. Spent w.limits.budget e × Few e.state)
keeps_few w =
    record {
      bounded = λ s c. c.0.kept;
      guards = λ at s g c.
          step_either w at s _ _ _ c.0.kept
          (λ l. post_map _ _ _ _ _ (judge_not_17 w s.store g) (λ _ _. (tick w 0 s c.0 l, few_counted s c.1)) (λ n d. (λ e. absurd (d e), c.1)))
          (λ e. (λ _. e, c.1));
      writes = λ at branch s t v c.
          step_either w at s _ _ _ c.0.kept
          (λ l. post_map _ _ _ _ _ (attempt_not_17 w branch s t v) (λ x _. (tick_write w 0 at x s c.0 l, few_performed w at x s c.1))
          (λ n d. (λ e. absurd (d e), c.1)))
          (λ e. (λ _. e, c.1));
      spent = λ at s c e. (λ _. e, c.1);
    }

module _ (rules : RuleSet) (o : Opening) (blocks : List Block) where
  -- the run from the start, and from a position on
  abbrev pub whole : ℕ → Result Halted State
  whole budget = take_up_blocks o.tables rules (limits budget most_budget) 0 blocks [] (start o.store)

  abbrev pub on_from : ℕ → Position → Result Halted State
  on_from budget x = take_up_blocks o.tables rules (limits budget most_budget) x.block (drop x.block blocks) x.path x.state

  -- alike but for the journals
  abbrev pub Same : ℕ → Result Halted State → Result Halted State → Type 0
  Same budget = Alike (Beside budget most_budget most_budget) (HaltsBeside budget most_budget most_budget)

  -- a position on the way
  pub record OnWay (x : Position) : Type 0 where
    pub modest : x.state.steps ≤ most_budget
    pub alike : (budget : ℕ) → x.state.steps ≤ budget → budget ≤ most_budget → Same budget (whole budget) (on_from budget x)

  -- the start is on the way
  pub on_start : OnWay (standing 0 [] (start o.store))
  unfolding start
  on_start =
      record {
        modest = omega arith;
        alike = λ budget h m. two_blocks o.tables rules budget most_budget most_budget 0 blocks [] (start o.store) (start o.store)
            (record { store = refl; steps = refl; left = start_roomy o _ m; right = start_roomy o _ m });
      }

  -- where the run from the start is stopped: by 17 with the budget spent, and with no more entries than steps
  whole_stops : (budget : ℕ) → Refuses (λ (h : Halted). Spent budget h.pause.stop × Few h.pause.stop.state) (whole budget)
  unfolding start
  whole_stops budget =
      post_map _ _ _ _ _
      (blocks_kept (λ i b. keeps_few (setting o.tables rules (limits budget most_budget) i b)) 0 blocks [] (start o.store)
      (record { grown = omega arith; kept = omega arith }, omega arith)) (λ _ _. tt) (λ h z. z)

  -- the same blocks, along the same path, from states that differ in their journals
  moved_alike : (budget i i' : ℕ) (p p' : List Open) (s s' : State) → i ≡ i' → p ≡ p' → Beside budget most_budget most_budget s s'
      → Same budget (take_up_blocks o.tables rules (limits budget most_budget) i (drop (i - 0) blocks) p s)
      (take_up_blocks o.tables rules (limits budget most_budget) i' (drop i' blocks) p' s')
  moved_alike budget i i' p p' s s' e q b =
      let z : i - 0 ≡ i = omega arith in
      rw (z, e, q) (two_blocks o.tables rules budget most_budget most_budget i' (drop i' blocks) p' s s' b)

  -- with a larger budget the run goes on from where it was out of budget
  goes_further : (budget more : ℕ) (h : Halted) → budget ≤ more → whole budget ≡ refuse h → h.pause.stop.number ≡ 17
      → whole more ≡ resumed_blocks o.tables rules (limits more most_budget) 0 blocks h
  unfolding start
  goes_further budget more h l e n =
      blocks_onward o.tables rules (limits budget most_budget) (limits more most_budget) l refl 0 blocks [] (start o.store) (omega arith)
      ∙ ap (onward stop_in (resumed_blocks o.tables rules (limits more most_budget) 0 blocks)) e
      ∙ onward_17 stop_in _ h n

  -- a pause from a position on the way: the budget is spent, and what is read back is on the way again
  pub on_pause : (x : Position) → OnWay x → (budget : ℕ) → x.state.steps ≤ budget → budget ≤ most_budget → (h : Halted)
      → on_from budget x ≡ refuse h → h.pause.stop.number ≡ 17 → OnWay (restored (halted_at h)) × (h.pause.stop.state.steps ≡ budget)
  on_pause x on budget l m h e n =
      let r = alike_refused _ _ (whole budget) (on_from budget x) h (on.alike budget l m) e in
      paused r.0 r.1 r.2 (post_refused _ _ _ r.0 (whole_stops budget) r.1)
    where
      paused : (g : Halted) → whole budget ≡ refuse g → HaltsBeside budget most_budget most_budget g h
          → Spent budget g.pause.stop × Few g.pause.stop.state → OnWay (restored (halted_at h)) × (h.pause.stop.state.steps ≡ budget)
      paused g q z k =
          let n' : g.pause.stop.number ≡ 17 = z.pause.stop.number ∙ n in
          let full : g.pause.stop.state.steps ≡ budget = k.0 n' in
          let full' : h.pause.stop.state.steps ≡ budget = sym z.pause.stop.state.steps ∙ full in (
            record {
              modest = omega (arith, full');
              alike = λ more y m'.
                  rw (goes_further budget more g (omega (arith, full')) q n')
                  (moved_alike more g.block h.block g.pause.path h.pause.path g.pause.stop.state (restored (halted_at h)).state z.block z.pause.path
                  (record {
                    store = z.pause.stop.state.store;
                    steps = z.pause.stop.state.steps;
                    left = record { kept = omega (arith, full, full'); room = omega (arith, k.1, full) };
                    right = record { kept = omega (arith, full'); room = omega (arith, full') };
                  }));
            },
            full',
          )
