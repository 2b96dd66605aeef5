-- For `isolated_in_stretches`: a stretch that finishes had a pause buffer of 256 bytes, and a budget not below the steps so far. Assumes nothing.
use Prim.Native.Nat.{ℕ, ◌≤◌, ◌<◌}
use mathlib.Core.Path.{◌≡◌, subst}
use mathlib.Core.Bool.{true, false≢true}
use mathlib.Core.List.{List, [], ◌∷◌}
use native.Mathlib.Omega.{arith}
use native.Mathlib.Decide.{dec_lt}
use lib.ListN.{drop}
use borrow.Author.Tests.{eqb-true}
use Rattle.lattice.specs.Order.{top}
use Rattle.lattice.proofs.Tests.{and_l, and_r}
use Rattle.values.specs.Result.{Result, ok, refuse}
use Rattle.values.proofs.Result.{Post, post_refused_as, post_bind}
use Rattle.store.specs.Sheet.{Tables, Opening}
use Rattle.syntax.specs.Sheet.{Block}
use Rattle.calculus.specs.Rules.{RuleSet}
use Rattle.calculus.specs.Calculus.{Limits, State}
use Rattle.calculus.specs.Blocks.{setting}
use Rattle.pausing.specs.Stretches.{Position, From, opening, checkpoint, Stretch, pause_width, steps_in, block_in, path_in, path_good, checkpoint_good, Halted, take_up_blocks, end_of, limits_at, run_from, fitting, position_of, answer_of, answer}
use Rattle.pausing.specs.StretchesPromises.{steps_at}
use Rattle.pausing.proofs.PathsNextStep.{SpentAt, Doing, own_spent, leads_due, takes_up_law}
use Rattle.pausing.proofs.StretchesSettled.{settled_17}
use Rattle.pausing.proofs.StretchesAnswers.{taken_up, stretch_by}

-- The pause buffer

-- whatever a stretch goes on from
fits_pause : (m : ℕ) (from : From) (c : Stretch) → fitting m from c ≡ true → c.pause_room ≡ pause_width
unfolding fitting
fits_pause m opening c h = eqb-true c.pause_room pause_width (and_r _ _ h)
fits_pause m (checkpoint out sheet) c h = eqb-true c.pause_room pause_width (and_r _ _ (and_l _ _ (and_l _ _ h)))

pub pause_fits : (from : From) (c : Stretch) → (answer from c).number ≡ 0 → c.pause_room ≡ pause_width
unfolding answer_of
pause_fits from c =
    stretch_by from c (λ r. (answer_of r).number ≡ 0 → c.pause_room ≡ pause_width) (λ a l h z. absurd (omega arith)) (λ a e z. absurd (omega arith))
    (λ _ o _ _ _ _ _ _ fits _ _. fits_pause o.tables.slots from c fits)

-- The budget

-- with no steps left, blocks that are taken up along a good path are stopped
blocks_stopped : (w : Tables) (rules : RuleSet) (l : Limits) (i : ℕ) (bs : List Block) (sheet : List ℕ) (s : State) → path_good w bs sheet ≡ true
    → s.steps ≡ l.budget → Post (λ _. ⊥) (λ (h : Halted). SpentAt s h.pause.stop) (take_up_blocks w rules l i bs (path_in sheet) s)
unfolding take_up_blocks path_good Doing
blocks_stopped w rules l i [] sheet s g h = absurd (false≢true g)
blocks_stopped w rules l i (b ∷ bs) sheet s g h =
    let d = leads_due w.order b.command (top w.order) (path_in sheet) g in
    post_bind (λ _. ⊥) _ _ _ _
    (post_refused_as _ _ _ _
    (takes_up_law (setting w rules l i b) s _ _ (λ _ _. Unit {0}) (own_spent _ (setting w rules l i b) s h) (λ _ _ _ n. absurd n)
    b.command (top w.order) (path_in sheet) g (rw d.2 tt)))
    (λ _ n. absurd n)

ends_spent : (blocks slots : ℕ) (s : State) (r : Result Halted State) → Post (λ _. ⊥) (λ (h : Halted). SpentAt s h.pause.stop) r
    → (answer_of (end_of blocks slots r)).number ≡ 0 → ⊥
unfolding end_of answer_of Post
ends_spent blocks slots s (ok t) h z = absurd h
ends_spent blocks slots s (refuse x) h z = let e = settled_17 slots x h.number in omega (arith, rw e at z)

-- carrying on with no steps left does not finish
module _ (out sheet : List ℕ) (c : Stretch) (spent : c.budget ≤ steps_in sheet) where
  waits : (rules : RuleSet) (o : Opening) (blocks : List Block) (x : Position) → position_of o blocks (checkpoint out sheet) ≡ ok x
      → (answer_of (run_from rules c.budget o blocks x)).number ≡ 0 → ⊥
  unfolding checkpoint_good run_from limits_at
  waits rules o blocks x e =
      let q = taken_up o blocks out sheet x e in
      subst (λ (y : Position). (answer_of (run_from rules c.budget o blocks y)).number ≡ 0 → ⊥) q.1
      (ends_spent _ _ _ _ (blocks_stopped o.tables rules _ (block_in sheet) (drop (block_in sheet) blocks) sheet _ (and_r _ _ (and_l _ _ q.0)) (omega arith)))

  pub waiting : (answer (checkpoint out sheet) c).number ≡ 0 → ⊥
  unfolding answer_of
  waiting =
      stretch_by (checkpoint out sheet) c (λ r. (answer_of r).number ≡ 0 → ⊥) (λ a l h z. omega arith) (λ a e z. omega arith)
      (λ rules o blocks x _ _ _ _ _ good. waits rules o blocks x good)

pub steps_covered : (from : From) (c : Stretch) → (answer from c).number ≡ 0 → steps_at from ≤ c.budget
unfolding steps_at
steps_covered opening c z = omega arith
steps_covered (checkpoint out sheet) c z = by_steps (dec_lt c.budget (steps_in sheet))
  where
    by_steps : Dec (c.budget < steps_in sheet) → steps_in sheet ≤ c.budget
    by_steps (yes l) = absurd (waiting out sheet c (omega arith) z)
    by_steps (no n) = omega arith
