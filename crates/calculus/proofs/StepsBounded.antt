-- Proves `steps_bounded`: in a run of blocks (`run_blocks`), ended or stopped, steps only grow and never pass the budget. Assumes nothing.
use Prim.Native.Nat.{ℕ, ◌+◌, ◌≤◌}
use mathlib.Core.List.{List, [], ◌∷◌}
use native.Mathlib.Omega.{arith}
use Rattle.lattice.specs.Order.{top}
use Rattle.values.specs.Result.{Result, ok, refuse}
use Rattle.store.specs.Sheet.{Tables}
use Rattle.syntax.specs.Sheet.{Block}
use Rattle.values.proofs.Result.{Post, post_ok, post_map, post_refused_as, post_bind}
use Rattle.calculus.specs.Rules.{RuleSet}
use Rattle.calculus.specs.Calculus.{Limits, State, Stop}
use Rattle.calculus.specs.Blocks.{Halt, setting, run_blocks}
use Rattle.calculus.specs.Tasks.{reached}
use Rattle.calculus.specs.Steps.{StepsBounded}
use Rattle.calculus.proofs.Steps.{Counted, exec_counts}

-- where a block is stopped, and where a run is
abbrev pub stopped : Stop → State
stopped e = e.state

abbrev pub halted : Halt → State
halted h = h.stop.state

-- steps only grow and never pass the budget, in a run that finishes and in one that is stopped
pub run_counts : (w : Tables) (rules : RuleSet) (l : Limits) (i from : ℕ) (bs : List Block) (s : State) → Counted l.budget from s
    → Post (Counted l.budget from) (λ (h : Halt). Counted l.budget from h.stop.state) (run_blocks w rules l i bs s)
unfolding run_blocks
run_counts w rules l i from [] s h = post_ok _ _ _ h
run_counts w rules l i from (b ∷ bs) s h =
    post_bind _ _ _ _ _
    (post_refused_as _ _ _ _ (exec_counts (setting w rules l i b) from b.command (top w.order) s h))
    (λ t k. run_counts w rules l (i + 1) from bs t k)

-- what holds where a run ends or is stopped
pub at_reached : (P : State → Type 0) (r : Result Halt State) → Post P (λ h. P h.stop.state) r → P (reached r)
unfolding Post reached
at_reached P (ok s) p = p
at_reached P (refuse h) p = p

-- steps only grow and never pass the budget
pub steps_bounded : StepsBounded
steps_bounded w rules l i bs s h =
    at_reached (λ t. (s.steps ≤ t.steps) × (t.steps ≤ l.budget)) _
    (post_map _ _ _ _ _ (run_counts w rules l i s.steps bs s (record { grown = omega arith; kept = h }))
    (λ _ c. (c.grown, c.kept)) (λ _ c. (c.grown, c.kept)))
