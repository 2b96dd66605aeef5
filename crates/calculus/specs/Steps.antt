-- Demand 2: what a while comes to, and how far steps go. Assumes nothing.
use Rattle.std.specs.Prelude.{ℕ, ◌≤◌, ◌≡◌, List}
use Rattle.lattice.specs.Order.{Label, meet}
use Rattle.values.specs.Result.{Result, ok, ◌>>=◌}
use Rattle.store.specs.Sheet.{Tables}
use Rattle.syntax.specs.Syntax.{Expr, Cmd, cmd, while}
use Rattle.syntax.specs.Sheet.{Block}
use Rattle.calculus.specs.Rules.{RuleSet}
use Rattle.calculus.specs.Calculus.{Limits, Setting, State, Stop, counted, step, judge, choose, exec}
use Rattle.calculus.specs.Blocks.{run_blocks}
use Rattle.calculus.specs.Tasks.{reached}

-- one round of a while, its guard and then its body, and then k
abbrev pub once : Setting → Expr → Cmd → ℕ → Label → (State → Result Stop State) → State → Result Stop State
once w g c at branch k s =
    step w at s (judge w s.store g) >>= λ j.
    choose j.passes (λ t. exec w c (meet w.tables.order branch j.label) t >>= k) ok (counted s)

-- A while is one round of it, and then the same command again: the fuel of `loop` is not seen.
abbrev pub WhileLaw : Type 0
WhileLaw =
    (w : Setting) (g : Expr) (c : Cmd) (at : ℕ) (branch : Label) (s : State) → s.steps ≤ w.limits.budget
    → exec w (cmd at (while g c)) branch s ≡ once w g c at branch (exec w (cmd at (while g c)) branch) s

-- Steps only grow and never pass the budget, in a run of blocks that ends and in one that is stopped.
abbrev pub StepsBounded : Type 0
StepsBounded =
    (w : Tables) (rules : RuleSet) (l : Limits) (i : ℕ) (bs : List Block) (s : State) → s.steps ≤ l.budget
    → (s.steps ≤ (reached (run_blocks w rules l i bs s)).steps) × ((reached (run_blocks w rules l i bs s)).steps ≤ l.budget)
