-- A run step by step: the state after each step, and the step that is next. Assumes nothing.
use Rattle.std.specs.Prelude.{ℕ, ◌+◌, ◌≤◌, ◌<◌, min, ◌≡◌, true, false, length, take}
use Rattle.lattice.specs.Order.{Label, meet, top}
use Rattle.values.specs.Result.{Result, ok, refuse, ◌>>=◌}
use Rattle.syntax.specs.Syntax.{Expr, Cmd, cmd, assign, seq, if, while, Cmds, cons}
use Rattle.syntax.specs.Sheet.{Block, block_at}
use Rattle.calculus.specs.Calculus.{limits, Setting, Store, Judged, State, judge, attempt, counted, performed, stop_at, exec}
use Rattle.calculus.specs.Tasks.{Task, judging, assigning, reached}
use Rattle.calculus.specs.Blocks.{Halt, halt_in, setting, run_blocks, start}
use Rattle.calculus.specs.Run.{Call}
use Rattle.calculus.specs.Faithfulness.{Good, own_run}

-- Every step

module _ {c : Call} (g : Good c) where
  -- the run of the first j blocks that k steps are allowed
  abbrev pub run_within : ℕ → ℕ → Result Halt State
  run_within k j = run_blocks g.opening.tables g.rules (limits k c.entries) 0 (take j g.blocks) (start g.opening.store)

  -- the state after k steps of the first j blocks: where that run is; one that ends or is stopped before k steps stays there
  unfoldable pub state_within : ℕ → ℕ → State
  state_within k j = reached (run_within k j)

  -- the run that k steps are allowed, and the state and the held store after k steps, of all blocks
  abbrev pub run_after : ℕ → Result Halt State
  run_after k = run_within k (length g.blocks)

  abbrev pub state_after : ℕ → State
  state_after k = state_within k (length g.blocks)

  abbrev pub store_after : ℕ → Store
  store_after k = (state_after k).store

-- what a step at an offset comes to in a state: the state after it, or the number that forbids it
unfoldable pub outcome : Setting → ℕ → State → Task → Result ℕ State
outcome w at s (judging g) = judge w s.store g >>= λ j. ok (counted s)
outcome w at s (assigning branch target value) = attempt w branch s target value >>= λ x. ok (performed w at x s)

-- a step that is next: the offset of its command, the state that it meets, what it is to do
pub record Place : Type 0 where
  pub offset : ℕ
  pub state : State
  pub task : Task

abbrev pub step_at : ℕ → State → Task → Place
step_at at s t = record { offset = at; state = s; task = t }

-- A command, begun in a state under a branch label, comes to a step: its own, or one of a command inside it, when what stands before that
-- has run to its end
module _ (w : Setting) where
  -- "Inside an if-part or a while body it is the meet of the outer one and the guard's label; after the part, or after each round before
  -- judging again, the outer one is back."
  abbrev pub inside : Label → Judged → Label
  inside branch j = meet w.tables.order branch j.label

  pub data Comes : Cmd → Label → State → Place → Type 0 where
    at_assignment : {at : ℕ} {x v : Expr} {l : Label} {s : State} → Comes (cmd at (assign x v)) l s (step_at at s (assigning l x v))
    at_if : {at : ℕ} {g : Expr} {c d : Cmd} {l : Label} {s : State} → Comes (cmd at (if g c d)) l s (step_at at s (judging g))
    at_while : {at : ℕ} {g : Expr} {c : Cmd} {l : Label} {s : State} → Comes (cmd at (while g c)) l s (step_at at s (judging g))
    in_first : {at : ℕ} {c : Cmd} {cs : Cmds} {l : Label} {s : State} {p : Place}
        → Comes c l s p → Comes (cmd at (seq (cons c cs))) l s p
    in_rest : {at : ℕ} {c : Cmd} {cs : Cmds} {l : Label} {s t : State} {p : Place}
        → exec w c l s ≡ ok t → Comes (cmd at (seq cs)) l t p → Comes (cmd at (seq (cons c cs))) l s p
    in_then : {at : ℕ} {g : Expr} {c d : Cmd} {l : Label} {s : State} {p : Place} {j : Judged}
        → judge w s.store g ≡ ok j → j.passes ≡ true → Comes c (inside l j) (counted s) p → Comes (cmd at (if g c d)) l s p
    in_else : {at : ℕ} {g : Expr} {c d : Cmd} {l : Label} {s : State} {p : Place} {j : Judged}
        → judge w s.store g ≡ ok j → j.passes ≡ false → Comes d (inside l j) (counted s) p → Comes (cmd at (if g c d)) l s p
    in_body : {at : ℕ} {g : Expr} {c : Cmd} {l : Label} {s : State} {p : Place} {j : Judged}
        → judge w s.store g ≡ ok j → j.passes ≡ true → Comes c (inside l j) (counted s) p → Comes (cmd at (while g c)) l s p
    in_later_round : {at : ℕ} {g : Expr} {c : Cmd} {l : Label} {s t : State} {p : Place} {j : Judged}
        → judge w s.store g ≡ ok j → j.passes ≡ true → exec w c (inside l j) (counted s) ≡ ok t
        → Comes (cmd at (while g c)) l t p → Comes (cmd at (while g c)) l s p

module _ {c : Call} (g : Good c) (k : ℕ) where
  -- "Before each step, if steps done equal the budget, the run is spent": k steps are done, and in a block of the sheet, which the run has
  -- entered with the top label, one more is next
  pub record OutOfBudget : Type 0 where
    pub number : ℕ
    pub block : Block
    pub entry : State
    pub place : Place
    pub listed : block_at g.opening.tables.slots c.programme number ≡ ok block
    pub entered : run_within g k number ≡ ok entry
    pub comes : Comes (setting g.opening.tables g.rules (limits k c.entries) number block) block.command (top g.opening.tables.order) entry place
    pub done : place.state.steps ≡ k
    pub stops : run_after g k ≡ refuse (halt_in number (stop_at place.offset place.state 17))

  -- what the step that is next comes to
  abbrev pub due : OutOfBudget → Result ℕ State
  due p =
      outcome (setting g.opening.tables g.rules (limits k c.entries) p.number p.block) p.place.offset p.place.state p.place.task

  -- The run that k + 1 steps are allowed: the same, where it had ended, or after fewer than k steps the rules or a full journal forbade one; where it
  -- was out of budget, it is on by the step that is next, or they forbid that one there: "A forbidden step is not counted."
  pub data Next : Result Halt State → Type 0 where
    ended : {s : State} → run_after g k ≡ ok s → Next (ok s)
    refused : {h : Halt} → run_after g k ≡ refuse h → (h.stop.number ≡ 17 → ⊥) → h.stop.state.steps < k → Next (refuse h)
    taken : {r : Result Halt State} (p : OutOfBudget) → due p ≡ ok (reached r) → Next r
    forbidden : {n : ℕ} (p : OutOfBudget) → due p ≡ refuse n → Next (refuse (halt_in p.number (stop_at p.place.offset p.place.state n)))

-- The run goes step by step from the opening store on, each time by the step that is next. The steps done are the smaller of those allowed
-- and the run's own.
pub record Stepwise (c : Call) (g : Good c) : Type 0 where
  pub opens : state_after g 0 ≡ start g.opening.store
  pub goes : (k : ℕ) → Next g k (run_after g (k + 1))
  -- the step that is next is one: block, offset, state, branch label and expressions
  pub one_next : (k : ℕ) (p q : OutOfBudget g k) → (p.number ≡ q.number) × (p.block ≡ q.block) × (p.place ≡ q.place)
  pub counts : (k k' : ℕ) → k ≤ k' → (state_after g k).steps ≡ min k (state_after g k').steps
  pub ends : run_after g c.budget ≡ own_run g

abbrev pub StepByStep : Type 0
StepByStep = (c : Call) (g : Good c) → Stepwise c g
