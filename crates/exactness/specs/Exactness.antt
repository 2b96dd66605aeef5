-- Demand 2 over the rules: a run is exactly what the rules come to within its limits, the budget and the journal's length. Assumes nothing.
use Rattle.std.specs.Prelude.{ℕ, ◌≤◌, ◌≡◌, ◌↔◌, ◌⊎◌, List, [], ◌∷◌, ◌++◌, length, drop}
use Rattle.lattice.specs.Order.{Label, top}
use Rattle.values.specs.declared.Entry.{Entry}
use Rattle.values.specs.Result.{Result, ok, refuse, says}
use Rattle.store.specs.Sheet.{Opening, slots_bytes}
use Rattle.syntax.specs.declared.Header.{Header}
use Rattle.syntax.specs.Sheet.{Block}
use Rattle.calculus.specs.Rules.{RuleSet}
use Rattle.calculus.specs.Calculus.{Limits, State, Memory, memory, state_at}
use Rattle.exactness.specs.Reduction.{Region, done, ⟨◌∣◌∣◌⟩, regions, Stage, before, during, ◌⊩◌⟹◌}
use Rattle.exactness.specs.Forbidden.{Forbidden, Due}
use Rattle.calculus.specs.Blocks.{Halt, halt_answer, run_blocks, start}
use Rattle.calculus.specs.Run.{Call, limits_of, answer, output, journal}
use Rattle.calculus.specs.Faithfulness.{Good}
use Rattle.calculus.specs.Tasks.{reached}
use Rattle.exactness.specs.StepByStep.{state_after}

infix 10 ◌⊩◌⟹*◌
-- any number of steps, silent ones too
pub data ◌⊩◌⟹*◌ (ρ : ℕ → Header → Region) : Stage → Stage → Type 0 where
  here : {P : Stage} → ρ ⊩ P ⟹* P
  after : {P Q R : Stage} → ρ ⊩ P ⟹ Q → ρ ⊩ Q ⟹* R → ρ ⊩ P ⟹* R

-- the state at a stage
abbrev pub held : Stage → State
held (before i n H bs) = state_at n H
held (during i n h ⟨ H ∣ PC ∣ k ⟩ bs) = state_at n H

-- neither the steps nor the entries pass the limits
pub record Within (l : Limits) (s : State) : Type 0 where
  pub steps : s.steps ≤ l.budget
  pub entries : length s.journal ≤ l.entries

-- the numbers by which the rules forbid
abbrev pub From13To16 : ℕ → Type 0
From13To16 number = (13 ≤ number) × (number ≤ 16)

-- and those by which limits do
abbrev pub By17Or18 : ℕ → Type 0
By17Or18 number = (number ≡ 17) ⊎ (number ≡ 18)

-- Runs by the rules, which know no limits, and beside them the run that `run_blocks` computes within some
module _ (o : Opening) (rules : RuleSet) (blocks : List Block) where
  -- from P the rules lead on to Q
  abbrev pub Leads : Stage → Stage → Type 0
  Leads P Q = regions o.tables rules ⊩ P ⟹ Q

  -- the run reaches the stage P
  abbrev pub Reaches : Stage → Type 0
  Reaches P = regions o.tables rules ⊩ before 0 0 (memory (start o.store)) blocks ⟹* P

  -- it finishes: every block has been played, and s is its end
  abbrev pub finish : State → Stage
  finish s = before (length blocks) s.steps (memory s) []

  abbrev pub Finishes : State → Type 0
  Finishes s = Reaches (finish s)

  -- it comes to a step that the rules forbid
  abbrev pub Forbids : Halt → Type 0
  Forbids h = (P : Stage) × Reaches P × Forbidden (regions o.tables rules) P h

  -- .. and they come to it within limits that let the step be judged
  abbrev pub ForbidsIn : Limits → Halt → Type 0
  ForbidsIn l h =
      (P : Stage) × Reaches P × Within l (held P) × Forbidden (regions o.tables rules) P h × ((h' : Halt) → Due l P h' → ⊥)

  -- it comes to a step where the limits stop it
  abbrev pub ComesDue : Limits → Halt → Type 0
  ComesDue l h = (P : Stage) × Reaches P × Within l (held P) × Due l P h

  abbrev pub under : Limits → Result Halt State
  under l = run_blocks o.tables rules l 0 blocks (start o.store)

  -- the budget or the journal runs out
  abbrev pub RunsOut : Limits → Type 0
  RunsOut l = (h : Halt) × ComesDue l h × (under l ≡ refuse h)

  pub record Exact : Type 0 where
    -- The rules are deterministic. Every stage of a run goes on, or it is the finish, or the rules forbid its next step, by one number; never two
    -- of these.
    pub determined : {P Q Q' : Stage} → Leads P Q → Leads P Q' → Q ≡ Q'
    pub goes_on : (P : Stage) → Reaches P
        → ((Q : Stage) × Leads P Q) ⊎ ((s : State) × (P ≡ finish s)) ⊎ ((h : Halt) × Forbidden (regions o.tables rules) P h)
    pub finish_stays : (s : State) (Q : Stage) → Leads (finish s) Q → ⊥
    pub forbidden_stays : (P Q : Stage) (h : Halt) → Forbidden (regions o.tables rules) P h → Leads P Q → ⊥
    pub finish_allowed : (s : State) (h : Halt) → Forbidden (regions o.tables rules) (finish s) h → ⊥
    pub one_forbidden : (P : Stage) (h h' : Halt) → Forbidden (regions o.tables rules) P h → Forbidden (regions o.tables rules) P h' → h ≡ h'
    -- "It is an invariant that PC = [⊤] .. every time a region's command ends with skip." (source 003, IV.B)
    pub block_ends : {i n : ℕ} {h : Header} {H : Memory} {PC : List Label} {bs : List Block}
        → Reaches (during i n h ⟨ H ∣ PC ∣ done ⟩ bs) → PC ≡ top o.tables.order ∷ []
    -- Within limits a run finishes exactly when the rules finish within them, is refused by 13 to 16 exactly when the rules forbid a step that
    -- the limits let be judged, and by 17 or 18 exactly when it comes to a step where they stop it: by 17 where the steps done are as many as the
    -- budget, by 18 where they are fewer, an assignment is next and the entries filled are as many as there is room for. There is no other refusal.
    pub finishes : (l : Limits) (s : State) → (Finishes s × Within l s) ↔ (under l ≡ ok s)
    pub forbids : (l : Limits) (h : Halt) → ForbidsIn l h ↔ ((under l ≡ refuse h) × From13To16 h.stop.number)
    pub runs_out : (l : Limits) (h : Halt) → ComesDue l h ↔ ((under l ≡ refuse h) × By17Or18 h.stop.number)
    pub numbers : (l : Limits) (h : Halt) → under l ≡ refuse h → From13To16 h.stop.number ⊎ By17Or18 h.stop.number
    -- at each stage the state is the one that `run_blocks` comes to under a budget of the steps done there; and each of them writes one entry at most
    pub everywhere : (P : Stage) → Reaches P → (l : Limits) → l.budget ≡ (held P).steps → length (held P).journal ≤ l.entries → held P ≡ reached (under l)
    pub few_entries : (P : Stage) → Reaches P → length (held P).journal ≤ (held P).steps
    -- limits that are too small run out; and all do, exactly when the run never ends
    pub cut_short : (s : State) → Finishes s → (l : Limits) → (Within l s → ⊥) → RunsOut l
    pub cut_before : (h : Halt) → Forbids h → (l : Limits) → (ForbidsIn l h → ⊥) → RunsOut l
    pub endless : (((s : State) → Finishes s → ⊥) × ((h : Halt) → Forbids h → ⊥)) ↔ ((l : Limits) → RunsOut l)

abbrev pub Exactness : Type 0
Exactness = (o : Opening) (rules : RuleSet) (blocks : List Block) → Exact o rules blocks

-- Demand 2 for one call with good sheets and arguments, by the rules: the three ways in which it ends within its limits
module _ {c : Call} (g : Good c) where
  abbrev pub FinishesWithin : State → Type 0
  FinishesWithin s = Finishes g.opening g.rules g.blocks s × Within (limits_of c) s

  abbrev pub ForbidsWithin : Halt → Type 0
  ForbidsWithin h = ForbidsIn g.opening g.rules g.blocks (limits_of c) h

  abbrev pub DueAtLimits : Halt → Type 0
  DueAtLimits h = ComesDue g.opening g.rules g.blocks (limits_of c) h

pub record ByRules (c : Call) (old : List ℕ) (kept : List Entry) (g : Good c) : Type 0 where
  -- "a run finishes exactly when the chosen rule set .. finishes within the budget. Output and step count are then the rules' own;" the journal's length
  -- "stands beside the budget", and its entries are the rules' own too (document 02, N7)
  pub finishes : ((answer c).number ≡ 0) ↔ ((s : State) × FinishesWithin g s)
  pub finished : (s : State) → FinishesWithin g s
      → (answer c ≡ says 0 (length g.blocks) 0 s.steps)
      × (output c old ≡ slots_bytes s.store 0 g.opening.tables.slots)
      × (journal c kept ≡ s.journal ++ drop (length s.journal) kept)
  -- "otherwise the number, block, offset and step count belong to the first step that rules or budget forbid", and "a refusal leaves the
  -- output bytes untouched", and the journal
  pub forbids : From13To16 (answer c).number ↔ ((h : Halt) × ForbidsWithin g h)
  pub forbidden : (h : Halt) → ForbidsWithin g h
      → (answer c ≡ halt_answer h) × (output c old ≡ old) × (journal c kept ≡ kept)
  pub runs_out : By17Or18 (answer c).number ↔ ((h : Halt) × DueAtLimits g h)
  pub out_of_limits : (h : Halt) → DueAtLimits g h
      → (answer c ≡ halt_answer h) × (output c old ≡ old) × (journal c kept ≡ kept)
  -- there is no fourth way
  pub one_of_three : ((s : State) × FinishesWithin g s) ⊎ ((h : Halt) × ForbidsWithin g h) ⊎ ((h : Halt) × DueAtLimits g h)
  -- a run that never ends comes to the end of any budget or journal
  pub endless : ((s : State) → Finishes g.opening g.rules g.blocks s → ⊥) → ((h : Halt) → Forbids g.opening g.rules g.blocks h → ⊥)
      → By17Or18 (answer c).number
  -- "at every step" (document 02, N2): each stage of the rules' run that the journal has room for has the state after as many steps
  pub everywhere : (P : Stage) → Reaches g.opening g.rules g.blocks P → length (held P).journal ≤ c.entries
      → state_after g (held P).steps ≡ held P

-- Demand 2, of every call with good sheets and arguments
abbrev pub FaithfulnessByRules : Type 0
FaithfulnessByRules = (c : Call) (old : List ℕ) (kept : List Entry) (g : Good c) → ByRules c old kept g
