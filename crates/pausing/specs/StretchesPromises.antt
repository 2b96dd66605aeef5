-- Document 02, N8: what is promised of runs in stretches. Assumes nothing.
use Rattle.std.specs.Prelude.{ℕ, ◌+◌, ◌≤◌, ◌<◌, ◌≡◌, true, List, [], ◌∷◌, length, drop}
use Rattle.lattice.specs.Order.{Label, top}
use Rattle.values.specs.Result.{Result, ok, refuse, says}
use Rattle.values.specs.Bytes.{Bytes}
use Rattle.store.specs.Sheet.{Opening, store_sheet, slots_bytes}
use Rattle.syntax.specs.Syntax.{Cmd, cmd, skip, assign, seq, if, while}
use Rattle.syntax.specs.Sheet.{Block, programme_sheet}
use Rattle.calculus.specs.Rules.{RuleSet, rules_of}
use Rattle.calculus.specs.Calculus.{Setting, State, exec}
use Rattle.calculus.specs.Tasks.{Task, judging, assigning}
use Rattle.exactness.specs.StepByStep.{outcome}
use Rattle.calculus.specs.Blocks.{setting, most_budget}
use Rattle.calculus.specs.Run.{call}
use Rattle.pausing.specs.Paths.{Open, bare, play, nowhere, in_sequence, inside_guard, child}
use Rattle.pausing.specs.Stretches.{Position, From, opening, checkpoint, Stretch, stretch, steps_in, limits_at, pause_width, fitting, position_of, answer, output, pause}
use Rattle.calculus.specs.Run as run

-- without its paths a command comes to what `exec` says
abbrev pub PathsAside : Type 0
PathsAside = (w : Setting) (c : Cmd) (branch : Label) (s : State) → bare (play w c branch s) ≡ exec w c branch s

-- two stretches come to the same answer and leave the same output and pause sheet
abbrev pub EndsAlike : From → From → Stretch → Type 0
EndsAlike from from' c =
    (answer from c ≡ answer from' c) × ((old : List ℕ) → output from c old ≡ output from' c old) × ((old : List ℕ) → pause from c old ≡ pause from' c old)

-- Chains

-- An unbroken chain of stretches from a start, over one store and programme: each of them, with any budget, under a rule number of the kind asked for, is
-- out of budget, and the next goes on from what it wrote. "each sheet and output came back as written"
pub data Chain (Ruled : ℕ → Type 0) (store programme : List ℕ) : From → Type 0 where
  begun : Chain Ruled store programme opening
  carried : {from : From} → Chain Ruled store programme from → (rule budget : ℕ) (out sheet : List ℕ) → Ruled rule
      → (answer from (stretch store programme rule budget (length out) (length sheet))).number ≡ 17
      → Chain Ruled store programme (checkpoint (output from (stretch store programme rule budget (length out) (length sheet)) out)
      (pause from (stretch store programme rule budget (length out) (length sheet)) sheet))

-- the rule numbers of a rule set
abbrev pub Means : RuleSet → ℕ → Type 0
Means rules rule = rules_of rule ≡ ok rules

-- the steps so far
unfoldable pub steps_at : From → ℕ
steps_at opening = 0
steps_at (checkpoint out sheet) = steps_in sheet

-- "Pausing and carrying on under one rule, with a budget not below the steps so far, gives the same answer, output and steps as a run by this entry
-- point that never paused.": for any number of stretches
abbrev pub NeverPaused : Type 0
NeverPaused =
    (rules : RuleSet) (from : From) (c : Stretch) → Bytes c.store → Bytes c.programme
    → Means rules c.rule → Chain (Means rules) c.store c.programme from
    → steps_at from ≤ c.budget → EndsAlike from opening c

-- What this entry point answers and writes from a start is `run`'s answer and output, with a journal long enough, but for what 17 writes.
pub record AsRun (c : Stretch) (entries : ℕ) : Type 0 where
  pub answered : answer opening c ≡ run.answer (call c.store c.programme c.rule c.budget c.room entries)
  pub written : (old : List ℕ) → ((answer opening c).number ≡ 17 → ⊥)
      → output opening c old ≡ run.output (call c.store c.programme c.rule c.budget c.room entries) old

abbrev pub StartsAsRun : Type 0
StartsAsRun = (c : Stretch) (entries : ℕ) → c.pause_room ≡ pause_width → c.budget ≤ entries → AsRun c entries

-- "No journal is lent here, and 18 doesn't arise."
abbrev pub NoneFull : Type 0
NoneFull = (from : From) (c : Stretch) → (answer from c).number ≡ 18 → ⊥

-- what is read are bytes
unfoldable pub BytesIn : From → Type 0
BytesIn opening = Unit {0}
BytesIn (checkpoint out sheet) = Bytes out × Bytes sheet

-- A pause sheet that was written is never refused by 19, with its own output, store and programme: wherever the stretch that wrote it went on from
abbrev pub WrittenGood : Type 0
WrittenGood =
    (from : From) (c : Stretch) (out sheet : List ℕ) → Bytes c.store → Bytes c.programme → BytesIn from → (answer from c).number ≡ 17
    → (c' : Stretch) → c'.store ≡ c.store → c'.programme ≡ c.programme
    → (answer (checkpoint (output from c out) (pause from c sheet)) c').number ≡ 19 → ⊥

-- The next step

-- what a command whose own step is next does: nothing where it takes none
pub data Does : Type 0 where
  nothing : Does
  tries : (offset : ℕ) → Task → Does

unfoldable pub own : Cmd → Label → Does
own (cmd at skip) branch = nothing
own (cmd at (assign x v)) branch = tries at (assigning branch x v)
own (cmd at (seq cs)) branch = nothing
own (cmd at (if g c d)) branch = tries at (judging g)
own (cmd at (while g c)) branch = tries at (judging g)

-- the step that a path leads to, inside a command under a branch label: by the path alone, whatever the rule
unfoldable pub due : Cmd → Label → List Open → Does
due c branch [] = own c branch
due c branch (o ∷ p) =
    elim (child c o.child) [ nowhere ↦ nothing | in_sequence d ↦ due d o.label p | inside_guard d ↦ due d o.label p ]

-- a position that a stretch goes on from: its sheets are taken in, and none of 1 to 12 and 19 is met
pub record GoesFrom (from : From) (c : Stretch) : Type 0 where
  pub rules : RuleSet
  pub start : Opening
  pub blocks : List Block
  pub place : Position
  pub block : Block
  pub rest : List Block
  pub ruled : rules_of c.rule ≡ ok rules
  pub modest : c.budget ≤ most_budget
  pub opens : store_sheet c.store ≡ ok start
  pub taken : programme_sheet start.tables.order.n start.tables.slots c.programme ≡ ok blocks
  pub fits : fitting start.tables.slots from c ≡ true
  pub good : position_of start blocks from ≡ ok place
  pub next : drop place.block blocks ≡ block ∷ rest

-- what the step that is next comes to under the rule of this stretch
abbrev pub judged : {from : From} {c : Stretch} → GoesFrom from c → ℕ → Task → Result ℕ State
judged {c = c} g at t =
    outcome (setting g.start.tables g.rules (limits_at c.budget g.place) g.place.block g.block) at g.place.state t

-- the same stretch with another budget
abbrev pub with_budget : ℕ → Stretch → Stretch
with_budget budget c = stretch c.store c.programme c.rule budget c.room c.pause_room

-- "After a change of rule, the next step is the first judged by the new one.": the step that the path leads to is judged by the rule of this stretch, in the
-- state that was written, and no step before it. Forbidden, it is this stretch's answer; made, it is the one step that a budget of one more allows.
pub record NextJudged (out sheet : List ℕ) (c : Stretch) (g : GoesFrom (checkpoint out sheet) c) : Type 0 where
  pub offset : ℕ
  pub task : Task
  pub is : due g.block.command (top g.start.tables.order) g.place.path ≡ tries offset task
  pub forbidden : (n : ℕ) → judged g offset task ≡ refuse n → answer (checkpoint out sheet) c ≡ says n g.place.block offset g.place.state.steps
  pub made : (s : State) → judged g offset task ≡ ok s
      → ((answer (checkpoint out sheet) (with_budget (g.place.state.steps + 1) c)).steps ≡ s.steps)
      × ((old : List ℕ) → output (checkpoint out sheet) (with_budget (g.place.state.steps + 1) c) old ≡ slots_bytes s.store 0 g.start.tables.slots)

abbrev pub RuleOfNext : Type 0
RuleOfNext = (out sheet : List ℕ) (c : Stretch) (g : GoesFrom (checkpoint out sheet) c) → g.place.state.steps < c.budget → NextJudged out sheet c g
