-- Demand 2 by the functions that compute: a run with good sheets and arguments is what `run_blocks` comes to. By the rules: exactness/specs. Assumes nothing.
use Rattle.std.specs.Prelude.{ℕ, ◌*◌, ◌≤◌, ◌<◌, ◌≡◌, ◌↔◌, List, ◌++◌, length, drop}
use Rattle.values.specs.declared.Entry.{Entry}
use Rattle.values.specs.Result.{Result, ok, refuse, says}
use Rattle.values.specs.Value.{slot_width}
use Rattle.store.specs.Sheet.{Opening, store_sheet, slots_bytes}
use Rattle.syntax.specs.Sheet.{Block, programme_sheet}
use Rattle.calculus.specs.Rules.{RuleSet, rules_of}
use Rattle.calculus.specs.Calculus.{State}
use Rattle.calculus.specs.Blocks.{Halt, halt_answer, run_blocks, most_budget, start}
use Rattle.calculus.specs.Run.{Call, limits_of, answer, output, journal}

-- "With good sheets and arguments": none of 1 to 12 is met
pub record Good (c : Call) : Type 0 where
  pub rules : RuleSet
  pub opening : Opening
  pub blocks : List Block
  pub ruled : rules_of c.rule ≡ ok rules
  pub modest : c.budget ≤ most_budget
  pub opens : store_sheet c.store ≡ ok opening
  pub taken : programme_sheet opening.tables.order.n opening.tables.slots c.programme ≡ ok blocks
  pub fits : c.room ≡ slot_width * opening.tables.slots

-- the run of the blocks as `run_blocks` computes it: its end, or the first step that the rules or the budget forbid
abbrev pub own_run : {c : Call} → Good c → Result Halt State
own_run {c} g = run_blocks g.opening.tables g.rules (limits_of c) 0 g.blocks (start g.opening.store)

-- "a run finishes exactly when the chosen rule set .. finishes within the budget. Output and step count are then the rules' own;
-- otherwise the number, block, offset and step count belong to the first step that rules or budget forbid", and "a refusal leaves the
-- output bytes untouched"; the journal too
pub record Faithful (c : Call) (old : List ℕ) (kept : List Entry) (g : Good c) : Type 0 where
  pub finishes : ((answer c).number ≡ 0) ↔ ((s : State) × (own_run g ≡ ok s))
  pub ends : (s : State) → own_run g ≡ ok s
      → (answer c ≡ says 0 (length g.blocks) 0 s.steps)
      × (output c old ≡ slots_bytes s.store 0 g.opening.tables.slots)
      × (s.steps ≤ c.budget)
      × (journal c kept ≡ s.journal ++ drop (length s.journal) kept)
  pub stops : (h : Halt) → own_run g ≡ refuse h
      → (answer c ≡ halt_answer h) × (output c old ≡ old)
      × (0 < h.stop.number) × (h.stop.state.steps ≤ c.budget)
      × (journal c kept ≡ kept)

-- of every call with good sheets and arguments
abbrev pub Faithfulness : Type 0
Faithfulness = (c : Call) (old : List ℕ) (kept : List Entry) (g : Good c) → Faithful c old kept g
