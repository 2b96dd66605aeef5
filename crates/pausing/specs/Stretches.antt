-- Document 02, N8: the second entry point, which pauses, and carrying on: answers, outputs and pause sheets of both, for every input. A checkpoint is
-- its pause sheet. Assumes nothing.
use Rattle.std.specs.Prelude.{ℕ, ◌+◌, ◌-◌, ◌*◌, max, ◌≡◌, Bool, true, false, List, [], ◌∷◌, ◌++◌, map, get_or, length, drop, replicate, leb, eqb}
use Rattle.lattice.specs.Tests.{◌and◌, every}
use Rattle.lattice.specs.Order.{top}
use Rattle.values.specs.declared.Answer.{Answer}
use Rattle.values.specs.Result.{Result, ok, refuse, ◌>>=◌, require, refused_as, says, unplaced}
use Rattle.values.specs.Bytes.{number_at, number_bytes, table, filled}
use Rattle.values.specs.Value.{well_formed, value_at, Slot, empty_slot, slot_width}
use Rattle.store.specs.Sheet.{Tables, Opening, most_slots, store_sheet, slots_bytes}
use Rattle.syntax.specs.Sheet.{Block, programme_sheet}
use Rattle.calculus.specs.Rules.{RuleSet, rules_of}
use Rattle.calculus.specs.Calculus.{Limits, limits, Store, State}
use Rattle.calculus.specs.Blocks.{halt_in, halt_answer, setting, most_budget, start}
use Rattle.store.specs.Counts.{total, count_at}
use Rattle.pausing.specs.Paths.{Open, Pause, take_up, leads}

-- Where a run stands between two stretches: the block and the path that are next, and the state there
pub record Position : Type 0 where
  pub block : ℕ
  pub path : List Open
  pub state : State

abbrev pub standing : ℕ → List Open → State → Position
standing i p s = record { block = i; path = p; state = s }

-- The pause sheet

-- "a lent buffer of exactly 256 bytes"
abbrev pub pause_width : ℕ
pause_width = 256

-- "steps so far (4 bytes), path length (1), block number (1), then two parallel arrays of one byte an entry"
abbrev pub steps_width : ℕ
steps_width = 4

abbrev pub length_byte : ℕ
length_byte = steps_width

abbrev pub block_byte : ℕ
block_byte = length_byte + 1

abbrev pub children_at : ℕ
children_at = block_byte + 1

abbrev pub labels_at : ℕ → ℕ
labels_at n = children_at + n

abbrev pub unused_at : ℕ → ℕ
unused_at n = labels_at n + n

-- commands nest 32 deep, so at most 31 are open around one
abbrev pub most_open : ℕ
most_open = 31

-- "the child taken .. and the branch label inside it .. Unused bytes are 0."
unfoldable pub pause_sheet : Position → List ℕ
pause_sheet x =
    number_bytes steps_width x.state.steps ++ (length x.path ∷ x.block ∷ (map (λ (o : Open). o.child) x.path
    ++ (map (λ (o : Open). o.label) x.path ++ replicate (pause_width - unused_at (length x.path)) 0)))

-- what a pause sheet says
abbrev pub steps_in : List ℕ → ℕ
steps_in sheet = number_at steps_width sheet 0

abbrev pub open_in : List ℕ → ℕ
open_in sheet = get_or sheet length_byte 0

abbrev pub block_in : List ℕ → ℕ
block_in sheet = get_or sheet block_byte 0

abbrev pub entry_in : List ℕ → ℕ → Open
entry_in sheet i = record { child = get_or sheet (children_at + i) 0; label = get_or sheet (labels_at (open_in sheet) + i) 0 }

abbrev pub path_in : List ℕ → List Open
path_in sheet = table (open_in sheet) (entry_in sheet)

-- "an unused byte isn't 0"
unfoldable pub unused_zero : List ℕ → Bool
unused_zero sheet = every (pause_width - unused_at (open_in sheet)) λ i. eqb (get_or sheet (unused_at (open_in sheet) + i) 0) 0

-- The old output, "only read, as opening values": a slot has its value and its count
unfoldable pub slot_in : List ℕ → ℕ → Slot
slot_in out i = record { value = value_at out (slot_width * i); writes = count_at out i }

unfoldable pub store_in : ℕ → List ℕ → Store
store_in m out = filled most_slots m (slot_in out) empty_slot

-- "a value is ill-formed, or counts add up to more than the steps"
unfoldable pub output_good : ℕ → List ℕ → ℕ → Bool
output_good m out steps =
    every m (λ i. well_formed m (slot_in out i).value) and leb (total (table m (count_at out))) steps

-- the path in a sheet leads to a step of its block; "the label outside the first entry is the top"
unfoldable pub path_good : Tables → List Block → List ℕ → Bool
path_good w [] sheet = false
path_good w (b ∷ bs) sheet = leads w.order b.command (top w.order) (path_in sheet)

-- "19 when the path doesn't lead to an assignment, if or while, a label isn't at or below the one outside it (equal in a sequence), an unused byte
-- isn't 0, a value is ill-formed, or counts add up to more than the steps"
unfoldable pub checkpoint_good : Tables → List Block → List ℕ → List ℕ → Bool
checkpoint_good w blocks out sheet =
    leb (open_in sheet) most_open
    and unused_zero sheet
    and path_good w (drop (block_in sheet) blocks) sheet
    and output_good w.slots out (steps_in sheet)

-- Stretches

-- What an entry point is given: both sheets, the rule number, the budget, and the bytes lent for output and pause sheet
pub record Stretch : Type 0 where
  pub store : List ℕ
  pub programme : List ℕ
  pub rule : ℕ
  pub budget : ℕ
  pub room : ℕ
  pub pause_room : ℕ

abbrev pub stretch : (store programme : List ℕ) (rule budget room pause_room : ℕ) → Stretch
stretch store programme rule budget room pause_room =
    record { store = store; programme = programme; rule = rule; budget = budget; room = room; pause_room = pause_room }

-- where it goes on from: the opening store; or, carrying on, "the old output and pause sheet, only read, as opening values and place"
pub data From : Type 0 where
  opening : From
  checkpoint : (out sheet : List ℕ) → From

-- a run that was stopped: in which block, by which path, and how
pub record Halted : Type 0 where
  pub block : ℕ
  pub pause : Pause

abbrev pub halted_in : ℕ → Pause → Halted
halted_in i x = record { block = i; pause = x }

-- the blocks of a list, the first of which is the i-th of its programme and is taken up along a path
unfoldable pub take_up_blocks : Tables → RuleSet → Limits → ℕ → List Block → List Open → State → Result Halted State
take_up_blocks w rules l i [] p s = ok s
take_up_blocks w rules l i (b ∷ bs) p s =
    refused_as (halted_in i) (take_up (setting w rules l i b) b.command (top w.order) p s) >>= λ t.
    take_up_blocks w rules l (i + 1) bs [] t

-- How a stretch ended: finished, with so many blocks; or out of budget, where the command whose step is next stands at an offset
pub data Ended : Type 0 where
  finished : (blocks slots : ℕ) → State → Ended
  paused : (slots offset : ℕ) → Position → Ended

-- "A second entry point answers 17, alone among refusals .., by writing output .. and a pause sheet"
unfoldable pub settled : ℕ → Halted → Result Answer Ended
settled slots h =
    let x = h.pause.stop in
    elim (eqb x.number 17) [
      | true ↦ ok (paused slots x.offset (standing h.block h.pause.path x.state))
      | false ↦ refuse (halt_answer (halt_in h.block x))
    ]

unfoldable pub end_of : ℕ → ℕ → Result Halted State → Result Answer Ended
end_of blocks slots (ok s) = ok (finished blocks slots s)
end_of blocks slots (refuse h) = settled slots h

-- "a budget that includes the steps so far; one at or below them gives 17 before any step. No journal is lent here, and 18 doesn't arise": there is
-- room for as many writes as any budget allows
unfoldable pub limits_at : ℕ → Position → Limits
limits_at budget x = limits (max budget x.state.steps) most_budget

-- the blocks of a programme from a position on
unfoldable pub run_from : RuleSet → ℕ → Opening → List Block → Position → Result Answer Ended
run_from rules budget o blocks x =
    end_of (length blocks) o.tables.slots
    (take_up_blocks o.tables rules (limits_at budget x) x.block (drop x.block blocks) x.path x.state)

-- "12 also covers all these": "lent buffer of exactly 256 bytes"
unfoldable pub fitting : ℕ → From → Stretch → Bool
fitting m opening c = eqb c.room (slot_width * m) and eqb c.pause_room pause_width
fitting m (checkpoint out sheet) c =
    eqb c.room (slot_width * m) and eqb c.pause_room pause_width and eqb (length out) (slot_width * m) and eqb (length sheet) pause_width

-- the position that a stretch goes on from, or 19
unfoldable pub position_of : Opening → List Block → From → Result Answer Position
position_of o blocks opening = ok (standing 0 [] (start o.store))
position_of o blocks (checkpoint out sheet) =
    require (checkpoint_good o.tables blocks out sheet) (unplaced 19) (
    ok (standing (block_in sheet) (path_in sheet) (record { store = store_in o.tables.slots out; steps = steps_in sheet; journal = [] })))

-- a programme sheet over an opened store: 6 to 10; 12 over all buffers; 19, "judged after 12"; the run
unfoldable pub stretch_opened : RuleSet → Opening → From → Stretch → Result Answer Ended
stretch_opened rules o from c =
    programme_sheet o.tables.order.n o.tables.slots c.programme >>= λ blocks.
    require (fitting o.tables.slots from c) (unplaced 12) (
    position_of o blocks from >>= run_from rules c.budget o blocks)

-- "Order: 11; store sizes present (1), .." as of a run
unfoldable pub stretch_under : RuleSet → From → Stretch → Result Answer Ended
stretch_under rules from c =
    require (leb c.budget most_budget) (unplaced 11) (
    refused_as unplaced (store_sheet c.store) >>= λ o. stretch_opened rules o from c)

unfoldable pub run_stretch : From → Stretch → Result Answer Ended
run_stretch from c = refused_as unplaced (rules_of c.rule) >>= λ rules. stretch_under rules from c

unfoldable pub answer_of : Result Answer Ended → Answer
answer_of (ok (finished blocks slots s)) = says 0 blocks 0 s.steps
answer_of (ok (paused slots offset x)) = says 17 x.block offset x.state.steps
answer_of (refuse a) = a

unfoldable pub output_of : Result Answer Ended → List ℕ → List ℕ
output_of (ok (finished blocks slots s)) old = slots_bytes s.store 0 slots
output_of (ok (paused slots offset x)) old = slots_bytes x.state.store 0 slots
output_of (refuse a) old = old

-- a run that finishes leaves the pause buffer untouched
unfoldable pub pause_of : Result Answer Ended → List ℕ → List ℕ
pause_of (ok (finished blocks slots s)) old = old
pause_of (ok (paused slots offset x)) old = pause_sheet x
pause_of (refuse a) old = old

-- What an entry point answers; what its output and its pause buffer then hold, where they held `old` before
abbrev pub answer : From → Stretch → Answer
answer from c = answer_of (run_stretch from c)

abbrev pub output : From → Stretch → List ℕ → List ℕ
output from c old = output_of (run_stretch from c) old

abbrev pub pause : From → Stretch → List ℕ → List ℕ
pause from c old = pause_of (run_stretch from c) old

-- A call from there comes to the answer r, and leaves `out` and `sheet` in the buffers that were lent to it, where they held `old` and `oldSheet`.
abbrev pub ComesTo : From → Stretch → (old oldSheet out sheet : List ℕ) → Answer → Type 0
ComesTo from c old oldSheet out sheet r = (r ≡ answer from c) × (out ≡ output from c old) × (sheet ≡ pause from c oldSheet)
