-- A whole run over an opened store: what its parts are told, and what they come to. Assumes nothing.
use Rattle.store.specs.declared.HeldSlot.{HeldSlot}
use Rattle.std.specs.Prelude.{ℕ, ◌*◌, ◌≤◌, ◌≡◌, List, length, get_or, leb, eqb, Ok, Err}
use Rattle.std.specs.Prelude as std
use Rattle.lattice.specs.declared.Table.{Table}
use Rattle.values.specs.declared.Entry.{Entry}
use Rattle.values.specs.declared.refusal.Refused.{Refused}
use Rattle.values.specs.Refusal.{answer_in}
use Rattle.values.specs.declared.Answer.{Answer}
use Rattle.values.specs.Result.{Result, ok, refuse, ◌>>=◌, require, refused_as, unplaced}
use Rattle.values.specs.Value.{slot_width, empty_slot}
use Rattle.store.specs.declared.Opened.{Opened}
use Rattle.store.specs.Sheet.{Opening, most_slots, store_sheet}
use Rattle.store.specs.HeldStore.{Ordered, opened_of}
use Rattle.syntax.specs.Sheet.{Block, programme_sheet}
use Rattle.syntax.specs.declared.Compiled.{Compiled}
use Rattle.calculus.specs.Rules.{RuleSet, rules_of}
use Rattle.calculus.specs.Calculus.{limits}
use Rattle.calculus.specs.Blocks.{most_budget}
use Rattle.calculus.specs.Run.{Call, Finished, run_programme, answer, output, journal as journal_after, answer_of, output_of, entries_of}
use Rattle.machine.specs.declared.rules.Judges.{Judges}
use Rattle.runner.specs.declared.journal.First.{First}
use Rattle.runner.specs.declared.ready.Ready.{Ready}
use Rattle.machine.specs.MachineNumbers.{StoreHeld, judging_of}
use Rattle.machine.specs.CompiledRuns.{BlocksAt}
use Rattle.machine.specs.BlockRuns.{Played}
use Rattle.runner.specs.Journal.{replayed, opens, Left}

-- What a call answers, whose run finished or was refused
unfoldable pub answered : std.Result Answer Refused → Answer
answered (Ok a) = a
answered (Err e) = answer_in e

-- What a first pass comes to that finished: the run's answer, its output where that held `old`, and the writes that a second pass is to make over the
-- opening store
pub record FirstPass (x : Result Answer Finished) (room : ℕ) (p : List ℕ) (by : Played) (held : List HeldSlot) (old out : List ℕ) (r : First) : Type 0 where
  pub answered : r.answer ≡ answer_of x
  pub written : out ≡ output_of x old
  pub many : r.writes ≡ length (entries_of x)
  pub fits : r.writes ≤ room
  pub left : Left (replayed p by) (opens (replayed p by) held) (entries_of x)

-- one that was refused leaves the output
unfoldable pub Passes : (x : Result Answer Finished) (room : ℕ) (p : List ℕ) (by : Played) (held : List HeldSlot) (old out : List ℕ) → std.Result First Refused → Type 0
Passes x room p by held old out (Ok r) = FirstPass x room p by held old out r
Passes x room p by held old out (Err e) = (x ≡ refuse (answer_in e)) × (out ≡ old)

-- a whole call: its answer, and what it leaves in the output and the journal
pub record Runs (c : Call) (old : List ℕ) (entries : List Entry) (out : List ℕ) (journal : List Entry) (r : std.Result Answer Refused) : Type 0 where
  pub answered_is : answered r ≡ answer c
  pub written : out ≡ output c old
  pub filled : journal ≡ journal_after c entries

abbrev pub opened : ℕ → Table → Opened
opened slots table = record { slots = slots; table = table }

-- a store sheet that was opened
pub record OpeningHeld (o : Opening) (t : Opened) (held : List HeldSlot) : Type 0 where
  pub opened : t ≡ opened_of o
  pub grounds : Ordered o.tables
  pub store_held : StoreHeld o.tables o.store held
  pub unwritten : (i : ℕ) → (get_or o.store i empty_slot).writes ≡ 0
  pub outside : (i : ℕ) → o.tables.slots ≤ i → get_or o.store i empty_slot ≡ empty_slot
  pub small : o.tables.slots ≤ most_slots

-- a programme was taken in, and its blocks stand in the tables
pub record TakenIn (o : Opening) (p : List ℕ) (t : Compiled) (bs : List Block) : Type 0 where
  pub sheet : programme_sheet o.tables.order.n o.tables.slots p ≡ ok bs
  pub stand : BlocksAt t 0 0 bs

-- a store that was opened, and a programme that was taken in; the held store may be any
pub record Prepared (rules : RuleSet) (o : Opening) (blocks : List Block) (t : Opened) (j : Judges) (p : List ℕ) (tables : Compiled) : Type 0 where
  pub opened : t ≡ opened_of o
  pub grounds : Ordered o.tables
  pub small : o.tables.slots ≤ most_slots
  pub judges : j ≡ judging_of rules
  pub taken : TakenIn o p tables blocks

-- What every run begins with: "Order: 11; store sizes present (1), .."; 1 to 5; 6 to 10
pub record Readied : Type 0 where
  pub rules : RuleSet
  pub opening : Opening
  pub blocks : List Block

unfoldable pub readied : (store p : List ℕ) (rule budget : ℕ) → Result Answer Readied
readied store p rule budget =
    refused_as unplaced (rules_of rule) >>= λ rules.
    require (leb budget most_budget) (unplaced 11) (
    refused_as unplaced (store_sheet store) >>= λ o.
    programme_sheet o.tables.order.n o.tables.slots p >>= λ blocks.
    ok (record { rules = rules; opening = o; blocks = blocks }))

-- a run is ready: it stands in the tables and the held store
pub record IsReady (x : Readied) (p : List ℕ) (t : Compiled) (held : List HeldSlot) (r : Ready) : Type 0 where
  pub opening_held : OpeningHeld x.opening r.opened held
  pub judges : r.judges ≡ judging_of x.rules
  pub taken : TakenIn x.opening p t x.blocks

-- what making it ready answers, and leaves
unfoldable pub Readies : (store p : List ℕ) (rule budget : ℕ) (t : Compiled) (held : List HeldSlot) → std.Result Ready Refused → Type 0
Readies store p rule budget t held (Ok r) = (x : Readied) × (readied store p rule budget ≡ ok x) × IsReady x p t held r
Readies store p rule budget t held (Err e) = readied store p rule budget ≡ refuse (answer_in e)

-- a store of so many slots with this order table was opened, a rule set was known, and a programme was taken in
pub record CanFinish (slots : ℕ) (by : Played) (p : List ℕ) (held : List HeldSlot) : Type 0 where
  pub rules : RuleSet
  pub opening : Opening
  pub blocks : List Block
  pub opening_held : OpeningHeld opening (opened slots by.order) held
  pub judges : by.judges ≡ judging_of rules
  pub taken : TakenIn opening p by.tables blocks

-- playing its blocks, where there is room for just the slots (12), is the definitions'
abbrev pub Finishes : ℕ → Played → ℕ → List ℕ → List HeldSlot → List ℕ → List ℕ → std.Result First Refused → Type 0
Finishes slots by entries p held old out r =
    (rules : RuleSet) (o : Opening) (bs : List Block) → OpeningHeld o (opened slots by.order) held → by.judges ≡ judging_of rules → TakenIn o p by.tables bs
    → Passes (require (eqb (length old) (slot_width * o.tables.slots)) (unplaced 12) (run_programme rules (limits by.budget entries) o bs)) entries p by held old out r
