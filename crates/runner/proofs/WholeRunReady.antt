-- What the checks of a run's arguments and sheets answer and leave (`Readies`). Serves `prepare` and `first_pass`. Assumes nothing.
use Prim.Native.Nat.{ℕ, ◌*◌, ◌≤◌, ◌<◌}
use mathlib.Core.Path.{◌≡◌, refl, sym, ap, ◌∙◌}
use mathlib.Core.Bool.{Bool, true, false}
use mathlib.Core.List.{List}
use native.Mathlib.Omega.{arith}
use native.Mathlib.Decide.{dec_lt}
use lib.ListN.{length, get_or}
use lib.Dec.{leb, eqb}
use borrow.Author.Tests.{le-leb, lt-leb}
use Rattle.store.specs.declared.HeldSlot.{HeldSlot}
use Rattle.values.specs.declared.Answer.{Answer}
use Rattle.values.specs.Result.{Result, ok, refuse, ◌>>=◌, require, refused_as, unplaced}
use Rattle.values.specs.Value.{Slot, opened as opened_slot, empty_slot, slot_width}
use Rattle.values.proofs.Result.{Post, Refuses, post_at, Positive, one_value, not_both}
use Rattle.values.proofs.Bytes.{formed_more}
use Rattle.store.specs.declared.Opened.{Opened}
use Rattle.store.specs.Sheet.{Opening, most_slots, store_sheet}
use Rattle.store.specs.HeldStore.{opened_of, opened_in, held_after}
use Rattle.store.proofs.SheetOpening.{Opens, store_opens}
use Rattle.syntax.specs.Sheet.{Block, programme_sheet, check_answer}
use Rattle.syntax.specs.declared.Compiled.{Compiled}
use Rattle.programme.specs.CompiledSheet.{CompilesTo}
use Rattle.syntax.proofs.SheetRefusals.{programme_refuses}
use Rattle.calculus.specs.Rules.{RuleSet, rules_of}
use Rattle.calculus.specs.Calculus.{limits}
use Rattle.calculus.specs.Blocks.{most_budget}
use Rattle.calculus.proofs.Rules.{rules_refuse}
use Rattle.calculus.specs.Run.{Call, call, run_programme, run_opened, run_under, run, answer_of, output_of, journal_of}
use Rattle.machine.specs.declared.rules.Judges.{Judges}
use Rattle.runner.specs.declared.journal.First.{First}
use Rattle.runner.specs.declared.ready.Ready.{Ready}
use Rattle.machine.specs.MachineNumbers.{judging_of}
use Rattle.machine.specs.BlockRuns.{Played, played, judges_of}
use Rattle.runner.specs.Journal.{replayed, Ready as Ready', Filled}
use Rattle.runner.specs.WholeRun.{answered, OpeningHeld, Readied, readied, Readies, Finishes, CanFinish, FirstPass, Passes, Runs}
use Rattle.runner.proofs.WholeRunTables.{compiled_stands}
use Rattle.runner.proofs.JournalReplay.{ready_to, journal_of_law}
use Rattle.std.proofs.Common.{Option, Ok, Err}
use Rattle.std.specs.Prelude as std
use Rattle.values.specs.declared.Entry.{Entry}
use Rattle.values.specs.declared.refusal.Refused.{Refused}
use Rattle.values.specs.Refusal.{number, placed, answer_in, said, said_at}
use Rattle.values.specs.declared.refusal.Refusal.{Refusal}
use Rattle.values.specs.declared.refusal.Refusal.TheVariants as r
use Rattle.std.specs.Option.{ok_or}
use Rattle.syntax.specs.Rows.{Roomy}

-- no slot of an opening store was written
unwritten_at : (s : List ℕ) (o : Opening) → Opens s o → (i : ℕ) → Dec (i < o.tables.slots) → (get_or o.store i empty_slot).writes ≡ 0
unfolding opened_slot empty_slot
unwritten_at s o x i (yes h) = ap (λ (y : Slot). y.writes) (x.inside i h)
unwritten_at s o x i (no h) = ap (λ (y : Slot). y.writes) (x.outside i (omega arith))

-- what a good store sheet leaves
opening_held : (s : List ℕ) (o : Opening) (t : Opened) (old held : List HeldSlot) → store_sheet s ≡ ok o → t ≡ opened_of o → held ≡ held_after (store_sheet s) old
    → OpeningHeld o t held
unfolding held_after
opening_held s o t old held e p q =
    let x = post_at _ _ _ _ (store_opens s) e in
    record {
      opened = p;
      grounds = x.ordered;
      outside = x.outside;
      unwritten = λ i. unwritten_at s o x i (dec_lt i o.tables.slots);
      store_held = record { size = x.sized; same = q ∙ ap (λ (r : Result ℕ Opening). held_after r old) e; formed = λ i. formed_more _ _ (x.formed i) most_slots x.small };
      small = x.small;
    }

-- What every run begins with

-- whatever comes after it
pub readied_then : {A : Type 0} (store p : List ℕ) (rule budget : ℕ) (k : RuleSet → Opening → List Block → Result Answer A)
    → (refused_as unplaced (rules_of rule) >>= λ rules. require (leb budget most_budget) (unplaced 11) (
    refused_as unplaced (store_sheet store) >>= λ o. programme_sheet o.tables.order.n o.tables.slots p >>= λ bs. k rules o bs))
    ≡ (readied store p rule budget >>= λ x. k x.rules x.opening x.blocks)
unfolding readied refused_as require ◌>>=◌
readied_then store p rule budget k = by_rule (rules_of rule)
  where
    by_blocks : (rules : RuleSet) (o : Opening) (r : Result Answer (List Block))
        → (r >>= λ bs. k rules o bs) ≡ ((r >>= λ bs. ok (record { rules = rules; opening = o; blocks = bs })) >>= λ (x : Readied). k x.rules x.opening x.blocks)
    by_blocks rules o (ok bs) = refl
    by_blocks rules o (refuse a) = refl

    by_store : (rules : RuleSet) (r : Result ℕ Opening)
        → (refused_as unplaced r >>= λ o. programme_sheet o.tables.order.n o.tables.slots p >>= λ bs. k rules o bs)
        ≡ ((refused_as unplaced r >>= λ o. programme_sheet o.tables.order.n o.tables.slots p >>= λ bs. ok (record { rules = rules; opening = o; blocks = bs }))
        >>= λ (x : Readied). k x.rules x.opening x.blocks)
    by_store rules (ok o) = by_blocks rules o (programme_sheet o.tables.order.n o.tables.slots p)
    by_store rules (refuse e) = refl

    by_budget : (rules : RuleSet) (b : Bool)
        → require b (unplaced 11) (refused_as unplaced (store_sheet store) >>= λ o. programme_sheet o.tables.order.n o.tables.slots p >>= λ bs. k rules o bs)
        ≡ (require b (unplaced 11) (refused_as unplaced (store_sheet store) >>= λ o. programme_sheet o.tables.order.n o.tables.slots p >>= λ bs.
        ok (record { rules = rules; opening = o; blocks = bs })) >>= λ (x : Readied). k x.rules x.opening x.blocks)
    by_budget rules true = by_store rules (store_sheet store)
    by_budget rules false = refl

    by_rule : (r : Result ℕ RuleSet)
        → (refused_as unplaced r >>= λ rules. require (leb budget most_budget) (unplaced 11) (
        refused_as unplaced (store_sheet store) >>= λ o. programme_sheet o.tables.order.n o.tables.slots p >>= λ bs. k rules o bs))
        ≡ ((refused_as unplaced r >>= λ rules. require (leb budget most_budget) (unplaced 11) (
        refused_as unplaced (store_sheet store) >>= λ o. programme_sheet o.tables.order.n o.tables.slots p >>= λ bs.
        ok (record { rules = rules; opening = o; blocks = bs }))) >>= λ (x : Readied). k x.rules x.opening x.blocks)
    by_rule (ok rules) = by_budget rules (leb budget most_budget)
    by_rule (refuse e) = refl

-- Its answers, one for each of its ends

-- no refusal has number 0
positive : (e : Refusal) → 0 < number e
unfolding number
positive r.StoreLength = omega arith
positive r.StoreLimits = omega arith
positive r.OrderTable = omega arith
positive r.Owner = omega arith
positive r.Value = omega arith
positive r.ProgrammeLength = omega arith
positive r.ProgrammeLimits = omega arith
positive r.Region = omega arith
positive r.IllFormedCode = omega arith
positive r.NestedTooDeep = omega arith
positive r.Arguments = omega arith
positive r.OutputLength = omega arith
positive r.WrongKind = omega arith
positive r.NoAuthority = omega arith
positive r.WriteViewNotAllowed = omega arith
positive r.ProvenanceTooLow = omega arith
positive r.BudgetSpent = omega arith
positive r.JournalFull = omega arith
positive r.Checkpoint = omega arith

-- the rule set
pub record Known (rule : ℕ) (j : Judges) : Type 0 where
  pub rules : RuleSet
  pub same : rules_of rule ≡ ok rules
  pub judges : j ≡ judging_of rules

pub rules_known : (rule : ℕ) (o : Option Judges) (j : Judges) → o ≡ judges_of (rules_of rule) → ok_or o r.Arguments ≡ Ok j → Known rule j
unfolding judges_of
rules_known rule o j e h = go (rules_of rule) refl
  where
    go : (x : Result ℕ RuleSet) → rules_of rule ≡ x → Known rule j
    go (ok s) q = record { rules = s; same = q; judges = let z : ◌≡◌ {A = std.Result Judges Refusal} (Ok (judging_of s)) (Ok j) = rw (e, q) at h in cc }
    go (refuse n) q = absurd (let z : ◌≡◌ {A = std.Result Judges Refusal} (Err r.Arguments) (Ok j) = rw (e, q) at h in cc)

-- a sheet that is opened
pub record SheetOpened (store : List ℕ) (x : Opened) : Type 0 where
  pub opening : Opening
  pub same : store_sheet store ≡ ok opening
  pub opened_is : x ≡ opened_of opening

pub sheet_opened : (store : List ℕ) (x : Opened) → said (Ok x) ≡ opened_in (store_sheet store) → SheetOpened store x
unfolding said opened_in
sheet_opened store x e = go (store_sheet store) refl
  where
    go : (y : Result ℕ Opening) → store_sheet store ≡ y → SheetOpened store x
    go (ok o) q = record { opening = o; same = q; opened_is = let z : ◌≡◌ {A = Result ℕ Opened} (ok x) (ok (opened_of o)) = rw q at e in sym (one_value _ _ _ z refl) }
    go (refuse n) q = absurd (let z : ◌≡◌ {A = Result ℕ Opened} (ok x) (refuse n) = rw q at e in not_both _ _ _ refl z)

module _ (store p : List ℕ) (rule budget : ℕ) (t : Compiled) (held : List HeldSlot) where
  -- a rule number that is none
  pub ready_rule : (o : Option Judges) (e : Refusal) (d : Refused) → o ≡ judges_of (rules_of rule) → ok_or o r.Arguments ≡ Err e → d ≡ placed e 0 0 0
      → Readies store p rule budget t held (Err d)
  unfolding Readies judges_of readied refused_as ◌>>=◌ Post number unplaced
  ready_rule o e d a h q = go (rules_of rule) refl (rules_refuse _ rule refl)
    where
      go : (x : Result ℕ RuleSet) → rules_of rule ≡ x → Refuses (λ (n : ℕ). n ≡ 11) x → Readies store p rule budget t held (Err d)
      go (ok s) i y = absurd (let z : ◌≡◌ {A = std.Result Judges Refusal} (Ok (judging_of s)) (Err e) = rw (a, i) at h in cc)
      go (refuse n) i y = let z : r.Arguments ≡ e = (let k : ◌≡◌ {A = std.Result Judges Refusal} (Err r.Arguments) (Err e) = rw (a, i) at h in cc) in rw (i, y, q, ← z)

  module _ (j : Judges) (k : Known rule j) where
    pub ready_budget : most_budget < budget → (d : Refused) → d ≡ placed r.Arguments 0 0 0 → Readies store p rule budget t held (Err d)
    unfolding Readies readied refused_as require ◌>>=◌ number unplaced
    ready_budget h d q = rw (k.same, lt-leb budget most_budget h, q)

    module _ (few : budget ≤ most_budget) where
      pub ready_store : (e : Refusal) → said {A = Opened} (Err e) ≡ opened_in (store_sheet store) → (d : Refused) → d ≡ placed e 0 0 0 → Readies store p rule budget t held (Err d)
      unfolding Readies readied refused_as require ◌>>=◌ said opened_in unplaced
      ready_store e a d q = go (store_sheet store) refl
        where
          go : (y : Result ℕ Opening) → store_sheet store ≡ y → Readies store p rule budget t held (Err d)
          go (ok o) i = absurd (let z : ◌≡◌ {A = Result ℕ Opened} (refuse (number e)) (ok (opened_of o)) = rw i at a in not_both _ _ _ z refl)
          go (refuse n) i = let z : number e ≡ n = (let y : ◌≡◌ {A = Result ℕ Opened} (refuse (number e)) (refuse n) = rw i at a in cc) in rw (k.same, le-leb budget most_budget few, i, q, ← z)

      module _ (x : Opened) (s : SheetOpened store x) (before : List HeldSlot) (after : held ≡ held_after (store_sheet store) before) where
        opening : OpeningHeld s.opening x held
        opening = opening_held store s.opening x before held s.same s.opened_is after

        -- what the programme sheet's check says
        checked : Result Answer (List Block)
        checked = programme_sheet s.opening.tables.order.n s.opening.tables.slots p

        pub ready_sheet : (e : Refused) (old : Compiled) → CompilesTo p (programme_sheet x.table.n x.slots p) old t (Err e) → Readies store p rule budget t held (Err e)
        unfolding Readies readied refused_as require ◌>>=◌ opened_of said_at check_answer checked unplaced
        ready_sheet e old c = go checked refl
          where
            same : answer_in e ≡ check_answer checked
            same = rw s.opened_is at c.0

            go : (y : Result Answer (List Block)) → checked ≡ y → Readies store p rule budget t held (Err e)
            go (ok bs) i = absurd (omega (arith, positive e.refusal, ap (λ (a : Answer). a.number) (rw i at same)))
            go (refuse a) i = let z : answer_in e ≡ a = rw i at same in rw (k.same, le-leb budget most_budget few, s.same, i, z)

        pub ready_done : (old : Compiled) → CompilesTo p (programme_sheet x.table.n x.slots p) old t (Ok tt) → Roomy old
            → Readies store p rule budget t held (Ok (record { opened = x; judges = j }))
        unfolding Readies readied refused_as require ◌>>=◌ opened_of said_at check_answer checked Post unplaced
        ready_done old c room = go checked refl (programme_refuses _ _ p)
          where
            same : unplaced 0 ≡ check_answer checked
            same = rw s.opened_is at c.0

            go : (y : Result Answer (List Block)) → checked ≡ y → Refuses (λ (a : Answer). Positive a.number) y → Readies store p rule budget t held (Ok (record { opened = x; judges = j }))
            go (refuse a) i h = absurd (omega (arith, h, ap (λ (b : Answer). b.number) (rw i at same)))
            go (ok bs) i h = (
              record { rules = k.rules; opening = s.opening; blocks = bs },
              rw (k.same, le-leb budget most_budget few, s.same, i),
              record {
                opening_held = opening;
                judges = k.judges;
                taken = record { sheet = i; stand = compiled_stands x held p old t room c.1 s.opening bs opening i };
              },
            )

-- A run, from there on

module _ (store p : List ℕ) (rule budget : ℕ) (t : Compiled) (held : List HeldSlot) (old : List ℕ) (journal : List Entry) where
  abbrev the_call : Call
  the_call = call store p rule budget (length old) (length journal)

  run_readied : run the_call
      ≡ (readied store p rule budget >>= λ x. require (eqb (length old) (slot_width * x.opening.tables.slots)) (unplaced 12) (
      run_programme x.rules (limits budget (length journal)) x.opening x.blocks))
  unfolding run run_under run_opened
  run_readied = readied_then store p rule budget _

  -- a refusal leaves output and journal
  refused_runs : (e : Refused) → run the_call ≡ refuse (answer_in e) → Runs the_call old journal old journal (Err e)
  unfolding answered answer_of output_of journal_of
  refused_runs e q = record { answered_is = rw q; written = rw q; filled = rw q }

  -- by what every run begins with
  pub runs_unready : (e : Refused) → Readies store p rule budget t held (Err e) → Runs the_call old journal old journal (Err e)
  unfolding Readies ◌>>=◌
  runs_unready e h = refused_runs e (run_readied ∙ rw h)

  module _ (r : Ready) (h : Readies store p rule budget t held (Ok r)) where
    abbrev by : Played
    by = played t r.opened.table r.judges budget

    pub can_finish : CanFinish r.opened.slots by p held
    unfolding Readies
    can_finish = let x = h.0 in let i = h.2 in
        record { rules = x.rules; opening = x.opening; blocks = x.blocks; opening_held = i.opening_held; judges = i.judges; taken = i.taken }

    module _ (out : List ℕ) where
      passes : (y : std.Result First Refused) → Finishes r.opened.slots by (length journal) p held old out y → Passes (run the_call) (length journal) p by held old out y
      unfolding Readies ◌>>=◌
      passes y f = let x = h.0 in let i = h.2 in rw (run_readied, h.1) (f x.rules x.opening x.blocks i.opening_held i.judges i.taken)

      -- by the first pass
      pub runs_refused : (e : Refused) → Finishes r.opened.slots by (length journal) p held old out (Err e) → Runs the_call old journal out journal (Err e)
      unfolding Passes
      runs_refused e f = let y = passes (Err e) f in rw y.1 (refused_runs e y.0)

      module _ (y : First) (f : Finishes r.opened.slots by (length journal) p held old out (Ok y)) where
        first_passed : FirstPass (run the_call) (length journal) p by held old out y
        unfolding Passes
        first_passed = passes (Ok y) f

        pub can_replay : Ready' (replayed p by) held y.writes (length journal)
        can_replay = ready_to first_passed

        pub runs_done : (journal' : List Entry) → Filled (replayed p by) held y.writes journal journal' → Runs the_call old journal out journal' (Ok y.answer)
        unfolding answered
        runs_done journal' d = record { answered_is = first_passed.answered; written = first_passed.written; filled = journal_of_law first_passed journal journal' d }
