-- Proves `starts_as_run`: from a start a stretch answers and writes what `run` does with a long journal, but for what 17 writes. Assumes nothing.
use Prim.Native.Nat.{ℕ, ◌*◌, ◌≤◌, max}
use mathlib.Core.Path.{◌≡◌, refl, ap, ◌∙◌}
use mathlib.Core.Bool.{Bool, true, false}
use mathlib.Core.List.{List, []}
use native.Mathlib.Omega.{arith}
use lib.Dec.{eqb}
use lib.ListN.{length}
use borrow.Author.Tests.{eqb-true, eqb-false, eq-eqb, leb-true}
use Rattle.lattice.specs.Tests.{◌and◌}
use Rattle.values.specs.declared.Answer.{Answer}
use Rattle.values.specs.Result.{Result, ok, refuse, ◌>>=◌, require, refused_as, says}
use Rattle.values.specs.Value.{slot_width}
use Rattle.store.specs.Sheet.{Opening}
use Rattle.syntax.specs.Sheet.{Block}
use Rattle.calculus.specs.Rules.{RuleSet}
use Rattle.calculus.specs.Calculus.{Limits, limits, State}
use Rattle.calculus.specs.Blocks.{halt_answer, most_budget, start}
use Rattle.calculus.specs.Run.{call, Finished, run_programme, run_opened, run_under}
use Rattle.pausing.specs.Stretches.{opening, Stretch, Halted, pause_width, Ended, settled, end_of, limits_at, run_from, fitting, position_of, stretch_opened, stretch_under, run_stretch, answer_of, output_of}
use Rattle.pausing.specs.StretchesPromises.{StartsAsRun}
use Rattle.pausing.proofs.PathsAsideBlocks.{halt_of, blocks_aside}
use Rattle.pausing.proofs.StretchesSettled.{settled_17, settled_else, settled_answer}
use Rattle.pausing.proofs.ResultRelation.{Alike}
use Rattle.pausing.proofs.PathsJournals.{Roomy, Beside, HaltsBeside, two_blocks}
use Rattle.calculus.specs.Run as run

-- the same answer, and the same output unless it is 17
record Agrees (r : Result Answer Ended) (r' : Result Answer Finished) : Type 0 where
  pub answered : answer_of r ≡ run.answer_of r'
  pub written : (old : List ℕ) → ((answer_of r).number ≡ 17 → ⊥) → output_of r old ≡ run.output_of r' old

-- refusals, tests and parts that both have
agrees_refuse : (a : Answer) → Agrees (refuse a) (refuse a)
unfolding answer_of run.answer_of output_of run.output_of
agrees_refuse a = record { answered = refl; written = λ old _. refl }

agrees_require : (b : Bool) (a : Answer) (r : Result Answer Ended) (r' : Result Answer Finished) → (b ≡ true → Agrees r r') → Agrees (require b a r) (require b a r')
unfolding require
agrees_require true a r r' h = h refl
agrees_require false a r r' h = agrees_refuse a

agrees_bind : {A : Type 0} (r : Result Answer A) (k : A → Result Answer Ended) (k' : A → Result Answer Finished) → ((a : A) → Agrees (k a) (k' a))
    → Agrees (r >>= k) (r >>= k')
unfolding ◌>>=◌
agrees_bind (ok a) k k' h = h a
agrees_bind (refuse a) k k' h = agrees_refuse a

-- two halts that differ in their journals answer the same
pub halts_alike : (budget entries entries' : ℕ) (h h' : Halted) → HaltsBeside budget entries entries' h h' → halt_answer (halt_of h) ≡ halt_answer (halt_of h')
unfolding halt_answer
halts_alike budget entries entries' h h' z =
    rw (z.block, z.pause.stop.number, z.pause.stop.offset, z.pause.stop.state.steps)

-- and so they agree
agrees_halt : (slots budget entries entries' : ℕ) (h h' : Halted) → HaltsBeside budget entries entries' h h'
    → Agrees (settled slots h) (refuse (halt_answer (halt_of h')))
unfolding answer_of run.answer_of output_of run.output_of
agrees_halt slots budget entries entries' h h' z =
    record { answered = settled_answer slots h ∙ halts_alike budget entries entries' h h' z; written = writes (eqb h.pause.stop.number 17) refl }
  where
    writes : (b : Bool) → eqb h.pause.stop.number 17 ≡ b → (old : List ℕ) → ((answer_of (settled slots h)).number ≡ 17 → ⊥)
        → output_of (settled slots h) old ≡ run.output_of (refuse (halt_answer (halt_of h'))) old
    writes true q old d =
        let e = settled_17 slots h (eqb-true h.pause.stop.number 17 q) in absurd (d (ap (λ (r : Result Answer Ended). (answer_of r).number) e))
    writes false q old d = ap (λ (r : Result Answer Ended). output_of r old) (settled_else slots h (eqb-false h.pause.stop.number 17 q))

-- what two runs that are alike end in
agrees_end : (blocks slots budget entries entries' : ℕ) (r r' : Result Halted State)
    → Alike (Beside budget entries entries') (HaltsBeside budget entries entries') r r'
    → Agrees (end_of blocks slots r) (refused_as halt_answer (refused_as halt_of r') >>= λ s. ok (record { blocks = blocks; slots = slots; state = s }))
unfolding Alike end_of refused_as ◌>>=◌ answer_of run.answer_of output_of run.output_of
agrees_end blocks slots budget entries entries' (ok s) (ok s') z =
    record { answered = ap (λ (n : ℕ). says 0 blocks 0 n) z.steps; written = λ old _. rw z.store }
agrees_end blocks slots budget entries entries' (ok s) (refuse h') z = elim z [ ]
agrees_end blocks slots budget entries entries' (refuse h) (ok s') z = elim z [ ]
agrees_end blocks slots budget entries entries' (refuse h) (refuse h') z = agrees_halt slots budget entries entries' h h' z

-- a start has room for as many writes as its budget allows
pub start_roomy : (o : Opening) (l : Limits) → l.budget ≤ l.entries → Roomy l (start o.store)
unfolding start
start_roomy o l h = record { kept = omega arith; room = omega arith }

pub and_true : (a b : Bool) → b ≡ true → a and b ≡ a
unfolding ◌and◌
and_true true b e = e
and_true false b e = refl

module _ (rules : RuleSet) (c : Stretch) (entries : ℕ) (p : c.pause_room ≡ pause_width) (long : c.budget ≤ entries) (allowed : c.budget ≤ most_budget)
    (o : Opening) where
  agrees_run : (blocks : List Block)
      → Agrees (position_of o blocks opening >>= run_from rules c.budget o blocks) (run_programme rules (limits c.budget entries) o blocks)
  unfolding position_of run_from limits_at run_programme start ◌>>=◌
  agrees_run blocks =
      let e : max c.budget 0 ≡ c.budget = omega arith in
      rw (e, ← (blocks_aside o.tables rules (limits c.budget entries) 0 blocks (start o.store)))
      (agrees_end (length blocks) o.tables.slots c.budget most_budget entries _ _
      (two_blocks o.tables rules c.budget most_budget entries 0 blocks [] (start o.store) (start o.store)
      (record { store = refl; steps = refl; left = start_roomy o _ allowed; right = start_roomy o _ long })))

  fits : fitting o.tables.slots opening c ≡ eqb c.room (slot_width * o.tables.slots)
  unfolding fitting
  fits = and_true _ _ (eq-eqb c.pause_room pause_width p)

  agrees_opened : Agrees (stretch_opened rules o opening c) (run_opened rules o (call c.store c.programme c.rule c.budget c.room entries))
  unfolding stretch_opened run_opened
  agrees_opened = agrees_bind _ _ _ λ blocks. rw fits (agrees_require _ _ _ _ (λ _. agrees_run blocks))

pub starts_as_run : StartsAsRun
unfolding run_stretch stretch_under run.run run_under
starts_as_run c entries p long = record { answered = g.answered; written = g.written }
  where
    g : Agrees (run_stretch opening c) (run.run (call c.store c.programme c.rule c.budget c.room entries))
    g =
        agrees_bind _ _ _ λ rules.
        agrees_require _ _ _ _ λ e.
        agrees_bind _ _ _ λ o. agrees_opened rules c entries p long (leb-true c.budget most_budget e) o
