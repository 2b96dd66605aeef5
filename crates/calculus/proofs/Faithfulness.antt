-- Proves `faithfulness`: demand 2 by the functions that compute, of every call with good sheets and arguments. Assumes nothing.
use Prim.Native.Nat.{ℕ, ◌*◌, ◌≤◌, ◌<◌}
use mathlib.Core.Path.{◌≡◌, refl, ap, ◌∙◌}
use mathlib.Core.List.{List, ◌++◌}
use native.Mathlib.Omega.{arith}
use lib.ListN.{length, drop}
use borrow.Author.Tests.{le-leb, eq-eqb}
use Rattle.values.specs.declared.Answer.{Answer}
use Rattle.values.specs.declared.Entry.{Entry}
use Rattle.values.specs.Result.{Result, ok, refuse, ◌>>=◌, require, refused_as, says}
use Rattle.values.specs.Value.{slot_width}
use Rattle.values.proofs.Result.{Post, post_at, post_refused, post_map}
use Rattle.store.specs.Sheet.{slots_bytes}
use Rattle.calculus.specs.Calculus.{State}
use Rattle.calculus.specs.Blocks.{Halt, halt_answer, most_budget, start}
use Rattle.calculus.specs.Run.{Call, limits_of, Finished, run_programme, run_opened, run_under, run, answer_of, output_of, journal_of, answer, output, journal}
use Rattle.calculus.specs.Faithfulness.{Good, own_run, Faithful, Faithfulness}
use Rattle.calculus.proofs.StepsBounded.{run_counts}
use Rattle.calculus.proofs.CalculusRefusals.{blocks_refuse}

module _ (c : Call) (old : List ℕ) (kept : List Entry) (g : Good c) where
  -- with every check passed, a run is the blocks' run
  run_is : run c ≡ run_programme g.rules (limits_of c) g.opening g.blocks
  unfolding run_under run run_opened refused_as require ◌>>=◌
  run_is =
      rw (g.ruled, le-leb c.budget most_budget g.modest, g.opens, g.taken, eq-eqb c.room (slot_width * g.opening.tables.slots) g.fits)

  counts : Post (λ (s : State). s.steps ≤ c.budget) (λ (h : Halt). h.stop.state.steps ≤ c.budget) (own_run g)
  unfolding start
  counts =
      post_map _ _ _ _ _
      (run_counts g.opening.tables g.rules (limits_of c) 0 0 g.blocks (start g.opening.store) (record { grown = omega arith; kept = omega arith }))
      (λ s x. x.kept) (λ h x. x.kept)

  ends : (s : State) → own_run g ≡ ok s
      → (answer c ≡ says 0 (length g.blocks) 0 s.steps)
      × (output c old ≡ slots_bytes s.store 0 g.opening.tables.slots)
      × (s.steps ≤ c.budget)
      × (journal c kept ≡ s.journal ++ drop (length s.journal) kept)
  unfolding run_programme answer_of output_of journal_of refused_as ◌>>=◌
  ends s e = (
    ap answer_of run_is ∙ rw e,
    ap (λ (r : Result Answer Finished). output_of r old) run_is ∙ rw e,
    post_at _ _ _ s counts e,
    ap (λ (r : Result Answer Finished). journal_of r kept) run_is ∙ rw e,
  )

  stops : (h : Halt) → own_run g ≡ refuse h
      → (answer c ≡ halt_answer h) × (output c old ≡ old)
      × (0 < h.stop.number) × (h.stop.state.steps ≤ c.budget)
      × (journal c kept ≡ kept)
  unfolding run_programme answer_of output_of journal_of refused_as ◌>>=◌
  stops h e = (
    ap answer_of run_is ∙ rw e,
    ap (λ (r : Result Answer Finished). output_of r old) run_is ∙ rw e,
    post_refused _ _ _ h (blocks_refuse g.opening.tables g.rules (limits_of c) 0 g.blocks (start g.opening.store)) e,
    post_refused _ _ _ h counts e,
    ap (λ (r : Result Answer Finished). journal_of r kept) run_is ∙ rw e,
  )

  finished : (answer c).number ≡ 0 → (r : Result Halt State) → own_run g ≡ r → (s : State) × (own_run g ≡ ok s)
  unfolding halt_answer
  finished z (ok s) e = (s, e)
  finished z (refuse h) e =
      let x = stops h e in
      absurd (omega (arith, x.2, z, ap (λ (a : Answer). a.number) x.0))

  faithful : Faithful c old kept g
  faithful =
      record {
        finishes = (λ z. finished z (own_run g) refl, λ x. ap (λ (a : Answer). a.number) (ends x.0 x.1).0);
        ends = ends;
        stops = stops;
      }

pub faithfulness : Faithfulness
faithfulness = faithful
