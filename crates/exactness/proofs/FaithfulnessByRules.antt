-- Proves `faithfulness_by_rules`: demand 2 over the rules, from `exactness` and `faithfulness`. Assumes nothing.
use Prim.Native.Nat.{ℕ}
use mathlib.Core.Path.{◌≡◌, refl, sym, ap}
use mathlib.Core.Logic.{◌⊎◌, inl, inr, ⊎_elim}
use mathlib.Core.List.{List, ◌++◌}
use native.Mathlib.Omega.{arith}
use lib.ListN.{length, drop}
use lib.Seq.{take-length}
use Rattle.values.specs.declared.Answer.{Answer}
use Rattle.values.specs.declared.Entry.{Entry}
use Rattle.values.specs.Result.{Result, ok, refuse, says}
use Rattle.store.specs.Sheet.{slots_bytes}
use Rattle.calculus.specs.Calculus.{Limits, limits, State}
use Rattle.calculus.specs.Blocks.{Halt, halt_answer}
use Rattle.calculus.specs.Run.{Call, limits_of, answer, output, journal}
use Rattle.calculus.specs.Faithfulness.{Good, own_run, Faithful}
use Rattle.exactness.specs.StepByStep.{state_within}
use Rattle.exactness.specs.Exactness.{held, From13To16, By17Or18, FinishesWithin, ForbidsWithin, DueAtLimits, Exact, ByRules, FaithfulnessByRules}
use Rattle.calculus.proofs.Faithfulness.{faithfulness}
use Rattle.exactness.proofs.Exactness.{from_17, exactness}

module _ (c : Call) (old : List ℕ) (kept : List Entry) (g : Good c) where
  abbrev number : ℕ
  number = (answer c).number

  abbrev l : Limits
  l = limits_of c

  x : Exact g.opening g.rules g.blocks
  x = exactness g.opening g.rules g.blocks

  f : Faithful c old kept g
  f = faithfulness c old kept g

  one_of_three : ((s : State) × FinishesWithin g s) ⊎ ((h : Halt) × ForbidsWithin g h) ⊎ ((h : Halt) × DueAtLimits g h)
  one_of_three = go (own_run g) refl
    where
      go : (r : Result Halt State) → own_run g ≡ r
          → ((s : State) × FinishesWithin g s) ⊎ ((h : Halt) × ForbidsWithin g h) ⊎ ((h : Halt) × DueAtLimits g h)
      go (ok s) e = inl (s, (x.finishes l s).1 e)
      go (refuse h) e =
          inr (⊎_elim (λ n. inl (h, (x.forbids l h).1 (e, n))) (λ n. inr (h, (x.runs_out l h).1 (e, n))) (x.numbers l h e))

  finished : (s : State) → FinishesWithin g s
      → (answer c ≡ says 0 (length g.blocks) 0 s.steps)
      × (output c old ≡ slots_bytes s.store 0 g.opening.tables.slots)
      × (journal c kept ≡ s.journal ++ drop (length s.journal) kept)
  finished s y = let e = f.ends s ((x.finishes l s).0 y) in (e.0, e.1, e.3)

  abbrev Refused : Halt → Type 0
  Refused h = (answer c ≡ halt_answer h) × (output c old ≡ old) × (journal c kept ≡ kept)

  refused : (h : Halt) → own_run g ≡ refuse h → Refused h
  refused h e = let r = f.stops h e in (r.0, r.1, r.4)

  forbidden : (h : Halt) → ForbidsWithin g h → Refused h
  forbidden h y = refused h ((x.forbids l h).0 y).0

  out_of_limits : (h : Halt) → DueAtLimits g h → Refused h
  out_of_limits h y = refused h ((x.runs_out l h).0 y).0

  numbered : (h : Halt) → Refused h → number ≡ h.stop.number
  unfolding halt_answer
  numbered h r = ap (λ (a : Answer). a.number) r.0

  by_rules : (h : Halt) → ForbidsWithin g h → From13To16 number
  by_rules h y =
      let e = numbered h (forbidden h y) in
      let r = ((x.forbids l h).0 y).1 in (omega (arith, e, r.0), omega (arith, e, r.1))

  by_limits : (h : Halt) → DueAtLimits g h → By17Or18 number
  by_limits h y = rw (numbered h (out_of_limits h y)) ((x.runs_out l h).0 y).1

  by_0 : (s : State) → FinishesWithin g s → number ≡ 0
  by_0 s y = ap (λ (a : Answer). a.number) (finished s y).0

  by_the_rules : ByRules c old kept g
  unfolding state_within
  by_the_rules =
      record {
        finishes = (
          λ e. ⊎_elim (λ y. y) (⊎_elim (λ y. absurd (omega (arith, (by_rules y.0 y.1).0))) (λ y. absurd (omega (arith, from_17 (by_limits y.0 y.1))))) one_of_three,
          λ y. by_0 y.0 y.1,
        );
        finished = finished;
        forbids = (
          λ e. ⊎_elim (λ y. absurd (omega (arith, e.0, by_0 y.0 y.1))) (⊎_elim (λ y. y) (λ y. absurd (omega (arith, e.1, from_17 (by_limits y.0 y.1))))) one_of_three,
          λ y. by_rules y.0 y.1,
        );
        forbidden = forbidden;
        runs_out = (
          λ e. ⊎_elim (λ y. absurd (omega (arith, from_17 e, by_0 y.0 y.1))) (⊎_elim (λ y. absurd (omega (arith, from_17 e, (by_rules y.0 y.1).1))) (λ y. y)) one_of_three,
          λ y. by_limits y.0 y.1,
        );
        out_of_limits = out_of_limits;
        one_of_three = one_of_three;
        endless = λ n m. ⊎_elim (λ y. absurd (n y.0 y.1.0)) (⊎_elim (λ y. absurd (m y.0 (y.1.0, y.1.1, y.1.3))) (λ y. by_limits y.0 y.1)) one_of_three;
        everywhere = λ P r m. rw (take-length g.blocks) (sym (x.everywhere P r (limits (held P).steps c.entries) refl m));
      }

pub faithfulness_by_rules : FaithfulnessByRules
faithfulness_by_rules = by_the_rules
