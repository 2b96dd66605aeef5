-- Laws of `run` (specs/Run.antt): it finishes exactly when its answer's number is 0. Assumes nothing.
use mathlib.Core.Path.{◌≡◌, refl}
use native.Mathlib.Omega.{arith}
use Rattle.values.specs.declared.Answer.{Answer}
use Rattle.values.specs.Result.{Result, ok, refuse, unplaced}
use Rattle.values.proofs.Result.{Post, Refuses, post_map, post_refused_as, refuses_ok, refuses_require, refuses_bind, Positive}
use Rattle.store.proofs.SheetOpening.{store_opens}
use Rattle.syntax.proofs.SheetRefusals.{programme_refuses}
use Rattle.calculus.specs.Blocks.{halt_answer}
use Rattle.calculus.proofs.Rules.{rules_refuse}
use Rattle.calculus.proofs.CalculusRefusals.{blocks_refuse}
use Rattle.calculus.specs.Run.{Call, Finished, run_programme, run_opened, run_under, run, answer_of, answer}

abbrev Numbered : Answer → Type 0
Numbered a = Positive a.number

run_refuses : (c : Call) → Refuses Numbered (run c)
unfolding run_programme run_opened run_under run unplaced halt_answer
run_refuses c =
    refuses_bind _ _ _ (post_refused_as _ _ _ _ (rules_refuse Positive c.rule (omega arith))) λ rules.
    refuses_require _ _ _ _ (omega arith) (
    refuses_bind _ _ _ (post_refused_as _ _ _ _ (post_map _ _ _ _ _ (store_opens c.store) (λ _ _. tt) (λ _ q. q))) λ o.
    refuses_bind _ _ _ (programme_refuses _ _ c.programme) λ blocks.
    refuses_require _ _ _ _ (omega arith) (
    refuses_bind _ _ _ (post_refused_as _ _ _ _ (blocks_refuse _ _ _ _ blocks _)) λ s.
    refuses_ok _ _))

finished : (r : Result Answer Finished) → Refuses Numbered r → (answer_of r).number ≡ 0 → (f : Finished) × (r ≡ ok f)
unfolding answer_of Post
finished (ok f) h e = (f, refl)
finished (refuse a) h e = absurd (omega arith)

pub run_finished : (c : Call) → (answer c).number ≡ 0 → (f : Finished) × (run c ≡ ok f)
run_finished c e = finished _ (run_refuses c) e
