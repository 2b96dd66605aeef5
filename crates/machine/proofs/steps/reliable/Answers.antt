use mathlib.Core.Path.{sym, ◌∙◌}
use mathlib.Core.Bool.{true≢false}
use native.Mathlib.Omega.{arith}
use Rattle.std.proofs.lemmas.Bool.{not_from_false}
use Rattle.machine.proofs.RuleTerms.{serves_labels, serves_branches}
use Rattle.machine.proofs.StepJudgements.{reliable_unjudged, reliable_owner, reliable_floor}
use Rattle.machine.proofs.steps.reliable.Goals as goal
use Rattle.machine.proofs.steps.reliable.Goals.{then-not-terms, else-not-terms}

pub returns-then-has_bit : goal.returns-then-has_bit
returns-then-has_bit c w masks i x y b h q tx ly cb =
    (elim c.if-not-terms.branch [
      | then-not-terms k ↦ c.if-has_bit.true ∙ reliable_unjudged w _ _ h i x y b k.if-not-terms.true
      | else-not-terms k ↦
          let m = c.meet_judged-judged.ensures w.tables.order w.rules x y b (sym (serves_labels h) ∙ k.if-not-terms.false) (serves_branches h) tx ly cb in
          c.if-has_bit.true ∙ reliable_owner w _ _ h i x y b _ _ q m (sym k.has_bit.ensures ∙ sym k.value-is ∙ c.if-has_bit.true)
    ])

pub returns-else-has_bit : goal.returns-else-has_bit
returns-else-has_bit c w masks i x y b h q tx ly cb =
    (elim c.if-not-terms.branch [
      | then-not-terms k ↦ absurd (true≢false (sym (k.value-is ∙ not_from_false _ k.if-not-terms.true) ∙ c.if-has_bit.false))
      | else-not-terms k ↦
          let m = c.meet_judged-judged.ensures w.tables.order w.rules x y b (sym (serves_labels h) ∙ k.if-not-terms.false) (serves_branches h) tx ly cb in
          c.has_bit-else-has_bit.ensures ∙ rw c.from.ensures (reliable_floor w _ _ h i x y b _ _ q m (omega arith) (sym k.has_bit.ensures ∙ sym k.value-is ∙ c.if-has_bit.false))
    ])
