use mathlib.Core.Path.{sym, ◌∙◌}
use native.Mathlib.Omega.{arith}
use borrow.Author.Tests.{ne_eqb}
use Rattle.values.specs.Refusal.{number}
use Rattle.machine.proofs.OperationAnswers.{left_refused, right_refused, equals, differs, sums, differences, compares}
use Rattle.machine.proofs.expressions.operate.Goals as goal
use Rattle.machine.proofs.expressions.operate.Goals.{then-left-right, else-left-right}

pub returns-then-operation-eq-EQUAL : goal.returns-then-operation-eq-EQUAL
returns-then-operation-eq-EQUAL c o e =
    let t = c.if-operation-eq-EQUAL.true in
    (elim c.if-left-right.branch [
      | then-left-right w ↦ rw w.truth-is at c.truth.ensures ∙ sym (equals _ _ _ _ _ o _ e t w.if-left-right.true)
      | else-left-right w ↦ rw (w.truth-is ∙ ne_eqb _ _ w.if-left-right.false) at c.truth.ensures ∙ sym (differs _ _ _ _ _ o _ e t w.if-left-right.false)
    ])

pub returns-then-left-from : goal.returns-then-left-from
unfolding number
returns-then-left-from c o e = sym (left_refused _ _ _ _ _ o _ e c.if-operation-eq-EQUAL.false (λ k. c.if-left-from.true (k ∙ sym c.from.ensures)))

pub returns-then-right-from : goal.returns-then-right-from
unfolding number
returns-then-right-from c o e =
    sym (right_refused _ _ _ _ _ o _ e c.if-operation-eq-EQUAL.false (c.if-left-from.false ∙ c.from.ensures) (λ k. c.if-right-from.true (k ∙ sym c.from-2.ensures)))

pub returns-in-18 : goal.returns-in-18
returns-in-18 c o e =
    rw (sums _ _ _ _ _ (c.if-left-from.false ∙ c.from.ensures) (c.if-right-from.false ∙ c.from-2.ensures) o _ e c.in-18.is, ← c.sum.ensures) c.integer.ensures

pub returns-in-19 : goal.returns-in-19
returns-in-19 c o e =
    rw (differences _ _ _ _ _ (c.if-left-from.false ∙ c.from.ensures) (c.if-right-from.false ∙ c.from-2.ensures) o _ e c.in-19.is, ← c.difference.ensures)
    c.integer-in-19.ensures

pub returns-in_default : goal.returns-in_default
returns-in_default c o e =
    rw (
      compares _ _ _ _ _ (c.if-left-from.false ∙ c.from.ensures) (c.if-right-from.false ∙ c.from-2.ensures) o _ e c.if-operation-eq-EQUAL.false (λ i. omega arith) (λ i. omega arith),
      ← c.less_than.ensures,
    ) c.truth-in_default.ensures
