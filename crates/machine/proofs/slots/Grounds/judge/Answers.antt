use mathlib.Core.Path.{sym, ◌∙◌}
use Rattle.values.specs.Refusal.{number}
use Rattle.machine.proofs.Exits.{exit}
use Rattle.machine.proofs.StepJudgements.{judge_refused, judge_kind, judge_truth}
use Rattle.machine.proofs.slots.Grounds.judge.Goals as goal

pub returns-in_err-x : goal.returns-in_err-x
returns-in_err-x c w s e v x = rw (exit _ c.from_residual.ensures.1) (judge_refused w s e (c.in_err-x.ensures w s e v x))

pub returns-then-x-from : goal.returns-then-x-from
unfolding number
returns-then-x-from c w s e v x = judge_kind w s e (c.in_ok-x.ensures w s e v x) (λ k. c.if-x-from.true (k ∙ sym c.from.ensures))

pub returns : goal.returns
returns c w s e v x = judge_truth w s e (c.in_ok-x.ensures w s e v x) (c.if-x-from.false ∙ c.from.ensures)
