use mathlib.Core.Logic.{inr}
use Rattle.machine.proofs.Exits.{exit}
use Rattle.machine.proofs.SlotRows.{view_held}
use Rattle.machine.proofs.LiteralReads.{gave}
use Rattle.machine.proofs.StepJudgements.{aimed_view, assign_refused, assign_value_refused, assign_judged}
use Rattle.machine.proofs.slots.Grounds.assign.Goals as goal

pub returns-in_err-x : goal.returns-in_err-x
returns-in_err-x g c w s x y b v p q l = rw (exit _ c.from_residual.ensures.1) (assign_refused w s b x y (c.in_err-x.ensures w s x v p))

pub returns-in_err-y : goal.returns-in_err-y
returns-in_err-y g c w s x y b v p q l =
    rw (exit _ c.from_residual-in_err-y.ensures.1)
    (assign_value_refused w s b x y (c.in_ok-x.ensures w s x v p) (c.in_err-y.ensures w s y v q))

pub permit-requires : goal.permit-requires
permit-requires g c =
    let j = c.requires.0 in
    let x = c.requires.1 in
    let h = c.in_ok-x.ensures j.setting j.store x.expr j.behind x.is in
    (j, view_held (gave h).held (inr (aimed_view j.setting j.store x.expr h)))

pub returns : goal.returns
returns g c w s x y b v p q l =
    assign_judged w s b x y (c.in_ok-x.ensures w s x v p) _ (c.in_ok-y.ensures w s y v q)
    (λ t r i j k. c.permit.ensures w s t r b v i j k l)
