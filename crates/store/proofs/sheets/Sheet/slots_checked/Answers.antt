use Rattle.std.proofs.Common.{◌≡◌, refl, sym, arith}
use Rattle.std.proofs.lemmas.Result.{err_from_is_err_and}
use Rattle.values.specs.Result.{in_turn}
use Rattle.values.specs.Refusal.{said}
use Rattle.values.proofs.ResultInTurn.{in_turn_more, in_turn_refuses}
use Rattle.store.proofs.sheets.Sheet.slots_checked.Goals as goal

pub loop-i-init : goal.loop-i-init
unfolding in_turn
loop-i-init c = refl

pub returns-in_err-slot_checked : goal.returns-in_err-slot_checked
unfolding said
returns-in_err-slot_checked c =
    let p = err_from_is_err_and c.from_residual.result c.from_residual.ensures.1 in
    rw (p.1, p.2) (sym (in_turn_refuses _ _ c.loop-i.i _ (omega arith) c.loop-i.invariant (sym c.in_err-slot_checked.ensures)))

pub loop-i-preserved : goal.loop-i-preserved
unfolding said
loop-i-preserved c = in_turn_more _ _ c.loop-i.invariant (sym c.in_ok-slot_checked.ensures)

pub returns : goal.returns
unfolding said
returns c =
    let e : c.loop-i.i ≡ c.args.self.now.slots = omega arith in
    sym (rw e at c.loop-i.invariant)
