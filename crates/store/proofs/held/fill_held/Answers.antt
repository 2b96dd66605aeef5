use Rattle.std.proofs.Common.{ℕ, ap, ◌∙◌, arith}
use Rattle.values.specs.Bytes.{filled}
use Rattle.values.proofs.BytesArrays.{filled_none, filled_step}
use Rattle.store.specs.Sheet.{most_slots}
use Rattle.store.specs.HeldStore.{empty_row, row_at}
use Rattle.store.proofs.Sheet.{held_filled}
use Rattle.store.proofs.held.fill_held.Goals as goal

pub loop-i-init : goal.loop-i-init
loop-i-init c = filled_none most_slots _ empty_row

pub loop-i-preserved : goal.loop-i-preserved
loop-i-preserved c =
    let l = c.loop-i in
    rw (l.invariant, c.held.ensures) (filled_step most_slots _ empty_row l.i (omega arith))

pub returns : goal.returns
returns c =
    let sheet = c.args.sheet.now in
    c.loop-i.invariant ∙ ap (λ (x : ℕ). filled most_slots x (row_at sheet.bytes.now) empty_row) (omega (arith, sheet.sized.slots)) ∙ held_filled sheet.bytes.now
