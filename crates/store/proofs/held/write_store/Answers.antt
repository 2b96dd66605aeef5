use Rattle.std.proofs.Common.{ℕ, ◌≡◌, refl, ap, ◌∙◌, get_or-take, length-take-le, length, take, arith}
use Rattle.store.specs.HeldStore.{empty_row, rows_bytes, fitting, out_after}
use Rattle.store.proofs.HeldStoreOutput.{slot_written}
use Rattle.store.proofs.held.write_store.Goals as goal

pub loop-i-init : goal.loop-i-init
unfolding out_after rows_bytes
loop-i-init c = refl

pub loop-i-preserved : goal.loop-i-preserved
loop-i-preserved c =
    let i = c.loop-i.i in
    let held = c.args.held.now in
    let few : length (take c.min-slots.result held) ≡ c.min-slots.result = length-take-le _ held (omega arith) in
    rw (c.copy_from_slice.ensures.after, c.to_bytes.ensures, c.loop-i.invariant, get_or-take c.min-slots.result held i empty_row (omega arith))
    (slot_written held c.args.out.now i _ (omega arith) (omega arith))

pub returns : goal.returns
unfolding fitting
returns c =
    let held = c.args.held.now in
    let few : length (take c.min-slots.result held) ≡ c.min-slots.result = length-take-le _ held (omega arith) in
    c.loop-i.invariant ∙ ap (λ (n : ℕ). out_after held n c.args.out.now) (omega arith)
