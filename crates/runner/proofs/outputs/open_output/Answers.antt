use mathlib.Core.Path.{◌≡◌, ◌∙◌, ap}
use mathlib.Core.List.{List}
use Prim.Native.Nat.{ℕ, ◌≤◌}
use lib.ListN.{length, take, drop}
use Rattle.store.specs.declared.HeldSlot.{HeldSlot}
use Rattle.store.specs.Sheet.{most_slots}
use native.Mathlib.Omega.{arith}
use Rattle.std.proofs.lemmas.List.{take-append-drop, length-take-le}
use Rattle.runner.proofs.OldOutput.{rows_after, rows_none, rows_turn, rows_done}
use Rattle.runner.proofs.outputs.open_output.Goals as goal

pub loop-i-init : goal.loop-i-init
loop-i-init c = λ w s e. take-append-drop _ _ ∙ e ∙ rows_none w s _

-- as many rows are in turn as there are slots
count : (n : ℕ) (held : List HeldSlot) → length held ≡ most_slots → n ≤ most_slots → length (take n held) ≡ n
count n held e h = length-take-le n held (omega (arith, e))

pub loop-i-preserved : goal.loop-i-preserved
loop-i-preserved c = λ w s e.
    let n = count c.args.slots c.args.held.now c.told-held c.requires in
    rw c.row_in.ensures
    (rows_turn w s c.args.out.now c.loop-i.i c.loop-i.row-items (drop c.args.slots c.args.held.now) (omega (arith, c.loop-i.auto.row-items)) (omega (arith, n)) (c.loop-i.invariant w s e))

pub returns : goal.returns
returns c = λ w s e empty.
    let a = c.args in
    let n = count a.slots a.held.now c.told-held c.requires in
    let all : c.loop-i.i ≡ a.slots = omega (arith, c.loop-i.auto.i-end, n) in
    c.loop-i.invariant w s e ∙ ap (λ (i : ℕ). rows_after w s a.out.now i) all ∙ rows_done w s a.out.now a.slots empty
