use Rattle.std.proofs.Common.{ℕ, List, ap, ap₂, ◌∙◌, arith}
use Rattle.lattice.specs.Order.{most_principals}
use Rattle.values.specs.Bytes.{filled}
use Rattle.values.proofs.BytesArrays.{filled_none, filled_step}
use Rattle.store.specs.Sheet.{mask_at, order_of}
use Rattle.store.proofs.sheets.Sheet.order.Goals as goal

pub loop-i-init : goal.loop-i-init
loop-i-init c = filled_none most_principals _ 0

pub loop-i-preserved : goal.loop-i-preserved
loop-i-preserved c =
    let l = c.loop-i in
    rw (l.invariant, c.mask_at.ensures) (filled_step most_principals _ 0 l.i (omega arith))

pub returns : goal.returns
unfolding order_of
returns c =
    let sheet = c.args.self.now in
    ap₂ (λ (n : ℕ) (masks : List ℕ). record { n = n; masks = masks }) sheet.sized.principals
    (c.loop-i.invariant ∙ ap (λ (x : ℕ). filled most_principals x (mask_at sheet.bytes.now) 0) (omega (arith, sheet.sized.principals)))
