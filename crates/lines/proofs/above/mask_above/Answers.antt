use Prim.Native.Nat.{ℕ, ◌<◌, ◌^◌}
use mathlib.Core.Path.{sym, ap, subst, ◌∙◌}
use native.Mathlib.Omega.{arith}
use Rattle.lattice.specs.Order.{bit, below}
use Rattle.store.specs.Sheet.{order_of}
use Rattle.lines.specs.PrincipalsAbove.{mask_where, mask_above}
use Rattle.lines.proofs.PrincipalsAbove.{mask_held, mask_lt, mask_none, mask_step}
use Rattle.lines.proofs.above.mask_above.Goals as goal

pub loop-p-init : goal.loop-p-init
loop-p-init c = mask_none _

pub with_bit-above-requires : goal.with_bit-above-requires
with_bit-above-requires c =
    let l = c.loop-p in
    (subst (λ (m : ℕ). m < 2 ^ l.p) (sym l.invariant) (mask_lt l.p _), omega arith)

pub loop-p-preserved : goal.loop-p-preserved
loop-p-preserved c =
    let a = c.args in
    mask_step c.loop-p.p (λ q. below (order_of a.sheet.now) a.owner q) c.with_bit-above.ensures c.loop-p.invariant
    (c.has_bit-stands.ensures ∙ ap (λ (m : ℕ). bit m a.owner) (c.mask_at.ensures ∙ mask_held a.sheet.now c.loop-p.p (omega arith)))

pub returns : goal.returns
unfolding mask_above order_of
returns c =
    let a = c.args in
    c.loop-p.invariant ∙ ap (λ (n : ℕ). mask_where n λ q. below (order_of a.sheet.now) a.owner q) (omega arith)
