use Prim.Native.Nat.{ℕ, ◌+◌}
use mathlib.Core.Path.{sym, ap, ◌∙◌}
use native.Mathlib.Omega.{arith}
use lib.ListN.{get_or}
use Rattle.pausing.specs.Stretches.{labels_at}
use Rattle.paths.proofs.SheetPaths.{few_principals, entry_inside, entry_unfit, entry_nowhere}
use Rattle.paths.proofs.checkpoint.Path.go_in.Goals as goal

pub label_fits-requires : goal.label_fits-requires
label_fits-requires c = let p = c.requires in omega (arith, p.2, few_principals _ c.args.self.now.ordered)

pub returns-in_err-part : goal.returns-in_err-part
returns-in_err-part c x s = rw c.from_residual.ensures (entry_nowhere c.args.self.now.table.now c.args.outer x _ c.from-k.ensures (c.in_err-part.ensures x s))

pub returns-then-label_fits : goal.returns-then-label_fits
returns-then-label_fits c x s =
    let p = c.requires in
    entry_inside _ _ _ _ x _ _ _ c.from-k.ensures (c.in_ok-part.ensures x s)
    (c.from-label.ensures ∙ ap (λ (n : ℕ). get_or c.args.self.now.sheet.now (labels_at n + c.args.i) 0) c.args.self.now.counted) (sym c.label_fits.ensures ∙ c.if-label_fits.true) p.2

pub returns-else-label_fits : goal.returns-else-label_fits
returns-else-label_fits c x s =
    let p = c.requires in
    entry_unfit _ _ _ _ x _ _ _ c.from-k.ensures (c.in_ok-part.ensures x s)
    (c.from-label.ensures ∙ ap (λ (n : ℕ). get_or c.args.self.now.sheet.now (labels_at n + c.args.i) 0) c.args.self.now.counted) (sym c.label_fits.ensures ∙ c.if-label_fits.false)
