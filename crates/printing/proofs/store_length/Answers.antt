use mathlib.Core.Path.{◌∙◌}
use native.Mathlib.Omega.{arith}
use Rattle.printing.proofs.InputSizes.{no_sizes, shorter}
use Rattle.printing.proofs.store_length.Goals as goal

pub returns-then-size-lt-SIZES : goal.returns-then-size-lt-SIZES
returns-then-size-lt-SIZES c = (no_sizes _ c.if-size-lt-SIZES.true, omega arith)

pub returns : goal.returns
returns c =
    let s = c.sizes_of-n.ensures.values in
    (c.min.ensures ∙ shorter _ (omega (arith, c.if-size-lt-SIZES.false)) _ _ s.0 s.1, omega arith)
