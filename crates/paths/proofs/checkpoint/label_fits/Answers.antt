use mathlib.Core.Path.{◌∙◌}
use native.Mathlib.Omega.{arith}
use borrow.Author.Tests.{le-ltb}
use Rattle.paths.proofs.SheetPaths.{fits_equal, fits_below, fits_not}
use Rattle.paths.proofs.checkpoint.label_fits.Goals as goal

pub returns-then-deeper-eq0 : goal.returns-then-deeper-eq0
returns-then-deeper-eq0 c = fits_equal _ _ _ _ c.if-deeper-eq0.true

pub returns-then-label-table : goal.returns-then-label-table
returns-then-label-table c = c.has_bit.ensures ∙ fits_below _ _ _ _ c.if-deeper-eq0.false c.if-label-table.true

pub returns-else-label-table : goal.returns-else-label-table
returns-else-label-table c = le-ltb _ _ c.if-label-table.false ∙ fits_not _ _ _ _ c.if-deeper-eq0.false (omega (arith, c.if-label-table.false))
