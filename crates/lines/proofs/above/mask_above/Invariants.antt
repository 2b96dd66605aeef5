use mathlib.Core.Path.{◌≡◌}
use Rattle.lattice.specs.Order.{below}
use Rattle.store.specs.Sheet.{order_of}
use Rattle.lines.specs.PrincipalsAbove.{mask_where}
use Rattle.lines.proofs.above.mask_above.Given as goal

abbrev pub invariant-loop-p : goal.invariant-loop-p
invariant-loop-p l = l.above ≡ mask_where l.p λ q. below (order_of l.sheet) l.owner q
