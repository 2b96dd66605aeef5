use mathlib.Core.Path.{◌≡◌}
use mathlib.Core.Bool.{false}
use lib.Dec.{eqb}
use Rattle.lattice.specs.Tests.{some}
use Rattle.lattice.specs.Masks.{at}
use Rattle.lattice.proofs.Table.has_mask.Given as goal

abbrev pub invariant-loop-k : goal.invariant-loop-k
invariant-loop-k l = some l.k (λ x. eqb (at l.self.masks x) l.m) ≡ false
