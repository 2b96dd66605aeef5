use mathlib.Core.Path.{refl, sym}
use borrow.Author.Tests.{eq-eqb, ne_eqb}
use native.Mathlib.Omega.{arith}
use Rattle.lattice.specs.Tests.{some}
use Rattle.lattice.specs.Masks.{has_mask}
use Rattle.lattice.proofs.Tests.{some_of, some_more, some_done}
use Rattle.lattice.proofs.Table.has_mask.Goals as goal

pub loop-k-init : goal.loop-k-init
unfolding some
loop-k-init c = refl

pub returns-then-self-k : goal.returns-then-self-k
unfolding has_mask
returns-then-self-k c = sym (some_of _ _ c.loop-k.k (omega arith) (eq-eqb _ _ c.if-self-k.true))

pub loop-k-preserved : goal.loop-k-preserved
loop-k-preserved c = some_more _ _ c.loop-k.invariant (ne_eqb _ _ c.if-self-k.false)

pub returns : goal.returns
unfolding has_mask
returns c = some_done _ _ _ (omega arith) (omega arith) c.loop-k.invariant
