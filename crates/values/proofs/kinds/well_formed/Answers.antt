use Rattle.std.proofs.Common.{rules, ◌≡◌, Bool, true, false, refl}
use Rattle.lattice.specs.Tests.{◌and◌, ◌or◌}
use Rattle.values.specs.Value.{well_formed}
use Rattle.values.proofs.kinds.well_formed.Goals as goal

or-false : (b : Bool) → b ≡ b or false
unfolding ◌or◌
or-false true = refl
or-false false = refl

pub returns-in-0 : goal.returns-in-0
unfolding well_formed ◌and◌ ◌or◌
returns-in-0 c = rw c.in-0.is

pub returns-in-1 : goal.returns-in-1
unfolding well_formed ◌and◌ ◌or◌
returns-in-1 c = rw c.in-1.is (or-false _)

pub returns-in-2 : goal.returns-in-2
unfolding well_formed ◌and◌ ◌or◌
returns-in-2 c = let slot = c.viewed.ensures 0 in search rules

pub returns-in_default : goal.returns-in_default
unfolding well_formed ◌and◌ ◌or◌
returns-in_default c = search rules
