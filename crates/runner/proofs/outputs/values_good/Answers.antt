use Rattle.std.proofs.Common.{rules, arith, ◌∙◌}
use Rattle.std.proofs.lemmas.Iterator.{YieldsList-from_range}
use Rattle.std.proofs.lemmas.Iterator.Search.{all_from_yields_List}
use borrow.Author.Tests.{tests}
use Rattle.values.specs.Value.{well_formed}
use Rattle.pausing.specs.Stretches.{slot_in}
use Rattle.lattice.proofs.Tests.{every_range}
use Rattle.runner.proofs.outputs.values_good.Goals as goal

pub returns : goal.returns
unfolding slot_in
returns c =
    let a = c.args in
    all_from_yields_List (λ i. well_formed a.slots (slot_in a.out.now i).value) _ _ _ c.all.ensures.ran (YieldsList-from_range 0 a.slots a.slots (cc) (omega arith)) (λ x b q k. search (rules, tests))
    ∙ every_range _ _
