use Prim.Native.Nat.{ℕ, ◌^◌, ◌<◌}
use Rattle.std.proofs.Common.{rules, arith, ◌∙◌}
use Rattle.std.proofs.lemmas.Iterator.{YieldsList-from_range, YieldsList-from_map}
use Rattle.std.proofs.lemmas.Iterator.Consumers.{sum_from_yields_List, fits_from_yields_list}
use Rattle.values.specs.Value.{count_width}
use Rattle.values.proofs.BytesNumbers.{number_lt}
use Rattle.store.specs.Counts.{count_at}
use Rattle.store.proofs.CountsAdded.{sum_entries, sum_below}
use Rattle.store.proofs.counts.counts_total.Goals as goal

pub sum-requires-clause-fits : goal.sum-requires-clause-fits
sum-requires-clause-fits c =
    let a = c.args in
    let few : (i : ℕ) → count_at a.out.now i < 2 ^ 32 = λ i. number_lt _ (λ k. (c.type_inv.out k).fits) count_width _ in
    fits_from_yields_list c.map.result _
    (YieldsList-from_map _ (count_at a.out.now) (YieldsList-from_range 0 a.slots a.slots (cc) (omega arith)) c.map.ensures.closure (λ x r q k. search rules))
    (omega (arith, sum_below (2 ^ 32) a.slots 0 (count_at a.out.now) few))

pub returns : goal.returns
returns c =
    let a = c.args in
    sum_from_yields_List c.map.result _ c.sum.ensures.ran
    (YieldsList-from_map _ (count_at a.out.now) (YieldsList-from_range 0 a.slots a.slots (cc) (omega arith)) c.map.ensures.closure (λ x r q k. search rules))
    ∙ sum_entries a.slots 0 _
