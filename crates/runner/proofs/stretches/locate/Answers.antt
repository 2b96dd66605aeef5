use Prim.Native.Nat.{◌+◌, ◌≤◌, ◌<◌}
use mathlib.Core.Path.{◌≡◌, refl}
use native.Mathlib.Omega.{arith}
use Rattle.syntax.specs.Sheet.{most_code, k_of}
use Rattle.runner.specs.StretchRun.{CanLocate}
use Rattle.runner.proofs.StretchLocate.{Passed, passed_none, next_small, next_fits, next_within, next_some, next_slim, passed_next, found_at}
use Rattle.runner.proofs.stretches.locate.Goals as goal
use Rattle.runner.proofs.stretches.locate.Goals.{After-length_at, After-length_at-2, After-rows_in}

pub loop-i-init : goal.loop-i-init
loop-i-init c = passed_none _ c.blocks_of-k.result _ c.blocks_of-k.ensures refl

-- what is known of the block that is passed
abbrev passed : (c : After-length_at)
    → Passed c.args.programme.now c.loop-i.i c.loop-i.start c.loop-i.row
passed c = c.loop-i.invariant

abbrev pre : (c : After-length_at) → CanLocate c.args.programme.now c.args.block
pre c = c.requires

here : (c : After-length_at) → c.loop-i.i < k_of c.args.programme.now
here c = omega (arith, (pre c).inside)

pub overflow_add-end : goal.overflow_add-end
overflow_add-end c = omega (arith, next_fits (passed c) (pre c).lengths (here c) _ c.length_at.ensures.0)

pub rows_in-requires : goal.rows_in-requires
rows_in-requires c =
    let p = pre c in
    let l = c.length_at.ensures.0 in
    (omega arith, next_within (passed c) p.lengths (here c) _ l, next_some (passed c) p.lengths (here c) _ l p.slots p.blocks p.reads)

-- there are no more rows than bytes
few : (c : After-rows_in) → c.loop-i.row + (c.rows_in.result + 1) ≤ most_code
few c =
    let p = c.requires in
    let v = c.loop-i.invariant in
    let h : c.loop-i.i < k_of c.args.programme.now = omega (arith, p.inside) in
    let l = c.length_at.ensures.0 in
    omega (arith, next_slim v p.lengths h _ l _ c.rows_in.ensures p.slots p.blocks p.reads, next_small v p.lengths h _ l)

pub overflow_add-row : goal.overflow_add-row
overflow_add-row c = omega (arith, few c)

pub overflow_add-row-in-loop-i : goal.overflow_add-row-in-loop-i
overflow_add-row-in-loop-i c = omega (arith, few c)

pub loop-i-preserved : goal.loop-i-preserved
loop-i-preserved c =
    let d = c in
    let p = pre (goal.at.loop-i-preserved c).After-length_at in
    passed_next (passed (goal.at.loop-i-preserved c).After-length_at) p.lengths (here (goal.at.loop-i-preserved c).After-length_at) _ d.length_at.ensures.0 _ c.rows_in.ensures p.slots p.blocks p.reads

-- all blocks before it were passed
pre-last : (c : After-length_at-2) → CanLocate c.args.programme.now c.args.block
pre-last c = c.requires

passed-all : (c : After-length_at-2)
    → Passed c.args.programme.now c.args.block c.loop-i.start c.loop-i.row
passed-all c =
    let e : c.loop-i.i ≡ c.args.block = omega arith in
    rw e at c.loop-i.invariant

pub overflow_add-end-2 : goal.overflow_add-end-2
overflow_add-end-2 c = let p = pre-last c in omega (arith, next_fits (passed-all c) p.lengths p.inside _ c.length_at-2.ensures.0)

pub returns : goal.returns
returns c = found_at (passed-all c) _ c.length_at-2.ensures.0
