use Prim.Native.Nat.{◌+◌, ◌≤◌}
use native.Mathlib.Omega.{arith}
use Rattle.syntax.specs.Code.{most_deep}
use Rattle.pausing.specs.Stretches.{entry_in}
use Rattle.paths.specs.SheetPaths.{EntryIs}
use Rattle.paths.proofs.CodeLayout.{lies_within}
use Rattle.paths.proofs.SheetPaths.{few_principals, Led, led_next, led_astray, led_there}
use Rattle.paths.proofs.checkpoint.Path.find.Goals as goal
use Rattle.paths.proofs.checkpoint.Path.find.Goals.{In_ok-child}

-- where the path has led from the command that `requires` names
led : (c : In_ok-child)
    → let i = c.loop-i in
    let p = c.args.self.now in
    let r = c.requires in Led p.code.now p.sheet.now p.table.now p.size r.command r.labels c.args.top i.i i.at i.depth i.outer i.row i.labels
led c = let r = c.requires in c.loop-i.invariant.3 r.command r.labels r.sits r.labels_held r.top_is

-- what is known of the child that an entry leads into, and that the depth inside it has a label
told : (c : In_ok-child)
    → let p = c.args.self.now in EntryIs p.code.now p.table.now c.loop-i.at (led c).command c.loop-i.outer (entry_in p.sheet.now c.loop-i.i) c.in_ok-child.child
told c = let w = led c in c.in_ok-child.ensures w.command w.sits

level : (c : In_ok-child) → c.loop-i.depth + c.in_ok-child.child.part.deeper ≤ most_deep
level c = omega (arith, (told c).part.enters.shallow, c.loop-i.invariant.0, c.loop-i-test.true, c.args.self.now.short)

pub go_in-requires : goal.go_in-requires
go_in-requires c =
    let r = c.requires in
    let i = c.loop-i.invariant in
    let w = i.3 r.command r.labels r.sits r.labels_held r.top_is in
    (record { command = w.command; sits = w.sits }, c.loop-i-test.true, i.1)

pub returns-in_err-child : goal.returns-in_err-child
returns-in_err-child c x l s h y =
    let w = c.loop-i.invariant.3 x l s h y in
    rw c.from_residual.ensures (led_astray _ _ w c.loop-i-test.true (c.in_err-child.ensures w.command w.sits))

pub overflow_add-depth : goal.overflow_add-depth
overflow_add-depth c = omega (arith, level (goal.at.overflow_add-depth c).In_ok-child)

pub overflow_add-row : goal.overflow_add-row
overflow_add-row c =
    let g = (told (goal.at.overflow_add-row c).In_ok-child).part in
    let w = lies_within _ g.tree _ g.sits.end g.sits.lies in
    omega (arith, g.slim, c.loop-i.invariant.2, w.0, w.1)

pub offset_bounds-self-outer : goal.offset_bounds-self-outer
offset_bounds-self-outer c = omega (arith, (told (goal.at.offset_bounds-self-outer c).In_ok-child).small, few_principals _ c.args.self.now.ordered)

pub bounds-self-outer : goal.bounds-self-outer
bounds-self-outer c = omega (arith, (told (goal.at.bounds-self-outer c).In_ok-child).small, few_principals _ c.args.self.now.ordered)

pub offset_bounds-labels-depth : goal.offset_bounds-labels-depth
offset_bounds-labels-depth c = omega (arith, level (goal.at.offset_bounds-labels-depth c).In_ok-child)

pub bounds-labels-depth : goal.bounds-labels-depth
bounds-labels-depth c = omega (arith, level (goal.at.bounds-labels-depth c).In_ok-child)

pub loop-i-preserved : goal.loop-i-preserved
loop-i-preserved c =
    let i = c.loop-i.invariant in
    let o = (goal.at.loop-i-preserved c).In_ok-child in
    let g = told o in (
      omega (arith, g.part.enters.shallow, i.0),
      g.small,
      omega (arith, g.part.slim, i.2),
      λ x l s h y. let w = i.3 x l s h y in led_next _ _ w c.loop-i-test.true _ (c.in_ok-child.ensures w.command w.sits) (level o),
    )

pub takes_step-requires : goal.takes_step-requires
takes_step-requires c = let r = c.requires in
    let w = c.loop-i.invariant.3 r.command r.labels r.sits r.labels_held r.top_is in
    record { command = w.command; sits = w.sits }

pub returns : goal.returns
returns c x l s h y =
    let w = c.loop-i.invariant.3 x l s h y in
    rw c.then_some.ensures (led_there _ _ w _ (omega arith) (c.takes_step.ensures w.command w.sits.end w.sits.lies))
