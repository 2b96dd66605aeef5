use native.Mathlib.Omega.{arith}
use Rattle.paths.proofs.CodeExtents.{if_guard, some_else, span_within}
use Rattle.paths.proofs.CodeBlanks.{jump_few}
use Rattle.paths.proofs.CodeParts.{then_inside, else_inside, if_nowhere}
use Rattle.paths.proofs.walking.part_at.Goals as goal

pub skip_expr-there-requires : goal.skip_expr-there-requires
skip_expr-there-requires c = let p = c.requires in (if_guard _ _ p.1 0 p.0).0

pub span_at-first-requires : goal.span_at-first-requires
span_at-first-requires c = let p = c.requires in ((if_guard _ _ p.1 _ p.0).1 c.skip_expr-there.ensures).0

pub jump_before-requires : goal.jump_before-requires
jump_before-requires c = let p = c.requires in (some_else _ _ p.1 _ c.skip_expr-there.ensures _ _ c.span_at-first.ensures p.0).0

pub overflow_add-result : goal.overflow_add-result
overflow_add-result c =
    let p = c.requires in
    let b = span_within _ _ _ _ c.span_at-first.ensures ((if_guard _ _ p.1 _ p.0).1 c.skip_expr-there.ensures).0 in
    omega (arith, b.0, b.1)

pub overflow_add-result-in-1 : goal.overflow_add-result-in-1
overflow_add-result-in-1 c =
    let p = c.requires in
    let f = c.skip_expr-there.ensures in
    let g = (if_guard _ _ p.1 _ p.0).1 f in
    let b = span_within _ _ _ _ c.span_at-first.ensures g.0 in
    let e = some_else _ _ p.1 _ f _ _ c.span_at-first.ensures p.0 in
    omega (arith, b.0, b.1, g.1, jump_few _ _ _ c.jump_before.ensures e.0)

pub returns-in-0 : goal.returns-in-0
returns-in-0 c = then_inside _ _ _ c.requires.1 _ c.skip_expr-there.ensures c.in-0.is

pub returns-in-1 : goal.returns-in-1
returns-in-1 c = else_inside _ _ _ c.requires.1 _ c.skip_expr-there.ensures _ _ _ c.in-1.is c.span_at-first.ensures c.jump_before.ensures

pub returns-in_default : goal.returns-in_default
returns-in_default c = if_nowhere _ _ _ c.requires.1 _ c.skip_expr-there.ensures (omega arith) (omega arith)
