use Prim.Native.Nat.{◌+◌, ◌-◌}
use native.Mathlib.Omega.{arith}
use Rattle.paths.proofs.CodeLayout.{some_within}
use Rattle.paths.proofs.CodeExtents.{skip_span, assign_span, some_target, some_value, seq_span, some_all, seq_second, if_guard, some_else, if_span, while_guard, while_span, span_within, left_some, left_on, left_bound, left_none}
use Rattle.paths.proofs.walking.+span_all_span_at_span_if.Goals as goal

pub span_all-span_at-next-requires : goal.span_all-span_at-next-requires
span_all-span_at-next-requires t c = let p = c.requires in
    let i = c.loop.invariant in
    let l = i.1 p.end p.total p.left in
    let b = left_bound _ _ _ _ _ _ l in
    (omega (arith, c.decreases, i.0, b.0, b.1), left_some _ _ _ _ _ _ (omega arith) l)

pub span_all-overflow_add-rows : goal.span_all-overflow_add-rows
span_all-overflow_add-rows t c = let p = c.requires in
    let l = left_on _ _ _ _ _ _ _ _ (c.args.n - (c.loop.counter + 1)) (omega arith) c.span_at-next.ensures (c.loop.invariant.1 p.end p.total p.left) in
    let b = left_bound _ _ _ _ _ _ l in
    omega (arith, b.0, b.1, b.2)

pub span_all-loop-preserved : goal.span_all-loop-preserved
span_all-loop-preserved t c = let p = c.requires in
    let i = c.loop.invariant in
    let s = left_some _ _ _ _ _ _ (omega arith) (i.1 p.end p.total p.left) in
    (omega (arith, i.0, (span_within _ _ _ _ c.span_at-next.ensures s).0), λ end total h. left_on _ _ _ _ _ _ _ _ _ (omega arith) c.span_at-next.ensures (i.1 end total h))

pub span_all-returns : goal.span_all-returns
span_all-returns t c end total h = left_none _ _ _ _ _ _ (omega arith) (c.loop.invariant.1 end total h)

pub span_at-bounds-code-at : goal.span_at-bounds-code-at
span_at-bounds-code-at t c = some_within _ c.requires

pub span_at-skip_expr-value-requires : goal.span_at-skip_expr-value-requires
span_at-skip_expr-value-requires t c = some_target _ _ c.in-33.is c.requires

pub span_at-skip_expr-end-requires : goal.span_at-skip_expr-end-requires
span_at-skip_expr-end-requires t c = some_value _ _ c.in-33.is _ c.skip_expr-value.ensures c.requires

pub span_at-bounds-code-at-in-34 : goal.span_at-bounds-code-at-in-34
span_at-bounds-code-at-in-34 t c = seq_second _ _ c.in-34.is c.requires

pub span_at-span_all-requires : goal.span_at-span_all-requires
span_at-span_all-requires t c = let p = c.requires in
    (omega (arith, c.decreases, seq_second _ _ c.in-34.is p), some_all _ _ c.in-34.is _ c.from.ensures p)

pub span_at-overflow_add-at-in_default : goal.span_at-overflow_add-at-in_default
span_at-overflow_add-at-in_default t c = omega (arith, some_within _ c.requires)

pub span_at-skip_expr-body-requires : goal.span_at-skip_expr-body-requires
span_at-skip_expr-body-requires t c = (while_guard c.args.code.now c.args.at (omega arith) (omega arith) (omega arith) (omega arith) 0 c.requires).0

pub span_at-span_at-inner-requires : goal.span_at-span_at-inner-requires
span_at-span_at-inner-requires t c = let p = c.requires in
    let g = (while_guard c.args.code.now c.args.at (omega arith) (omega arith) (omega arith) (omega arith) _ p).1 c.skip_expr-body.ensures in
    (omega (arith, c.decreases, g.1, some_within _ p), g.0)

pub span_at-overflow_add-result-in_default : goal.span_at-overflow_add-result-in_default
span_at-overflow_add-result-in_default t c = let b = span_within _ _ _ _ (while_span c.args.code.now c.args.at (omega arith) (omega arith) (omega arith) (omega arith) _ c.skip_expr-body.ensures _ _ c.span_at-inner.ensures) c.requires in
    omega (arith, b.0, b.1)

pub span_at-overflow_add-result-in_default-2 : goal.span_at-overflow_add-result-in_default-2
span_at-overflow_add-result-in_default-2 t c = let b = span_within _ _ _ _ (while_span c.args.code.now c.args.at (omega arith) (omega arith) (omega arith) (omega arith) _ c.skip_expr-body.ensures _ _ c.span_at-inner.ensures) c.requires in
    omega (arith, b.0, b.1)

pub span_at-returns-in-32 : goal.span_at-returns-in-32
span_at-returns-in-32 t c = skip_span _ _ c.in-32.is

pub span_at-returns-in-33 : goal.span_at-returns-in-33
span_at-returns-in-33 t c = assign_span _ _ c.in-33.is _ _ c.skip_expr-value.ensures c.skip_expr-end.ensures

pub span_at-returns-in-34 : goal.span_at-returns-in-34
span_at-returns-in-34 t c = seq_span _ _ c.in-34.is _ _ _ c.from.ensures c.span_all.ensures

pub span_at-returns-in_default : goal.span_at-returns-in_default
span_at-returns-in_default t c = while_span c.args.code.now c.args.at (omega arith) (omega arith) (omega arith) (omega arith) _ c.skip_expr-body.ensures _ _ c.span_at-inner.ensures

pub span_if-skip_expr-part-requires : goal.span_if-skip_expr-part-requires
span_if-skip_expr-part-requires t c = let p = c.requires in (if_guard _ _ p.1 0 p.0).0

pub span_if-span_at-first-requires : goal.span_if-span_at-first-requires
span_if-span_at-first-requires t c = let p = c.requires in
    let g = (if_guard _ _ p.1 _ p.0).1 c.skip_expr-part.ensures in
    (omega (arith, c.decreases, g.1, some_within _ p.0), g.0)

pub span_if-span_at-second-requires : goal.span_if-span_at-second-requires
span_if-span_at-second-requires t c = let p = c.requires in
    let g = (if_guard _ _ p.1 _ p.0).1 c.skip_expr-part.ensures in
    let e = some_else _ _ p.1 _ c.skip_expr-part.ensures _ _ c.span_at-first.ensures p.0 in
    (omega (arith, c.decreases, g.1, e.1, some_within _ p.0), e.0)

pub span_if-overflow_add-result : goal.span_if-overflow_add-result
span_if-overflow_add-result t c = let p = c.requires in
    let g = (if_guard _ _ p.1 _ p.0).1 c.skip_expr-part.ensures in
    let b = span_within _ _ _ _ c.span_at-first.ensures g.0 in
    omega (arith, b.0, b.1)

pub span_if-overflow_add-result-2 : goal.span_if-overflow_add-result-2
span_if-overflow_add-result-2 t c = let p = c.requires in
    let b = span_within _ _ _ _ (if_span _ _ p.1 _ c.skip_expr-part.ensures _ _ c.span_at-first.ensures _ _ _ c.span_at-second.ensures c.jump_rows.ensures) p.0 in
    omega (arith, b.0, b.1)

pub span_if-overflow_add-result-3 : goal.span_if-overflow_add-result-3
span_if-overflow_add-result-3 t c = let p = c.requires in
    let b = span_within _ _ _ _ (if_span _ _ p.1 _ c.skip_expr-part.ensures _ _ c.span_at-first.ensures _ _ _ c.span_at-second.ensures c.jump_rows.ensures) p.0 in
    omega (arith, b.0, b.1)

pub span_if-returns : goal.span_if-returns
span_if-returns t c = let p = c.requires in
    if_span _ _ p.1 _ c.skip_expr-part.ensures _ _ c.span_at-first.ensures _ _ _ c.span_at-second.ensures c.jump_rows.ensures
