use mathlib.Core.Path.{refl, ap, ◌∙◌}
use native.Mathlib.Omega.{arith}
use lib.ListN.{length}
use Rattle.paths.proofs.CodeLayout.{some_within}
use Rattle.paths.proofs.CodeExtents.{seq_span, seq_second, if_guard, if_span, span_within, left_none}
use Rattle.paths.proofs.TraceSearch.{seeks_few, rows_within, search_here, search_written, search_has}
use Rattle.paths.proofs.TraceBranches.{stands, branches, elsewhere, body_guard, inner, further_on, if_here, while_here, other_here}
use Rattle.paths.proofs.TraceSequence.{rest_all, rest_next, rest_none, left_first, left_next}
use Rattle.paths.proofs.trail.Trail.+trace.Goals as goal

pub trace-bounds-self-s : goal.trace-bounds-self-s
trace-bounds-self-s t c = some_within _ (stands c.requires.seeks)

pub trace-returns-then-s-next : goal.trace-returns-then-s-next
trace-returns-then-s-next t c x s = let y = c.span_at-next.ensures x s.sits.end s.sits.lies in
    search_here _ _ _ s (omega (arith, y.1)) (other_here c.args.self.now.code.now c.args.s.at c.args.s.row c.args.s.len (omega arith) (omega arith) (omega arith) _ _ x s)

pub trace_all-bounds-self-s : goal.trace_all-bounds-self-s
trace_all-bounds-self-s t c = let p = c.requires in seq_second _ _ p.1 (stands p.0.seeks)

pub trace_all-loop-child-init : goal.trace_all-loop-child-init
trace_all-loop-child-init t c = let p = c.requires in (omega arith, omega arith, refl, λ end total h. left_first _ _ _ _ _ _ h, λ x s. rest_all _ _ _ _ _ p.1 refl x s)

pub trace_all-trace_child-requires : goal.trace_all-trace_child-requires
trace_all-trace_child-requires t c = let p = c.requires in
    let q = p.0 in
    let i = c.loop-child.invariant in
    let r = rest_next _ c.loop-child-test.true (i.4 q.command q.seeks) in (
      omega (arith, c.decreases, i.0, some_within _ (stands q.seeks)),
      record { command = r.first; seeks = r.seeks; sheet_size = ap length i.2 ∙ q.sheet_size; deep = omega (arith, q.deep) },
    )

pub trace_all-returns-in_err-next : goal.trace_all-returns-in_err-next
trace_all-returns-in_err-next t c x s = let i = c.loop-child.invariant in
    let r = rest_next _ c.loop-child-test.true (i.4 x s) in
    rw c.from_residual.ensures (search_has _ _ i.2 (c.in_err-next.ensures r.first r.seeks) (r.has _))

pub trace_all-overflow_sub-row : goal.trace_all-overflow_sub-row
trace_all-overflow_sub-row t c = let p = c.requires.0 in
    let r = rest_next _ c.loop-child-test.true (c.loop-child.invariant.4 p.command p.seeks) in
    rows_within (c.in_ok-next.ensures r.first r.seeks) r.seeks

pub trace_all-loop-child-preserved : goal.trace_all-loop-child-preserved
trace_all-loop-child-preserved t c = let p = c.requires.0 in
    let i = c.loop-child.invariant in
    let more = c.loop-child-test.true in
    let r = rest_next _ more (i.4 p.command p.seeks) in
    let q = c.in_ok-next.ensures r.first r.seeks in (
      omega (arith, i.0, (span_within _ _ _ _ q.skips (stands r.seeks)).0),
      omega (arith, i.1),
      q.same ∙ i.2,
      λ end total h. left_next _ _ _ _ _ _ _ _ _ _ more (rows_within q r.seeks) i.1 q.skips (i.3 end total h),
      λ x s. let n = rest_next _ more (i.4 x s) in n.on _ _ q.skips (c.in_ok-next.ensures n.first n.seeks).past,
    )

pub trace_all-returns : goal.trace_all-returns
trace_all-returns t c x s = let i = c.loop-child.invariant in
    record {
      skips = seq_span _ _ c.requires.1 _ _ _ refl (λ end total h. left_none _ _ _ _ _ _ (omega arith) (i.3 end total h));
      past = rest_none _ (omega arith) (i.4 x s);
      same = i.2;
    }

pub trace_child-overflow_add-inside : goal.trace_child-overflow_add-inside
trace_child-overflow_add-inside t c = omega (arith, seeks_few c.requires.seeks)

pub trace_child-returns-in-Break : goal.trace_child-returns-in-Break
trace_child-returns-in-Break t c x s = search_written _ _ _ (c.in-Break.ensures x s) c.write_entry.ensures

pub trace_if-returns-then-s-eq0 : goal.trace_if-returns-then-s-eq0
trace_if-returns-then-s-eq0 t c x s = let h = if_here _ _ _ _ c.requires.1 c.if-s-eq0.true _ _ x s in search_here _ _ _ s h.0 h.1

pub trace_if-skip_expr-requires : goal.trace_if-skip_expr-requires
trace_if-skip_expr-requires t c = let p = c.requires in (if_guard _ _ p.1 0 (stands p.0.seeks)).0

pub trace_if-overflow_add-then : goal.trace_if-overflow_add-then
trace_if-overflow_add-then t c = let p = c.requires.0 in omega (arith, p.deep, seeks_few p.seeks)

pub trace_if-trace_child-requires : goal.trace_if-trace_child-requires
trace_if-trace_child-requires t c = let p = c.requires in
    let o = p.0 in
    let v = branches _ _ _ _ _ p.1 c.if-s-eq0.false c.skip_expr.ensures o.command o.seeks in
    let g = (if_guard _ _ p.1 _ (stands o.seeks)).1 c.skip_expr.ensures in (
      omega (arith, c.decreases, g.1, some_within _ (stands o.seeks)),
      record { command = v.first; seeks = v.seeks; sheet_size = o.sheet_size; deep = omega (arith, o.deep) },
    )

pub trace_if-returns-in_err-first : goal.trace_if-returns-in_err-first
trace_if-returns-in_err-first t c x s = let v = branches _ _ _ _ _ c.requires.1 c.if-s-eq0.false c.skip_expr.ensures x s in
    rw c.from_residual.ensures (search_has _ _ refl (c.in_err-first.ensures v.first v.seeks) (v.has _))

pub trace_if-overflow_add-first : goal.trace_if-overflow_add-first
trace_if-overflow_add-first t c = let p = c.requires in
    let q = elsewhere _ _ _ _ _ p.1 c.if-s-eq0.false c.skip_expr.ensures c.in_ok-first.ensures p.0.command p.0.seeks in
    omega (arith, q.after, q.on, q.within)

pub trace_if-trace_child-requires-2 : goal.trace_if-trace_child-requires-2
trace_if-trace_child-requires-2 t c = let p = c.requires in
    let q = elsewhere _ _ _ _ _ p.1 c.if-s-eq0.false c.skip_expr.ensures c.in_ok-first.ensures p.0.command p.0.seeks in (
      omega (arith, c.decreases, q.after, q.on, q.within),
      record { command = q.second; seeks = q.seeks _ c.saturating_sub.ensures; sheet_size = ap length q.same ∙ p.0.sheet_size; deep = omega (arith, p.0.deep) },
    )

pub trace_if-returns-in_err-second : goal.trace_if-returns-in_err-second
trace_if-returns-in_err-second t c x s = let p = c.requires in
    let q = elsewhere _ _ _ _ _ p.1 c.if-s-eq0.false c.skip_expr.ensures c.in_ok-first.ensures x s in
    rw c.from_residual-in_err-second.ensures
    (search_has _ _ q.same (c.in_err-second.ensures q.second (q.seeks _ c.saturating_sub.ensures)) (q.has _ c.saturating_sub.ensures _))

pub trace_if-overflow_add-result : goal.trace_if-overflow_add-result
trace_if-overflow_add-result t c = let p = c.requires in
    let q = elsewhere _ _ _ _ _ p.1 c.if-s-eq0.false c.skip_expr.ensures c.in_ok-first.ensures p.0.command p.0.seeks in
    omega (arith, q.after, q.on, q.within)

pub trace_if-overflow_add-result-2 : goal.trace_if-overflow_add-result-2
trace_if-overflow_add-result-2 t c = let p = c.requires in
    let q = elsewhere _ _ _ _ _ p.1 c.if-s-eq0.false c.skip_expr.ensures c.in_ok-first.ensures p.0.command p.0.seeks in
    let z = c.in_ok-second.ensures q.second (q.seeks _ c.saturating_sub.ensures) in
    let w = span_within _ _ _ _ (if_span _ _ p.1 _ c.skip_expr.ensures _ _ q.skips _ _ _ z.skips c.jump_rows.ensures) (stands p.0.seeks) in
    omega (arith, w.0, w.1)

pub trace_if-overflow_add-result-3 : goal.trace_if-overflow_add-result-3
trace_if-overflow_add-result-3 t c = let p = c.requires in
    let q = elsewhere _ _ _ _ _ p.1 c.if-s-eq0.false c.skip_expr.ensures c.in_ok-first.ensures p.0.command p.0.seeks in
    let z = c.in_ok-second.ensures q.second (q.seeks _ c.saturating_sub.ensures) in
    let w = span_within _ _ _ _ (if_span _ _ p.1 _ c.skip_expr.ensures _ _ q.skips _ _ _ z.skips c.jump_rows.ensures) (stands p.0.seeks) in
    omega (arith, w.0, w.1)

pub trace_if-returns : goal.trace_if-returns
trace_if-returns t c x s = let p = c.requires in
    let q = elsewhere _ _ _ _ _ p.1 c.if-s-eq0.false c.skip_expr.ensures c.in_ok-first.ensures x s in
    let z = c.in_ok-second.ensures q.second (q.seeks _ c.saturating_sub.ensures) in
    record {
      skips = if_span _ _ p.1 _ c.skip_expr.ensures _ _ q.skips _ _ _ z.skips c.jump_rows.ensures;
      past = q.past _ c.saturating_sub.ensures z.past;
      same = z.same ∙ q.same;
    }

pub trace_while-returns-then-s-eq0 : goal.trace_while-returns-then-s-eq0
trace_while-returns-then-s-eq0 t c x s = let h = while_here _ _ _ _ c.requires.1 c.if-s-eq0.true _ _ x s in search_here _ _ _ s h.0 h.1

pub trace_while-skip_expr-requires : goal.trace_while-skip_expr-requires
trace_while-skip_expr-requires t c = let p = c.requires in (body_guard _ _ p.1 0 (stands p.0.seeks)).0

pub trace_while-overflow_add-inside : goal.trace_while-overflow_add-inside
trace_while-overflow_add-inside t c = let p = c.requires.0 in omega (arith, p.deep, seeks_few p.seeks)

pub trace_while-trace_child-requires : goal.trace_while-trace_child-requires
trace_while-trace_child-requires t c = let p = c.requires in
    let o = p.0 in
    let v = inner _ _ _ _ _ p.1 c.if-s-eq0.false c.skip_expr.ensures o.command o.seeks in
    let g = (body_guard _ _ p.1 _ (stands o.seeks)).1 c.skip_expr.ensures in (
      omega (arith, c.decreases, g.1, some_within _ (stands o.seeks)),
      record { command = v.body; seeks = v.seeks; sheet_size = o.sheet_size; deep = omega (arith, o.deep) },
    )

pub trace_while-returns-in_err-body : goal.trace_while-returns-in_err-body
trace_while-returns-in_err-body t c x s = let v = inner _ _ _ _ _ c.requires.1 c.if-s-eq0.false c.skip_expr.ensures x s in
    rw c.from_residual.ensures (search_has _ _ refl (c.in_err-body.ensures v.body v.seeks) (v.has _))

pub trace_while-overflow_add-result : goal.trace_while-overflow_add-result
trace_while-overflow_add-result t c = let p = c.requires in
    let q = further_on _ _ _ _ _ p.1 c.if-s-eq0.false c.skip_expr.ensures c.in_ok-body.ensures p.0.command p.0.seeks in
    let w = span_within _ _ _ _ q.skips (stands p.0.seeks) in
    omega (arith, w.0, w.1)

pub trace_while-overflow_add-result-2 : goal.trace_while-overflow_add-result-2
trace_while-overflow_add-result-2 t c = let p = c.requires in
    let q = further_on _ _ _ _ _ p.1 c.if-s-eq0.false c.skip_expr.ensures c.in_ok-body.ensures p.0.command p.0.seeks in
    let w = span_within _ _ _ _ q.skips (stands p.0.seeks) in
    omega (arith, w.0, w.1)

pub trace_while-returns : goal.trace_while-returns
trace_while-returns t c x s = further_on _ _ _ _ _ c.requires.1 c.if-s-eq0.false c.skip_expr.ensures c.in_ok-body.ensures x s
