use native.Mathlib.Omega.{arith}
use mathlib.Core.Path.{◌∙◌}
use Rattle.paths.proofs.CodeLayout.{some_within}
use Rattle.paths.proofs.CodeExtents.{some_all, seq_second, span_within, left_some, left_on, left_bound}
use Rattle.paths.proofs.CodeBlanks.{skip_blank, seq_blank, other_blank, blank_skips, left_some_rows, left_no_rows}
use Rattle.paths.proofs.walking.+blank_all_blank_end.Goals as goal

pub blank_all-blank_end-requires : goal.blank_all-blank_end-requires
blank_all-blank_end-requires t c = let p = c.requires in
    let i = c.loop.invariant in
    let l = i.1 p.end p.total p.left in
    let b = left_bound _ _ _ _ _ _ l in
    (omega (arith, c.decreases, i.0, b.0, b.1), left_some _ _ _ _ _ _ (omega arith) l)

pub blank_all-returns-in_err-end : goal.blank_all-returns-in_err-end
blank_all-returns-in_err-end t c end total h = c.from_residual.ensures ∙ left_some_rows _ _ _ _ _ (omega arith) c.in_err-end.ensures (c.loop.invariant.1 end total h)

pub blank_all-loop-preserved : goal.blank_all-loop-preserved
blank_all-loop-preserved t c = let p = c.requires in
    let i = c.loop.invariant in
    let f = blank_skips _ _ _ c.in_ok-end.ensures in
    let s = left_some _ _ _ _ _ _ (omega arith) (i.1 p.end p.total p.left) in
    (omega (arith, i.0, (span_within _ _ _ _ f s).0), λ end total h. left_on _ _ _ _ _ _ _ _ _ (omega arith) f (i.1 end total h))

pub blank_all-returns : goal.blank_all-returns
blank_all-returns t c end total h = left_no_rows _ _ _ _ _ (omega arith) (c.loop.invariant.1 end total h)

pub blank_end-bounds-code-at : goal.blank_end-bounds-code-at
blank_end-bounds-code-at t c = some_within _ c.requires

pub blank_end-bounds-code-at-in-34 : goal.blank_end-bounds-code-at-in-34
blank_end-bounds-code-at-in-34 t c = seq_second _ _ c.in-34.is c.requires

pub blank_end-blank_all-requires : goal.blank_end-blank_all-requires
blank_end-blank_all-requires t c = let p = c.requires in
    (omega (arith, c.decreases, seq_second _ _ c.in-34.is p), some_all _ _ c.in-34.is _ c.from.ensures p)

pub blank_end-returns-in-32 : goal.blank_end-returns-in-32
blank_end-returns-in-32 t c = skip_blank _ _ c.in-32.is

pub blank_end-returns-in-34 : goal.blank_end-returns-in-34
blank_end-returns-in-34 t c = seq_blank _ _ _ _ c.in-34.is c.from.ensures c.blank_all.ensures

pub blank_end-returns-in_default : goal.blank_end-returns-in_default
blank_end-returns-in_default t c = other_blank c.args.code.now c.args.at (omega arith) (omega arith)
