use native.Mathlib.Omega.{arith}
use Rattle.paths.proofs.CodeLayout.{some_within}
use Rattle.paths.proofs.CodeExtents.{seq_second, while_guard}
use Rattle.paths.proofs.CodeParts.{seq_can, seq_inside, seq_nowhere, body_inside, while_nowhere, other_nowhere}
use Rattle.paths.proofs.walking.child_at.Goals as goal

pub bounds-code-at : goal.bounds-code-at
bounds-code-at c = some_within _ c.requires

pub bounds-code-at-in-34-1 : goal.bounds-code-at-in-34-1
bounds-code-at-in-34-1 c = seq_second _ _ c.in-34.is c.requires

pub span_all-before-requires : goal.span_all-before-requires
span_all-before-requires c = seq_can _ _ _ c.in-34.is (omega (arith, c.if-k-from.true, c.from.ensures)) c.requires

pub skip_expr-requires : goal.skip_expr-requires
skip_expr-requires c =
    let b = c.in-36.is in
    (while_guard _ _ (λ e. omega (arith, b)) (λ e. omega (arith, b)) (λ e. omega (arith, b)) (λ e. omega (arith, b)) 0 c.requires).0

pub returns-in-34 : goal.returns-in-34
returns-in-34 c = seq_inside _ _ _ c.in-34.is _ _ (omega (arith, c.if-k-from.true, c.from.ensures)) c.span_all-before.ensures

pub returns-in-36 : goal.returns-in-36
returns-in-36 c = body_inside _ _ _ c.in-36.is _ c.skip_expr.ensures (omega arith)

pub returns-in_default : goal.returns-in_default
returns-in_default c = seq_nowhere _ _ _ c.in-34.is (omega (arith, c.if-k-from.false, c.from.ensures))

pub returns-in_default-2 : goal.returns-in_default-2
returns-in_default-2 c = while_nowhere _ _ _ c.in-36.is c.if-k-eq0.false

pub returns-in_default-3 : goal.returns-in_default-3
returns-in_default-3 c = other_nowhere c.args.code.now c.args.at c.args.k (omega arith) (omega arith) (omega arith)
