use native.Mathlib.Omega.{arith}
use Rattle.paths.proofs.CodeExtents.{literal_ends, literal_fits, read_ends, operation_ends, some_left, some_right, some_read, expr_inside}
use Rattle.paths.proofs.walking.+skip_expr.Goals as goal

pub bounds-code-at : goal.bounds-code-at
bounds-code-at t c = expr_inside _ _ c.requires

pub overflow_add-result : goal.overflow_add-result
overflow_add-result t c = omega (arith, literal_fits _ _ c.in-16.is c.requires)

pub skip_expr-requires : goal.skip_expr-requires
skip_expr-requires t c = (omega (arith, c.decreases, expr_inside _ _ c.requires), some_read _ _ c.in-17.is c.requires)

pub overflow_add-at-in_default : goal.overflow_add-at-in_default
overflow_add-at-in_default t c = omega (arith, expr_inside _ _ c.requires)

pub skip_expr-right-requires : goal.skip_expr-right-requires
skip_expr-right-requires t c = (omega (arith, c.decreases, expr_inside _ _ c.requires), some_left c.args.code.now c.args.at (omega arith) (omega arith) c.requires)

pub skip_expr-requires-in_default : goal.skip_expr-requires-in_default
skip_expr-requires-in_default t c = let r = some_right c.args.code.now c.args.at (omega arith) (omega arith) _ c.skip_expr-right.ensures c.requires in
    (omega (arith, c.decreases, expr_inside _ _ c.requires, r.1), r.0)

pub returns-in-16 : goal.returns-in-16
returns-in-16 t c = literal_ends _ _ c.in-16.is

pub returns-in-17 : goal.returns-in-17
returns-in-17 t c = read_ends _ _ _ c.in-17.is c.skip_expr.ensures

pub returns-in_default : goal.returns-in_default
returns-in_default t c = operation_ends c.args.code.now c.args.at (omega arith) (omega arith) _ _ c.skip_expr-right.ensures c.skip_expr-in_default.ensures
