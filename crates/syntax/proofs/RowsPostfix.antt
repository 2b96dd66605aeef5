-- Laws of an expression's operands (`postfix`, specs/Rows.antt): how many they are. Assumes nothing.
use Prim.Native.Nat.{ℕ, ◌+◌}
use mathlib.Core.Path.{◌≡◌, refl}
use mathlib.Core.List.{List, [], ◌∷◌, ◌++◌}
use native.Mathlib.Omega.{arith}
use lib.ListN.{length, length-append}
use Rattle.syntax.specs.declared.Operand.{Operand}
use Rattle.syntax.specs.Syntax.{Op, Expr, literal, read, operation}
use Rattle.syntax.specs.Rows.{more_come, operand, byte_of, postfix}

-- an operation's own operand
abbrev pub own : Op → ℕ → List Operand
own o reads = operand (byte_of o) reads 0 ∷ []

-- how many operands an operation has: those of both its parts, and its own
pub operation_length : (o : Op) (l r : Expr) (reads : ℕ)
    → length (postfix reads (operation o l r)) ≡ length (postfix more_come l) + length (postfix more_come r) + 1
unfolding postfix
operation_length o l r reads =
    omega (arith, length-append (postfix more_come l) (postfix more_come r ++ own o reads), length-append (postfix more_come r) (own o reads))

-- the reads around do not count
pub postfix_length : (e : Expr) (reads reads' : ℕ) → length (postfix reads e) ≡ length (postfix reads' e)
unfolding postfix
postfix_length (literal v) reads reads' = refl
postfix_length (read e) reads reads' = postfix_length e (reads + 1) (reads' + 1)
postfix_length (operation o l r) reads reads' = omega (arith, operation_length o l r reads, operation_length o l r reads')
