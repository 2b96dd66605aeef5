use Prim.Native.Nat.{◌<◌}
use mathlib.Core.Path.{refl}
use native.Mathlib.Omega.{arith}
use Rattle.values.specs.Refusal.{number}
use Rattle.syntax.specs.Code.{most_nested}
use Rattle.syntax.specs.Rows.{most_operands}
use Rattle.machine.proofs.Exits.{exit}
use Rattle.machine.proofs.FoldLoop.{can_read, turn_first, turn_inside, some_literal, some_room, turn_barred, turn_literal, some_wait, turn_refused, turn_read, turn_last, turn_operation}
use Rattle.machine.proofs.slots.Grounds.fold.Goals as goal
use Rattle.machine.proofs.slots.Grounds.fold.Goals.{At-loop-operand, In_ok-x, then-operand-lt-KINDS+in_ok-x, else-operand-lt-KINDS+in_ok-x-2+in-128}

pub loop-operand-init : goal.loop-operand-init
loop-operand-init c = turn_first refl

within : (c : At-loop-operand) → c.loop-operand.o < most_operands
within c = turn_inside c.loop-operand.invariant c.requires

pub bounds-self-o : goal.bounds-self-o
bounds-self-o c = within (goal.at.bounds-self-o c).At-loop-operand

-- A literal comes
pub read_through-requires : goal.read_through-requires
read_through-requires c = (can_read c.requires, some_literal c.loop-operand.invariant c.if-operand-lt-KINDS.true c.requires)

pub returns-in_err-x : goal.returns-in_err-x
returns-in_err-x c = rw (exit _ c.from_residual.ensures.1) (turn_barred c.loop-operand.invariant c.if-operand-lt-KINDS.true c.in_err-x.ensures)

room : (c : In_ok-x) → c.loop-operand.waiting < most_nested
room c = some_room c.loop-operand.invariant c.if-operand-lt-KINDS.true c.requires

pub bounds-stack-waiting : goal.bounds-stack-waiting
bounds-stack-waiting c = room c

-- An operation comes
pub overflow_sub-waiting : goal.overflow_sub-waiting
overflow_sub-waiting c = some_wait c.loop-operand.invariant c.if-operand-lt-KINDS.false c.requires

pub bounds-stack-waiting-else-operand-lt-KINDS : goal.bounds-stack-waiting-else-operand-lt-KINDS
bounds-stack-waiting-else-operand-lt-KINDS c = omega (arith, some_wait c.loop-operand.invariant c.if-operand-lt-KINDS.false c.requires, c.loop-operand.invariant.few)

pub returns-in_err-x-2 : goal.returns-in_err-x-2
returns-in_err-x-2 c =
    rw (exit _ c.from_residual-in_err-x-2.ensures.1) (turn_refused c.loop-operand.invariant c.if-operand-lt-KINDS.false _ refl c.in_err-x-2.ensures)

pub returns-in-0 : goal.returns-in-0
returns-in-0 c = turn_last c.loop-operand.invariant c.if-operand-lt-KINDS.false _ refl _ c.in_ok-x-2.ensures c.in-0.is

pub returns-in_default : goal.returns-in_default
unfolding number
returns-in_default c = turn_read c.loop-operand.invariant c.if-operand-lt-KINDS.false _ refl _ c.in_ok-x-2.ensures (λ i. omega arith) (λ i. omega arith)

pub loop-operand-preserved : goal.loop-operand-preserved
loop-operand-preserved c =
    (elim c.if-operand-lt-KINDS.branch [
      | then-operand-lt-KINDS+in_ok-x k ↦ rw (k.stack-is, k.waiting-is, k.last-is)
          (turn_literal c.loop-operand.invariant k.if-operand-lt-KINDS.true k.in_ok-x.x k.in_ok-x.ensures c.requires)
      | else-operand-lt-KINDS+in_ok-x-2+in-128 k ↦ rw (k.stack-is, k.waiting-is, k.last-is)
          (turn_operation c.loop-operand.invariant k.if-operand-lt-KINDS.false _ refl k.in_ok-x-2.x k.in_ok-x-2.ensures k.in-128.is)
    ])
