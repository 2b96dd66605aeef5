use Prim.Native.Nat.{◌-◌}
use Rattle.syntax.specs.Rows.{most_operands}
use Rattle.machine.specs.MachineContracts.{grounds_of}
use Rattle.machine.proofs.FoldLoop.{Turn}
use Rattle.machine.proofs.slots.Grounds.fold.Given as goal

-- The values that wait are held in an array, and the last value is in hand; what every turn knows is `Turn`. The measure is the operands to come.
abbrev pub invariant-loop-operand : goal.invariant-loop-operand
invariant-loop-operand l =
    Turn (grounds_of l.self) l.self.tables.now.operands l.from l.initial.last l.stack l.waiting l.last l.o

abbrev pub decreases-loop-operand : goal.decreases-loop-operand
decreases-loop-operand l = most_operands - l.o
