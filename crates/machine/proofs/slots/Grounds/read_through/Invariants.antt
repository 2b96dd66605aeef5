use Prim.Native.Nat.{ℕ, ◌%◌}
use Rattle.values.specs.declared.Value.{Value}
use Rattle.syntax.specs.Syntax.{literal}
use Rattle.syntax.specs.Rows.{more_come}
use Rattle.calculus.specs.Calculus.{Setting, Store, eval}
use Rattle.machine.specs.CompiledExpressions.{LiteralAt, read_times}
use Rattle.machine.specs.MachineContracts.{grounds_of, Behind}
use Rattle.machine.proofs.LiteralReads.{Ready}
use Rattle.machine.proofs.slots.Grounds.read_through.Given as goal

abbrev pub invariant-loop-o : goal.invariant-loop-o
invariant-loop-o l =
    (w : Setting) (s : Store) (v : Value) (reads : ℕ) → Behind (grounds_of l.self) w s → LiteralAt l.self.tables.now.operands l.o v reads
    → Ready w s l.kind l.payload l.label l.left (read_times w s (reads % more_come) (eval w s (literal v)))

abbrev pub decreases-loop-o : goal.decreases-loop-o
decreases-loop-o l = l.left
