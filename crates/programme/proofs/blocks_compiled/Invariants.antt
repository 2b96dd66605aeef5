use Rattle.programme.proofs.CompiledSheetBlocks.{Compiling}
use Rattle.programme.proofs.blocks_compiled.Given as goal

-- The invariant: what the blocks left leave, all leave.
abbrev pub invariant-loop-i : goal.invariant-loop-i
invariant-loop-i l = Compiling l.slots l.sheet l.k l.initial.tables l.i l.start l.row l.operand l.tables
