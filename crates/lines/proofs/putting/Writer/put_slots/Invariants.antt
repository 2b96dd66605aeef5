use Rattle.std.proofs.Common.{◌*◌}
use Rattle.lines.specs.Lines.{slot_lines}
use Rattle.lines.specs.PutText.{slot_room}
use Rattle.lines.specs.Written.{Written}
use Rattle.lines.proofs.putting.Writer.put_slots.Given as goal

-- the lines of the slots so far
abbrev pub invariant-loop-i : goal.invariant-loop-i
invariant-loop-i l = Written l.initial.self (slot_lines l.sheet l.out 0 l.i) (slot_room * l.i) l.self
