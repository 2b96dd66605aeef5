use native.Mathlib.Omega.{arith}
use Rattle.lines.specs.PutText.{text_room}
use Rattle.lines.proofs.PutText.{written_then, written_as}
use Rattle.lines.proofs.Lines.{refused, finished}
use Rattle.lines.proofs.putting.Writer.put_lines.Goals as goal

pub returns-then-a-eq-FINISHED : goal.returns-then-a-eq-FINISHED
returns-then-a-eq-FINISHED c =
    let a = c.args in
    written_as text_room (finished a.a a.sheet.now a.slots a.out.now c.if-a-eq-FINISHED.true) (omega (arith, c.requires.0))
    (written_then (written_then c.put_answer.ensures c.put_slots.ensures) c.put_total.ensures)

pub returns-else-a-eq-FINISHED : goal.returns-else-a-eq-FINISHED
returns-else-a-eq-FINISHED c =
    let a = c.args in
    written_as text_room (refused a.a a.sheet.now a.slots a.out.now c.if-a-eq-FINISHED.false) (omega arith) c.put_answer.ensures
