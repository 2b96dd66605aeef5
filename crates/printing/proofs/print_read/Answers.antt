use Rattle.values.specs.Refusal.{number}
use mathlib.Core.Path.{ap, ◌∙◌}
use native.Mathlib.Omega.{arith}
use Rattle.lines.specs.Lines.{answer_line}
use Rattle.lines.specs.PutText.{text_room}
use Rattle.lines.proofs.PutText.{put_as}
use Rattle.printing.proofs.PrintedText.{no_head, with_head}
use Rattle.printing.proofs.print_read.Goals as goal

pub returns-in-Some : goal.returns-in-Some
returns-in-Some c = put_as text_room (with_head _ _ c.in-Some.ensures) (omega arith) c.print.ensures

pub returns-in-None : goal.returns-in-None
unfolding number
returns-in-None c = put_as text_room (ap answer_line c.from.ensures ∙ no_head _ c.in-None.ensures) (omega arith) c.put_answer.ensures
