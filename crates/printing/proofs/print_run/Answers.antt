use native.Mathlib.Omega.{arith}
use Rattle.lines.specs.PutText.{text_room}
use Rattle.lines.proofs.PutText.{put_as, begins}
use Rattle.printing.proofs.PrintedText.{first_bytes}
use Rattle.printing.proofs.print_run.Goals as goal

pub returns : goal.returns
returns c = begins (omega arith) (put_as text_room (first_bytes _ _ c.min-size.ensures) (omega arith) c.print_read.ensures)
