use mathlib.Core.Path.{◌∙◌}
use native.Mathlib.Omega.{arith}
use Rattle.lines.specs.PutText.{text_room}
use Rattle.lines.proofs.PutText.{put_as}
use Rattle.lines.proofs.Lines.{same_lines}
use Rattle.printing.specs.PrintedText.{lent}
use Rattle.printing.proofs.PrintedText.{part_lent, run_lines}
use Rattle.printing.proofs.Request.print.Goals as goal

pub returns : goal.returns
unfolding lent
returns c =
    let r = c.args.self.now in
    let m = c.slots_of-slots in
    let e = c.run_lent-a.ensures in
    put_as text_room
    (same_lines r.store.now m.result e.0 e.1 ∙ run_lines _ _ r.store.now r.programme.now _ m.result m.ensures.0 (part_lent m.result m.ensures.1))
    (omega arith)
    c.put_lines.ensures
