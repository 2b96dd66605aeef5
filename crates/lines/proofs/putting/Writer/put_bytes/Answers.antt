use Rattle.std.proofs.Common.{arith, refl, ap, ◌∙◌, ◌+◌, ◌-◌, length}
use Rattle.std.proofs.Math.Seq.{length-sets}
use Rattle.lines.proofs.PutText.{copied}
use Rattle.lines.proofs.putting.Writer.put_bytes.Goals as goal

pub returns : goal.returns
returns c =
    let w = c.args.self.now in
    let bytes = c.args.bytes.now in
    let h = copied w.text.now bytes c.copy_from_slice.new.self w.end (w.end + length bytes - w.end) c.requires (omega arith) c.copy_from_slice.ensures.after in
    record { same = refl; kept = ap length h ∙ length-sets w.text.now w.end bytes; put = record { ends = refl; within = omega arith; holds = h } }
