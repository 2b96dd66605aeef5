use mathlib.Core.Path.{sym, ◌∙◌}
use native.Mathlib.Omega.{arith}
use Rattle.lines.proofs.Lines.{with_sign, without_sign}
use Rattle.lines.proofs.putting.Writer.put_payload.Goals as goal

pub returns-then-is_negative : goal.returns-then-is_negative
returns-then-is_negative c =
    with_sign c.args.v _ (sym c.is_negative.ensures ∙ c.if-is_negative.true) c.wrapping_neg.ensures (omega arith) (omega arith) c.put_field.ensures

pub returns-else-is_negative : goal.returns-else-is_negative
returns-else-is_negative c = without_sign c.args.v (sym c.is_negative.ensures ∙ c.if-is_negative.false) c.put_field-else-is_negative.ensures
