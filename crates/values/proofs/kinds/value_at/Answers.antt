use Rattle.std.proofs.Common.{◌∙◌, arith, ◌+◌}
use Rattle.values.specs.Value.{payload_width, value_at}
use Rattle.values.proofs.BytesNumbers.{number_of_part}
use Rattle.values.proofs.kinds.value_at.Goals as goal

pub returns : goal.returns
unfolding value_at
returns c =
    rw (c.number_in.ensures ∙ number_of_part c.args.s.now (c.args.at + 1) _ payload_width (omega arith) (omega arith) (λ h. omega arith))
