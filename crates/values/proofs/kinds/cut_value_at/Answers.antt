use Rattle.std.proofs.Common.{ℕ, ap₂, ◌∙◌, ◌+◌, arith}
use lib.ListN.{get_or-eq_default}
use Rattle.std.proofs.lemmas.Grind.{get_or_default_zero}
use Rattle.values.specs.Value.{payload_width, value_at}
use Rattle.values.proofs.BytesNumbers.{number_past, number_of_part}
use Rattle.values.proofs.kinds.cut_value_at.Goals as goal

pub returns-in-Some : goal.returns-in-Some
unfolding value_at
returns-in-Some c =
    let s = c.args.s.now in
    ap₂ (λ (k p : ℕ). record { kind = k; payload = p }) (c.in-Some.ensures.lookup.1 ∙ get_or_default_zero s c.args.at _ (grind arith))
    (c.number_in.ensures ∙ number_of_part s (c.args.at + 1) _ payload_width (grind arith) (omega arith) (λ h. omega arith))

pub returns-in-None : goal.returns-in-None
unfolding value_at
returns-in-None c =
    let s = c.args.s.now in
    rw (get_or-eq_default s 0 {n = c.args.at} (grind arith), number_past s payload_width (c.args.at + 1) (grind arith))
