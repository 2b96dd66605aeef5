use Rattle.std.proofs.Common.{sym, ◌∙◌, arith}
use Rattle.std.proofs.lemmas.List.{take_rest}
use Rattle.values.proofs.BytesNumbers.{number_of_part, number_past}
use Rattle.values.proofs.number.number_at.Goals as goal

pub returns-in-Some : goal.returns-in-Some
returns-in-Some c =
    let s = c.args.s.now in
    let found = c.in-Some.ensures.lookup.0 in
    c.number_in.ensures
    ∙ rw (found.2 ∙ take_rest s c.args.at)
    (number_of_part s c.args.at _ _ (omega (arith, found.3)) (omega (arith, found.3)) (λ h. omega (arith, found.3)))

pub returns-in-None : goal.returns-in-None
returns-in-None c = sym (number_past _ _ _ (grind arith))
