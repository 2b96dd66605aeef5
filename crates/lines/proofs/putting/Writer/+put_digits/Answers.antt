use Rattle.std.proofs.Common.{ℕ, suc, ◌-◌, ◌≡◌, arith}
use Rattle.lines.proofs.PutText.{digits_none, digits_one, digits_more}
use Rattle.lines.proofs.putting.Writer.+put_digits.Goals as goal

one_less : (places : ℕ) → (places ≡ 0 → ⊥) → places ≡ suc (places - 1)
one_less places h = omega arith

pub returns-then-places-eq0 : goal.returns-then-places-eq0
returns-then-places-eq0 t c = digits_none _ _ _ c.if-places-eq0.true

pub returns-then-n-lt10 : goal.returns-then-n-lt10
returns-then-n-lt10 t c = digits_one _ _ _ (one_less _ c.if-places-eq0.false) c.if-n-lt10.true c.put_digit.ensures

pub returns : goal.returns
returns t c = digits_more _ _ _ (one_less _ c.if-places-eq0.false) c.if-n-lt10.false c.put_digits.ensures c.put_digit-2.ensures
