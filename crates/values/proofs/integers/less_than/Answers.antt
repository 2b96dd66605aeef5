use Rattle.std.proofs.Common.{◌≡◌, ℕ, ◌<◌, ℤ, ap, ap₂, int_lt, ◌∙◌, arith}
use Rattle.std.proofs.lemmas.Int.{of_z-to_z}
use Rattle.std.specs.Int.{w64, cast_signed, cast_unsigned}
use Rattle.values.specs.SignedIntegers.{payloads}
use Rattle.values.specs.Integers.{signed, less_of}
use Rattle.values.proofs.WrappingIntegers.{cast_is}
use Rattle.values.proofs.integers.less_than.Goals as goal

-- a payload's cast, as it is held, is the integer that the payload means
meant : (p : ℕ) (z : ℤ) → p < payloads → z ≡ cast_signed w64 p → cast_signed w64 (cast_unsigned w64 z) ≡ signed p
meant p z h e = ap (λ (y : ℤ). cast_signed w64 (cast_unsigned w64 y)) e ∙ ap (cast_signed w64) (of_z-to_z w64 p h) ∙ cast_is p h

pub returns : goal.returns
unfolding less_of
returns c = ap₂ int_lt (meant _ _ (omega arith) c.cast_signed.ensures) (meant _ _ (omega arith) c.cast_signed-2.ensures)
