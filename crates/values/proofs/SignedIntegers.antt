-- Proves `signed_integers`: integers are signed, of 64 bits, in two's complement. Laws of `negative` and `magnitude`. Assumes nothing.
use Rattle.std.proofs.Common.{◌≡◌, ◌-◌, ◌<◌, ◌≤◌, Bool, true, false, leb, sym, refl, ◌∙◌, arith, eq-eqb, ne_eqb, leb-false, leb-true}
use Rattle.lattice.specs.Tests.{◌and◌}
use Rattle.lattice.proofs.Tests.{and_r}
use Rattle.values.specs.declared.Value.{Value}
use Rattle.values.specs.Value.{integer}
use Rattle.values.specs.SignedIntegers.{payloads, least_negative, negative, magnitude, AnInteger, SignedIntegers}

module _ (v : Value) where
  pub signed : v.kind ≡ integer → leb least_negative v.payload ≡ negative v
  unfolding negative ◌and◌
  signed h = rw (eq-eqb v.kind integer h)

  pub unsigned : (v.kind ≡ integer → ⊥) → false ≡ negative v
  unfolding negative ◌and◌
  unsigned h = rw (ne_eqb v.kind integer h)

  pub plain : negative v ≡ false → v.payload ≡ magnitude v
  unfolding magnitude
  plain h = rw (magnitude, h)

  pub flipped : negative v ≡ true → payloads - v.payload ≡ magnitude v
  unfolding magnitude
  flipped h = rw (magnitude, h)

  pub from_least : negative v ≡ true → least_negative ≤ v.payload
  unfolding negative
  from_least h = leb-true _ _ (and_r _ _ h)

  pub below_least : v.kind ≡ integer → negative v ≡ false → v.payload < least_negative
  below_least k h = leb-false _ _ (signed k ∙ h)

-- the payload that a sign and a number stand for
payload_of_law : (u v : Value) → AnInteger u → AnInteger v → (b : Bool) → negative u ≡ b → negative v ≡ b → magnitude u ≡ magnitude v
    → u.payload ≡ v.payload
payload_of_law u v i j true p q e = omega (arith, flipped u p, flipped v q, i.fits, j.fits)
payload_of_law u v i j false p q e = plain u p ∙ e ∙ sym (plain v q)

pub signed_integers : SignedIntegers
signed_integers =
    record {
      complement = λ v i h. omega (arith, flipped v h, i.fits);
      itself = λ v i h. sym (plain v h);
      below = λ v i h. (omega (arith, flipped v h, i.fits), omega (arith, flipped v h, from_least v h));
      above = λ v i h. omega (arith, plain v h, below_least v i.kind h);
      apart = λ u v i j p e. payload_of_law u v i j (negative v) p refl e;
    }
