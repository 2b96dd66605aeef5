-- Proves `wrapping_integers`: sums and differences of payloads mean those of integers, wrapped; a payload that is cast is the integer that it means. Assumes nothing.
use Rattle.std.proofs.Common.{◌≡◌, ℕ, zero, suc, ◌+◌, ◌-◌, ◌*◌, ◌/◌, ◌<◌, ◌≤◌, Bool, true, false, cond, ltb, leb, ◌⊎◌, ℤ, pos, negsuc, ◌+ℤ◌, ◌-ℤ◌, neg_ℤ, refl, ap, inl, inr, arith, ltb-false, ltb-true, le-ltb, lt-ltb, leb-false, leb-true}
use Rattle.std.specs.Int.{w64, cast_signed}
use lib.Signed.{mag}
use Rattle.values.specs.declared.Value.{Value}
use Rattle.values.specs.SignedIntegers.{payloads, least_negative, negative, magnitude, AnInteger}
use Rattle.values.specs.Integers.{signed, sum_of, difference_of, Wrapped, WrappingIntegers}
use Rattle.values.proofs.SignedIntegers.{plain, flipped, from_least, below_least}

-- z is a - b, for two naturals: every integer is held so, and what is to be shown of integers is then arithmetic of naturals
data Minus (a b : ℕ) : ℤ → Type 0 where
  above : (n : ℕ) → n + b ≡ a → Minus a b (pos n)
  below : (n : ℕ) → suc n + a ≡ b → Minus a b (negsuc n)

negated : {a b : ℕ} {z : ℤ} → Minus a b z → Minus b a (neg_ℤ z)
negated (above zero h) = above 0 (omega arith)
negated (above (suc n) h) = below n (omega arith)
negated (below n h) = above (suc n) (omega arith)

-- a difference that is not in normal form, by its test
taken : {a b : ℕ} (m n : ℕ) (t : Bool) → ltb m n ≡ t → m + b ≡ n + a → Minus a b (cond t (negsuc (n - suc m)) (pos (m - n)))
taken m n true e h = below (n - suc m) (omega (arith, ltb-true m n e))
taken m n false e h = above (m - n) (omega (arith, ltb-false m n e))

module _ {a b c d : ℕ} where
  -- one integer is one difference, and the other way round
  alike : {z : ℤ} → Minus a b z → Minus c d z → a + d ≡ c + b
  alike (above m h) (above n k) = omega arith
  alike (below m h) (below n k) = omega arith

  same : {z w : ℤ} → Minus a b z → Minus c d w → a + d ≡ c + b → z ≡ w
  same (above m h) (above n k) e = ap pos (omega arith)
  same (above m h) (below n k) e = absurd (omega arith)
  same (below m h) (above n k) e = absurd (omega arith)
  same (below m h) (below n k) e = ap negsuc (omega arith)

added : {a b c d : ℕ} {z w : ℤ} → Minus a b z → Minus c d w → Minus (a + c) (b + d) (z +ℤ w)
added (above m h) (above n k) = above (m + n) (omega arith)
added (above m h) (below n k) = taken m (suc n) _ refl (omega arith)
added (below m h) (above n k) = taken n (suc m) _ refl (omega arith)
added (below m h) (below n k) = below (suc (m + n)) (omega arith)

-- a payload means itself, less a whole turn of 2 ^ 64 in the upper half
abbrev turn : ℕ → ℕ
turn p = payloads * (p / least_negative)

by_sign : (p : ℕ) → p < payloads → (t : Bool) → leb least_negative p ≡ t → Minus p (turn p) (signed p)
unfolding signed
by_sign p h true e = rw (signed, e) (below (payloads - 1 - p) (omega (arith, leb-true least_negative p e)))
by_sign p h false e = rw (signed, e) (above p (omega (arith, leb-false least_negative p e)))

meant : (p : ℕ) → p < payloads → Minus p (turn p) (signed p)
meant p h = by_sign p h (leb least_negative p) refl

one_turn : Minus payloads 0 (pos payloads)
one_turn = above payloads refl

inside_half : {z : ℤ} (p : ℕ) → p < payloads → Minus p (turn p) z → mag z < least_negative
inside_half p h (above n e) = omega arith
inside_half p h (below n e) = omega arith

-- r means z wrapped, where z is r + (j - i) * payloads and i is j or j + 1 (`signed r` is r or r - payloads)
module _ {z : ℤ} {a b : ℕ} (h : Minus a b z) (r i j : ℕ) (fits : r < payloads) (balance : a + payloads * i ≡ r + payloads * j + b) (least : j ≤ i)
    (most : i ≤ j + 1) where
  turned : (s t : Bool) → ltb i (j + r / least_negative) ≡ s → ltb (j + r / least_negative) i ≡ t
      → (signed r ≡ z) ⊎ ((signed r ≡ z -ℤ pos payloads) ⊎ (signed r ≡ z +ℤ pos payloads))
  turned true t d e = inr (inl (same (meant r fits) (added h (negated one_turn)) (omega (arith, ltb-true))))
  turned false true d e = inr (inr (same (meant r fits) (added h one_turn) (omega (arith, ltb-true))))
  turned false false d e = inl (same (meant r fits) h (omega (arith, ltb-false)))

  wrapped : (r < payloads) × Wrapped z (signed r)
  wrapped = (fits, record { inside = inside_half r fits (meant r fits); turns = turned _ _ refl refl })

sums_wrapped : (p q : ℕ) → p < payloads → q < payloads → (sum_of p q < payloads) × Wrapped (signed p +ℤ signed q) (signed (sum_of p q))
unfolding sum_of
sums_wrapped p q h k =
    wrapped (added (meant p h) (meant q k)) (sum_of p q) (p / least_negative + q / least_negative) ((p + q) / payloads) (omega arith) (omega arith) (omega arith)
    (omega arith)

differences_wrapped : (p q : ℕ) → p < payloads → q < payloads
    → (difference_of p q < payloads) × Wrapped (signed p -ℤ signed q) (signed (difference_of p q))
unfolding difference_of
differences_wrapped p q h k =
    wrapped (added (meant p h) (negated (meant q k))) (difference_of p q) (p / least_negative + 1) ((p + (payloads - q)) / payloads + q / least_negative)
    (omega arith) (omega arith) (omega arith) (omega arith)

apart_by : (p q : ℕ) → p < payloads → q < payloads → signed p ≡ signed q → p ≡ q
apart_by p q h k e = omega (arith, alike (rw e at (meant p h)) (meant q k))

-- by its sign
module _ (v : Value) (i : AnInteger v) where
  itself : Minus (magnitude v) 0 (pos (magnitude v))
  itself = Minus.above (magnitude v) (omega arith)

  below_zero : negative v ≡ true → signed v.payload ≡ neg_ℤ (pos (magnitude v))
  below_zero h = same (meant v.payload i.fits) (negated itself) (omega (arith, flipped v h, from_least v h, i.fits))

  from_zero : negative v ≡ false → signed v.payload ≡ pos (magnitude v)
  from_zero h = same (meant v.payload i.fits) itself (omega (arith, plain v h, below_least v i.kind h))

pub wrapping_integers : WrappingIntegers
wrapping_integers = record { sums = sums_wrapped; differences = differences_wrapped; apart = apart_by; below = below_zero; above = from_zero }

-- a payload, cast, is the integer that it means
cast_by : (p : ℕ) → p < payloads → (t : Bool) → leb least_negative p ≡ t → cast_signed w64 p ≡ signed p
unfolding signed
cast_by p h true e = rw (signed, e, le-ltb p least_negative (leb-true _ _ e)) (ap negsuc (omega arith))
cast_by p h false e = rw (signed, e, lt-ltb p least_negative (omega (arith, leb-false _ _ e)))

pub cast_is : (p : ℕ) → p < payloads → cast_signed w64 p ≡ signed p
cast_is p h = cast_by p h (leb least_negative p) refl
