-- Sums, differences and comparisons of integers: "12 sum and 13 difference of two integers, both wrapping at 64 bits; 14 less-than of two integers as
-- signed" (document 02, N5). Assumes nothing.
use Rattle.std.specs.Prelude.{◌≡◌, ℕ, ◌+◌, ◌-◌, ◌%◌, ◌<◌, Bool, true, false, ◌⊎◌, ℤ, pos, negsuc, ◌+ℤ◌, ◌-ℤ◌, neg_ℤ, int_lt, nat_le}
use Rattle.std.specs.Int.Signed.{mag}
use Rattle.values.specs.declared.Value.{Value}
use Rattle.values.specs.SignedIntegers.{payloads, least_negative, negative, magnitude, AnInteger}

-- the integer that a payload stands for, in two's complement; `negsuc n` is -(n + 1)
unfoldable pub signed : ℕ → ℤ
signed p = elim (nat_le least_negative p) [ true ↦ negsuc (payloads - 1 - p) | false ↦ pos p ]

-- on payloads
unfoldable pub sum_of : ℕ → ℕ → ℕ
sum_of p q = (p + q) % payloads

unfoldable pub difference_of : ℕ → ℕ → ℕ
difference_of p q = (p + (payloads - q)) % payloads

unfoldable pub less_of : ℕ → ℕ → Bool
less_of p q = int_lt (signed p) (signed q)

-- w is z wrapped at 64 bits: it is one of -2 ^ 63 to 2 ^ 63 - 1, and z or a whole turn away from it. (A sum or difference of two such integers is never
-- further out.)
pub record Wrapped (z w : ℤ) : Type 0 where
  pub inside : mag w < least_negative
  pub turns : (w ≡ z) ⊎ ((w ≡ z -ℤ pos payloads) ⊎ (w ≡ z +ℤ pos payloads))

-- Sums and differences of payloads mean those of the integers, wrapped; so does no other payload, since no two mean the same integer. An integer is
-- what its sign and the number after it say, by which it is printed.
pub record WrappingIntegers : Type 0 where
  pub sums : (p q : ℕ) → p < payloads → q < payloads → (sum_of p q < payloads) × Wrapped (signed p +ℤ signed q) (signed (sum_of p q))
  pub differences : (p q : ℕ) → p < payloads → q < payloads → (difference_of p q < payloads) × Wrapped (signed p -ℤ signed q) (signed (difference_of p q))
  pub apart : (p q : ℕ) → p < payloads → q < payloads → signed p ≡ signed q → p ≡ q
  pub below : (v : Value) → AnInteger v → negative v ≡ true → signed v.payload ≡ neg_ℤ (pos (magnitude v))
  pub above : (v : Value) → AnInteger v → negative v ≡ false → signed v.payload ≡ pos (magnitude v)
