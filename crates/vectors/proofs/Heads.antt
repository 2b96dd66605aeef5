-- The numbers of a head are within their fields. Assumes nothing.
use Rattle.std.proofs.Common.{◌≡◌, ℕ, ◌<◌, List, get_or, arith, Fits, w8, w16, w32}
use Rattle.values.specs.Bytes.{number_at}
use Rattle.values.proofs.BytesNumbers.{number_lt}

pub one_byte : (s : List ℕ) (at : ℕ) {x : ℕ} → x ≡ number_at 1 s at → ((i : ℕ) → get_or s i 0 < 256) → Fits w8 x
one_byte s at e b = omega (arith, e, number_lt s b 1 at)

pub two_bytes : (s : List ℕ) (at : ℕ) {x : ℕ} → x ≡ number_at 2 s at → ((i : ℕ) → get_or s i 0 < 256) → Fits w16 x
two_bytes s at e b = omega (arith, e, number_lt s b 2 at)

pub four_bytes : (s : List ℕ) (at : ℕ) {x : ℕ} → x ≡ number_at 4 s at → ((i : ℕ) → get_or s i 0 < 256) → Fits w32 x
four_bytes s at e b = omega (arith, e, number_lt s b 4 at)
