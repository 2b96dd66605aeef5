-- Laws of a store sheet's sizes and owners, as they are read. Assumes nothing.
use Prim.Native.Nat.{ℕ, ◌+◌, ◌<◌}
use mathlib.Core.Path.{◌≡◌, ◌∙◌}
use mathlib.Core.List.{List}
use native.Mathlib.Omega.{arith}
use lib.ListN.{get_or}
use Rattle.values.specs.Bytes.{number_at}
use Rattle.values.proofs.BytesNumbers.{number_lt}
use Rattle.store.specs.Sheet.{n_of, owners_at, owner_at}

-- a size of one byte
pub one_byte : (s : List ℕ) → ((i : ℕ) → get_or s i 0 < 256) → (n : ℕ) → n ≡ n_of s → n < 256
one_byte s b n p = omega (arith, p, number_lt s b 1 0)

-- a slot's owner
pub owner_read : (s : List ℕ) (n i x : ℕ) → n ≡ n_of s → x ≡ number_at 1 s (owners_at n + i) → x ≡ owner_at s i
unfolding number_at
owner_read s n i x p q = q ∙ rw p (omega arith)
