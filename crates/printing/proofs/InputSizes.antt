-- The sizes in the store sheet of the printing program's input. Serves `store_length`, `slots_of` and `put_slots`. Assumes nothing.
use Prim.Native.Nat.{ℕ, ◌+◌, ◌*◌, ◌≤◌, ◌<◌, min}
use mathlib.Core.Path.{◌≡◌}
use mathlib.Core.List.{List}
use native.Mathlib.Nat.{min_comm}
use native.Mathlib.Omega.{arith}
use lib.ListN.{length, get_or}
use borrow.Author.Tests.{lt-ltb, le-ltb, le-leb, lt-leb}
use Rattle.values.specs.Value.{value_width}
use Rattle.values.specs.Bytes.{sizes_width}
use Rattle.values.proofs.BytesNumbers.{number_lt}
use Rattle.store.specs.Sheet.{most_slots, n_of, m_of, values_at, value_width_in}
use Rattle.lines.proofs.OwnerBytes.{one_byte}
use Rattle.printing.specs.PrintedText.{store_length, slots_of}

-- sizes of one and two bytes
pub sizes_small : (s : List ℕ) → ((i : ℕ) → get_or s i 0 < 256) → (n m : ℕ) → n ≡ n_of s → m ≡ m_of s → (n < 256) × (m < 65536)
sizes_small s b n m p q = (one_byte s b n p, omega (arith, q, number_lt s b 2 1))

module _ (s : List ℕ) where
  pub no_sizes : length s < sizes_width → length s ≡ store_length s
  unfolding store_length
  no_sizes h = rw (store_length, lt-ltb (length s) sizes_width h)

  module _ (h : sizes_width ≤ length s) (n m : ℕ) (p : n ≡ n_of s) (q : m ≡ m_of s) where
    -- what the sizes say
    abbrev said : ℕ
    said = values_at n m + value_width * m

    pub shorter : min said (length s) ≡ store_length s
    unfolding store_length value_width_in
    shorter = rw (store_length, le-ltb (length s) sizes_width h, p, q) (min_comm _ _)

-- the slots of an end store
pub few : (s : List ℕ) (m : ℕ) → m ≡ m_of s → m ≤ most_slots → m ≡ slots_of s
unfolding slots_of
few s m p h = rw (slots_of, le-leb (m_of s) most_slots (omega (arith, p))) p

pub many : (s : List ℕ) (m : ℕ) → m ≡ m_of s → most_slots < m → 0 ≡ slots_of s
unfolding slots_of
many s m p h = rw (slots_of, lt-leb (m_of s) most_slots (omega (arith, p)))
