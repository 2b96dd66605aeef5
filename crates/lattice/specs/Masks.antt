-- The code's test of an order table, by whole masks. Nobody has to believe it: `proofs/Masks.antt` shows that it is `good`.
-- Assumes nothing.
use Rattle.std.specs.Prelude.{ℕ, ◌^◌, ◌-◌, Bool, not, List, get_or, ltb, eqb}
use Rattle.std.specs.Int.Bits.{bit_and}
use Rattle.lattice.specs.Tests.{◌and◌, ◌or◌, ◌implies◌, every, some}
use Rattle.lattice.specs.Order.{bit}

abbrev pub at : List ℕ → ℕ → ℕ
at masks i = get_or masks i 0

-- some principal has this very mask
unfoldable pub has_mask : List ℕ → ℕ → ℕ → Bool
has_mask masks n x = some n λ k. eqb (at masks k) x

-- where j stands below i: all below j stands below i, and i does not stand below j, unless it is j
unfoldable pub pair_ok : ℕ → ℕ → ℕ → ℕ → Bool
pair_ok mi mj i j = bit mi j implies eqb (bit_and mi mj) mj and (eqb i j or not (bit mj i))

-- and some principal stands above just what stands below both
unfoldable pub meet_ok : List ℕ → ℕ → ℕ → ℕ → Bool
meet_ok masks n i j = pair_ok (at masks i) (at masks j) i j and has_mask masks n (bit_and (at masks i) (at masks j))

unfoldable pub row_ok : List ℕ → ℕ → ℕ → Bool
row_ok masks n i = every n λ j. meet_ok masks n i j

unfoldable pub line_ok : List ℕ → ℕ → ℕ → Bool
line_ok masks n i = ltb (at masks i) (2 ^ n) and bit (at masks i) i and row_ok masks n i

unfoldable pub rows_ok : List ℕ → ℕ → Bool
rows_ok masks n = every n λ i. line_ok masks n i

unfoldable pub table_ok : List ℕ → ℕ → Bool
table_ok masks n = rows_ok masks n and has_mask masks n (2 ^ n - 1)
