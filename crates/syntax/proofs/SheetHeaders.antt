-- Laws of a block's header (`header_of`, `header_good`, specs/Sheet.antt): as it is read, and against n principals. Assumes nothing.
use Prim.Native.Nat.{ℕ, ◌+◌, ◌*◌, ◌%◌, ◌<◌, ◌≤◌}
use mathlib.Core.Path.{◌≡◌, refl, sym, ap, ◌∙◌}
use mathlib.Core.Bool.{Bool, true, false}
use mathlib.Core.List.{List}
use native.Mathlib.Omega.{arith}
use lib.ListN.{get_or}
use lib.Dec.{ltb}
use borrow.Author.Tests.{lt-ltb, le-ltb, le-leb, lt-leb}
use Rattle.lattice.specs.Tests.{◌and◌, ◌implies◌}
use Rattle.values.specs.Bytes.{sizes_width}
use Rattle.syntax.specs.declared.Header.{Header}
use Rattle.syntax.specs.Sheet.{k_of, endorsed_bit, floors_at, floor_of, header_of, header_at, header_good}

-- the bytes of a block that is endorsed, and of one that is not
pub header_endorsed : (b f : ℕ) → endorsed_bit ≤ b → record { region = b % endorsed_bit; endorsed = true; floor = f } ≡ header_of b f
unfolding header_of floor_of
header_endorsed b f h = rw (le-leb endorsed_bit b h) refl

pub header_bare : (b f : ℕ) → b < endorsed_bit → record { region = b % endorsed_bit; endorsed = false; floor = 0 } ≡ header_of b f
unfolding header_of floor_of
header_bare b f h = rw (lt-leb endorsed_bit b h) refl

-- a header from the bytes of both arrays, in a sheet of k blocks
pub header_there : (p : List ℕ) (k i : ℕ) (h : Header) → k ≡ k_of p → h ≡ header_of (get_or p (sizes_width + i) 0) (get_or p (sizes_width + i + 3 * k) 0)
    → h ≡ header_at p i
header_there p k i h e q =
    let f : sizes_width + i + 3 * k ≡ floors_at (k_of p) + i = omega (arith, e) in
    q ∙ ap (λ (j : ℕ). header_of (get_or p (sizes_width + i) 0) (get_or p j 0)) f

-- 8: the region is no principal; it is one, and the floor counts or not
module _ (n : ℕ) (h : Header) where
  pub region_bad : n ≤ h.region → false ≡ header_good n h
  unfolding header_good ◌and◌
  region_bad l = rw (le-ltb _ _ l) refl

  pub floor_counts : h.region < n → h.endorsed ≡ true → ltb h.floor n ≡ header_good n h
  unfolding header_good ◌and◌ ◌implies◌
  floor_counts l e = rw (lt-ltb _ _ l, e) refl

  pub floor_ignored : h.region < n → h.endorsed ≡ false → true ≡ header_good n h
  unfolding header_good ◌and◌ ◌implies◌
  floor_ignored l e = rw (lt-ltb _ _ l, e) refl

-- the test of a header that was read
pub header_tested : (n : ℕ) (h h' : Header) (r b : Bool) → h ≡ h' → r ≡ header_good n h → r ≡ b → header_good n h' ≡ b
header_tested n h h' r b e q k = rw (← e) (sym q ∙ k)
