-- Laws of counts added up. Assumes nothing.
use Prim.Native.Nat.{ℕ, zero, suc, ◌+◌, ◌*◌, ◌≤◌, ◌<◌}
use mathlib.Core.Path.{◌≡◌, refl, ap, ◌∙◌}
use mathlib.Core.List.{map}
use native.Mathlib.Omega.{arith}
use Rattle.std.specs.List.{range_with_len, sum}
use Rattle.std.proofs.lemmas.List.Sums.{sum_by-cons}
use Rattle.values.specs.Bytes.{entries}
use Rattle.store.specs.Counts.{total}

-- a sum over numbers from i on
pub sum_entries : (n i : ℕ) (f : ℕ → ℕ) → sum (map f (range_with_len i n)) ≡ total (entries i n f)
unfolding total entries
sum_entries zero i f = refl
sum_entries (suc n) i f =
    sum_by-cons (λ x. x) (f i) (map f (range_with_len (i + 1) n)) ∙ ap (λ (x : ℕ). f i + x) (sum_entries n (i + 1) f)

-- numbers below b add up to no more than so many times b
pub sum_below : (b n i : ℕ) (f : ℕ → ℕ) → ((k : ℕ) → f k < b) → sum (map f (range_with_len i n)) ≤ b * n
sum_below b zero i f h = omega arith
sum_below b (suc n) i f h =
    omega (arith, sum_by-cons (λ x. x) (f i) (map f (range_with_len (i + 1) n)), sum_below b n (i + 1) f h, h i)
