-- The ones of the mask of the principals at or above an owner are as many as these principals. Serves `number_above`. Assumes nothing.
use Prim.Native.Nat.{ℕ, zero, suc, ◌+◌, ◌*◌, ◌%◌, ◌^◌, ◌≤◌, ◌<◌, min}
use mathlib.Core.Path.{◌≡◌, refl, sym, ap, ap₂, subst, ◌∙◌}
use mathlib.Core.Bool.{Bool, true, false}
use mathlib.Core.List.{List}
use native.Mathlib.Nat.{add_comm, zero-lt-suc, pow-suc}
use native.Mathlib.Decide.{le_ind}
use native.Mathlib.Numerals.{add-one}
use native.Mathlib.Omega.{arith}
use lib.ListN.{get_or, get_or-eq_default}
use lib.Count.{ones, ones_in, ones_cat}
use lib.Pow.{shl_exact}
use mir.Val.{bool_byte}
use lib.Dec.{ltb}
use borrow.Author.Tests.{lt-ltb, le-ltb, ltb-true, ltb-false}
use Rattle.lattice.specs.Order.{Label, most_principals, mask, below}
use Rattle.lattice.proofs.OrderBits.{bit_past}
use Rattle.values.specs.Bytes.{number_at, filled, sizes_width}
use Rattle.values.proofs.BytesArrays.{pick, length_filled, entry_at}
use Rattle.store.specs.Sheet.{n_of, mask_width, order_of}
use Rattle.lines.specs.PrincipalsAbove.{one_if, how_many, number_above, mask_where, mask_above}

ones_bit : (b : Bool) → ones (one_if b) ≡ one_if b
unfolding ones ones_in one_if
ones_bit true = refl
ones_bit false = refl

one_more : (b : Bool) (m p : ℕ) → m < p → m + one_if b * p < p * 2
unfolding one_if
one_more true m p h = omega arith
one_more false m p h = omega arith

-- so many bits
pub mask_lt : (n : ℕ) (f : ℕ → Bool) → mask_where n f < 2 ^ n
unfolding mask_where
mask_lt zero f = zero-lt-suc 0
mask_lt (suc n) f =
    subst (λ (p : ℕ). mask_where n f + one_if (f n) * 2 ^ n < p) (sym (pow-suc 2 n)) (one_more (f n) (mask_where n f) (2 ^ n) (mask_lt n f))

ones_none : ones 0 ≡ 0
unfolding ones ones_in
ones_none = refl

pub ones_many : (n : ℕ) (f : ℕ → Bool) → ones (mask_where n f) ≡ how_many n f
unfolding mask_where how_many
ones_many zero f = ones_none
ones_many (suc n) f =
    ap ones (add_comm (mask_where n f) (one_if (f n) * 2 ^ n))
    ∙ ones_cat n (one_if (f n)) (mask_where n f) (mask_lt n f)
    ∙ ap₂ (λ (x y : ℕ). x + y) (ones_bit (f n)) (ones_many n f)
    ∙ add_comm (one_if (f n)) (how_many n f)

-- numbers from k on at which f never passes add nothing
pub none_past : (f : ℕ → Bool) (k n : ℕ) → ((p : ℕ) → k ≤ p → f p ≡ false) → k ≤ n → how_many n f ≡ how_many k f
unfolding how_many one_if
none_past f k n h l =
    le_ind (λ (m : ℕ). how_many m f ≡ how_many k f) refl (λ m km e. rw (h m km) (omega (arith, e))) n l

-- a mask with bit p, where the test passes
pub bit_added : (m p : ℕ) (b : Bool) (x : ℕ) → x ≡ bool_byte b → p < 32 → m + x * 2 ^ p % 2 ^ 32 ≡ m + one_if b * 2 ^ p
unfolding one_if
bit_added m p true x e h = rw e (ap (λ (k : ℕ). m + k) (shl_exact {a = 1} 1 p 32 (omega arith) (omega arith)))
bit_added m p false x e h = rw e (omega arith)

-- a loop that sets bits: its start and its step
pub mask_none : (f : ℕ → Bool) → 0 ≡ mask_where 0 f
unfolding mask_where
mask_none f = refl

pub mask_step : (p : ℕ) (f : ℕ → Bool) {x m : ℕ} {b : Bool} → x ≡ m + one_if b * 2 ^ p → m ≡ mask_where p f → b ≡ f p
    → x ≡ mask_where (p + 1) f
unfolding mask_where
mask_step p f e q r = rw (e, q, r, add-one p) refl

-- The order table of a sheet: the masks that it holds, and 0 past them.
module _ (s : List ℕ) where
  abbrev mask_in : ℕ → ℕ
  mask_in i = number_at mask_width s (sizes_width + mask_width * i)

  pub mask_held : (p : ℕ) → p < min most_principals (n_of s) → mask_in p ≡ mask (order_of s) p
  unfolding order_of pick
  mask_held p h = sym (entry_at most_principals mask_in 0 (n_of s) 0 p (omega arith) ∙ rw (lt-ltb p (n_of s) (omega arith)) refl)

  mask_past : (p : ℕ) → min most_principals (n_of s) ≤ p → mask (order_of s) p ≡ 0
  unfolding order_of pick
  mask_past p h = either (ltb p most_principals) refl
    where
      either : (b : Bool) → ltb p most_principals ≡ b → get_or (filled most_principals (n_of s) mask_in 0) p 0 ≡ 0
      either true e =
          let l = ltb-true p most_principals e in
          entry_at most_principals mask_in 0 (n_of s) 0 p l ∙ rw (le-ltb p (n_of s) (omega arith)) refl
      either false e =
          let l = ltb-false p most_principals e in
          get_or-eq_default (filled most_principals (n_of s) mask_in 0) 0 (omega (arith, length_filled most_principals mask_in 0 (n_of s)))

  module _ (owner : Label) where
    none_above : (p : ℕ) → min most_principals (n_of s) ≤ p → below (order_of s) owner p ≡ false
    none_above p h = rw (mask_past p h) (bit_past 0 0 owner (omega arith) (omega arith))

    pub ones_above : ones (mask_above (order_of s) owner) ≡ number_above (order_of s) owner
    unfolding mask_above number_above order_of
    ones_above =
        ones_many (min most_principals (n_of s)) (λ p. below (order_of s) owner p)
        ∙ sym (none_past (λ p. below (order_of s) owner p) (min most_principals (n_of s)) (n_of s) none_above (omega arith))
