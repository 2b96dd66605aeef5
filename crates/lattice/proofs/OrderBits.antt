-- Laws of `bit` (specs/Order.antt), the bits of a mask: of a conjunction, past the last, all ones; masks with the same bits are equal. Assumes nothing.
use Prim.Native.Nat.{ℕ, zero, suc, ◌+◌, ◌-◌, ◌*◌, ◌/◌, ◌%◌, ◌^◌, ◌≤◌, ◌<◌, min}
use mathlib.Core.Path.{◌≡◌, refl, sym, ap, ◌∙◌}
use mathlib.Core.Bool.{true, false}
use native.Mathlib.Nat.{le_of_suc-le-suc, not-suc-le-zero, div-lt_iff_lt-mul, div-eq_of_lt, pow-suc, lt_of_le_of_lt, lt_of_lt_of_le, div-one, min-le_left, one-mul}
use native.Mathlib.Omega.{arith}
use lib.Arith.{digits_mod, digits_div, lt-one, dbl_pred}
use lib.Pow.{shl_exact, shr-shr, pow_pos, pow_mono}
use lib.Bits.{bit_and, and_step, and_shr}
use lib.Dec.{eqb}
use Rattle.lattice.specs.Tests.{◌and◌}
use Rattle.lattice.specs.Order.{bit}

and_digit : (p q : ℕ) → p < 2 → q < 2 → eqb (min p q) 1 ≡ eqb p 1 and eqb q 1
unfolding ◌and◌
and_digit zero zero hp hq = refl
and_digit zero (suc zero) hp hq = refl
and_digit (suc zero) zero hp hq = refl
and_digit (suc zero) (suc zero) hp hq = refl
and_digit zero (suc (suc q)) hp hq = absurd (omega arith)
and_digit (suc zero) (suc (suc q)) hp hq = absurd (omega arith)
and_digit (suc (suc p)) q hp hq = absurd (omega arith)

low_and : (a b : ℕ) → bit_and a b % 2 ≡ min (a % 2) (b % 2)
low_and a b =
    ap (λ (x : ℕ). x % 2) (and_step a b)
    ∙ digits_mod (bit_and (a / 2) (b / 2)) (lt_of_le_of_lt (min-le_left (a % 2) (b % 2)) (omega arith))

-- bit j of `a & b`
pub bit_of_and : (a b j : ℕ) → bit (bit_and a b) j ≡ bit a j and bit b j
unfolding bit
bit_of_and a b j =
    ap (λ (x : ℕ). eqb (x % 2) 1) (and_shr a b j) ∙ ap (λ (x : ℕ). eqb x 1) (low_and (a / 2 ^ j) (b / 2 ^ j))
    ∙ and_digit (a / 2 ^ j % 2) (b / 2 ^ j % 2) (omega arith) (omega arith)

pub bit_zero : (a : ℕ) → bit a 0 ≡ eqb (a % 2) 1
unfolding bit
bit_zero a = ap (λ (x : ℕ). eqb (x % 2) 1) (div-one a)

pub bit_suc : (a j : ℕ) → bit a (suc j) ≡ bit (a / 2) j
unfolding bit
bit_suc a j = ap (λ (x : ℕ). eqb (x % 2) 1) (ap (λ (k : ℕ). a / 2 ^ k) e ∙ sym (shr-shr a 1 j))
  where
    e : suc j ≡ 1 + j
    e = omega arith

same_digit : (p q : ℕ) → p < 2 → q < 2 → eqb p 1 ≡ eqb q 1 → p ≡ q
same_digit zero zero hp hq e = refl
same_digit zero (suc zero) hp hq e = cc
same_digit (suc zero) zero hp hq e = cc
same_digit (suc zero) (suc zero) hp hq e = refl
same_digit zero (suc (suc q)) hp hq e = absurd (omega arith)
same_digit (suc zero) (suc (suc q)) hp hq e = absurd (omega arith)
same_digit (suc (suc p)) q hp hq e = absurd (omega arith)

half_lt : (a n : ℕ) → a < 2 ^ suc n → a / 2 < 2 ^ n
half_lt a n h = (div-lt_iff_lt-mul {k = 2} (omega arith)).1 (rw pow-suc at h)

-- numbers of n bits are equal when their bits are
pub same_bits : (n a b : ℕ) → a < 2 ^ n → b < 2 ^ n → ((j : ℕ) → j < n → bit a j ≡ bit b j) → a ≡ b
same_bits zero a b ha hb h = lt-one ha ∙ sym (lt-one hb)
same_bits (suc n) a b ha hb h =
    let high : a / 2 ≡ b / 2 =
    same_bits n (a / 2) (b / 2) (half_lt a n ha) (half_lt b n hb)
    (λ j l. sym (bit_suc a j) ∙ h (suc j) (omega arith) ∙ bit_suc b j) in
    let low : a % 2 ≡ b % 2 =
    same_digit (a % 2) (b % 2) (omega arith) (omega arith) (sym (bit_zero a) ∙ h 0 (omega arith) ∙ bit_zero b) in
    omega arith

ones_suc : (n : ℕ) → 2 ^ suc n - 1 ≡ (2 ^ n - 1) * 2 + 1
ones_suc n = ap (λ (x : ℕ). x - 1) (pow-suc 2 n) ∙ dbl_pred (pow_pos n)

-- a number of n bits has no bit from the n-th on
pub bit_past : (n a j : ℕ) → a < 2 ^ n → n ≤ j → bit a j ≡ false
unfolding bit
bit_past n a j h l = ap (λ (x : ℕ). eqb (x % 2) 1) (div-eq_of_lt (lt_of_lt_of_le h (pow_mono l)))

-- a mask of 32 bits has none from bit 32 on
pub mask_past : (a j : ℕ) → a < 2 ^ 32 → 32 ≤ j → bit a j ≡ false
mask_past a j h l = bit_past 32 a j h l

-- `1 << n` at 64 bits, and its size
pub shifted : (n : ℕ) → n ≤ 32 → 1 * 2 ^ n % 2 ^ 64 ≡ 2 ^ n
shifted n h = shl_exact {a = 1} 1 n 64 (omega arith) (omega arith) ∙ one-mul (2 ^ n)

pub shift_size : (n : ℕ) → n ≤ 32 → (0 < 2 ^ n) × (2 ^ n ≤ 2 ^ 32)
shift_size n h = (pow_pos n, pow_mono h)

pub ruleset shifts = (shifted, shift_size)

-- all n low bits of 2 ^ n - 1 are set
pub bit_ones : (n j : ℕ) → j < n → bit (2 ^ n - 1) j ≡ true
bit_ones zero j h = absurd (not-suc-le-zero h)
bit_ones (suc n) zero h =
    bit_zero (2 ^ suc n - 1) ∙ ap (λ (x : ℕ). eqb (x % 2) 1) (ones_suc n) ∙ ap (λ (x : ℕ). eqb x 1) (digits_mod (2 ^ n - 1) (omega arith))
bit_ones (suc n) (suc j) h =
    bit_suc (2 ^ suc n - 1) j ∙ ap (λ (x : ℕ). bit (x / 2) j) (ones_suc n)
    ∙ ap (λ (x : ℕ). bit x j) (digits_div (2 ^ n - 1) (omega arith)) ∙ bit_ones n j (le_of_suc-le-suc h)
