-- Laws of numbers in bytes (`number_at`, specs/Bytes.antt), as the code reads them: how large they are, past the end, in a part, by the library. Assumes nothing.
use Rattle.std.proofs.Common.{◌≡◌, ℕ, zero, suc, ◌+◌, ◌*◌, ◌^◌, ◌<◌, ◌≤◌, ◌++◌, replicate, take, drop, List, length, length-take-le, length-drop, get_or-drop, ◌-◌, sym, get_or, refl, ap, ◌∙◌, arith, pow-add}
use Rattle.std.specs.Int.{w64, from_le_bytes}
use Rattle.std.proofs.lemmas.List.{get_or_append_left, get_or-append-add, get_or-replicate, length-replicate}
use native.Mathlib.Decide.{dec_lt}
use lib.ListN.{get_or-eq_default}
use Rattle.values.specs.Bytes.{number_at}
use Rattle.values.proofs.Bytes.{number_part}

-- bytes are below 256: so many of them are a number of 8 bits each
pub number_lt : (s : List ℕ) → ((i : ℕ) → get_or s i 0 < 256) → (width at : ℕ) → number_at width s at < 2 ^ (8 * width)
unfolding number_at
number_lt s b zero at = omega arith
number_lt s b (suc width) at =
    let e : 2 ^ (8 * suc width) ≡ 2 ^ (8 * width) * 256 = ap (λ (x : ℕ). 2 ^ x) (more width) ∙ pow-add 2 (8 * width) 8 in
    omega (arith, e, number_lt s b width (at + 1), b at)
  where
    more : (w : ℕ) → 8 * suc w ≡ 8 * w + 8
    more w = omega arith

-- past the end all bytes are 0
pub number_past : (s : List ℕ) (width at : ℕ) → length s ≤ at → number_at width s at ≡ 0
unfolding number_at
number_past s zero at h = refl
number_past s (suc width) at h =
    omega (arith, get_or-eq_default s 0 h, number_past s width (at + 1) (omega arith))

-- so those of a number that runs past the end are enough to read it
pub number_cut : (s : List ℕ) (width there at : ℕ) → length s ≤ at + there → there ≤ width → number_at width s at ≡ number_at there s at
unfolding number_at
number_cut s width zero at h l = number_past s width at (omega arith)
number_cut s zero (suc there) at h l = absurd (omega arith)
number_cut s (suc width) (suc there) at h l = rw (number_cut s width there (at + 1) (omega arith) (omega arith))

-- a part that is read whole, and is as wide as is asked or runs to the end
pub number_of_part : (s : List ℕ) (at n width : ℕ) → at + n ≤ length s → n ≤ width → (n < width → length s ≤ at + n)
    → number_at (length (take n (drop at s))) (take n (drop at s)) 0 ≡ number_at width s at
number_of_part s at n width h l whole =
    let len : length (take n (drop at s)) ≡ n = length-take-le n (drop at s) (omega (arith, length-drop at s)) in
    let here : at + 0 ≡ at = omega arith in
    rw (len, number_part n n s at 0 (omega arith), here) (go (dec_lt n width))
  where
    go : Dec (n < width) → number_at n s at ≡ number_at width s at
    go (yes k) = sym (number_cut s width n at (whole k) l)
    go (no k) = ap (λ (w : ℕ). number_at w s at) (omega arith)

-- Bytes among eight, with 0 after them: the number that the library reads.
same_bytes : (width at : ℕ) (s t : List ℕ) → ((i : ℕ) → get_or s i 0 ≡ get_or t i 0) → number_at width s at ≡ number_at width t at
unfolding number_at
same_bytes zero at s t h = refl
same_bytes (suc width) at s t h = rw (h at, same_bytes width (at + 1) s t h) refl

eight_bytes : (l : List ℕ) → from_le_bytes w64 l ≡ number_at 8 l 0
unfolding number_at
eight_bytes l = omega arith

zeros : (n k : ℕ) → ◌≡◌ {A = ℕ} (get_or (replicate n 0) k 0) 0
zeros n k = go (dec_lt k n)
  where
    go : Dec (k < n) → ◌≡◌ {A = ℕ} (get_or (replicate n 0) k 0) 0
    go (yes h) = get_or-replicate n k 0 0 h
    go (no h) = get_or-eq_default (replicate n 0) 0 (omega (arith, length-replicate {A = ℕ} n 0))

padded : (s : List ℕ) (i : ℕ) → get_or (s ++ drop (length s) (replicate 8 0)) i 0 ≡ get_or s i 0
padded s i = go (dec_lt i (length s))
  where
    go : Dec (i < length s) → get_or (s ++ drop (length s) (replicate 8 0)) i 0 ≡ get_or s i 0
    go (yes h) = get_or_append_left s _ 0 i h
    go (no h) =
        let k = i - length s in
        let e : i ≡ length s + k = omega arith in
        rw e (get_or-append-add s _ k 0 ∙ get_or-drop (length s) (replicate 8 0) k 0 ∙ zeros 8 (length s + k) ∙ sym (get_or-eq_default s 0 (omega arith)))

pub number_read_in : (s : List ℕ) → length s ≤ 8 → from_le_bytes w64 (s ++ drop (length s) (replicate 8 0)) ≡ number_at (length s) s 0
number_read_in s h =
    eight_bytes (s ++ drop (length s) (replicate 8 0)) ∙ same_bytes 8 0 _ s (padded s) ∙ number_cut s 8 (length s) 0 (omega arith) h
