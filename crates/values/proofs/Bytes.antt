-- Laws of bytes (specs/Bytes.antt), and of numbers, values and slots in them: their widths, and that what is written is read back. Assumes nothing.
use Rattle.std.proofs.Common.{◌≡◌, ℕ, zero, suc, ◌+◌, ◌*◌, ◌/◌, ◌%◌, ◌^◌, ◌<◌, ◌≤◌, true, ltb, ◌⊎◌, List, ◌∷◌, length, get_or, drop, refl, ap, ◌∙◌, ap₂, inl, inr, ⊎_elim, div-lt_iff_lt-mul, pow-suc, add-one, arith, length-append, get_or-drop, get_or-take, ltb-true, lt-ltb}
use native.Mathlib.Decide.{dec_lt}
use lib.ListN.{get_or-eq_default}
use Rattle.lattice.specs.Tests.{◌and◌, ◌or◌, every}
use Rattle.lattice.proofs.Tests.{and_l, and_r, and_of, or_at, or_l, or_r, every_at}
use Rattle.values.specs.Bytes.{Bytes, number_at, number_bytes, part}
use Rattle.values.specs.declared.Value.{Value}
use Rattle.values.specs.Value.{payload_width, value_width, count_width, read_view, write_view, viewed, well_formed, value_at, value_bytes, Slot, slot_width, slot_bytes}

-- that a list is one of bytes, by a test that computes
pub bytes_of : (s : List ℕ) → every (length s) (λ i. ltb (get_or s i 0) 256) ≡ true → Bytes s
bytes_of s e i = go (dec_lt i (length s))
  where
    go : Dec (i < length s) → get_or s i 0 < 256
    go (yes h) = ltb-true _ _ (every_at (length s) _ e i h)
    go (no h) = rw (get_or-eq_default s 0 {n = i} (omega arith)) (omega arith)

pub length_number : (width x : ℕ) → length (number_bytes width x) ≡ width
unfolding number_bytes
length_number zero x = refl
length_number (suc width) x = ap suc (length_number width (x / 256))

pub length_value : (v : Value) → length (value_bytes v) ≡ value_width
unfolding value_bytes
length_value v = ap suc (length_number payload_width v.payload)

pub length_slot : (s : Slot) → length (slot_bytes s) ≡ slot_width
unfolding slot_bytes
length_slot s =
    length-append (value_bytes s.value) (number_bytes count_width s.writes)
    ∙ omega (arith, length_value s.value, length_number count_width s.writes)

-- a byte in front moves every number by one
shifted : (b : ℕ) (width : ℕ) (s : List ℕ) (at : ℕ) → number_at width (b ∷ s) (at + 1) ≡ number_at width s at
unfolding number_at
shifted b zero s at = refl
shifted b (suc width) s at = ap₂ (λ (x y : ℕ). x + 256 * y) (rw add-one) (shifted b width s (at + 1))

pub number_read : (width x : ℕ) → x < 256 ^ width → number_at width (number_bytes width x) 0 ≡ x
unfolding number_at number_bytes
number_read zero x h = omega arith
number_read (suc width) x h =
    let k : x / 256 < 256 ^ width = (div-lt_iff_lt-mul {k = 256} (omega arith)).1 (rw pow-suc at h) in
    omega (arith, shifted (x % 256) width (number_bytes width (x / 256)) 0, number_read width (x / 256) k)

pub value_read : (v : Value) → v.kind < 256 → v.payload < 256 ^ payload_width → value_at (value_bytes v) 0 ≡ v
unfolding value_at value_bytes
value_read v k h =
    ap₂ (λ (x p : ℕ). record { kind = x; payload = p }) (omega arith)
    (shifted (v.kind % 256) payload_width (number_bytes payload_width v.payload) 0 ∙ number_read payload_width v.payload h)

-- a number too large for its bytes loses its upper part, and what is left has the same bytes
number_again : (width x : ℕ) → number_bytes width (number_at width (number_bytes width x) 0) ≡ number_bytes width x
unfolding number_at number_bytes
number_again zero x = refl
number_again (suc width) x =
    let e = shifted (x % 256) width (number_bytes width (x / 256)) 0 in
    ap₂ (λ (b : ℕ) (l : List ℕ). b ∷ l) (omega arith) (ap (number_bytes width) (omega (arith, e)) ∙ number_again width (x / 256))

-- a value that was written and read has the same bytes again
pub value_again : (v : Value) → value_bytes (value_at (value_bytes v) 0) ≡ value_bytes v
unfolding value_at value_bytes
value_again v =
    ap₂ (λ (b : ℕ) (l : List ℕ). b ∷ l) (omega arith)
    (ap (number_bytes payload_width) (shifted (v.kind % 256) payload_width (number_bytes payload_width v.payload) 0)
    ∙ number_again payload_width v.payload)

-- a value's bytes, cut out
pub number_part : (width n : ℕ) (s : List ℕ) (at i : ℕ) → i + width ≤ n → number_at width (part s at n) i ≡ number_at width s (at + i)
unfolding number_at
number_part zero n s at i h = refl
number_part (suc width) n s at i h =
    let q : at + (i + 1) ≡ at + i + 1 = omega arith in
    ap₂ (λ (a b : ℕ). a + 256 * b) (get_or-take n (drop at s) i 0 (omega arith) ∙ get_or-drop at s i 0)
    (number_part width n s at (i + 1) (omega arith) ∙ ap (λ (j : ℕ). number_at width s j) q)

module _ (m : ℕ) (v : Value) (h : well_formed m v ≡ true) where
  -- a view that is well-formed names one of the m slots
  pub view_inside : (v.kind ≡ read_view) ⊎ (v.kind ≡ write_view) → viewed v < m
  unfolding well_formed ◌and◌ ◌or◌
  view_inside (inl k) = ltb-true _ _ (rw k at h)
  view_inside (inr k) = ltb-true _ _ (rw k at h)

  -- a value that is well-formed is so among more slots
  pub formed_more : (n : ℕ) → m ≤ n → well_formed n v ≡ true
  unfolding well_formed
  formed_more n l =
      ⊎_elim (λ i. or_l _ _ i) (λ s. or_r _ _ (and_of _ _ (and_l _ _ s) (lt-ltb (viewed v) n (omega (arith, ltb-true (viewed v) m (and_r _ _ s))))))
      (or_at _ _ h)
