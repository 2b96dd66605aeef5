-- Laws of bytes as loops write them (`number_bytes`, specs/Bytes.antt): a number byte by byte, part after part, a list whole. Assumes nothing.
use Rattle.std.proofs.Common.{◌≡◌, ℕ, suc, ◌+◌, ◌/◌, ◌≤◌, List, [], ◌∷◌, ◌++◌, length, set, sym, refl, ap, ◌∙◌, append_assoc, append-nil, add-zero, arith, take, drop, drop_of_length-le}
use Rattle.std.specs.Int.{w64, to_le_bytes}
use Rattle.std.proofs.lemmas.List.Edits.{paste_all}
use Rattle.std.proofs.lemmas.Slice.{put_mid-paste}
use borrow.Rule.Slice.PartMut.{put_mid}
use lib.Seq.{sets, sets-eq}
use Rattle.values.specs.Bytes.{number_bytes}

-- a number of 64 bits, as the library writes it
pub le_bytes : (x : ℕ) → to_le_bytes w64 x ≡ number_bytes 8 x
unfolding number_bytes
le_bytes x =
    let e₂ : x / 256 / 256 ≡ x / 65536 = omega arith in
    let e₃ : x / 65536 / 256 ≡ x / 16777216 = omega arith in
    let e₄ : x / 16777216 / 256 ≡ x / 4294967296 = omega arith in
    let e₅ : x / 4294967296 / 256 ≡ x / 1099511627776 = omega arith in
    let e₆ : x / 1099511627776 / 256 ≡ x / 281474976710656 = omega arith in
    let e₇ : x / 281474976710656 / 256 ≡ x / 72057594037927936 = omega arith in
    rw (e₂, e₃, e₄, e₅, e₆, e₇) refl

-- a part of a list that is written over
pub put_sets : (a k : ℕ) (xs ys : List ℕ) → length ys ≡ k → a + k ≤ length xs → put_mid a k xs ys ≡ sets xs a ys
put_sets a k xs ys e h =
    put_mid-paste a k xs ys ys k refl refl (sym e) ∙ paste_all xs a ys k (sym e)
    ∙ rw (← e) (sym (append_assoc (take a xs) ys (drop (a + length ys) xs)) ∙ sym (sets-eq ys xs a (omega arith)))

-- two parts, one after the other
pub sets_append : {A : Type 0} (l : List A) (i : ℕ) (a b : List A) → sets l i (a ++ b) ≡ sets (sets l i a) (i + length a) b
sets_append l i [] b = ap (λ (k : ℕ). sets l k b) (sym (add-zero i))
sets_append l i (v ∷ a) b =
    sets_append (set l i v) (suc i) a b ∙ ap (λ (k : ℕ). sets (sets (set l i v) (suc i) a) k b) e
  where
    e : suc i + length a ≡ i + suc (length a)
    e = omega arith

-- a list that is written whole
pub sets_whole : (l b : List ℕ) → length l ≡ length b → sets l 0 b ≡ b
sets_whole l b e =
    sets-eq b l 0 (omega arith) ∙ ap (λ (r : List ℕ). b ++ r) (drop_of_length-le l {i = 0 + length b} (omega arith)) ∙ append-nil b
