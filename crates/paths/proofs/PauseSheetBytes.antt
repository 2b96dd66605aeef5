-- The bytes of a pause sheet (`pause_sheet`) as they are written. Serves `pause`. Assumes nothing.
use Prim.Native.Nat.{ℕ, suc, ◌+◌, ◌-◌, ◌≤◌, ◌/◌, ◌%◌}
use mathlib.Core.Path.{◌≡◌, refl, sym, ap, ◌∙◌}
use mathlib.Core.List.{List, [], ◌∷◌, ◌++◌, map, append_assoc}
use native.Mathlib.Omega.{arith}
use lib.ListN.{length, set, replicate, drop, length-append, length-replicate, replicate-append-replicate, length-map}
use lib.Seq.{set_at}
use Rattle.std.specs.Int.{w32, to_le_bytes}
use Rattle.values.specs.Bytes.{number_bytes}
use Rattle.calculus.specs.Calculus.{State}
use Rattle.pausing.specs.Paths.{Open}
use Rattle.pausing.specs.Stretches.{standing, pause_width, most_open, unused_at, pause_sheet}
use Rattle.paths.specs.SheetPaths.{fills, Traced}

-- the entries, without what stands before them
unfoldable puts : List ℕ → ℕ → ℕ → List Open → List ℕ
puts s size i [] = s
puts s size i (o ∷ p) = set (set (puts s size (i + 1) p) i o.child) (size + i) o.label

module _ (a b c d e f : ℕ) where
  abbrev Headed : List ℕ → List ℕ
  Headed s = a ∷ b ∷ c ∷ d ∷ e ∷ f ∷ s

  set_past : (s : List ℕ) (i v : ℕ) → set (Headed s) (6 + i) v ≡ Headed (set s i v)
  set_past s i v = let z : 6 + i ≡ suc (suc (suc (suc (suc (suc i))))) = omega arith in rw z

  fills_past : (s : List ℕ) (size i : ℕ) (p : List Open) → fills (Headed s) size i p ≡ Headed (puts s size i p)
  unfolding fills puts
  fills_past s size i [] = refl
  fills_past s size i (o ∷ p) =
      let z : 6 + size + i ≡ 6 + (size + i) = omega arith in
      let t = puts s size (i + 1) p in
      ap (λ (u : List ℕ). set (set u (6 + i) o.child) (6 + size + i) o.label) (fills_past s size (i + 1) p)
      ∙ ap (λ (u : List ℕ). set u (6 + size + i) o.label) (set_past t i o.child)
      ∙ ap (λ (n : ℕ). set (Headed (set t i o.child)) n o.label) z
      ∙ set_past (set t i o.child) (size + i) o.label

abbrev children : List Open → List ℕ
children p = map (λ (o : Open). o.child) p

abbrev labels : List Open → List ℕ
labels p = map (λ (o : Open). o.label) p

abbrev pub zeros : ℕ → List ℕ
zeros n = replicate n 0

zeros_last : (i : ℕ) → zeros (i + 1) ≡ zeros i ++ (0 ∷ [])
zeros_last i = sym (replicate-append-replicate i 1 0)

-- entries put into zeros: the children and the labels, the first i of both still to come
puts_are : (p : List Open) (size i a b : ℕ) → size ≡ i + length p → a ≡ i + (length p + (i + (length p + b)))
    → puts (zeros a) size i p ≡ zeros i ++ (children p ++ (zeros i ++ (labels p ++ zeros b)))
unfolding puts
puts_are [] size i a b k e =
    let z : a ≡ i + (i + b) = omega arith in
    ap (λ (n : ℕ). zeros n) z ∙ sym (replicate-append-replicate i (i + b) 0) ∙ ap (λ (t : List ℕ). zeros i ++ t) (sym (replicate-append-replicate i b 0))
puts_are (o ∷ p) size i a b k e =
    let q = puts_are p size (i + 1) a b (omega arith) (omega arith) in
    let rest = labels p ++ zeros b in
    let one : zeros (i + 1) ++ (children p ++ (zeros (i + 1) ++ rest)) ≡ zeros i ++ (0 ∷ (children p ++ (zeros (i + 1) ++ rest))) =
    ap (λ (t : List ℕ). t ++ (children p ++ (zeros (i + 1) ++ rest))) (zeros_last i) ∙ append_assoc (zeros i) (0 ∷ []) (children p ++ (zeros (i + 1) ++ rest)) in
    let front = zeros i ++ (o.child ∷ (children p ++ zeros i)) in
    let two : zeros i ++ (o.child ∷ (children p ++ (zeros (i + 1) ++ rest))) ≡ front ++ (0 ∷ rest) = rw (zeros_last i) (simp append_assoc) in
    let long : length front ≡ size + i = simp (length-append, length-map, length-replicate) (omega arith) in
    ap (λ (t : List ℕ). set (set t i o.child) (size + i) o.label) (q ∙ one)
    ∙ ap (λ (t : List ℕ). set t (size + i) o.label) (set_at (zeros i) 0 (children p ++ (zeros (i + 1) ++ rest)) o.child i (length-replicate i 0) ∙ two)
    ∙ set_at front 0 rest o.label (size + i) long ∙ simp append_assoc

-- a sheet of zeros, with the steps in four bytes, the block, the entries, and then their number
module _ (w x y z block : ℕ) where
  written : (size : ℕ) (p : List Open) → size ≡ length p → size ≤ most_open
      → set (fills (set ((w ∷ x ∷ y ∷ z ∷ []) ++ drop 4 (zeros pause_width)) 5 block) size 0 p) 4 size
      ≡ w ∷ x ∷ y ∷ z ∷ length p ∷ block ∷ (children p ++ (labels p ++ zeros (pause_width - unused_at (length p))))
  written size p h k =
      ap (λ (t : List ℕ). set t 4 size) (fills_past w x y z 0 block (zeros 250) size 0 p)
      ∙ ap (λ (t : List ℕ). w ∷ x ∷ y ∷ z ∷ size ∷ block ∷ t) (puts_are p size 0 250 (pause_width - unused_at (length p)) (omega arith) (omega arith))
      ∙ ap (λ (n : ℕ). w ∷ x ∷ y ∷ z ∷ n ∷ block ∷ (children p ++ (labels p ++ zeros (pause_width - unused_at (length p))))) h

-- a number's four bytes, the lowest first
four_bytes : (n : ℕ) → to_le_bytes w32 n ≡ number_bytes 4 n
unfolding number_bytes
four_bytes n =
    let a : n / 65536 % 256 ≡ n / 256 / 256 % 256 = omega arith in
    let b : n / 16777216 % 256 ≡ n / 256 / 256 / 256 % 256 = omega arith in
    rw (a, b)

pub paused : (steps block size : ℕ) (p : List Open) (bytes zeroed new : List ℕ) (s : State) → bytes ≡ to_le_bytes w32 steps → zeroed ≡ replicate pause_width 0
    → s.steps ≡ steps → Traced (set (bytes ++ drop 4 zeroed) 5 block) new 0 p size → set new 4 size ≡ pause_sheet (standing block p s)
unfolding pause_sheet number_bytes
paused steps block size p bytes zeroed new s b e i h =
    ap (λ (u : List ℕ). set u 4 size) h.filled
    ∙ ap (λ (u : List ℕ). set (fills (set (u ++ drop 4 zeroed) 5 block) size 0 p) 4 size) (b ∙ four_bytes steps)
    ∙ ap (λ (u : List ℕ). set (fills (set (number_bytes 4 steps ++ drop 4 u) 5 block) size 0 p) 4 size) e
    ∙ written (steps % 256) (steps / 256 % 256) (steps / 256 / 256 % 256) (steps / 256 / 256 / 256 % 256) block size p (omega (arith, h.size_is)) h.short
    ∙ ap (λ (n : ℕ). number_bytes 4 n ++ (length p ∷ block ∷ (children p ++ (labels p ++ zeros (pause_width - unused_at (length p)))))) (sym i)
