-- Laws of `pause_sheet` (specs/Stretches.antt): it holds bytes, and its steps, its block and its path are read back. Assumes nothing.
use Prim.Native.Nat.{ℕ, zero, suc, ◌+◌, ◌-◌, ◌%◌, ◌/◌, ◌^◌, ◌<◌}
use mathlib.Core.Path.{◌≡◌, refl, sym, ap, ap₂, ◌∙◌}
use mathlib.Core.Bool.{true}
use mathlib.Core.List.{List, [], ◌∷◌, ◌++◌, map}
use native.Mathlib.Omega.{arith}
use lib.ListN.{length, get_or, replicate, length-map}
use lib.Seq.{take_at, get_or-append-add, ext_get_or}
use borrow.Author.Tests.{eq-eqb}
use Rattle.lattice.proofs.Tests.{every_of}
use Rattle.values.specs.Bytes.{Bytes, number_at, number_bytes, table}
use Rattle.values.specs.Value.{Slot, empty_slot, value_bytes, count_width, payload_width, slot_bytes}
use Rattle.values.proofs.BytesArrays.{length_table, table_at, table_same}
use Rattle.values.proofs.Bytes.{length_number, number_part, number_read}
use Rattle.store.specs.Sheet.{slots_bytes}
use Rattle.pausing.specs.Paths.{Open}
use Rattle.pausing.specs.Stretches.{Position, pause_width, steps_width, children_at, labels_at, unused_at, pause_sheet, steps_in, open_in, block_in, entry_in, path_in, unused_zero}
use Rattle.pausing.proofs.PathsLeads.{Each, Small}

-- Bytes

bytes_nil : Bytes []
bytes_nil i = omega arith

bytes_cons : (a : ℕ) (s : List ℕ) → a < 256 → Bytes s → Bytes (a ∷ s)
bytes_cons a s h b zero = h
bytes_cons a s h b (suc i) = b i

bytes_append : (s u : List ℕ) → Bytes s → Bytes u → Bytes (s ++ u)
bytes_append [] u b c i = c i
bytes_append (a ∷ s) u b c zero = b 0
bytes_append (a ∷ s) u b c (suc i) = bytes_append s u (λ j. b (suc j)) c i

bytes_number : (width x : ℕ) → Bytes (number_bytes width x)
unfolding number_bytes
bytes_number zero x = bytes_nil
bytes_number (suc width) x = bytes_cons (x % 256) (number_bytes width (x / 256)) (omega arith) (bytes_number width (x / 256))

bytes_zeros : (n : ℕ) → Bytes (replicate n 0)
bytes_zeros zero = bytes_nil
bytes_zeros (suc n) = bytes_cons 0 (replicate n 0) (omega arith) (bytes_zeros n)

bytes_map : (f : Open → ℕ) (p : List Open) → Each (λ o. f o < 256) p → Bytes (map f p)
unfolding Each
bytes_map f [] h = bytes_nil
bytes_map f (o ∷ p) h = bytes_cons (f o) (map f p) h.0 (bytes_map f p h.1)

bytes_slot : (s : Slot) → Bytes (slot_bytes s)
unfolding slot_bytes value_bytes
bytes_slot s =
    let value = number_bytes payload_width s.value.payload in
    bytes_append (s.value.kind % 256 ∷ value) (number_bytes count_width s.writes)
    (bytes_cons (s.value.kind % 256) value (omega arith) (bytes_number payload_width s.value.payload)) (bytes_number count_width s.writes)

-- an output as written
pub bytes_slots : (store : List Slot) (i n : ℕ) → Bytes (slots_bytes store i n)
unfolding slots_bytes
bytes_slots store i zero = bytes_nil
bytes_slots store i (suc n) =
    bytes_append (slot_bytes (get_or store i empty_slot)) (slots_bytes store (i + 1) n)
    (bytes_slot (get_or store i empty_slot)) (bytes_slots store (i + 1) n)

-- Paths

pub each_map : (P Q : Open → Type 0) (p : List Open) → ((o : Open) → P o → Q o) → Each P p → Each Q p
unfolding Each
each_map P Q [] f h = tt
each_map P Q (o ∷ p) f h = (f o h.0, each_map P Q p f h.1)

map_at : (f : Open → ℕ) (d : Open) (p : List Open) (u : List ℕ) (i : ℕ) → i < length p → get_or (map f p ++ u) i 0 ≡ f (get_or p i d)
map_at f d [] u i h = absurd (omega arith)
map_at f d (o ∷ p) u zero h = refl
map_at f d (o ∷ p) u (suc i) h = map_at f d p u i (omega arith)

map_past : (f : Open → ℕ) (p : List Open) (u : List ℕ) (i : ℕ) → get_or (map f p ++ u) (length p + i) 0 ≡ get_or u i 0
map_past f p u i =
    ap (λ (n : ℕ). get_or (map f p ++ u) (n + i) 0) (sym (length-map p f)) ∙ get_or-append-add (map f p) u i 0

zeros_at : (m k : ℕ) → ◌≡◌ {A = ℕ} (get_or (replicate m 0) k 0) 0
zeros_at zero k = refl
zeros_at (suc m) zero = refl
zeros_at (suc m) (suc k) = zeros_at m k

table_again : {A : Type 0} (d : A) (xs : List A) → table (length xs) (λ i. get_or xs i d) ≡ xs
table_again d xs =
    let size = length_table (length xs) (λ i. get_or xs i d) in
    ext_get_or d _ _ size (λ i h. table_at (length xs) (λ j. get_or xs j d) d i (omega arith))

-- A sheet

module _ (steps block : ℕ) (p : List Open) where
  abbrev children : List ℕ
  children = map (λ (o : Open). o.child) p

  abbrev labels : List ℕ
  labels = map (λ (o : Open). o.label) p

  abbrev zeros : List ℕ
  zeros = replicate (pause_width - unused_at (length p)) 0

  abbrev rest : List ℕ
  rest = children ++ (labels ++ zeros)

  abbrev sheet : List ℕ
  sheet = number_bytes steps_width steps ++ (length p ∷ block ∷ rest)

  -- past the first six bytes
  past : (n i : ℕ) → n ≡ 6 + i → get_or sheet n 0 ≡ get_or rest i 0
  unfolding number_bytes
  past n i h = let z : n ≡ suc (suc (suc (suc (suc (suc i))))) = omega arith in rw z

  steps_back : steps < 2 ^ 32 → steps_in sheet ≡ steps
  steps_back h =
      sym (number_part steps_width steps_width sheet 0 0 (omega arith))
      ∙ ap (λ (l : List ℕ). number_at steps_width l 0)
      (take_at (number_bytes steps_width steps) (length p ∷ block ∷ rest) steps_width (length_number steps_width steps))
      ∙ number_read steps_width steps h

  open_back : open_in sheet ≡ length p
  unfolding number_bytes
  open_back = refl

  block_back : block_in sheet ≡ block
  unfolding number_bytes
  block_back = refl

  abbrev none : Open
  none = record { child = 0; label = 0 }

  child_at : (i : ℕ) → i < length p → get_or sheet (children_at + i) 0 ≡ (get_or p i none).child
  child_at i h = past (children_at + i) i refl ∙ map_at (λ (o : Open). o.child) none p (labels ++ zeros) i h

  label_at : (i : ℕ) → i < length p → get_or sheet (labels_at (length p) + i) 0 ≡ (get_or p i none).label
  label_at i h =
      past (labels_at (length p) + i) (length p + i) (omega arith) ∙ map_past (λ (o : Open). o.child) p (labels ++ zeros) i
      ∙ map_at (λ (o : Open). o.label) none p zeros i h

  unused_at_law : (i : ℕ) → get_or sheet (unused_at (length p) + i) 0 ≡ 0
  unused_at_law i =
      past (unused_at (length p) + i) (length p + (length p + i)) (omega arith) ∙ map_past (λ (o : Open). o.child) p (labels ++ zeros) (length p + i)
      ∙ map_past (λ (o : Open). o.label) p zeros i ∙ zeros_at (pause_width - unused_at (length p)) i

  entry_back : (i : ℕ) → i < length p → entry_in sheet i ≡ get_or p i none
  entry_back i h =
      ap₂ (λ (c l : ℕ). record { child = c; label = l }) (child_at i h)
      (ap (λ (n : ℕ). get_or sheet (labels_at n + i) 0) open_back ∙ label_at i h)

  path_back : path_in sheet ≡ p
  path_back =
      ap (λ (n : ℕ). table n (entry_in sheet)) open_back ∙ table_same (length p) (entry_in sheet) (λ i. get_or p i none) entry_back ∙ table_again none p

  unused_back : unused_zero sheet ≡ true
  unfolding unused_zero
  unused_back =
      every_of _ _ (λ i _. eq-eqb _ _ (ap (λ (n : ℕ). get_or sheet (unused_at n + i) 0) open_back ∙ unused_at_law i))

  bytes_sheet : length p < 256 → block < 256 → Each (Small 256) p → Bytes sheet
  bytes_sheet h k e =
      bytes_append (number_bytes steps_width steps) (length p ∷ block ∷ rest) (bytes_number steps_width steps)
      (bytes_cons (length p) (block ∷ rest) h
      (bytes_cons block rest k
      (bytes_append children (labels ++ zeros) (bytes_map _ p (each_map _ _ p (λ o s. s.child) e))
      (bytes_append labels zeros (bytes_map _ p (each_map _ _ p (λ o s. s.label) e)) (bytes_zeros (pause_width - unused_at (length p)))))))

-- what a pause sheet as written says
module _ (x : Position) where
  pub sheet_steps : x.state.steps < 2 ^ 32 → steps_in (pause_sheet x) ≡ x.state.steps
  unfolding pause_sheet
  sheet_steps = steps_back x.state.steps x.block x.path

  pub sheet_open : open_in (pause_sheet x) ≡ length x.path
  unfolding pause_sheet
  sheet_open = open_back x.state.steps x.block x.path

  pub sheet_block : block_in (pause_sheet x) ≡ x.block
  unfolding pause_sheet
  sheet_block = block_back x.state.steps x.block x.path

  pub sheet_path : path_in (pause_sheet x) ≡ x.path
  unfolding pause_sheet
  sheet_path = path_back x.state.steps x.block x.path

  pub sheet_unused : unused_zero (pause_sheet x) ≡ true
  unfolding pause_sheet
  sheet_unused = unused_back x.state.steps x.block x.path

  pub sheet_bytes : length x.path < 256 → x.block < 256 → Each (Small 256) x.path → Bytes (pause_sheet x)
  unfolding pause_sheet
  sheet_bytes = bytes_sheet x.state.steps x.block x.path
