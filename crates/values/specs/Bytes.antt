-- Numbers in bytes: "Numbers of several bytes have the lowest byte first." Assumes nothing.
use Rattle.std.specs.Prelude.{ℕ, zero, suc, ◌+◌, ◌*◌, ◌/◌, ◌%◌, ◌<◌, true, false, List, [], ◌∷◌, take, drop, nat_lt, slice_index}

-- a list of bytes
abbrev pub Bytes : List ℕ → Type 0
Bytes s = (i : ℕ) → slice_index s i < 256

-- the number in `width` bytes from `at` on
unfoldable pub number_at : ℕ → List ℕ → ℕ → ℕ
number_at zero s at = 0
number_at (suc width) s at = slice_index s at + 256 * number_at width s (at + 1)

-- x in `width` bytes
unfoldable pub number_bytes : ℕ → ℕ → List ℕ
number_bytes zero x = []
number_bytes (suc width) x = x % 256 ∷ number_bytes width (x / 256)

-- `width` bytes from `at` on
abbrev pub part : List ℕ → ℕ → ℕ → List ℕ
part s at width = take width (drop at s)

-- the sizes at the start of a sheet, of either kind: a number of one byte and one of two
abbrev pub sizes_width : ℕ
sizes_width = 3

-- n entries: f at i, at i + 1, ..
unfoldable pub entries : {A : Type 0} → ℕ → ℕ → (ℕ → A) → List A
entries i zero f = []
entries i (suc n) f = f i ∷ entries (i + 1) n f

-- n entries: f at 0, at 1, ..
abbrev pub table : {A : Type 0} → ℕ → (ℕ → A) → List A
table n f = entries 0 n f

-- an array of `size` entries: those below n are f's, the others d
unfoldable pub filled : {A : Type 0} → ℕ → ℕ → (ℕ → A) → A → List A
filled size n f d = table size λ i. elim (nat_lt i n) [ true ↦ f i | false ↦ d ]
