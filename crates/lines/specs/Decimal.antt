-- Document 01, "The printing program": "Fields are decimal". Assumes nothing.
use Rattle.std.specs.Prelude.{ℕ, zero, suc, ◌+◌, ◌-◌, ◌*◌, ◌/◌, ◌%◌, ◌^◌, ◌≤◌, ◌<◌, ◌≡◌, true, false, List, [], ◌∷◌, ◌++◌, length, get_or, ltb}
use Prim.Native.Char.{code}
use Prim.Native.String.{String, [] as none, ◌∷◌ as ◌then◌}

-- the bytes of a text in ASCII
abbrev pub ascii : String → List ℕ
ascii none = []
ascii (c then s) = code c ∷ ascii s

-- the ASCII digits are the bytes 48 to 57
abbrev pub digit : ℕ → ℕ
digit d = 48 + d

-- a number's digits, the most significant first, where so many places are enough for them
unfoldable pub decimal_within : ℕ → ℕ → List ℕ
decimal_within zero n = []
decimal_within (suc places) n =
    elim (ltb n 10) [ true ↦ digit n ∷ [] | false ↦ decimal_within places (n / 10) ++ (digit (n % 10) ∷ []) ]

-- the most places that a number of 64 bits has
abbrev pub most_places : ℕ
most_places = 20

abbrev pub decimal : ℕ → List ℕ
decimal n = decimal_within most_places n

-- the number that digits stand for, after those that stand for n
unfoldable pub read_on : ℕ → List ℕ → ℕ
read_on n [] = n
read_on n (b ∷ bs) = read_on (10 * n + (b - digit 0)) bs

-- Of every number of 64 bits: its text is digits, at least one, which stand for it, and with two or more the first is not 0. So no
-- number has two texts, and no text stands for two numbers.
pub record DecimalText : Type 0 where
  pub some : (n : ℕ) → n < 2 ^ 64 → 1 ≤ length (decimal n)
  pub digits : (n : ℕ) → n < 2 ^ 64 → (i : ℕ) → i < length (decimal n) → (digit 0 ≤ get_or (decimal n) i 0) × (get_or (decimal n) i 0 ≤ digit 9)
  pub reads : (n : ℕ) → n < 2 ^ 64 → read_on 0 (decimal n) ≡ n
  pub shortest : (n : ℕ) → n < 2 ^ 64 → 1 < length (decimal n) → digit 0 < get_or (decimal n) 0 0
