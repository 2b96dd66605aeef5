-- Worked examples of what is printed of an input. Assumes nothing.
use Rattle.std.specs.Prelude.{ℕ, ◌≡◌, List, [], ◌∷◌, ◌++◌, map}
use Rattle.lines.specs.Examples.{Example, prints, square}
use Rattle.calculus.specs.Vectors.{int, opening, two, none}
use Rattle.printing.specs.PrintedText.{printed}

-- what the definitions say of an input
abbrev pub played : Example → Example
played e = record { bytes = e.bytes; text = printed e.bytes }

-- document 01's example, under the rule given and with a budget of 10, its second block in the region given
abbrev pub sample : ℕ → ℕ → List ℕ
sample rule region = rule ∷ 10 ∷ 0 ∷ 0 ∷ 0 ∷ (opening ++ two region)

unfoldable pub inputs : List Example
inputs =
    -- "It prints: ..", with "two more fields" and "a last line" (document 02, N7)
    prints (sample 0 1) "end 0 block 2 at 0 steps 2\n0 0 0 42 1 2\n1 1 0 42 1 1\n2\n"
    ∷ prints (sample 3 0x81) "end 0 block 2 at 0 steps 2\n0 0 0 42 1 2\n1 1 0 42 1 1\n2\n"
    -- no block: no slot was written; and no slot: the total is printed all the same
    ∷ prints (0 ∷ 0 ∷ 0 ∷ 0 ∷ 0 ∷ (square ++ int 1 ++ int 2 ++ int 3 ++ int 4 ++ none))
    "end 0 block 0 at 0 steps 0\n0 0 0 1 0 4\n1 1 0 2 0 2\n2 2 0 3 0 2\n3 3 0 4 0 1\n0\n"
    ∷ prints (0 ∷ 0 ∷ 0 ∷ 0 ∷ 0 ∷ 1 ∷ 0 ∷ 0 ∷ 1 ∷ 0 ∷ 0 ∷ 0 ∷ none) "end 0 block 0 at 0 steps 0\n0\n"
    -- "A refusal prints line 1 only."
    ∷ prints (sample 2 1) "end 16 block 1 at 0 steps 1\n"
    ∷ prints (sample 4 1) "end 11 block 0 at 0 steps 0\n"
    -- "Fewer than 5 bytes print refusal 1."
    ∷ prints (0 ∷ 10 ∷ 0 ∷ 0 ∷ []) "end 1 block 0 at 0 steps 0\n"
    ∷ prints [] "end 1 block 0 at 0 steps 0\n"
    -- "or all the bytes left where these are fewer or hold no sizes": a store sheet of two bytes, and one that lacks its last
    ∷ prints (0 ∷ 10 ∷ 0 ∷ 0 ∷ 0 ∷ 1 ∷ 0 ∷ []) "end 1 block 0 at 0 steps 0\n"
    ∷ prints (0 ∷ 10 ∷ 0 ∷ 0 ∷ 0 ∷ 1 ∷ 0 ∷ 0 ∷ 1 ∷ 0 ∷ 0 ∷ []) "end 1 block 0 at 0 steps 0\n"
    -- 257 slots: refused by 2
    ∷ prints (0 ∷ 10 ∷ 0 ∷ 0 ∷ 0 ∷ 1 ∷ 1 ∷ 1 ∷ 1 ∷ 0 ∷ 0 ∷ 0 ∷ []) "end 2 block 0 at 0 steps 0\n"
    ∷ []

abbrev pub InputsHold : Type 0
InputsHold = map played inputs ≡ inputs
