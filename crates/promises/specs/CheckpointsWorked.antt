-- Document 02, N8: worked examples of checkpoints and buffers that are refused, as bytes, and of those that are let pass. Assumes nothing.
use Rattle.std.specs.Prelude.{ℕ, ◌-◌, List, [], ◌∷◌, ◌++◌, replicate}
use Rattle.values.specs.Result.{says}
use Rattle.calculus.specs.Vectors.{int, bool, reads, writes, value, wrote, kept, opening, while, none, one}
use Rattle.calculus.specs.JournalsWorked.{thrice}
use Rattle.pausing.specs.Stretches.{From, checkpoint, stretch}
use Rattle.promises.specs.StretchesWorked.{Worked, sheet, fitted, pausing, refusing, diamond, nest, nest_out, fresh, endless, Hold}

-- carrying on, with a budget of 10 under rule 0
abbrev pub misplaced : (store programme out sheet : List ℕ) → Worked
misplaced store programme out sheet = refusing (checkpoint out sheet) (fitted 0 10 store programme) (says 19 0 0 0)

-- one block of code over slots 5 and 7, from a sheet
abbrev pub astray : List ℕ → List ℕ → Worked
astray code bytes = misplaced opening (one 0 code) fresh (sheet bytes)

-- the nested programme, with another path than its own, of four entries
abbrev pub wandering : (children labels : List ℕ) → Worked
wandering children labels = misplaced diamond nest nest_out (sheet (3 ∷ 0 ∷ 0 ∷ 0 ∷ 4 ∷ 1 ∷ (children ++ labels)))

-- one that is let pass, inside the while, and its labels then stand in the next sheet
abbrev pub forged : List ℕ → Worked
forged labels =
    let from = sheet (3 ∷ 0 ∷ 0 ∷ 0 ∷ 4 ∷ 1 ∷ 1 ∷ 0 ∷ 1 ∷ 0 ∷ labels) in
    pausing (checkpoint nest_out from) 3 3 diamond nest 1 30 3 nest_out from

-- "19 when the path doesn't lead to an assignment, if or while"
unfoldable pub paths : List Worked
paths =
    -- to a skip: a while's body, and a block's own command
    astray (while 1) (1 ∷ 0 ∷ 0 ∷ 0 ∷ 1 ∷ 0 ∷ 0 ∷ 1 ∷ [])
    ∷ astray (0x20 ∷ []) []
    -- to a sequence: a block's own, and one inside an if
    ∷ astray thrice []
    ∷ misplaced diamond nest nest_out (sheet (2 ∷ 0 ∷ 0 ∷ 0 ∷ 2 ∷ 1 ∷ 1 ∷ 0 ∷ 3 ∷ 1 ∷ []))
    -- a child past the end: of a sequence, of an if, of a while; an assignment has none
    ∷ astray thrice (2 ∷ 0 ∷ 0 ∷ 0 ∷ 1 ∷ 0 ∷ 3 ∷ 1 ∷ [])
    ∷ wandering (1 ∷ 2 ∷ 1 ∷ 0 ∷ []) (3 ∷ 1 ∷ 1 ∷ 0 ∷ [])
    ∷ wandering (1 ∷ 0 ∷ 1 ∷ 1 ∷ []) (3 ∷ 1 ∷ 1 ∷ 0 ∷ [])
    ∷ astray thrice (2 ∷ 0 ∷ 0 ∷ 0 ∷ 2 ∷ 0 ∷ 0 ∷ 0 ∷ 1 ∷ 1 ∷ [])
    -- the block is not below k
    ∷ astray (while 1) (0 ∷ 0 ∷ 0 ∷ 0 ∷ 0 ∷ 1 ∷ [])
    ∷ astray (while 1) (0 ∷ 0 ∷ 0 ∷ 0 ∷ 0 ∷ 255 ∷ [])
    ∷ misplaced opening none fresh (sheet [])
    -- more entries than commands nest, and than the sheet has room for
    ∷ astray (while 1) (0 ∷ 0 ∷ 0 ∷ 0 ∷ 32 ∷ [])
    ∷ astray (while 1) (0 ∷ 0 ∷ 0 ∷ 0 ∷ 125 ∷ [])
    ∷ astray (while 1) (0 ∷ 0 ∷ 0 ∷ 0 ∷ 126 ∷ [])
    ∷ astray (while 1) (0 ∷ 0 ∷ 0 ∷ 0 ∷ 255 ∷ [])
    ∷ []

-- ".. a label isn't at or below the one outside it (equal in a sequence)"
unfoldable pub labels : List Worked
labels =
    -- it is no principal's
    wandering (1 ∷ 0 ∷ 1 ∷ 0 ∷ []) (3 ∷ 1 ∷ 1 ∷ 4 ∷ [])
    ∷ wandering (1 ∷ 0 ∷ 1 ∷ 0 ∷ []) (3 ∷ 255 ∷ 255 ∷ 0 ∷ [])
    -- it stands above the one outside, or is unrelated to it, its number higher or lower
    ∷ wandering (1 ∷ 0 ∷ 1 ∷ 0 ∷ []) (3 ∷ 1 ∷ 1 ∷ 3 ∷ [])
    ∷ wandering (1 ∷ 0 ∷ 1 ∷ 0 ∷ []) (3 ∷ 1 ∷ 1 ∷ 2 ∷ [])
    ∷ wandering (1 ∷ 0 ∷ 1 ∷ 0 ∷ []) (3 ∷ 2 ∷ 2 ∷ 1 ∷ [])
    -- in a sequence: above the one outside, and below it
    ∷ wandering (1 ∷ 0 ∷ 1 ∷ 0 ∷ []) (3 ∷ 1 ∷ 3 ∷ 0 ∷ [])
    ∷ wandering (1 ∷ 0 ∷ 1 ∷ 0 ∷ []) (3 ∷ 1 ∷ 0 ∷ 0 ∷ [])
    -- in a block's own sequence it is the top
    ∷ wandering (1 ∷ 0 ∷ 1 ∷ 0 ∷ []) (1 ∷ 1 ∷ 1 ∷ 0 ∷ [])
    ∷ astray thrice (2 ∷ 0 ∷ 0 ∷ 0 ∷ 1 ∷ 0 ∷ 2 ∷ 0 ∷ [])
    -- Guards are not judged again: a label "at or below the one outside it" passes, a higher one and a lower one than was written too.
    ∷ forged (3 ∷ 3 ∷ 3 ∷ 3 ∷ [])
    ∷ forged (3 ∷ 2 ∷ 2 ∷ 0 ∷ [])
    ∷ forged (3 ∷ 0 ∷ 0 ∷ 0 ∷ [])
    ∷ []

-- a sheet of 6 bytes and then others, the first of them unused
abbrev pub smudged : (zeros byte : ℕ) → Worked
smudged zeros byte = misplaced opening (one 0 (while 1)) fresh (0 ∷ 0 ∷ 0 ∷ 0 ∷ 0 ∷ 0 ∷ (replicate zeros 0 ++ byte ∷ replicate (249 - zeros) 0))

-- ".. an unused byte isn't 0"
unfoldable pub unused : List Worked
unused =
    smudged 0 1
    ∷ smudged 100 255
    ∷ smudged 249 1
    -- after both arrays
    ∷ misplaced diamond nest nest_out (sheet (3 ∷ 0 ∷ 0 ∷ 0 ∷ 4 ∷ 1 ∷ 1 ∷ 0 ∷ 1 ∷ 0 ∷ 3 ∷ 1 ∷ 1 ∷ 0 ∷ 3 ∷ []))
    ∷ []

-- an output with its steps so far, up to 255
abbrev pub spoilt : (steps : ℕ) → List ℕ → Worked
spoilt steps out = misplaced opening (one 0 (while 1)) out (sheet (steps ∷ []))

-- ".. a value is ill-formed, or counts add up to more than the steps"
unfoldable pub contents : List Worked
contents =
    -- no kind; a truth value of 2; views of a slot that is not there
    spoilt 5 (kept (value 4 0) ++ kept (int 7))
    ∷ spoilt 5 (kept (int 5) ++ kept (bool 2))
    ∷ spoilt 5 (kept (reads 2) ++ kept (int 7))
    ∷ spoilt 5 (kept (int 5) ++ kept (writes 2))
    -- one write against no step, and six against five
    ∷ spoilt 0 (wrote 1 (int 5) ++ kept (int 7))
    ∷ spoilt 5 (wrote 2 (int 5) ++ wrote 4 (int 7))
    -- 2 ^ 32 - 1 and 1: they add up "without wrapping"
    ∷ spoilt 5 (int 5 ++ 255 ∷ 255 ∷ 255 ∷ 255 ∷ wrote 1 (int 7))
    ∷ spoilt 5 (wrote 1 (int 5) ++ int 7 ++ 255 ∷ 255 ∷ 255 ∷ 255 ∷ [])
    ∷ []

-- "12 also covers all these": P12, with new buffers for output and pause sheet and old ones of other lengths
abbrev pub of_lengths : (room pause_room : ℕ) → From → Worked
of_lengths room pause_room from = refusing from (stretch opening (one 0 (while 1)) 0 10 room pause_room) (says 12 0 0 0)

unfoldable pub lengths : List Worked
lengths =
    -- starting
    of_lengths 25 256 From.opening
    ∷ of_lengths 27 256 From.opening
    ∷ of_lengths 18 256 From.opening
    ∷ of_lengths 26 255 From.opening
    ∷ of_lengths 26 257 From.opening
    ∷ of_lengths 26 0 From.opening
    -- carrying on
    ∷ of_lengths 25 256 (checkpoint fresh (sheet []))
    ∷ of_lengths 27 256 (checkpoint fresh (sheet []))
    ∷ of_lengths 26 255 (checkpoint fresh (sheet []))
    ∷ of_lengths 26 257 (checkpoint fresh (sheet []))
    ∷ of_lengths 26 256 (checkpoint (int 5 ++ int 7) (sheet []))
    ∷ of_lengths 26 256 (checkpoint (fresh ++ 0 ∷ []) (sheet []))
    ∷ of_lengths 26 256 (checkpoint [] (sheet []))
    ∷ of_lengths 26 256 (checkpoint fresh (replicate 255 0))
    ∷ of_lengths 26 256 (checkpoint fresh (replicate 257 0))
    ∷ of_lengths 26 256 (checkpoint fresh [])
    ∷ []

-- The order: 11; 1 to 5; 6 to 10; 12; "judged after 12", 19; then 17. Each has all that comes after it as well.
unfoldable pub order : List Worked
order =
    let bad = checkpoint fresh (sheet (7 ∷ 0 ∷ 0 ∷ 0 ∷ 0 ∷ 9 ∷ [])) in
    refusing bad (stretch [] [] 4 0 25 256) (says 11 0 0 0)
    ∷ refusing bad (stretch [] [] 0 1_000_001 25 256) (says 11 0 0 0)
    ∷ refusing bad (stretch [] [] 0 0 25 256) (says 1 0 0 0)
    ∷ refusing bad (stretch opening [] 0 0 25 256) (says 6 0 0 0)
    ∷ refusing bad (stretch opening (one 0 (while 1)) 0 0 25 256) (says 12 0 0 0)
    ∷ refusing bad (stretch opening (one 0 (while 1)) 0 0 26 256) (says 19 0 0 0)
    ∷ endless 0 fresh (sheet (7 ∷ [])) 7 (sheet (7 ∷ []))
    ∷ []

abbrev pub checkpoints : List Worked
checkpoints = paths ++ labels ++ unused ++ contents ++ lengths ++ order

abbrev pub CheckpointsHold : Type 0
CheckpointsHold = Hold checkpoints
