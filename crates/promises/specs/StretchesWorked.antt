-- Document 02, N8, "Pause and carry on": worked examples as bytes, of both entry points, each with its answer, and with what its output and its pause
-- buffer then hold. Assumes nothing.
use Rattle.std.specs.Prelude.{ℕ, ◌-◌, ◌*◌, ◌≡◌, List, [], ◌∷◌, ◌++◌, map, length, replicate}
use Rattle.values.specs.declared.Answer.{Answer}
use Rattle.values.specs.Result.{says}
use Rattle.calculus.specs.Vectors.{blank, int, bool, reads, writes, value, wrote, kept, two_slots, opening, flagged, assign, lit, read, while, block, sheet_of, none, one, both, branches, branch_at}
use Rattle.calculus.specs.OperationsWorked.{counts}
use Rattle.calculus.specs.JournalsWorked.{thrice}
use Rattle.pausing.specs.Stretches.{From, checkpoint, Stretch, stretch, answer, output, pause}

-- a call of the entry point that starts, or of the one that carries on; its answer; what both buffers then hold
pub record Worked : Type 0 where
  pub from : From
  pub call : Stretch
  pub answer : Answer
  pub output : List ℕ
  pub pause : List ℕ

-- a pause sheet that starts with some bytes: "exactly 256 bytes", "Unused bytes are 0"
abbrev pub sheet : List ℕ → List ℕ
sheet bytes = bytes ++ replicate (256 - length bytes) 0

-- what the pause buffer holds before each call
abbrev pub lent : List ℕ
lent = replicate 256 0xBB

-- a call with buffers of the lengths asked for, over two slots
abbrev pub fitted : (rule budget : ℕ) (store programme : List ℕ) → Stretch
fitted rule budget store programme = stretch store programme rule budget (13 * 2) 256

-- it is out of budget, in a block at an offset after so many steps, and writes both; it finishes; it is refused
abbrev pub pausing : From → (rule budget : ℕ) (store programme : List ℕ) (block offset steps : ℕ) (out sheet : List ℕ) → Worked
pausing from rule budget store programme block offset steps out sheet =
    record { from = from; call = fitted rule budget store programme; answer = says 17 block offset steps; output = out; pause = sheet }

abbrev pub finishing : From → (rule budget : ℕ) (store programme : List ℕ) (blocks steps : ℕ) → List ℕ → Worked
finishing from rule budget store programme blocks steps out =
    record { from = from; call = fitted rule budget store programme; answer = says 0 blocks 0 steps; output = out; pause = lent }

abbrev pub refusing : From → Stretch → Answer → Worked
refusing from call answer = record { from = from; call = call; answer = answer; output = blank; pause = lent }

-- A programme over a store, under a rule, that finishes after `all` steps: out of budget before then, it writes `out` and `sheet`; carried on from
-- these with the same budget or with none it writes them again; and with a budget for all the steps it finishes as if it had never paused.
pub record Course : Type 0 where
  pub rule : ℕ
  pub store : List ℕ
  pub programme : List ℕ
  pub blocks : ℕ
  pub all : ℕ
  pub end : List ℕ

abbrev pub paused_at : Course → (block offset steps : ℕ) (out sheet : List ℕ) → List Worked
paused_at c block offset steps out sheet =
    let again = checkpoint out sheet in
    pausing From.opening c.rule steps c.store c.programme block offset steps out sheet
    ∷ pausing again c.rule steps c.store c.programme block offset steps out sheet
    ∷ pausing again c.rule 0 c.store c.programme block offset steps out sheet
    ∷ finishing again c.rule c.all c.store c.programme c.blocks c.all c.end
    ∷ []

-- never paused
abbrev pub outright : Course → Worked
outright c = finishing From.opening c.rule c.all c.store c.programme c.blocks c.all c.end

abbrev pub course : (rule : ℕ) (store programme : List ℕ) (blocks all : ℕ) → List ℕ → Course
course rule store programme blocks all end =
    record { rule = rule; store = store; programme = programme; blocks = blocks; all = all; end = end }

-- Programmes

-- P9 over slot 0 true, and false
abbrev pub then_part : ℕ → Course
then_part rule = course rule flagged (one 1 branches) 1 2 (kept (bool 1) ++ wrote 1 (int 41))

abbrev pub unflagged : List ℕ
unflagged = two_slots (bool 0) (int 7)

abbrev pub else_part : ℕ → Course
else_part rule = course rule unflagged (one 1 branches) 1 2 (kept (bool 0) ++ wrote 1 (int 42))

-- three assignments to slot 0 in a sequence, at offsets 2, 23 and 44
abbrev pub in_turn : Course
in_turn = course 0 opening (one 0 thrice) 1 3 (wrote 3 (int 9) ++ kept (int 7))

-- while slot 0 < slot 1 do slot 0 := slot 0 + 1, the assignment at offset 24
abbrev pub counting : Course
counting = course 3 opening (one 0 counts) 1 5 (wrote 2 (int 7) ++ kept (int 7))

-- slot 0 := 42; a block without a step; slot 0 := true
abbrev pub third : List ℕ
third = sheet_of (block 0 (assign (writes 0) (lit (int 42))) ∷ block 0 (0x20 ∷ []) ∷ block 0 (assign (writes 0) (lit (bool 1))) ∷ [])

abbrev pub passing : Course
passing = course 1 opening third 3 2 (wrote 2 (bool 1) ++ kept (int 7))

-- Principals 1 and 2 are unrelated, both above 0 and below 3. Slot 0, of owner 1, holds 5, and slot 1, of owner 0, true.
abbrev pub diamond : List ℕ
diamond = 4 ∷ 2 ∷ 0 ∷ 1 ∷ 0 ∷ 0 ∷ 0 ∷ 3 ∷ 0 ∷ 0 ∷ 0 ∷ 5 ∷ 0 ∷ 0 ∷ 0 ∷ 15 ∷ 0 ∷ 0 ∷ 0 ∷ 1 ∷ 0 ∷ (int 5 ++ bool 1)

-- block 0: slot 0 := true; block 1: skip, and if slot 0 then (skip, and while slot 1 do slot 1 := false) else skip
abbrev pub nest : List ℕ
nest =
    both 3 (assign (writes 0) (lit (bool 1))) 3
    (0x22 ∷ 2 ∷ 0x20 ∷ 0x23 ∷ (read 0 ++ 0x22 ∷ 2 ∷ 0x20 ∷ 0x24 ∷ (read 1 ++ assign (writes 1) (lit (bool 0)) ++ 0x20 ∷ [])))

abbrev pub nested : Course
nested = course 3 diamond nest 2 5 (wrote 1 (bool 1) ++ wrote 1 (bool 0))

-- its output after 1, 2 and 3 steps, and its sheet after 3, inside the while: labels 3, 1, 1 and 0
abbrev pub nest_out : List ℕ
nest_out = wrote 1 (bool 1) ++ kept (bool 1)

abbrev pub nest_sheet : List ℕ
nest_sheet = sheet (3 ∷ 0 ∷ 0 ∷ 0 ∷ 4 ∷ 1 ∷ 1 ∷ 0 ∷ 1 ∷ 0 ∷ 3 ∷ 1 ∷ 1 ∷ 0 ∷ [])

-- Pausing

-- "steps so far (4 bytes), path length (1), block number (1), then two parallel arrays of one byte an entry, the child taken (from 0; then-part 0,
-- else-part 1, body 0) and the branch label inside it, from the block's command to the command whose step is next."
unfoldable pub places : List Worked
places =
    -- a block's own command is next: no entry
    (outright passing ∷ paused_at passing 0 0 0 (kept (int 5) ++ kept (int 7)) (sheet []))
    -- in the third block: the second takes no step
    ++ paused_at passing 2 0 1 (wrote 1 (int 42) ++ kept (int 7)) (sheet (1 ∷ 0 ∷ 0 ∷ 0 ∷ 0 ∷ 2 ∷ []))
    -- in a sequence: at its first command, and at its last
    ++ (outright in_turn ∷ paused_at in_turn 0 2 0 (kept (int 5) ++ kept (int 7)) (sheet (0 ∷ 0 ∷ 0 ∷ 0 ∷ 1 ∷ 0 ∷ 0 ∷ 1 ∷ [])))
    ++ paused_at in_turn 0 44 2 (wrote 2 (reads 1) ++ kept (int 7)) (sheet (2 ∷ 0 ∷ 0 ∷ 0 ∷ 1 ∷ 0 ∷ 2 ∷ 1 ∷ []))
    -- "Branch labels are kept under every rule.": in a then-part, and in an else-part at offset 33
    ++ (outright (then_part 2) ∷ paused_at (then_part 2) 0 branch_at 1 (kept (bool 1) ++ kept (int 7)) (sheet (1 ∷ 0 ∷ 0 ∷ 0 ∷ 1 ∷ 0 ∷ 0 ∷ 0 ∷ [])))
    ++ (outright (else_part 0) ∷ paused_at (else_part 0) 0 33 1 (kept (bool 0) ++ kept (int 7)) (sheet (1 ∷ 0 ∷ 0 ∷ 0 ∷ 1 ∷ 0 ∷ 1 ∷ 0 ∷ [])))
    ++ paused_at (else_part 1) 0 33 1 (kept (bool 0) ++ kept (int 7)) (sheet (1 ∷ 0 ∷ 0 ∷ 0 ∷ 1 ∷ 0 ∷ 1 ∷ 0 ∷ []))
    -- in a while's body, where the while is to be judged again (no entry of its own), and in the body once more
    ++ (outright counting ∷ paused_at counting 0 24 1 (kept (int 5) ++ kept (int 7)) (sheet (1 ∷ 0 ∷ 0 ∷ 0 ∷ 1 ∷ 0 ∷ 0 ∷ 0 ∷ [])))
    ++ paused_at counting 0 0 2 (wrote 1 (int 6) ++ kept (int 7)) (sheet (2 ∷ 0 ∷ 0 ∷ 0 ∷ 0 ∷ 0 ∷ []))
    ++ paused_at counting 0 24 3 (wrote 1 (int 6) ++ kept (int 7)) (sheet (3 ∷ 0 ∷ 0 ∷ 0 ∷ 1 ∷ 0 ∷ 0 ∷ 0 ∷ []))
    -- in the second block, in a sequence, an if, a sequence and a while
    ++ (outright nested ∷ paused_at nested 1 3 1 nest_out (sheet (1 ∷ 0 ∷ 0 ∷ 0 ∷ 1 ∷ 1 ∷ 1 ∷ 3 ∷ [])))
    ++ paused_at nested 1 18 2 nest_out (sheet (2 ∷ 0 ∷ 0 ∷ 0 ∷ 3 ∷ 1 ∷ 1 ∷ 0 ∷ 1 ∷ 3 ∷ 1 ∷ 1 ∷ []))
    ++ paused_at nested 1 30 3 nest_out nest_sheet
    ++ paused_at nested 1 18 4 nested.end (sheet (4 ∷ 0 ∷ 0 ∷ 0 ∷ 3 ∷ 1 ∷ 1 ∷ 0 ∷ 1 ∷ 3 ∷ 1 ∷ 1 ∷ []))

-- two slots that were never written
abbrev pub fresh : List ℕ
fresh = kept (int 5) ++ kept (int 7)

-- P12, while true do skip, is never finished: over an output and a sheet
abbrev pub endless : ℕ → List ℕ → List ℕ → (steps : ℕ) → List ℕ → Worked
endless budget out from steps to = pausing (checkpoint out from) 0 budget opening (one 0 (while 1)) 0 0 steps out to

-- "a budget that includes the steps so far; one at or below them gives 17 before any step"
unfoldable pub budgets : List Worked
budgets =
    pausing From.opening 0 5 opening (one 0 (while 1)) 0 0 5 fresh (sheet (5 ∷ []))
    -- 2, 5 and 6 against 5
    ∷ endless 2 fresh (sheet (5 ∷ [])) 5 (sheet (5 ∷ []))
    ∷ endless 5 fresh (sheet (5 ∷ [])) 5 (sheet (5 ∷ []))
    ∷ endless 6 fresh (sheet (5 ∷ [])) 6 (sheet (6 ∷ []))
    -- 260 against 255: the steps so far have four bytes
    ∷ endless 260 fresh (sheet (255 ∷ [])) 260 (sheet (4 ∷ 1 ∷ []))
    -- steps so far above any budget are no refusal of their own
    ∷ endless 1_000_000 fresh (sheet (255 ∷ 255 ∷ 255 ∷ 255 ∷ [])) 4_294_967_295 (sheet (255 ∷ 255 ∷ 255 ∷ 255 ∷ []))
    -- counts as high as the steps so far
    ∷ endless 0 (wrote 2 (int 5) ++ wrote 3 (int 7)) (sheet (5 ∷ [])) 5 (sheet (5 ∷ []))
    -- no block, no step: it finishes with a budget of 0
    ∷ finishing From.opening 0 0 opening none 0 0 fresh
    ∷ []

-- the values of the store sheet are judged by 5, and then not used
unfoldable pub values : List Worked
values =
    refusing (checkpoint fresh (sheet (1 ∷ []))) (fitted 0 3 (two_slots (value 4 0) (int 7)) (one 0 (while 1))) (says 5 0 0 0)
    ∷ finishing (checkpoint (kept (int 5) ++ kept (int 7)) (sheet [])) 1 2 (two_slots (int 50) (int 70)) third 3 2 passing.end
    ∷ []

-- A change of rule

-- P9, paused at its branch under a rule
abbrev pub at_branch : From
at_branch = checkpoint (kept (bool 1) ++ kept (int 7)) (sheet (1 ∷ 0 ∷ 0 ∷ 0 ∷ 1 ∷ 0 ∷ 0 ∷ 0 ∷ []))

abbrev pub branch_under : ℕ → Stretch
branch_under rule = fitted rule 10 flagged (one 1 branches)

-- while slot 0 do slot 1 := 41, the assignment at P9's offset
abbrev pub repeats : List ℕ
repeats = 0x24 ∷ (read 0 ++ assign (writes 1) (lit (int 41)))

-- "After a change of rule, the next step is the first judged by the new one."
unfoldable pub changes : List Worked
changes =
    -- the sheet is the same, whatever the rule
    pausing From.opening 3 1 flagged (one 1 branches) 0 branch_at 1 (kept (bool 1) ++ kept (int 7)) (sheet (1 ∷ 0 ∷ 0 ∷ 0 ∷ 1 ∷ 0 ∷ 0 ∷ 0 ∷ []))
    -- rules 3 and 255 refuse the branch's write, and a refusal leaves both buffers untouched; the others make it
    ∷ refusing at_branch (branch_under 3) (says 16 0 branch_at 1)
    ∷ refusing at_branch (branch_under 255) (says 16 0 branch_at 1)
    ∷ finishing at_branch 2 10 flagged (one 1 branches) 1 2 (then_part 2).end
    ∷ finishing at_branch 1 10 flagged (one 1 branches) 1 2 (then_part 2).end
    ∷ finishing at_branch 0 10 flagged (one 1 branches) 1 2 (then_part 2).end
    -- no step, so nothing is judged
    ∷ pausing at_branch 3 1 flagged (one 1 branches) 0 branch_at 1 (kept (bool 1) ++ kept (int 7)) (sheet (1 ∷ 0 ∷ 0 ∷ 0 ∷ 1 ∷ 0 ∷ 0 ∷ 0 ∷ []))
    -- in a while's body as in a branch: the label inside is taken up again
    ∷ pausing From.opening 2 1 flagged (one 1 repeats) 0 branch_at 1 (kept (bool 1) ++ kept (int 7)) (sheet (1 ∷ 0 ∷ 0 ∷ 0 ∷ 1 ∷ 0 ∷ 0 ∷ 0 ∷ []))
    ∷ refusing at_branch (fitted 3 10 flagged (one 1 repeats)) (says 16 0 branch_at 1)
    ∷ []

abbrev pub stretches : List Worked
stretches = places ++ budgets ++ values ++ changes

-- what the definitions say of an example's call, and what the example says
pub record Noted : Type 0 where
  pub said : Answer
  pub left : List ℕ
  pub paused : List ℕ

abbrev pub noted : Worked → Noted
noted x = record { said = answer x.from x.call; left = output x.from x.call blank; paused = pause x.from x.call lent }

abbrev pub foreseen : Worked → Noted
foreseen x = record { said = x.answer; left = x.output; paused = x.pause }

-- each of a list comes to its answer, its output and its pause sheet
abbrev pub Hold : List Worked → Type 0
Hold xs = map noted xs ≡ map foreseen xs

abbrev pub StretchesHold : Type 0
StretchesHold = Hold stretches
