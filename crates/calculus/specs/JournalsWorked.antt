-- Document 02, N7, "The writing journal": worked examples as bytes, each with its answer, its output, the entries that it fills, and what its journal
-- then holds. Assumes nothing.
use Rattle.std.specs.Prelude.{ℕ, zero, suc, ◌*◌, ◌≡◌, List, [], ◌∷◌, ◌++◌, map}
use Rattle.values.specs.declared.Answer.{Answer}
use Rattle.values.specs.declared.Entry.{Entry}
use Rattle.values.specs.declared.Value.{Value}
use Rattle.values.specs.Result.{says}
use Rattle.calculus.specs.Run.{call, entries, journal}
use Rattle.calculus.specs.Vectors.{Vector, runs_in, Played, played, expected, blank, int, bool, reads, writes, wrote, kept, opening, flagged, assign, lit, while, none, one, both, copy, raise, keep_view, two, branches, branch_at}
use Rattle.calculus.specs.Descents.{no_guard, write_through}
use Rattle.calculus.specs.OperationsWorked.{difference, minus_one, into0, counts}
use Rattle.calculus.specs.Floors.{again}

-- Entries

-- a value of a kind, and an integer
abbrev pub of : ℕ → ℕ → Value
of kind payload = record { kind = kind; payload = payload }

abbrev pub number : ℕ → Value
number = of 0

-- "block, offset, slot, old value, new value"
abbrev pub entry : (block offset slot : ℕ) (old new : Value) → Entry
entry block offset slot old new = record { block = block; offset = offset; slot = slot; old = old; new = new }

-- a journal of n entries as it is lent: they all differ, and its last k entries are `lent k`
abbrev pub lent : ℕ → List Entry
lent zero = []
lent (suc n) = entry n n n (number n) (number n) ∷ lent n

-- Examples

-- a run, the entries that it fills, and how many entries of its journal stay as they were, after those
pub record Journalled : Type 0 where
  pub run : Vector
  pub filled : List Entry
  pub free : ℕ

-- a run that finishes, with so many entries lent and so many left free
abbrev pub fills : (room free rule : ℕ) (store programme : List ℕ) (blocks steps : ℕ) → List ℕ → List Entry → Journalled
fills room free rule store programme blocks steps output filled =
    record { run = runs_in room rule 10 store programme (says 0 blocks 0 steps) output; filled = filled; free = free }

-- one that is refused: it fills none
abbrev pub leaves : (room rule budget : ℕ) (store programme : List ℕ) → Answer → Journalled
leaves room rule budget store programme answer =
    record { run = runs_in room rule budget store programme answer blank; filled = []; free = room }

-- P1: slot 0 := 42 in block 0, slot 1 := slot 0 in block 1
abbrev pub two42 : List ℕ
two42 = wrote 1 (int 42) ++ wrote 1 (int 42)

abbrev pub two42_entries : List Entry
two42_entries = entry 0 0 0 (number 5) (number 42) ∷ entry 1 0 1 (number 7) (number 42) ∷ []

-- "each assignment fills the next: block, offset, slot, old value, new value"
unfoldable pub filling : List Journalled
filling =
    -- exactly as many entries as writes, and one more, which is left as it was
    fills 2 0 0 opening (two 1) 2 2 two42 two42_entries
    ∷ fills 3 1 0 opening (two 1) 2 2 two42 two42_entries
    -- the slot is the one that the target names, here by a read of slot 0: a write view is put there, and then written through
    ∷ fills 2 0 0 opening (both 0 keep_view 1 write_through) 2 2 (wrote 1 (writes 1) ++ wrote 1 (int 9))
    (entry 0 0 0 (number 5) (of 3 1) ∷ entry 1 0 1 (number 7) (number 9) ∷ [])
    -- a payload has 64 bits: 0 - 1
    ∷ fills 1 0 0 opening (into0 (difference (lit (int 0)) (lit (int 1)))) 1 1 (wrote 1 minus_one ++ kept (int 7))
    (entry 0 0 0 (number 5) (number 0xFFFF_FFFF_FFFF_FFFF) ∷ [])
    -- a block without a write fills none, and counts in the number of the next
    ∷ fills 2 1 0 opening (both 0 (while 0) 1 raise) 2 2 (kept (int 5) ++ wrote 1 (int 9)) (entry 1 0 1 (number 7) (number 9) ∷ [])
    ∷ []

-- "18 when an assignment comes and no entry is free"
unfoldable pub full : List Journalled
full =
    -- P1: its second write, and its first
    leaves 1 0 10 opening (two 1) (says 18 1 0 1)
    ∷ leaves 0 0 10 opening (two 1) (says 18 0 0 0)
    -- ".. judged after 17": the same two, out of budget as well
    ∷ leaves 1 0 1 opening (two 1) (says 17 1 0 1)
    ∷ leaves 0 0 0 opening (two 1) (says 17 0 0 0)
    -- one step more: 18 again
    ∷ leaves 1 0 2 opening (two 1) (says 18 1 0 1)
    ∷ []

-- a block of its region under a rule: refused by 18 where no entry is free, and by a number of its own where one is
abbrev pub rather_than : (number rule region : ℕ) (code : List ℕ) → List Journalled
rather_than number rule region code =
    leaves 0 rule 10 opening (one region code) (says 18 0 0 0) ∷ leaves 1 rule 10 opening (one region code) (says number 0 0 0) ∷ []

-- ".. and before the target is evaluated"
unfoldable pub unjudged : List Journalled
unjudged =
    -- the target is no write view, or reads through an integer
    rather_than 13 0 0 (assign (int 5) (lit (int 9)))
    ++ rather_than 13 0 0 (0x21 ∷ 0x11 ∷ (lit (int 5) ++ lit (int 9)))
    -- it is a write view that rule 1 forbids to the region
    ++ rather_than 15 1 0 raise
    -- the region lacks authority over its slot
    ++ rather_than 14 0 0 raise
    -- the value's label is too low for its slot, under rules 2 and 3
    ++ rather_than 16 2 1 copy
    ++ rather_than 16 3 1 copy

-- An assignment needs an entry, and a guard none.
unfoldable pub guards : List Journalled
guards =
    -- P11 with no entry lent
    fills 0 0 0 opening (one 0 (while 0)) 1 1 (kept (int 5) ++ kept (int 7)) []
    -- a guard that is no truth value: 13 and not 18
    ∷ leaves 0 0 10 opening (one 0 no_guard) (says 13 0 0 0)
    -- P9: the guard is judged, and then its branch has no entry
    ∷ fills 1 0 2 flagged (one 1 branches) 1 2 (kept (bool 1) ++ wrote 1 (int 41)) (entry 0 branch_at 1 (number 7) (number 41) ∷ [])
    ∷ leaves 0 2 10 flagged (one 1 branches) (says 18 0 branch_at 1)
    -- while slot 0 < slot 1 do slot 0 := slot 0 + 1: two writes by one command, at offset 24, each after a guard
    ∷ fills 2 0 3 opening (one 0 counts) 1 5 (wrote 2 (int 7) ++ kept (int 7))
    (entry 0 24 0 (number 5) (number 6) ∷ entry 0 24 0 (number 6) (number 7) ∷ [])
    ∷ leaves 1 3 10 opening (one 0 counts) (says 18 0 24 3)
    ∷ leaves 0 3 10 opening (one 0 counts) (says 18 0 24 1)
    ∷ []

-- slot 0 := true, then read view of slot 1, then 9; the assignments stand at offsets 2, 23 and 44
abbrev pub thrice : List ℕ
thrice = 0x22 ∷ 3 ∷ (assign (writes 0) (lit (bool 1)) ++ assign (writes 0) (lit (reads 1)) ++ assign (writes 0) (lit (int 9)))

-- "Each slot's record gains a count of its writes": of all of them, whatever is written
unfoldable pub repeated : List Journalled
repeated =
    -- slot 0 := slot 0
    fills 1 0 0 opening (one 0 again) 1 1 (wrote 1 (int 5) ++ kept (int 7)) (entry 0 0 0 (number 5) (number 5) ∷ [])
    -- each old value is the new value of the entry before
    ∷ fills 3 0 0 opening (one 0 thrice) 1 3 (wrote 3 (int 9) ++ kept (int 7))
    (entry 0 2 0 (number 5) (of 1 1) ∷ entry 0 23 0 (of 1 1) (of 2 1) ∷ entry 0 44 0 (of 2 1) (number 9) ∷ [])
    ∷ leaves 2 0 10 opening (one 0 thrice) (says 18 0 44 2)
    -- P10: no block, no write, no entry
    ∷ fills 3 3 0 opening none 0 0 (kept (int 5) ++ kept (int 7)) []
    ∷ []

-- P1 with an output of 9 bytes for each slot, though "a slot takes 13 bytes"
abbrev pub misfit : Journalled
misfit = record { run = record { call = call opening (two 1) 0 10 (9 * 2) 3; answer = says 12 0 0 0; output = blank }; filled = []; free = 3 }

-- "A refusal leaves the journal untouched too.", whatever was written before it and by whatever number
unfoldable pub untouched : List Journalled
untouched =
    leaves 3 0 10 opening (both 0 keep_view 0 no_guard) (says 13 1 0 1)
    ∷ leaves 3 0 10 opening (both 0 keep_view 0 raise) (says 14 1 0 1)
    ∷ leaves 3 1 10 opening (both 1 raise 0 keep_view) (says 15 1 0 1)
    ∷ leaves 3 3 10 opening (two 1) (says 16 1 0 1)
    ∷ leaves 3 0 1 opening (two 1) (says 17 1 0 1)
    -- before a step: the rule number, the store sheet, the programme sheet, the output's length
    ∷ leaves 3 4 10 opening (two 1) (says 11 0 0 0)
    ∷ leaves 3 0 10 [] (two 1) (says 1 0 0 0)
    ∷ leaves 3 0 10 opening [] (says 6 0 0 0)
    ∷ misfit
    ∷ []

abbrev pub journals : List Journalled
journals = filling ++ full ++ unjudged ++ guards ++ repeated ++ untouched

-- what the definitions say of an example's call, and what the example says
pub record Noted : Type 0 where
  pub played : Played
  pub filled : List Entry
  pub journal : List Entry

abbrev pub noted : Journalled → Noted
noted x =
    record { played = played x.run; filled = entries x.run.call; journal = journal x.run.call (lent x.run.call.entries) }

abbrev pub foreseen : Journalled → Noted
foreseen x = record { played = expected x.run; filled = x.filled; journal = x.filled ++ lent x.free }

-- each comes to its answer, its output, its entries and its journal
abbrev pub JournalsHold : Type 0
JournalsHold = map noted journals ≡ map foreseen journals
