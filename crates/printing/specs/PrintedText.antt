-- Document 01, "The printing program", with document 02, N7: what is printed, for every standard input. Assumes nothing.
use Rattle.std.specs.Prelude.{ℕ, ◌+◌, ◌*◌, min, true, false, List, length, get_or, take, drop, replicate, ltb, leb}
use Rattle.values.specs.Result.{unplaced}
use Rattle.values.specs.Bytes.{number_at, sizes_width}
use Rattle.values.specs.Value.{slot_width}
use Rattle.store.specs.Sheet.{most_slots, n_of, m_of, store_form, sheet_length}
use Rattle.lines.specs.Lines.{answer_line, lines}
use Rattle.calculus.specs.Run.{Call, call, answer, output}

-- "It reads at most 32,768 bytes, more than any good input has."
abbrev pub most_input : ℕ
most_input = 32768

-- "Standard input holds the rule byte, the budget in 4 bytes, the store sheet, the programme sheet."
abbrev pub budget_width : ℕ
budget_width = 4

abbrev pub head_width : ℕ
head_width = 1 + budget_width

-- "The store sheet is as long as its sizes say, or all the bytes left where these are fewer or hold no sizes; the rest is programme."
unfoldable pub store_length : List ℕ → ℕ
store_length s =
    elim (ltb (length s) sizes_width) [ true ↦ length s | false ↦ min (length s) (sheet_length store_form (n_of s) (m_of s)) ]

-- The slots of a store sheet that says no more than it may; one that says more is refused by 2, and has no end store.
unfoldable pub slots_of : List ℕ → ℕ
slots_of s = elim (leb (m_of s) most_slots) [ true ↦ m_of s | false ↦ 0 ]

-- The output that a run is lent: as many bytes as its slots take. What it holds is not printed.
unfoldable pub lent : ℕ → List ℕ
lent m = replicate (slot_width * m) 0

-- "The printing program lends 512 entries" (document 02, N7)
abbrev pub most_entries : ℕ
most_entries = 512

-- the lines of a call whose output held `old`, with so many slots
abbrev pub call_lines : Call → ℕ → List ℕ → List ℕ
call_lines c slots old = lines (answer c) c.store slots (output c old)

-- the lines of a run of both sheets
unfoldable pub printed_run : ℕ → ℕ → List ℕ → List ℕ → List ℕ
printed_run rule budget store programme =
    call_lines (call store programme rule budget (slot_width * slots_of store) most_entries) (slots_of store) (lent (slots_of store))

-- the bytes after the rule and the budget are both sheets
unfoldable pub printed_sheets : ℕ → ℕ → List ℕ → List ℕ
printed_sheets rule budget s = printed_run rule budget (take (store_length s) s) (drop (store_length s) s)

-- "Fewer than 5 bytes print refusal 1."
unfoldable pub printed_read : List ℕ → List ℕ
printed_read s =
    elim (ltb (length s) head_width) [
      | true ↦ answer_line (unplaced 1)
      | false ↦ printed_sheets (get_or s 0 0) (number_at budget_width s 1) (drop head_width s)
    ]

-- what is printed of a standard input, however long it is
unfoldable pub printed : List ℕ → List ℕ
printed input = printed_read (take most_input input)
