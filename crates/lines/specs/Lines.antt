-- Document 01, "The printing program", with document 02, N7: the lines that are printed of an answer and an end store. Assumes nothing.
use Rattle.std.specs.Prelude.{ℕ, zero, suc, ◌+◌, ◌*◌, true, false, List, [], ◌++◌, eqb}
use Rattle.values.specs.declared.Answer.{Answer}
use Rattle.values.specs.declared.Value.{Value}
use Rattle.values.specs.Bytes.{table}
use Rattle.values.specs.Value.{slot_width, value_at}
use Rattle.values.specs.SignedIntegers.{negative, magnitude}
use Rattle.store.specs.Sheet.{owner_at, order_of}
use Rattle.store.specs.Counts.{total, count_at}
use Rattle.lines.specs.Decimal.{ascii, decimal}
use Rattle.lines.specs.PrincipalsAbove.{number_above}

-- a number, after the fixed bytes before it
unfoldable pub field : List ℕ → ℕ → List ℕ
field word n = word ++ decimal n

-- "Each line ends with byte 0A."
abbrev pub line_end : List ℕ
line_end = ascii "\n"

-- "The first line always starts with the word `end`": "Line 1: number, block, offset, steps."
unfoldable pub answer_fields : Answer → List ℕ
answer_fields a =
    field (ascii "end ") a.number
    ++ field (ascii " block ") a.block
    ++ field (ascii " at ") a.offset
    ++ field (ascii " steps ") a.steps

unfoldable pub answer_line : Answer → List ℕ
answer_line a = answer_fields a ++ line_end

-- "the payload is one number, with a minus sign if it is a negative integer"
unfoldable pub payload_field : Value → List ℕ
payload_field v = elim (negative v) [ true ↦ field (ascii " -") (magnitude v) | false ↦ field (ascii " ") (magnitude v) ]

-- "Then per slot: slot, owner, kind, payload. Fields are decimal, a space between them"; "each slot's line ends with two more fields, its
-- count and how many principals stand at or above its owner" (document 02, N7)
unfoldable pub slot_line : ℕ → ℕ → Value → ℕ → ℕ → List ℕ
slot_line slot owner v writes above =
    field [] slot
    ++ field (ascii " ") owner
    ++ field (ascii " ") v.kind
    ++ payload_field v
    ++ field (ascii " ") writes
    ++ field (ascii " ") above
    ++ line_end

-- n slots of an output from the i-th on, with their owners and the order table in the store sheet
unfoldable pub slot_lines : List ℕ → List ℕ → ℕ → ℕ → List ℕ
slot_lines sheet out i zero = []
slot_lines sheet out i (suc n) =
    slot_line i (owner_at sheet i) (value_at out (slot_width * i)) (count_at out i) (number_above (order_of sheet) (owner_at sheet i))
    ++ slot_lines sheet out (i + 1) n

-- "a last line is the total of writes" (document 02, N7): the number alone, also where there is no slot
unfoldable pub total_line : List ℕ → ℕ → List ℕ
total_line out m = field [] (total (table m (count_at out))) ++ line_end

-- The lines of a run's answer and of the m slots of its output: "A refusal prints line 1 only."
unfoldable pub lines : Answer → List ℕ → ℕ → List ℕ → List ℕ
lines a sheet m out =
    elim (eqb a.number 0) [ true ↦ answer_line a ++ slot_lines sheet out 0 m ++ total_line out m | false ↦ answer_line a ]
