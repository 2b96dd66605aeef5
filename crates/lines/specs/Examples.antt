-- Worked examples of the lines. Assumes nothing.
use Rattle.std.specs.Prelude.{ℕ, ◌≡◌, List, [], ◌∷◌, ◌++◌, map}
use Prim.Native.String.{String}
use Rattle.values.specs.declared.Answer.{Answer}
use Rattle.values.specs.Value.{value_at, slot_bytes}
use Rattle.store.specs.Sheet.{m_of}
use Rattle.lines.specs.Decimal.{ascii}
use Rattle.lines.specs.Lines.{payload_field, lines}

-- some bytes and a text: what an input prints, or how a value's payload is printed
pub record Example : Type 0 where
  pub bytes : List ℕ
  pub text : List ℕ

abbrev pub prints : List ℕ → String → Example
prints bytes text = record { bytes = bytes; text = ascii text }

-- what the definitions say of the value in some bytes
abbrev pub shown : Example → Example
shown e = record { bytes = e.bytes; text = payload_field (value_at e.bytes 0) }

-- a run's answer, its store sheet, what its output then holds, and the text that is printed of them
pub record Ended : Type 0 where
  pub answer : Answer
  pub sheet : List ℕ
  pub out : List ℕ
  pub text : List ℕ

abbrev pub ended : Answer → List ℕ → List ℕ → String → Ended
ended a sheet out text = record { answer = a; sheet = sheet; out = out; text = ascii text }

-- what the definitions say of them
abbrev pub printed_of : Ended → Ended
printed_of e = record { answer = e.answer; sheet = e.sheet; out = e.out; text = lines e.answer e.sheet (m_of e.sheet) e.out }

abbrev pub answered : ℕ → ℕ → ℕ → ℕ → Answer
answered number block offset steps = record { number = number; block = block; offset = offset; steps = steps }

-- a slot in an output: its kind, its payload and its count
abbrev pub slot : ℕ → ℕ → ℕ → List ℕ
slot kind payload writes = slot_bytes (record { value = record { kind = kind; payload = payload }; writes = writes })

-- document 01's store sheet: principal 0 stands below principal 1, and each owns a slot
abbrev pub pair : List ℕ
pair =
    2 ∷ 2 ∷ 0 ∷ 1 ∷ 0 ∷ 0 ∷ 0 ∷ 3 ∷ 0 ∷ 0 ∷ 0 ∷ 0 ∷ 1
    ∷ 0 ∷ 5 ∷ 0 ∷ 0 ∷ 0 ∷ 0 ∷ 0 ∷ 0 ∷ 0
    ∷ 0 ∷ 7 ∷ 0 ∷ 0 ∷ 0 ∷ 0 ∷ 0 ∷ 0 ∷ 0
    ∷ []

-- The sizes, masks and owners of a store sheet: principals 1 and 2 are unrelated, 0 stands below both and 3 above both. Each owns a slot.
abbrev pub square : List ℕ
square =
    4 ∷ 4 ∷ 0
    ∷ 0x1 ∷ 0 ∷ 0 ∷ 0
    ∷ 0x3 ∷ 0 ∷ 0 ∷ 0
    ∷ 0x5 ∷ 0 ∷ 0 ∷ 0
    ∷ 0xF ∷ 0 ∷ 0 ∷ 0
    ∷ 0 ∷ 1 ∷ 2 ∷ 3
    ∷ []

unfoldable pub ends : List Ended
ends =
    -- document 01's example, with "two more fields" and "a last line"
    ended (answered 0 2 0 2) pair (slot 0 42 1 ++ slot 0 42 1) "end 0 block 2 at 0 steps 2\n0 0 0 42 1 2\n1 1 0 42 1 1\n2\n"
    -- of unrelated principals neither stands above the other; a count of several bytes; an integer, a truth value and views
    ∷ ended (answered 0 3 0 70302) square (slot 0 7 0 ++ slot 1 1 300 ++ slot 3 2 1 ++ slot 0 0xFFFFFFFFFFFFFFFF 70000)
    "end 0 block 3 at 0 steps 70302\n0 0 0 7 0 4\n1 1 1 1 300 2\n2 2 3 2 1 2\n3 3 0 -1 70000 1\n70301\n"
    -- no slot: the total alone after line 1
    ∷ ended (answered 0 0 0 0) (1 ∷ 0 ∷ 0 ∷ 1 ∷ 0 ∷ 0 ∷ 0 ∷ []) [] "end 0 block 0 at 0 steps 0\n0\n"
    -- "A refusal prints line 1 only."
    ∷ ended (answered 16 1 0 1) pair (slot 0 0 0 ++ slot 0 0 0) "end 16 block 1 at 0 steps 1\n"
    ∷ []

-- values as bytes, and their payloads after the space
unfoldable pub values : List Example
values =
    prints (0 ∷ 0 ∷ 0 ∷ 0 ∷ 0 ∷ 0 ∷ 0 ∷ 0 ∷ 0 ∷ []) " 0"
    ∷ prints (0 ∷ 0x2A ∷ 0 ∷ 0 ∷ 0 ∷ 0 ∷ 0 ∷ 0 ∷ 0 ∷ []) " 42"
    ∷ prints (0 ∷ 0xFF ∷ 0xFF ∷ 0xFF ∷ 0xFF ∷ 0xFF ∷ 0xFF ∷ 0xFF ∷ 0xFF ∷ []) " -1"
    -- the least integer, and the greatest
    ∷ prints (0 ∷ 0 ∷ 0 ∷ 0 ∷ 0 ∷ 0 ∷ 0 ∷ 0 ∷ 0x80 ∷ []) " -9223372036854775808"
    ∷ prints (0 ∷ 0xFF ∷ 0xFF ∷ 0xFF ∷ 0xFF ∷ 0xFF ∷ 0xFF ∷ 0xFF ∷ 0x7F ∷ []) " 9223372036854775807"
    -- past the ends of 32 bits, on both sides
    ∷ prints (0 ∷ 0 ∷ 0 ∷ 0 ∷ 0x80 ∷ 0 ∷ 0 ∷ 0 ∷ 0 ∷ []) " 2147483648"
    ∷ prints (0 ∷ 0xFF ∷ 0xFF ∷ 0xFF ∷ 0x7F ∷ 0xFF ∷ 0xFF ∷ 0xFF ∷ 0xFF ∷ []) " -2147483649"
    -- "Ratios scaled by 10 to the 12th": 1.176
    ∷ prints (0 ∷ 0 ∷ 0xF0 ∷ 0x0F ∷ 0xCF ∷ 0x11 ∷ 1 ∷ 0 ∷ 0 ∷ []) " 1176000000000"
    -- a write view's payload is a slot number
    ∷ prints (3 ∷ 0xFF ∷ 0 ∷ 0 ∷ 0 ∷ 0 ∷ 0 ∷ 0 ∷ 0 ∷ []) " 255"
    ∷ []

abbrev pub EndsHold : Type 0
EndsHold = map printed_of ends ≡ ends

abbrev pub ValuesHold : Type 0
ValuesHold = map shown values ≡ values
