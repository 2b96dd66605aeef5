-- Values and slots, in sheets, code and output. Assumes nothing.
use Rattle.std.specs.Prelude.{ℕ, suc, ◌+◌, ◌%◌, Bool, List, ◌∷◌, ◌++◌, ◌==◌, nat_lt, slice_index}
use Rattle.lattice.specs.Tests.{◌and◌, ◌or◌}
use Rattle.values.specs.declared.Value.{Value}
use Rattle.values.specs.Bytes.{number_at, number_bytes}

-- "A payload becomes 8 bytes and a value 9, in sheets, code and output." (document 02, N3) "A value is a kind byte and a .. payload":
-- `Value` is the struct of src/lib.rt
abbrev pub payload_width : ℕ
payload_width = 8

abbrev pub value_width : ℕ
value_width = suc payload_width

-- "0 integer (signed, two's complement), 1 truth value (payload 0 false, 1 true), 2 read view and 3 write view"
abbrev pub integer : ℕ
integer = 0

abbrev pub truth : ℕ
truth = 1

abbrev pub read_view : ℕ
read_view = 2

abbrev pub write_view : ℕ
write_view = 3

abbrev pub is : ℕ → Value → Bool
is kind v = v.kind == kind

abbrev pub is_write_view : Value → Bool
is_write_view v = is write_view v

-- the kinds are the numbers below this one
abbrev pub kinds : ℕ
kinds = 4

-- the slot that a view names
abbrev pub viewed : Value → ℕ
viewed v = v.payload

-- a truth value's meaning
abbrev pub holds : Value → Bool
holds v = v.payload == 1

-- what a kind lets its payload be where there are m slots: "payload a slot number below m"
unfoldable pub well_formed : ℕ → Value → Bool
well_formed m v =
    is integer v
    or is truth v and nat_lt v.payload 2
    or (is read_view v or is_write_view v) and nat_lt (viewed v) m

unfoldable pub value_at : List ℕ → ℕ → Value
value_at s at = record { kind = slice_index s at; payload = number_at payload_width s (at + 1) }

unfoldable pub value_bytes : Value → List ℕ
value_bytes v = v.kind % 256 ∷ number_bytes payload_width v.payload

-- A slot: what it holds, and how often it was written. "Each slot's record gains a count of its writes" (document 02, N7)
pub record Slot : Type 0 where
  pub value : Value
  pub writes : ℕ

-- a slot as the store sheet fills it: its count is "0 at opening"
unfoldable pub opened : Value → Slot
opened v = record { value = v; writes = 0 }

-- a slot after v was assigned to it
unfoldable pub assigned : Value → Slot → Slot
assigned v s = record { value = v; writes = s.writes + 1 }

-- "Slots from m up to 255 are held as integer 0"
unfoldable pub empty_slot : Slot
empty_slot = opened (record { kind = integer; payload = 0 })

-- A slot in the output: "4 bytes of it after each value, so a slot takes 13 bytes" (document 02, N7)
abbrev pub count_width : ℕ
count_width = 4

abbrev pub slot_width : ℕ
slot_width = value_width + count_width

unfoldable pub slot_bytes : Slot → List ℕ
slot_bytes s = value_bytes s.value ++ number_bytes count_width s.writes
