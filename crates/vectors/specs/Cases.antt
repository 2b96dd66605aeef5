-- A case of the list that the program plays. It starts with 28 bytes: the mark `case` (4 bytes), the kind of call (1: 0 run, 1 start, 2 carry on), the
-- length of its name (1), the rule (4), the budget (4), and the lengths of output, journal, pause buffer, store sheet, programme sheet, old output and
-- old pause sheet (2 each), lowest byte first. The journal's length is its number of entries. Then stand the name, the two sheets, the old output and the
-- old pause sheet. Assumes nothing.
use Rattle.std.specs.Prelude.{ℕ, ◌+◌, ◌*◌, ◌≤◌, Bool, List, Result, Ok, Err, eqb, ◌==◌, if◌then◌else◌}
use Rattle.std.specs.Result.{result_map_both}
use Rattle.values.specs.Bytes.{number_at}
use Rattle.values.specs.Value.{slot_width}
use Rattle.store.specs.Sheet.{most_slots}
use Rattle.printing.specs.PrintedText.{most_entries}
use Rattle.vectors.specs.declared.Fault.{Fault}
use Rattle.vectors.specs.declared.Fault.TheVariants.{NoKind}
use Rattle.vectors.specs.declared.Head.{Head}
use Rattle.vectors.specs.declared.Kind.{Kind}
use Rattle.vectors.specs.declared.Kind.TheVariants.{Run, Start, CarryOn}

-- the bytes of `case`, as a number
abbrev pub mark : ℕ
mark = 0x6573_6163

unfoldable pub marked : List ℕ → Bool
marked s = eqb (number_at 4 s 0) mark

-- the kind of call with this number: 0 run, 1 start, 2 carry on
abbrev pub kind_of : ℕ → Result Kind Fault
kind_of number =
    if number == 0 then Ok Run else (if number == 1 then Ok Start else (if number == 2 then Ok CarryOn else Err NoKind))

-- a head of this kind
unfoldable pub head_with : List ℕ → Kind → Head
head_with s kind =
    record {
      kind = kind;
      name = number_at 1 s 5;
      rule = number_at 4 s 6;
      budget = number_at 4 s 10;
      output = number_at 2 s 14;
      journal = number_at 2 s 16;
      pause = number_at 2 s 18;
      store = number_at 2 s 20;
      programme = number_at 2 s 22;
      old = number_at 2 s 24;
      sheet = number_at 2 s 26;
    }

-- the head, where its kind is one of the three
unfoldable pub head_of : List ℕ → Result Head Fault
head_of s = result_map_both (head_with s) (λ fault. fault) (kind_of (number_at 1 s 4))

-- the bytes after a head
abbrev pub body_length : Head → ℕ
body_length h = h.name + h.store + h.programme + h.old + h.sheet

-- a slot more than any end store has
abbrev pub most_output : ℕ
most_output = slot_width * (most_slots + 1)

abbrev pub most_body : ℕ
most_body = 32768

-- there is room for the output, for the pause buffer, for the journal, and for the name and the sheets
abbrev pub Fits : Head → Type 0
Fits h =
    (h.output ≤ most_output) × (h.pause ≤ most_output) × (h.journal ≤ most_entries) × (body_length h ≤ most_body)
