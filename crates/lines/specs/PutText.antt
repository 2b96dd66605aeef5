-- What the functions that put bytes into a text promise, and the room that they ask. Assumes nothing.
use Rattle.std.specs.Prelude.{ℕ, ◌+◌, ◌*◌, ◌≤◌, ◌≡◌, List, ◌++◌, length, drop}
use Rattle.std.proofs.lemmas.List.Edits.{sets}
use Rattle.store.specs.Sheet.{most_slots}
use Rattle.lines.specs.Decimal.{most_places}

-- `bytes` were put into the text `old` at `at`, within `room`: where they end, and the text after it
pub record Put (old : List ℕ) (at : ℕ) (bytes : List ℕ) (room end : ℕ) (new : List ℕ) : Type 0 where
  pub ends : end ≡ at + length bytes
  pub within : end ≤ at + room
  pub holds : new ≡ sets old at bytes

-- the text begins with `bytes`, of which there are `size`; behind them it is as it was
pub record Begins (old bytes : List ℕ) (size : ℕ) (new : List ℕ) : Type 0 where
  pub counted : size ≡ length bytes
  pub holds : new ≡ bytes ++ drop size old
  pub fits : size ≤ length new

-- the most bytes of a field, after a word of so many bytes; of line 1's fields; of line 1; of a slot's line; of the last line; of a text
abbrev pub field_room : ℕ → ℕ
field_room word = word + most_places

abbrev pub fields_room : ℕ
fields_room = field_room 4 + field_room 7 + field_room 4 + field_room 7

abbrev pub answer_room : ℕ
answer_room = fields_room + 1

abbrev pub slot_room : ℕ
slot_room = field_room 0 + field_room 1 + field_room 1 + field_room 2 + field_room 1 + field_room 1 + 1

abbrev pub total_room : ℕ
total_room = field_room 0 + 1

abbrev pub text_room : ℕ
text_room = answer_room + slot_room * most_slots + total_room
