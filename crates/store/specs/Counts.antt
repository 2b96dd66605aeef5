-- Counts: added up, and as an output has them. Assumes nothing.
use Rattle.std.specs.Prelude.{ℕ, ◌+◌, ◌*◌, List, [], ◌∷◌}
use Rattle.values.specs.Bytes.{number_at}
use Rattle.values.specs.Value.{value_width, count_width, slot_width}

unfoldable pub total : List ℕ → ℕ
total [] = 0
total (n ∷ ns) = n + total ns

-- slot i's count in an output: "4 bytes of it after each value, so a slot takes 13 bytes"
abbrev pub count_at : List ℕ → ℕ → ℕ
count_at out i = number_at count_width out (slot_width * i + value_width)
