-- What the functions that put bytes into a text promise of the writer. Assumes nothing.
use Rattle.std.specs.Prelude.{ℕ, ◌+◌, ◌≤◌, ◌≡◌, List, length}
use Rattle.lines.specs.declared.putting.Writer.{Writer}
use Rattle.lines.specs.PutText.{Put}

-- there is room for so many bytes more
abbrev pub HasRoom : Writer → ℕ → Type 0
HasRoom w n = w.end + n ≤ length w.text.now

-- `bytes` were put where the writer stood, within `room`; it still holds the same text, as long as it was
pub record Written (old : Writer) (bytes : List ℕ) (room : ℕ) (new : Writer) : Type 0 where
  pub same : new.text.ghost_name ≡ old.text.ghost_name
  pub kept : length new.text.now ≡ length old.text.now
  pub put : Put old.text.now old.end bytes room new.end new.text.now
