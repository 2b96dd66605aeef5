-- How the code holds a store, and what its calls answer. Assumes nothing.
use Rattle.std.specs.Prelude.{ℕ, zero, suc, ◌+◌, ◌/◌, ◌%◌, ◌≤◌, ◌<◌, min, ◌≡◌, true, List, [], ◌∷◌, ◌++◌, get_or}
use Rattle.std.proofs.lemmas.List.Edits.{sets}
use Rattle.lattice.specs.Order.{Label, most_principals, good}
use Rattle.values.specs.Result.{Result, ok, refuse}
use Rattle.values.specs.Bytes.{number_bytes, table}
use Rattle.values.specs.Value.{payload_width, count_width, Slot, opened, empty_slot, slot_width}
use Rattle.store.specs.declared.HeldSlot.{HeldSlot}
use Rattle.store.specs.declared.Opened.{Opened}
use Rattle.store.specs.Sheet.{Tables, Opening, owner_of, most_slots, n_of, m_of, owner_at, slot_value_at}

-- n and m are a sheet's, and within their limits
pub record Sized (s : List ℕ) (n m : ℕ) : Type 0 where
  pub principals : n ≡ n_of s
  pub slots : m ≡ m_of s
  pub some : 1 ≤ n
  pub few : n ≤ most_principals
  pub small : m ≤ most_slots

-- good tables: what the checks of a store sheet leave
pub record Ordered (w : Tables) : Type 0 where
  pub table : good w.order ≡ true
  pub owners : (i : ℕ) → owner_of w i < w.order.n

-- A slot is held with its owner: kind, payload, owner, count of writes. `HeldSlot` is the struct of src/lib.rt.
unfoldable pub row_of : Slot → Label → HeldSlot
row_of s owner = record { kind = s.value.kind; payload = s.value.payload; owner = owner; writes = s.writes }

-- the integer 0 of principal 0, never written; what is read of a held store past its end
abbrev pub empty_row : HeldSlot
empty_row = record { kind = 0; payload = 0; owner = 0; writes = 0 }

-- slot i of a sheet
unfoldable pub row_at : List ℕ → ℕ → HeldSlot
row_at s i = row_of (opened (slot_value_at s i)) (owner_at s i)

-- a store, with the owners of its slots
unfoldable pub held_of : Tables → List Slot → List HeldSlot
held_of w store = table most_slots λ i. row_of (get_or store i empty_slot) (owner_of w i)

-- what a store sheet opens, as the code holds it
unfoldable pub opened_of : Opening → Opened
opened_of o = record { slots = o.tables.slots; table = o.tables.order }

-- what opening a store sheet answers: its tables, or the refusal's number
unfoldable pub opened_in : Result ℕ Opening → Result ℕ Opened
opened_in (ok o) = ok (opened_of o)
opened_in (refuse e) = refuse e

-- the held store after opening a store sheet; a refusal leaves it as it was
unfoldable pub held_after : Result ℕ Opening → List HeldSlot → List HeldSlot
held_after (ok o) old = held_of o.tables o.store
held_after (refuse e) old = old

-- a held slot's bytes in the output
unfoldable pub row_bytes : HeldSlot → List ℕ
row_bytes row = (row.kind % 256 ∷ number_bytes payload_width row.payload) ++ number_bytes count_width row.writes

-- those of n slots from the i-th on
unfoldable pub rows_bytes : List HeldSlot → ℕ → ℕ → List ℕ
rows_bytes held i zero = []
rows_bytes held i (suc n) = row_bytes (get_or held i empty_row) ++ rows_bytes held (i + 1) n

-- how many of m rows are held, and find room in an output of `room` bytes
unfoldable pub fitting : ℕ → ℕ → ℕ
fitting m room = min (min m most_slots) (room / slot_width)

-- the output after writing n rows of a held store; what stands after them stays
unfoldable pub out_after : List HeldSlot → ℕ → List ℕ → List ℕ
out_after held n old = sets old 0 (rows_bytes held 0 n)
