-- Document 01, "The store sheet", with refusals 1 to 5. Assumes nothing.
use Rattle.std.specs.Prelude.{ℕ, zero, suc, ◌+◌, ◌*◌, Bool, true, List, [], ◌++◌, get_or, length, ltb, leb, eqb}
use Rattle.lattice.specs.Tests.{◌and◌}
use Rattle.lattice.specs.declared.Table.{Table}
use Rattle.lattice.specs.Order.{Label, most_principals, good}
use Rattle.values.specs.Result.{Result, ok, ◌>>=◌, require, in_turn}
use Rattle.values.specs.Bytes.{number_at, filled, sizes_width}
use Rattle.values.specs.declared.Value.{Value}
use Rattle.store.specs.declared.sheets.Form.{Form}
use Rattle.store.specs.declared.sheets.Form.TheVariants as form
use Rattle.values.specs.Value.{value_width, well_formed, value_at, Slot, opened, empty_slot, slot_bytes}

-- the order table and the owners: what two opening stores share in demand 3, and a table sheet holds
pub record Tables : Type 0 where
  pub order : Table
  pub slots : ℕ
  pub owners : List Label

abbrev pub owner_of : Tables → ℕ → Label
owner_of w i = get_or w.owners i 0

pub record Opening : Type 0 where
  pub tables : Tables
  pub store : List Slot

-- "m (2 bytes), the number of slots, 0 to 256"
abbrev pub most_slots : ℕ
most_slots = 256

-- "Sizes first: n (1 byte), m (2 bytes) .. Then n masks. Then two parallel arrays: m owners (1 byte, below n) and m values"
abbrev pub n_of : List ℕ → ℕ
n_of s = number_at 1 s 0

abbrev pub m_of : List ℕ → ℕ
m_of s = number_at 2 s 1

abbrev pub mask_width : ℕ
mask_width = 4

abbrev pub mask_at : List ℕ → ℕ → ℕ
mask_at s i = number_at mask_width s (sizes_width + mask_width * i)

abbrev pub owners_at : ℕ → ℕ
owners_at n = sizes_width + mask_width * n

abbrev pub values_at : ℕ → ℕ → ℕ
values_at n m = owners_at n + m

abbrev pub owner_at : List ℕ → ℕ → Label
owner_at s i = get_or s (owners_at (n_of s) + i) 0

abbrev pub slot_value_at : List ℕ → ℕ → Value
slot_value_at s i = value_at s (values_at (n_of s) (m_of s) + value_width * i)

-- The tables that a sheet holds: masks from n on are held as 0, and so are owners from m on.
unfoldable pub order_of : List ℕ → Table
order_of s = record { n = n_of s; masks = filled most_principals (n_of s) (mask_at s) 0 }

unfoldable pub tables_of : List ℕ → Tables
tables_of s = record { order = order_of s; slots = m_of s; owners = filled most_slots (m_of s) (owner_at s) 0 }

-- "Slots from m up to 255 are held as integer 0 and are never printed."
unfoldable pub opening_of : List ℕ → Opening
opening_of s =
    record { tables = tables_of s; store = filled most_slots (m_of s) (λ i. opened (slot_value_at s i)) empty_slot }

-- "A table sheet is a store sheet that ends after its owners; it is judged by the same numbers in the same order."
-- `Form` is the enum of src/sheets.rt: whether values stand after the owners.
abbrev pub store_form : Form
store_form = form.Store

abbrev pub table_form : Form
table_form = form.Table

-- the bytes of a slot's value in a sheet of this form
unfoldable pub value_width_in : Form → ℕ
value_width_in form.Store = value_width
value_width_in form.Table = 0

unfoldable pub value_good : Form → List ℕ → ℕ → Bool
value_good form.Store s i = well_formed (m_of s) (slot_value_at s i)
value_good form.Table s i = true

-- n "1 to 32", m "0 to 256"
unfoldable pub sizes_allowed : ℕ → ℕ → Bool
sizes_allowed n m = leb 1 n and leb n most_principals and leb m most_slots

abbrev pub sheet_length : Form → ℕ → ℕ → ℕ
sheet_length f n m = values_at n m + value_width_in f * m

-- "4 owner not below n", "5 value ill-formed"
unfoldable pub slot_checked : Form → List ℕ → ℕ → Result ℕ (Unit {0})
slot_checked f s i = require (ltb (owner_at s i) (n_of s)) 4 (require (value_good f s i) 5 (ok tt))

-- "store sizes present (1), in limits (2), total length (1); 3; then slot by slot 4 before 5"
unfoldable pub body_checked : Form → List ℕ → Result ℕ (Unit {0})
body_checked f s =
    require (eqb (length s) (sheet_length f (n_of s) (m_of s))) 1 (
    require (good (order_of s)) 3 (
    in_turn (m_of s) (slot_checked f s)))

unfoldable pub sheet_checked : Form → List ℕ → Result ℕ (Unit {0})
sheet_checked f s =
    require (leb sizes_width (length s)) 1 (
    require (sizes_allowed (n_of s) (m_of s)) 2 (
    body_checked f s))

unfoldable pub store_sheet : List ℕ → Result ℕ Opening
store_sheet s = sheet_checked store_form s >>= λ _. ok (opening_of s)

unfoldable pub table_sheet : List ℕ → Result ℕ Tables
table_sheet s = sheet_checked table_form s >>= λ _. ok (tables_of s)

-- the bytes of n slots from the i-th on
unfoldable pub slots_bytes : List Slot → ℕ → ℕ → List ℕ
slots_bytes store i zero = []
slots_bytes store i (suc n) = slot_bytes (get_or store i empty_slot) ++ slots_bytes store (i + 1) n
