-- Laws of a store sheet that is taken in (`Opens`, of specs/Sheet.antt): its order table, owners and slots, and their parts of an output. Assumes nothing.
use Prim.Native.Nat.{ℕ, zero, suc, ◌+◌, ◌*◌, ◌≤◌, ◌<◌}
use mathlib.Core.Path.{◌≡◌, refl, sym, ap, ◌∙◌}
use mathlib.Core.Logic.{⊎_elim}
use mathlib.Core.Bool.{true}
use mathlib.Core.List.{List, ◌++◌}
use native.Mathlib.Nat.{le_of_suc-le-suc, eq-or-lt_of_le}
use native.Mathlib.Omega.{arith}
use native.Mathlib.Decide.{dec_lt}
use lib.ListN.{length, get_or, take, drop, get_or-eq_default, length-append}
use lib.Seq.{take_at, drop-append-add}
use borrow.Author.Tests.{ltb-true, leb-true, le-ltb}
use Rattle.lattice.specs.Tests.{◌or◌}
use Rattle.lattice.specs.Order.{good}
use Rattle.lattice.proofs.Tests.{and_l, and_r}
use Rattle.values.specs.Result.{Result, in_turn}
use Rattle.values.specs.Bytes.{Bytes, number_bytes, part, filled}
use Rattle.values.specs.declared.Value.{Value}
use Rattle.values.specs.Value.{payload_width, value_width, count_width, well_formed, value_at, value_bytes, Slot, opened, empty_slot, slot_width, slot_bytes}
use Rattle.values.proofs.Result.{Post, Positive, post_ok, post_map, post_require, post_bind}
use Rattle.values.proofs.BytesArrays.{pick, length_filled, entry_at, filled_at}
use Rattle.values.proofs.BytesNumbers.{number_lt}
use Rattle.values.proofs.Bytes.{length_value, length_slot, value_read}
use Rattle.store.specs.Sheet.{Opening, store_form, owner_of, most_slots, n_of, m_of, owner_at, slot_value_at, order_of, tables_of, opening_of, value_good, slot_checked, body_checked, sheet_checked, sizes_allowed, store_sheet, slots_bytes}
use Rattle.store.specs.declared.sheets.Form.{Form}
use Rattle.store.specs.HeldStore.{Ordered}

-- an entry of an array that was not filled
filled_past : {A : Type 0} (size n : ℕ) (f : ℕ → A) (d : A) (i : ℕ) → n ≤ i → get_or (filled size n f d) i d ≡ d
unfolding pick
filled_past size n f d i h = go (dec_lt i size)
  where
    go : Dec (i < size) → get_or (filled size n f d) i d ≡ d
    go (yes k) = entry_at size f d n d i k ∙ rw (le-ltb i n h)
    go (no k) = get_or-eq_default (filled size n f d) d {n = i} (omega (arith, length_filled size f d n))

-- What the checks of a sheet tell

pub post_in_turn : {E : Type 0} (P : ℕ → Type 0) (Q : E → Type 0) (n : ℕ) (f : ℕ → Result E (Unit {0}))
    → ((i : ℕ) → i < n → Post (λ _. P i) Q (f i)) → Post (λ _. (i : ℕ) → i < n → P i) Q (in_turn n f)
unfolding in_turn
post_in_turn P Q zero f h = post_ok _ _ _ (λ i k. absurd (omega arith))
post_in_turn P Q (suc n) f h =
    post_bind _ _ _ _ _ (post_in_turn P Q n f (λ i k. h i (omega arith))) λ _ below.
    post_map _ _ _ _ _ (h n (omega arith))
    (λ _ last i k. ⊎_elim (λ e. rw e last) (λ l. below i l) (eq-or-lt_of_le (le_of_suc-le-suc k))) (λ _ q. q)

-- a sheet that is not refused
pub record Checked (f : Form) (s : List ℕ) : Type 0 where
  pub some : 1 ≤ n_of s
  pub small : m_of s ≤ most_slots
  pub table : good (order_of s) ≡ true
  pub owners : (i : ℕ) → i < m_of s → owner_at s i < n_of s
  pub values : (i : ℕ) → i < m_of s → value_good f s i ≡ true

pub slot_checked_law : (f : Form) (s : List ℕ) (i : ℕ) → Post (λ _. (owner_at s i < n_of s) × (value_good f s i ≡ true)) Positive (slot_checked f s i)
unfolding slot_checked
slot_checked_law f s i =
    post_require _ _ _ _ _ (λ e. post_require _ _ _ _ _ (λ g. post_ok _ _ _ (ltb-true _ _ e, g)) (λ _. omega arith)) (λ _. omega arith)

pub sheet_checked_law : (f : Form) (s : List ℕ) → Post (λ _. Checked f s) Positive (sheet_checked f s)
unfolding sheet_checked body_checked sizes_allowed
sheet_checked_law f s =
    post_require _ _ _ _ _
    (λ _. post_require _ _ _ _ _
    (λ sizes. post_require _ _ _ _ _
    (λ _. post_require _ _ _ _ _
    (λ g. post_map _ _ _ _ _ (post_in_turn _ _ _ _ (λ i _. slot_checked_law f s i))
    (λ _ slots. record {
      some = leb-true _ _ (and_l _ _ (and_l _ _ sizes));
      small = leb-true _ _ (and_r _ _ sizes);
      table = g;
      owners = λ i h. (slots i h).0;
      values = λ i h. (slots i h).1;
    }) (λ _ q. q))
    (λ _. omega arith)) (λ _. omega arith)) (λ _. omega arith)) (λ _. omega arith)

-- what an opening is where its sheet s is not refused
pub record Opens (s : List ℕ) (o : Opening) : Type 0 where
  pub ordered : Ordered o.tables
  pub small : o.tables.slots ≤ most_slots
  pub sized : length o.store ≡ most_slots
  pub inside : (i : ℕ) → i < o.tables.slots → get_or o.store i empty_slot ≡ opened (slot_value_at s i)
  pub outside : (i : ℕ) → o.tables.slots ≤ i → get_or o.store i empty_slot ≡ empty_slot
  pub formed : (i : ℕ) → well_formed o.tables.slots (get_or o.store i empty_slot).value ≡ true

owner_lt : {f : Form} (s : List ℕ) (c : Checked f s) (i : ℕ) → owner_of (tables_of s) i < n_of s
unfolding tables_of
owner_lt s c i = go (dec_lt i (m_of s))
  where
    go : Dec (i < m_of s) → owner_of (tables_of s) i < n_of s
    go (yes h) = rw (filled_at most_slots (owner_at s) 0 (m_of s) 0 i c.small h) (c.owners i h)
    go (no h) = rw (filled_past most_slots (m_of s) (owner_at s) 0 i (omega arith)) c.some

formed_at : (s : List ℕ) (c : Checked store_form s) (i : ℕ) → well_formed (m_of s) (get_or (opening_of s).store i empty_slot).value ≡ true
unfolding opening_of opened empty_slot value_good well_formed ◌or◌
formed_at s c i = go (dec_lt i (m_of s))
  where
    go : Dec (i < m_of s) → well_formed (m_of s) (get_or (opening_of s).store i empty_slot).value ≡ true
    go (yes h) = rw (filled_at most_slots (λ j. opened (slot_value_at s j)) empty_slot (m_of s) empty_slot i c.small h) (c.values i h)
    go (no h) = rw (filled_past most_slots (m_of s) (λ j. opened (slot_value_at s j)) empty_slot i (omega arith)) refl

opens : (s : List ℕ) → Checked store_form s → Opens s (opening_of s)
unfolding opening_of tables_of order_of
opens s c =
    record {
      ordered = record { table = c.table; owners = owner_lt s c };
      small = c.small;
      sized = length_filled most_slots _ _ (m_of s);
      inside = λ i h. filled_at most_slots _ _ (m_of s) _ i c.small h;
      outside = λ i h. filled_past most_slots (m_of s) _ _ i h;
      formed = formed_at s c;
    }

pub store_opens : (s : List ℕ) → Post (Opens s) Positive (store_sheet s)
unfolding store_sheet
store_opens s = post_bind _ _ _ _ _ (sheet_checked_law store_form s) (λ _ c. post_ok _ _ _ (opens s c))

-- Values in bytes

-- a slot's bytes begin with its value's
value_first : (v : Value) (n : ℕ) → take value_width (value_bytes v ++ number_bytes count_width n) ≡ value_bytes v
value_first v n = take_at (value_bytes v) (number_bytes count_width n) value_width (length_value v)

-- values read from bytes are known by their slots in the output
pub values_one : (s s' : List ℕ) (at at' : ℕ) → Bytes s → Bytes s'
    → slot_bytes (opened (value_at s at)) ≡ slot_bytes (opened (value_at s' at')) → value_at s at ≡ value_at s' at'
unfolding slot_bytes opened value_at
values_one s s' at at' h h' e =
    sym (value_read (value_at s at) (h at) (number_lt s h payload_width (at + 1)))
    ∙ ap (λ (l : List ℕ). value_at l 0) (sym (value_first (value_at s at) 0) ∙ ap (take value_width) e ∙ value_first (value_at s' at') 0)
    ∙ value_read (value_at s' at') (h' at') (number_lt s' h' payload_width (at' + 1))

-- The output

pub length_slots : (store : List Slot) (i n : ℕ) → length (slots_bytes store i n) ≡ slot_width * n
unfolding slots_bytes
length_slots store i zero = refl
length_slots store i (suc n) =
    length-append (slot_bytes (get_or store i empty_slot)) (slots_bytes store (i + 1) n)
    ∙ omega (arith, length_slot (get_or store i empty_slot), length_slots store (i + 1) n)

-- the i-th slot's part of the bytes of the slots from the j-th on
slots_part : (store : List Slot) (j n i : ℕ) → i < n
    → part (slots_bytes store j n) (slot_width * i) slot_width ≡ slot_bytes (get_or store (j + i) empty_slot)
unfolding slots_bytes
slots_part store j zero i h = absurd (omega arith)
slots_part store j (suc n) zero h =
    let e : j ≡ j + 0 = omega arith in
    take_at (slot_bytes (get_or store j empty_slot)) (slots_bytes store (j + 1) n) slot_width (length_slot _)
    ∙ ap (λ (k : ℕ). slot_bytes (get_or store k empty_slot)) e
slots_part store j (suc n) (suc i) h =
    let first = slot_bytes (get_or store j empty_slot) in
    let rest = slots_bytes store (j + 1) n in
    let e : slot_width * suc i ≡ length first + slot_width * i = omega (arith, length_slot (get_or store j empty_slot)) in
    let k : j + 1 + i ≡ j + suc i = omega arith in
    ap (λ (x : ℕ). take slot_width (drop x (first ++ rest))) e
    ∙ ap (λ (l : List ℕ). take slot_width l) (drop-append-add first rest (slot_width * i))
    ∙ slots_part store (j + 1) n i (omega arith)
    ∙ ap (λ (x : ℕ). slot_bytes (get_or store x empty_slot)) k

-- slot i's part of the output
pub slot_part : (store : List Slot) (n i : ℕ) → i < n
    → part (slots_bytes store 0 n) (slot_width * i) slot_width ≡ slot_bytes (get_or store i empty_slot)
slot_part store n i h =
    let k : 0 + i ≡ i = omega arith in
    slots_part store 0 n i h ∙ ap (λ (j : ℕ). slot_bytes (get_or store j empty_slot)) k
