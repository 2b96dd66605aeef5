-- Laws of an old output as opening values: its counts added up, the store in it, and the rows that come to hold that store. Assumes nothing.
use Prim.Native.Nat.{ℕ, zero, suc, ◌+◌, ◌≤◌, ◌<◌}
use mathlib.Core.Path.{◌≡◌, refl, sym, ap, ◌∙◌}
use mathlib.Core.Bool.{Bool, true, false}
use mathlib.Core.List.{List, ◌++◌}
use native.Mathlib.Omega.{arith}
use native.Mathlib.Decide.{dec_lt}
use borrow.Author.Tests.{lt-ltb, le-ltb, ltb-true, leb-true}
use lib.Dec.{ltb}
use lib.ListN.{length, get_or, set, get_or-eq_default, get_or-append}
use Rattle.store.specs.declared.HeldSlot.{HeldSlot}
use Rattle.std.proofs.lemmas.List.{set-append_left}
use Rattle.lattice.specs.Tests.{◌or◌}
use Rattle.lattice.proofs.Tests.{and_l, and_r, iff, every_at}
use Rattle.values.specs.Bytes.{entries, table}
use Rattle.values.specs.Value.{well_formed, Slot, opened, empty_slot}
use Rattle.values.proofs.Bytes.{formed_more}
use Rattle.values.proofs.BytesArrays.{table_at, table_same, pick, length_filled, entry_at}
use Rattle.store.specs.Sheet.{Tables, owner_of, most_slots}
use Rattle.store.specs.HeldStore.{row_of, empty_row, held_of}
use Rattle.calculus.specs.Calculus.{Store, contents}
use Rattle.store.specs.Counts.{total, count_at}
use Rattle.pausing.specs.Stretches.{slot_in, store_in, output_good}
use Rattle.machine.specs.MachineNumbers.{StoreHeld}
use Rattle.runner.specs.OldOutput.{OpensOutput}
use Rattle.machine.proofs.SlotRowWrite.{table_set}

-- Counts

module _ (f : ℕ → ℕ) where
  -- each number is at most the total
  total_from : (i n k : ℕ) → k < n → f (i + k) ≤ total (entries i n f)
  unfolding entries total
  total_from i zero k h = absurd (omega arith)
  total_from i (suc n) zero h = let e : f (i + 0) ≡ f i = ap f (omega arith) in omega arith
  total_from i (suc n) (suc k) h =
      let e : f (i + suc k) ≡ f (i + 1 + k) = ap f (omega arith) in omega (arith, total_from (i + 1) n k (omega arith))

  pub total_most : (n k : ℕ) → k < n → f k ≤ total (table n f)
  total_most n k h = let e : f (0 + k) ≡ f k = ap f (omega arith) in omega (arith, total_from 0 n k h)

-- The store in an output

module _ (m : ℕ) (out : List ℕ) where
  pub store_in_size : length (store_in m out) ≡ most_slots
  unfolding store_in
  store_in_size = length_filled most_slots (slot_in out) empty_slot m

  -- what holds of an empty slot and of each slot of the output holds of every slot of its store
  each_slot : (P : Slot → Type 0) → P empty_slot → ((i : ℕ) → i < m → P (slot_in out i)) → (i : ℕ) → P (get_or (store_in m out) i empty_slot)
  unfolding store_in pick
  each_slot P e h i = go (dec_lt i most_slots)
    where
      picked : (b : Bool) → ltb i m ≡ b → P (pick b (slot_in out i) empty_slot)
      picked true t = h i (ltb-true i m t)
      picked false t = e

      go : Dec (i < most_slots) → P (get_or (store_in m out) i empty_slot)
      go (yes k) = rw (entry_at most_slots (slot_in out) empty_slot m empty_slot i k) (picked (ltb i m) refl)
      go (no k) = rw (get_or-eq_default (store_in m out) empty_slot {n = i} (omega (arith, store_in_size))) e

  module _ (steps : ℕ) (good : output_good m out steps ≡ true) where
    -- a good output's values are well-formed among all slots that there may be
    pub good_formed : m ≤ most_slots → (i : ℕ) → well_formed most_slots (contents (store_in m out) i) ≡ true
    unfolding output_good well_formed empty_slot opened ◌or◌
    good_formed l =
        each_slot (λ (s : Slot). well_formed most_slots s.value ≡ true) refl
        (λ i h. formed_more m (slot_in out i).value (every_at m (λ k. well_formed m (slot_in out k).value) (and_l _ _ good) i h) most_slots l)

    -- and no slot was written more often than there were steps
    pub good_counts : (i : ℕ) → (get_or (store_in m out) i empty_slot).writes ≤ steps
    unfolding output_good empty_slot opened slot_in
    good_counts =
        each_slot (λ (s : Slot). s.writes ≤ steps) (omega arith)
        (λ i h.
        let all : total (table m (count_at out)) ≤ steps = leb-true _ _ (and_r _ _ good) in
        let one : (slot_in out i).writes ≤ total (table m (count_at out)) = total_most (count_at out) m i h in
        omega arith)

-- The rows

-- one slot more changes nothing at the others
others : (i k : ℕ) → (k ≡ i → ⊥) → ltb k i ≡ ltb k (i + 1)
others i k ne =
    iff (ltb k i) (ltb k (i + 1)) (λ e. lt-ltb k (i + 1) (omega (arith, ltb-true k i e)))
    (λ e. lt-ltb k i (omega (arith, ltb-true k (i + 1) e)))

module _ (w : Tables) (s : Store) (out : List ℕ) where
  -- slot k where the first i slots are the output's, and the others the store's
  abbrev slot_after : ℕ → ℕ → Slot
  slot_after i k = pick (ltb k i) (slot_in out k) (get_or s k empty_slot)

  -- the rows then
  unfoldable pub rows_after : ℕ → List HeldSlot
  rows_after i = table most_slots λ k. row_of (slot_after i k) (owner_of w k)

  -- a loop's start, its turn, which keeps the owner that the row names, and its end
  pub rows_none : held_of w s ≡ rows_after 0
  unfolding held_of rows_after pick
  rows_none = table_same most_slots _ _ (λ k h. rw (le-ltb k 0 (omega arith)))

  owner_kept : (i : ℕ) → i < most_slots → (get_or (rows_after i) i empty_row).owner ≡ owner_of w i
  unfolding rows_after row_of
  owner_kept i h = ap (λ (r : HeldSlot). r.owner) (table_at most_slots (λ k. row_of (slot_after i k) (owner_of w k)) empty_row i h)

  rows_next : (i : ℕ) → i < most_slots → set (rows_after i) i (row_of (slot_in out i) ((get_or (rows_after i) i empty_row).owner)) ≡ rows_after (i + 1)
  unfolding rows_after pick
  rows_next i h =
      rw (owner_kept i h)
      (table_set most_slots _ _ i _
      (λ k e. ap (λ (b : Bool). row_of (pick b (slot_in out k) (get_or s k empty_slot)) (owner_of w k)) (others i k e))
      (rw (lt-ltb i (i + 1) (omega arith))))

  -- the same where the rows in turn are the first of a list
  pub rows_turn : (i : ℕ) (xs ys : List HeldSlot) → i < length xs → i < most_slots → xs ++ ys ≡ rows_after i
      → set xs i (row_of (slot_in out i) ((get_or xs i empty_row).owner)) ++ ys ≡ rows_after (i + 1)
  rows_turn i xs ys l h e =
      let o : get_or xs i empty_row ≡ get_or (rows_after i) i empty_row = sym (get_or-append xs ys empty_row i l) ∙ ap (λ (z : List HeldSlot). get_or z i empty_row) e in
      rw (o, ← set-append_left xs ys i (row_of (slot_in out i) ((get_or (rows_after i) i empty_row).owner)) l, e) (rows_next i h)

  pub rows_done : (m : ℕ) → ((i : ℕ) → m ≤ i → get_or s i empty_slot ≡ empty_slot) → rows_after m ≡ held_of w (store_in m out)
  unfolding held_of rows_after store_in pick
  rows_done m empty =
      table_same most_slots _ _
      (λ k h. ap (λ (x : Slot). row_of x (owner_of w k)) (filled_or k (dec_lt k m) ∙ sym (entry_at most_slots (slot_in out) empty_slot m empty_slot k h)))
    where
      filled_or : (k : ℕ) → Dec (k < m) → slot_after m k ≡ pick (ltb k m) (slot_in out k) empty_slot
      filled_or k (yes h) = rw (lt-ltb k m h)
      filled_or k (no h) = rw (empty k (omega arith))

-- A good output that was opened is held.
pub output_held : (m steps : ℕ) (out : List ℕ) (held held' : List HeldSlot) → OpensOutput m out held held' → output_good m out steps ≡ true
    → m ≤ most_slots → (w : Tables) (s : Store) → held ≡ held_of w s → ((i : ℕ) → m ≤ i → get_or s i empty_slot ≡ empty_slot)
    → StoreHeld w (store_in m out) held'
output_held m steps out held held' opens good few w s same empty =
    record { size = store_in_size m out; same = opens w s same empty; formed = good_formed m out steps good few }
