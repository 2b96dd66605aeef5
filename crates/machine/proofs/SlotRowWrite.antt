-- A held store after a write: only the written slot's row changes. Serves `put`. Assumes nothing.
use Prim.Native.Nat.{ℕ, zero, suc, ◌+◌, ◌<◌}
use mathlib.Core.Path.{◌≡◌, refl, sym, ap, ap₂, ◌∙◌}
use mathlib.Core.Bool.{true}
use mathlib.Core.List.{List, ◌∷◌}
use native.Mathlib.Omega.{arith}
use native.Mathlib.Decide.{ℕ_discrete}
use lib.ListN.{get_or, set, length-set}
use lib.Seq.{get_or-set_same, get_or-set_other}
use Rattle.values.specs.Bytes.{entries, table}
use Rattle.values.specs.Value.{well_formed, Slot, assigned, empty_slot}
use Rattle.values.proofs.BytesArrays.{entries_same, table_at}
use Rattle.store.specs.declared.HeldSlot.{HeldSlot}
use Rattle.store.specs.Sheet.{Tables, owner_of, most_slots}
use Rattle.store.specs.HeldStore.{row_of, empty_row, held_of}
use Rattle.calculus.specs.Calculus.{Store, contents, Write, written}
use Rattle.machine.specs.MachineNumbers.{StoreHeld}

module _ {A : Type 0} where
  -- an entry that is set makes the entries of a function that differs there only
  entries_set : (i n : ℕ) (f g : ℕ → A) (j : ℕ) (a : A) → ((k : ℕ) → (k ≡ i + j → ⊥) → f k ≡ g k) → g (i + j) ≡ a
      → set (entries i n f) j a ≡ entries i n g
  unfolding entries
  entries_set i zero f g j a h q = refl
  entries_set i (suc n) f g zero a h q =
      ap₂ (λ (b : A) (l : List A). b ∷ l) (sym q ∙ ap g (omega arith)) (entries_same (i + 1) n f g (λ k l _. h k (λ e. omega arith)))
  entries_set i (suc n) f g (suc j) a h q =
      ap₂ (λ (b : A) (l : List A). b ∷ l) (h i (λ e. omega arith))
      (entries_set (i + 1) n f g j a (λ k e. h k (λ d. e (omega arith))) (ap g (omega arith) ∙ q))

  pub table_set : (n : ℕ) (f g : ℕ → A) (i : ℕ) (a : A) → ((k : ℕ) → (k ≡ i → ⊥) → f k ≡ g k) → g i ≡ a → set (table n f) i a ≡ table n g
  table_set n f g i a h q = entries_set 0 n f g i a (λ k e. h k (λ d. e (omega arith))) (ap g (omega arith) ∙ q)

module _ (w : Tables) (s : Store) (x : Write) (rows : List HeldSlot) (h : StoreHeld w s rows) (i k p o : ℕ)
    (formed : well_formed most_slots x.value ≡ true) (slot : x.slot ≡ i) (kind : x.value.kind ≡ k) (payload : x.value.payload ≡ p) (owner : owner_of w i ≡ o) where
  after : Store
  after = set s i (assigned x.value (get_or s i empty_slot))

  written_at : written x s ≡ after
  unfolding written after
  written_at = rw slot

  after_formed : i < most_slots → (j : ℕ) → well_formed most_slots (contents after j) ≡ true
  unfolding after assigned
  after_formed l j = go (ℕ_discrete j i)
    where
      formed_as : (y : Slot) → get_or after j empty_slot ≡ y → well_formed most_slots y.value ≡ true → well_formed most_slots (contents after j) ≡ true
      formed_as y e q = ap (λ (z : Slot). well_formed most_slots z.value) e ∙ q

      go : Dec (j ≡ i) → well_formed most_slots (contents after j) ≡ true
      go (yes e) =
          formed_as (assigned x.value (get_or s i empty_slot))
          (ap (λ (n : ℕ). get_or after n empty_slot) e ∙ get_or-set_same s i _ empty_slot (omega (arith, h.size))) formed
      go (no e) = formed_as (get_or s j empty_slot) (get_or-set_other s i j _ empty_slot e) (h.formed j)

  pub put_inside : i < most_slots → StoreHeld w (written x s) (set rows i (record { kind = k; payload = p; owner = o; writes = (get_or rows i empty_row).writes + 1 }))
  unfolding held_of row_of assigned after
  put_inside l =
      rw (written_at, h.same, table_at most_slots (λ j. row_of (get_or s j empty_slot) (owner_of w j)) empty_row i l)
      (record {
        size = length-set s i _ ∙ h.size;
        same =
            table_set most_slots _ _ i _
            (λ j e. ap (λ (y : Slot). row_of y (owner_of w j)) (sym (get_or-set_other s i j _ empty_slot e)))
            (rw (get_or-set_same s i (assigned x.value (get_or s i empty_slot)) empty_slot (omega (arith, h.size)), kind, payload, owner));
        formed = after_formed l;
      })
