-- What stands in a slot's row of a held store (`StoreHeld`). Serves `row_of`, and whoever reads a row. Assumes nothing.
use Prim.Native.Nat.{ℕ, ◌<◌}
use mathlib.Core.Path.{◌≡◌, ap, ◌∙◌}
use mathlib.Core.Logic.{◌⊎◌, inl, inr, ⊎_elim}
use mathlib.Core.List.{List}
use native.Mathlib.Omega.{arith}
use lib.ListN.{get_or}
use Rattle.lattice.specs.declared.Table.{Table}
use Rattle.lattice.specs.Order.{Label}
use Rattle.values.specs.Value.{read_view, write_view, Slot, empty_slot}
use Rattle.values.proofs.Bytes.{view_inside}
use Rattle.values.proofs.BytesArrays.{table_at}
use Rattle.store.specs.declared.HeldSlot.{HeldSlot}
use Rattle.store.specs.Sheet.{Tables, owner_of, most_slots}
use Rattle.store.specs.HeldStore.{row_of, empty_row, held_of}
use Rattle.calculus.specs.Calculus.{Store, Labelled}
use Rattle.machine.specs.MachineNumbers.{StoreHeld, ValueHeld}

module _ (w : Tables) (s : Store) (i : ℕ) where
  -- the row of a slot
  pub row_at_law : (rows : List HeldSlot) → StoreHeld w s rows → i < most_slots → get_or rows i empty_row ≡ row_of (get_or s i empty_slot) (owner_of w i)
  unfolding held_of
  row_at_law rows h l =
      ap (λ (r : List HeldSlot). get_or r i empty_row) h.same ∙ table_at most_slots (λ k. row_of (get_or s k empty_slot) (owner_of w k)) empty_row i l

-- what a row holds
module _ (s : Slot) (o : Label) (row : HeldSlot) (e : row ≡ row_of s o) where
  pub row_kind : row.kind ≡ s.value.kind
  unfolding row_of
  row_kind = ap (λ (r : HeldSlot). r.kind) e

  pub row_payload : row.payload ≡ s.value.payload
  unfolding row_of
  row_payload = ap (λ (r : HeldSlot). r.payload) e

  pub row_owner : row.owner ≡ o
  unfolding row_of
  row_owner = ap (λ (r : HeldSlot). r.owner) e

-- a view names a slot that is held
pub view_held : {t : Table} {x : Labelled} {k p l : ℕ} → ValueHeld t x k p l → (k ≡ read_view) ⊎ (k ≡ write_view) → p < most_slots
view_held {x = x} h v =
    omega (arith, h.payload, view_inside most_slots x.value h.formed (⊎_elim (λ r. inl (h.kind ∙ r)) (λ r. inr (h.kind ∙ r)) v))
