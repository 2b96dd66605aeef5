-- Laws of the store sheet (specs/Sheet.antt): the numbers of its refusals, and what opening it gives, as the code holds it. Assumes nothing.
use Prim.Native.Nat.{ℕ, ◌≤◌, ◌<◌}
use mathlib.Core.Path.{◌≡◌, refl, sym, ap, ap₂, ◌∙◌}
use mathlib.Core.Bool.{Bool, true, false}
use mathlib.Core.List.{List}
use borrow.Author.Tests.{leb-true, le-leb, lt-ltb, le-ltb}
use lib.ListN.{length}
use lib.Dec.{ltb}
use Rattle.lattice.specs.Order.{most_principals}
use Rattle.lattice.specs.Tests.{◌and◌}
use Rattle.lattice.proofs.Tests.{and_l, and_r}
use Rattle.values.specs.Result.{Result, ok, refuse, ◌>>=◌, require, refusal_of}
use Rattle.values.specs.Bytes.{filled, sizes_width}
use Rattle.values.specs.Value.{opened, empty_slot}
use Rattle.values.proofs.Result.{one_value, one_refusal, not_both}
use Rattle.values.proofs.BytesArrays.{pick, table_same, entry_at}
use Rattle.store.specs.Sheet.{Opening, store_form, n_of, m_of, owner_at, slot_value_at, most_slots, tables_of, opening_of, value_good, sizes_allowed, slot_checked, body_checked, sheet_checked, store_sheet}
use Rattle.store.specs.declared.Opened.{Opened}
use Rattle.store.specs.declared.HeldSlot.{HeldSlot}
use Rattle.store.specs.declared.sheets.Form.{Form}
use Rattle.store.specs.HeldStore.{Sized, empty_row, row_of, row_at, held_of, opened_of, opened_in, held_after}

-- a sheet whose sizes are there is judged by them ..
module _ (f : Form) (s : List ℕ) (h : sizes_width ≤ length s) where
  pub sizes_refused : (n m : ℕ) → n ≡ n_of s → m ≡ m_of s → (1 ≤ n → n ≤ most_principals → m ≤ most_slots → ⊥) → sheet_checked f s ≡ refuse 2
  unfolding sheet_checked require sizes_allowed
  sizes_refused n m p q out = rw (le-leb _ _ h, ← p, ← q, not_allowed _ refl)
    where
      not_allowed : (b : Bool) → sizes_allowed n m ≡ b → b ≡ false
      not_allowed false e = refl
      not_allowed true e =
          absurd (out (leb-true _ _ (and_l _ _ (and_l _ _ e))) (leb-true _ _ (and_r _ _ (and_l _ _ e))) (leb-true _ _ (and_r _ _ e)))

  -- .. and then by what follows them
  pub sizes_passed : {n m : ℕ} → Sized s n m → sheet_checked f s ≡ body_checked f s
  unfolding sheet_checked require sizes_allowed ◌and◌
  sizes_passed z = rw (le-leb _ _ h, ← z.principals, ← z.slots, le-leb _ _ z.some, le-leb _ _ z.few, le-leb _ _ z.small)

-- a slot is judged by its owner, and then by its value
module _ (f : Form) (s : List ℕ) (i : ℕ) where
  pub owner_refused : n_of s ≤ owner_at s i → slot_checked f s i ≡ refuse 4
  unfolding slot_checked require
  owner_refused h = rw (le-ltb _ _ h)

  pub owner_passed : owner_at s i < n_of s → slot_checked f s i ≡ require (value_good f s i) 5 (ok tt)
  unfolding slot_checked require
  owner_passed h = rw (lt-ltb _ _ h) refl

-- what is made of a check's answer keeps its number
pub refusal_kept : {A : Type 0} (r : Result ℕ (Unit {0})) (a : A) → refusal_of r ≡ refusal_of (r >>= λ _. ok a)
unfolding refusal_of ◌>>=◌
refusal_kept (ok _) a = refl
refusal_kept (refuse e) a = refl

-- a store sheet that is not refused
module _ (s : List ℕ) (e : sheet_checked store_form s ≡ ok tt) where
  opens : store_sheet s ≡ ok (opening_of s)
  unfolding store_sheet ◌>>=◌
  opens = rw e

  pub store_opened : ok (opened_of (opening_of s)) ≡ opened_in (store_sheet s)
  unfolding opened_in
  store_opened = rw opens

  pub store_held : (old : List HeldSlot) → held_of (tables_of s) (opening_of s).store ≡ held_after (store_sheet s) old
  unfolding held_after opening_of
  store_held old = rw opens

-- a store sheet that is refused
module _ (s : List ℕ) (n : ℕ) (e : sheet_checked store_form s ≡ refuse n) where
  refuses : store_sheet s ≡ refuse n
  unfolding store_sheet ◌>>=◌
  refuses = rw e

  pub refused_opened : refuse n ≡ opened_in (store_sheet s)
  unfolding opened_in
  refused_opened = rw refuses

  pub refused_held : (old : List HeldSlot) → old ≡ held_after (store_sheet s) old
  unfolding held_after
  refused_held old = rw refuses

-- what the answer of `open_store` tells of the sheet
pub opened_taken : (r : Result ℕ Opening) (x : Opened) → ok x ≡ opened_in r → (o : Opening) × (r ≡ ok o) × (x ≡ opened_of o)
unfolding opened_in
opened_taken (ok o) x e = (o, refl, one_value _ _ _ refl e)
opened_taken (refuse n) x e = absurd (not_both _ _ _ refl e)

pub opened_refused : (r : Result ℕ Opening) (n : ℕ) → refuse n ≡ opened_in r → r ≡ refuse n
unfolding opened_in
opened_refused (ok o) n e = absurd (not_both _ _ _ refl (sym e))
opened_refused (refuse m) n e = ap refuse (one_refusal _ _ _ refl (sym e))

row_pick : (s : List ℕ) (k : ℕ) (b : Bool)
    → pick b (row_at s k) empty_row ≡ row_of (pick b (opened (slot_value_at s k)) empty_slot) (pick b (owner_at s k) 0)
unfolding pick row_at row_of empty_slot opened
row_pick s k true = refl
row_pick s k false = refl

-- a loop that fills rows has filled what the code holds
pub held_filled : (s : List ℕ) → filled most_slots (m_of s) (row_at s) empty_row ≡ held_of (tables_of s) (opening_of s).store
unfolding filled held_of tables_of opening_of pick
held_filled s =
    table_same most_slots _ _
    (λ k h.
    row_pick s k (ltb k (m_of s))
    ∙ ap₂ row_of (sym (entry_at most_slots (λ i. opened (slot_value_at s i)) empty_slot (m_of s) empty_slot k h))
    (sym (entry_at most_slots (owner_at s) 0 (m_of s) 0 k h)))
