-- Proves `protected_tested`; for `isolated`: stores that agree on protected slots, and journals on the entries that name them. Assumes nothing.
use Prim.Native.Nat.{ℕ}
use mathlib.Core.Path.{◌≡◌, refl, sym, ap, ◌∙◌}
use mathlib.Core.Bool.{true, false, true≢false}
use mathlib.Core.List.{List, [], ◌∷◌, ◌++◌}
use borrow.Author.Tests.{ltb-true, lt-ltb, not-true}
use borrow.Table.Steps.{cases}
use Rattle.lattice.specs.Order.{Label}
use Rattle.lattice.proofs.Tests.{and_l, and_r, and_of, is_false}
use Rattle.values.specs.declared.Entry.{Entry}
use Rattle.values.specs.Value.{Slot}
use Rattle.store.specs.Sheet.{Tables, owner_of}
use Rattle.calculus.specs.Calculus.{Write, Memory, entry_of, recorded}
use Rattle.isolation.specs.Isolation.{protects, ProtectedTested, naming}
use Rattle.calculus.proofs.CalculusTaint.{Tainted, Agree, agree_refl, agree_join, agree_both, agree_tainted}

pub record Akin (w : Tables) (a : Label) (m n : Memory) : Type 0 where
  pub stores : Agree w a m.store n.store
  pub named : naming w a m.journal ≡ naming w a n.journal

-- the test is right
pub protected_tested : ProtectedTested
unfolding protects
protected_tested w a i = (
  λ e. record { inside = ltb-true i w.slots (and_l _ _ e); above = not-true _ (and_r _ _ e) },
  λ p. and_of _ _ (lt-ltb i w.slots p.inside) (rw p.above),
)

module _ (w : Tables) (a : Label) where
  -- a slot of a tainted owner is not protected
  open_slot : (i : ℕ) → Tainted w a (owner_of w i) → protects w a i ≡ false
  open_slot i l = is_false _ (λ e. true≢false (sym l ∙ ((protected_tested w a i).0 e).above))

  -- one entry more: left out, or named too
  dropped : (es : List Entry) (e : Entry) → protects w a e.slot ≡ false → naming w a (es ++ (e ∷ [])) ≡ naming w a es
  unfolding naming
  dropped [] e p = rw (naming, p)
  dropped (d ∷ es) e p =
      ap (λ (l : List Entry). elim (protects w a d.slot) [ true ↦ d ∷ l | false ↦ l ]) (dropped es e p)

  added : (es : List Entry) (e : Entry) → protects w a e.slot ≡ true → naming w a (es ++ (e ∷ [])) ≡ naming w a es ++ (e ∷ [])
  unfolding naming
  added [] e p = rw (naming, p)
  added (d ∷ es) e p =
      cases (protects w a d.slot)
      (λ q. rw (naming, q) (ap (λ (l : List Entry). d ∷ l) (added es e p))) (λ q. rw (naming, q) (added es e p))

  pub akin_refl : (m : Memory) → Akin w a m m
  akin_refl m = record { stores = agree_refl w a _; named = refl }

  -- two that are each akin to a third
  pub akin_join : (l m n : Memory) → Akin w a l n → Akin w a m n → Akin w a l m
  akin_join l m n h k = record { stores = agree_join w a _ _ _ h.stores k.stores; named = h.named ∙ sym k.named }

  -- a write to a slot of a tainted owner
  pub akin_tainted : (block at : ℕ) (x : Write) (m n : Memory) → Tainted w a (owner_of w x.slot) → Akin w a m n
      → Akin w a (recorded block at x m) n
  unfolding recorded entry_of
  akin_tainted block at x m n l h =
      record { stores = agree_tainted w a x _ _ l h.stores; named = dropped m.journal _ (open_slot x.slot l) ∙ h.named }

  -- one write to both
  pub akin_both : (block at : ℕ) (x : Write) (m n : Memory) → Akin w a m n → Akin w a (recorded block at x m) (recorded block at x n)
  unfolding recorded entry_of
  akin_both block at x m n h =
      record {
        stores = agree_both w a x _ _ h.stores;
        named =
            cases (protects w a x.slot)
            (λ p. added m.journal _ p
            ∙ ap (λ (l : List Entry). l ++ (entry_of block at x m.store ∷ [])) h.named
            ∙ ap (λ (u : Slot). naming w a n.journal ++ (record { block = block; offset = at; slot = x.slot; old = u.value; new = x.value } ∷ []))
            (h.stores.held x.slot ((protected_tested w a x.slot).0 p).above)
            ∙ sym (added n.journal _ p))
            (λ p. dropped m.journal _ p ∙ h.named ∙ sym (dropped n.journal _ p));
      }
