-- Laws of `entries`, `table` and `filled` (specs/Bytes.antt): arrays given entry by entry, and those that a loop fills. Assumes nothing.
use Rattle.std.proofs.Common.{◌≡◌, ℕ, zero, suc, ◌+◌, ◌<◌, ◌≤◌, Bool, true, false, ltb, List, ◌∷◌, length, get_or, set, replicate, sym, refl, ap, ◌∙◌, subst, ap₂, le_of_suc-le-suc, not-suc-le-zero, arith, length-set, get_or-set_other, get_or-set_same, ext_get_or, ltb-true, le-ltb, lt-ltb}
use native.Mathlib.Decide.{ℕ_discrete}
use Rattle.lattice.proofs.Tests.{iff}
use Rattle.values.specs.Bytes.{entries, table, filled}

module _ {A : Type 0} where
  length_entries : (i n : ℕ) (f : ℕ → A) → length (entries i n f) ≡ n
  unfolding entries
  length_entries i zero f = refl
  length_entries i (suc n) f = ap suc (length_entries (i + 1) n f)

  pub length_table : (n : ℕ) (f : ℕ → A) → length (table n f) ≡ n
  length_table = length_entries 0

  entries_at : (i n : ℕ) (f : ℕ → A) (d : A) (k : ℕ) → k < n → get_or (entries i n f) k d ≡ f (i + k)
  unfolding entries
  entries_at i zero f d k h = absurd (not-suc-le-zero h)
  entries_at i (suc n) f d zero h = ap f (omega arith)
  entries_at i (suc n) f d (suc k) h = entries_at (i + 1) n f d k (le_of_suc-le-suc h) ∙ ap f (omega arith)

  pub table_at : (n : ℕ) (f : ℕ → A) (d : A) (k : ℕ) → k < n → get_or (table n f) k d ≡ f k
  table_at n f d k h = entries_at 0 n f d k h ∙ ap f (omega arith)

  -- equal at every number reached, equal entries
  pub entries_same : (i n : ℕ) (f g : ℕ → A) → ((k : ℕ) → i ≤ k → k < i + n → f k ≡ g k) → entries i n f ≡ entries i n g
  unfolding entries
  entries_same i zero f g h = refl
  entries_same i (suc n) f g h =
      ap₂ (λ (x : A) (l : List A). x ∷ l) (h i (omega arith) (omega arith))
      (entries_same (i + 1) n f g (λ k l m. h k (omega arith) (omega arith)))

  pub table_same : (n : ℕ) (f g : ℕ → A) → ((k : ℕ) → k < n → f k ≡ g k) → table n f ≡ table n g
  table_same n f g h = entries_same 0 n f g (λ k _ l. h k (omega arith))

  entries_replicate : (i n : ℕ) (d : A) → replicate n d ≡ entries i n (λ _. d)
  unfolding entries
  entries_replicate i zero d = refl
  entries_replicate i (suc n) d = ap (λ (l : List A). d ∷ l) (entries_replicate (i + 1) n d)

  -- an entry: filled or not
  unfoldable pub pick : Bool → A → A → A
  pick b x y = elim b [ true ↦ x | false ↦ y ]

  module _ (size : ℕ) (f : ℕ → A) (d : A) where
    pub length_filled : (n : ℕ) → length (filled size n f d) ≡ size
    unfolding filled
    length_filled n = length_table size _

    pub entry_at : (n : ℕ) (d' : A) (k : ℕ) → k < size → get_or (filled size n f d) k d' ≡ pick (ltb k n) (f k) d
    unfolding filled pick
    entry_at n d' k h = table_at size _ d' k h

    -- an entry that is filled
    pub filled_at : (n : ℕ) (d' : A) (k : ℕ) → n ≤ size → k < n → get_or (filled size n f d) k d' ≡ f k
    unfolding pick
    filled_at n d' k hn h = entry_at n d' k (omega arith) ∙ rw (lt-ltb k n h) refl

    -- a loop's start and its step
    pub filled_none : replicate size d ≡ filled size 0 f d
    unfolding filled
    filled_none = entries_replicate 0 size d ∙ table_same size (λ _. d) _ (λ k h. rw (le-ltb k 0 (omega arith)) refl)

    other : (n k : ℕ) → (k ≡ n → ⊥) → ltb k n ≡ ltb k (n + 1)
    other n k ne =
        iff (ltb k n) (ltb k (n + 1)) (λ e. lt-ltb k (n + 1) (omega (arith, ltb-true k n e)))
        (λ e. lt-ltb k n (omega (arith, ltb-true k (n + 1) e)))

    stepped : (n k : ℕ) → n < size → k < size → Dec (k ≡ n)
        → get_or (set (filled size n f d) n (f n)) k d ≡ get_or (filled size (n + 1) f d) k d
    stepped n k h hk (yes e) =
        subst (λ (j : ℕ). get_or (set (filled size n f d) n (f n)) j d ≡ get_or (filled size (n + 1) f d) j d) (sym e)
        (get_or-set_same (filled size n f d) n (f n) d (subst (λ (m : ℕ). n < m) (sym (length_filled n)) h)
        ∙ sym (filled_at (n + 1) d n (omega arith) (omega arith)))
    stepped n k h hk (no ne) =
        get_or-set_other (filled size n f d) n k (f n) d ne ∙ entry_at n d k hk ∙ ap (λ (b : Bool). pick b (f k) d) (other n k ne)
        ∙ sym (entry_at (n + 1) d k hk)

    pub filled_step : (n : ℕ) → n < size → set (filled size n f d) n (f n) ≡ filled size (n + 1) f d
    filled_step n h =
        let len : length (set (filled size n f d) n (f n)) ≡ size = length-set (filled size n f d) n (f n) ∙ length_filled n in
        ext_get_or d _ _ (len ∙ sym (length_filled (n + 1)))
        (λ k hk. stepped n k h (subst (λ (m : ℕ). k < m) len hk) (ℕ_discrete k n))
