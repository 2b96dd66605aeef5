-- For `journal_tells`: entries whose old values are those that their slots held; counts, and walks forwards and backwards. Assumes nothing.
use Prim.Native.Nat.{ℕ, zero, suc, ◌+◌, ◌≤◌, ◌<◌}
use mathlib.Core.Path.{◌≡◌, refl, sym, ap, ◌∙◌}
use mathlib.Core.Bool.{Bool, true, false}
use mathlib.Core.List.{List, [], ◌∷◌, ◌++◌, append-nil}
use native.Mathlib.Decide.{ℕ_discrete}
use native.Mathlib.Omega.{arith}
use lib.ListN.{get_or, set, length, length-set}
use lib.Dec.{eqb}
use lib.Seq.{append_snoc, get_or-set_same, get_or-set_other, set-get_or, set-set, ext_get_or}
use borrow.Author.Tests.{eq-eqb, ne_eqb}
use Rattle.values.specs.declared.Entry.{Entry}
use Rattle.values.specs.declared.Value.{Value}
use Rattle.values.specs.Bytes.{entries, table}
use Rattle.values.specs.Value.{Slot, assigned, empty_slot}
use Rattle.values.proofs.BytesArrays.{length_table, table_at}
use Rattle.calculus.specs.Calculus.{Store, contents, Write, written}
use Rattle.exactness.specs.JournalTells.{tally, namings, redone, undone, held_at, Stands, Walks, values_of}
use Rattle.store.specs.Counts.{total}

-- the write of an entry, and the store after those of all of them
abbrev pub write_of : Entry → Write
write_of e = record { slot = e.slot; value = e.new }

unfoldable pub replayed : List Entry → Store → Store
replayed [] s = s
replayed (e ∷ es) s = replayed es (written (write_of e) s)

pub replayed_append : (fs bs : List Entry) (s : Store) → replayed (fs ++ bs) s ≡ replayed bs (replayed fs s)
unfolding replayed
replayed_append [] bs s = refl
replayed_append (e ∷ fs) bs s = replayed_append fs bs (written (write_of e) s)

-- P holds of each entry, of the entries before it, and of the store that it meets
pub data Each (P : List Entry → Store → Entry → Type 0) : List Entry → Store → List Entry → Type 0 where
  empty : {b : List Entry} {s : Store} → Each P b s []
  next : {b : List Entry} {s : Store} {e : Entry} {es : List Entry}
      → P b s e → Each P (b ++ (e ∷ [])) (written (write_of e) s) es → Each P b s (e ∷ es)

-- the entries before one, itself, and those after it
pub record Parts (P : List Entry → Store → Entry → Type 0) (b : List Entry) (s : Store) (fs : List Entry) (e : Entry) (bs : List Entry) : Type 0 where
  pub front : Each P b s fs
  pub at : P (b ++ fs) (replayed fs s) e
  pub so_far : List Entry
  pub back : Each P so_far (written (write_of e) (replayed fs s)) bs

module _ {P : List Entry → Store → Entry → Type 0} where
  -- one more entry
  pub each_more : {b : List Entry} {s : Store} (es : List Entry) (e : Entry)
      → Each P b s es → P (b ++ es) (replayed es s) e → Each P b s (es ++ (e ∷ []))
  unfolding replayed
  each_more {b} [] e empty p = next (rw append-nil at p) empty
  each_more {b} (x ∷ es) e (next q w) p = next q (each_more {b = b ++ (x ∷ [])} es e w (rw (append_snoc b x es) p))

  pub each_parts : {b : List Entry} {s : Store} (fs : List Entry) (e : Entry) (bs : List Entry) → Each P b s (fs ++ (e ∷ bs)) → Parts P b s fs e bs
  unfolding replayed
  each_parts {b} [] e bs (next p w) = record { front = empty; at = rw append-nil p; so_far = _; back = w }
  each_parts {b} (x ∷ fs) e bs (next p w) =
      let r = each_parts {b = b ++ (x ∷ [])} fs e bs w in
      record { front = next p r.front; at = rw (append_snoc b x fs) at r.at; so_far = r.so_far; back = r.back }

  pub each_map : {Q : List Entry → Store → Entry → Type 0} → ((b : List Entry) (s : Store) (e : Entry) → P b s e → Q b s e)
      → {b : List Entry} {s : Store} {es : List Entry} → Each P b s es → Each Q b s es
  each_map f empty = empty
  each_map f (next p w) = next (f _ _ _ p) (each_map f w)

-- an entry of one of m slots that held its old value
pub record Fits (m : ℕ) (s : Store) (e : Entry) : Type 0 where
  pub inside : e.slot < m
  pub old : e.old ≡ contents s e.slot

-- Slots

length_written : (x : Write) (s : Store) → length (written x s) ≡ length s
unfolding written
length_written x s = length-set s x.slot _

length_replayed : (es : List Entry) (s : Store) → length (replayed es s) ≡ length s
unfolding replayed
length_replayed [] s = refl
length_replayed (e ∷ es) s = length_replayed es (written (write_of e) s) ∙ length_written (write_of e) s

written_same : (x : Write) (s : Store) → x.slot < length s
    → get_or (written x s) x.slot empty_slot ≡ assigned x.value (get_or s x.slot empty_slot)
unfolding written
written_same x s h = get_or-set_same s x.slot _ empty_slot h

written_other : (x : Write) (s : Store) (i : ℕ) → (i ≡ x.slot → ⊥) → get_or (written x s) i empty_slot ≡ get_or s i empty_slot
unfolding written
written_other x s i h = get_or-set_other s x.slot i _ empty_slot h

-- Counts

abbrev count_of : Store → ℕ → ℕ
count_of s i = (get_or s i empty_slot).writes

tally_few : (b : Bool) → tally b ≤ 1
unfolding tally
tally_few true = omega arith
tally_few false = omega arith

pub namings_few : (i : ℕ) (es : List Entry) → namings i es ≤ length es
unfolding namings
namings_few i [] = omega arith
namings_few i (e ∷ es) = omega (arith, tally_few (eqb e.slot i), namings_few i es)

count_written : (e : Entry) (s : Store) (i : ℕ) → e.slot < length s → count_of (written (write_of e) s) i ≡ count_of s i + tally (eqb e.slot i)
unfolding tally assigned
count_written e s i h = go (ℕ_discrete i e.slot)
  where
    go : Dec (i ≡ e.slot) → count_of (written (write_of e) s) i ≡ count_of s i + tally (eqb e.slot i)
    go (yes q) = rw (q, eq-eqb e.slot e.slot refl) (ap (λ (t : Slot). t.writes) (written_same (write_of e) s h))
    go (no q) = rw (ne_eqb e.slot i (λ r. q (sym r))) (omega (arith, ap (λ (t : Slot). t.writes) (written_other (write_of e) s i q)))

-- a slot's count grows by the entries that name it
pub counts_grow : {m : ℕ} {b : List Entry} {s : Store} {es : List Entry} → Each (λ _. Fits m) b s es → m ≤ length s
    → (i : ℕ) → count_of (replayed es s) i ≡ count_of s i + namings i es
unfolding replayed namings
counts_grow empty l i = omega arith
counts_grow {s} (next {e = e} f w) l i =
    let h = length_written (write_of e) s in
    omega (arith, counts_grow w (omega (arith, h)) i, count_written e s i (omega (arith, f.inside)))

-- sums over numbers from i on
pub total_add : (i n : ℕ) (f g : ℕ → ℕ) → total (entries i n (λ j. f j + g j)) ≡ total (entries i n f) + total (entries i n g)
unfolding entries total
total_add i zero f g = omega arith
total_add i (suc n) f g = omega (arith, total_add (i + 1) n f g)

pub total_zero : (i n : ℕ) → total (entries i n (λ _. 0)) ≡ 0
unfolding entries total
total_zero i zero = refl
total_zero i (suc n) = omega (arith, total_zero (i + 1) n)

total_past : (k i n : ℕ) → k < i → total (entries i n (λ j. tally (eqb k j))) ≡ 0
unfolding entries total tally
total_past k i zero h = refl
total_past k i (suc n) h = rw (ne_eqb k i (λ q. omega arith)) (omega (arith, total_past k (i + 1) n (omega arith)))

total_one : (k i n : ℕ) → i ≤ k → k < i + n → total (entries i n (λ j. tally (eqb k j))) ≡ 1
unfolding entries total tally
total_one k i zero h l = absurd (omega arith)
total_one k i (suc n) h l = go (ℕ_discrete k i) (λ p. total_one k (i + 1) n p (omega arith))
  where
    rest : ℕ
    rest = total (entries (i + 1) n (λ j. tally (eqb k j)))

    go : Dec (k ≡ i) → (i + 1 ≤ k → rest ≡ 1) → tally (eqb k i) + rest ≡ 1
    go (yes q) f = rw (eq-eqb k i q) (omega (arith, total_past k (i + 1) n (omega arith)))
    go (no q) f = rw (ne_eqb k i q) (omega (arith, f (omega arith)))

-- each entry names one of the slots
pub namings_total : {m : ℕ} {b : List Entry} {s : Store} {es : List Entry} → Each (λ _. Fits m) b s es
    → total (table m (λ i. namings i es)) ≡ length es
unfolding namings
namings_total {m} empty = total_zero 0 m
namings_total {m} (next {e = e} {es = es} f w) =
    total_add 0 m (λ i. tally (eqb e.slot i)) (λ i. namings i es)
    ∙ omega (arith, total_one e.slot 0 m (omega arith) (omega (arith, f.inside)), namings_total w)

-- Walks

module _ {A : Type 0} (put : Value → A) (m : ℕ) where
  abbrev Vs : Store → List A
  Vs s = values_of put m s

  values_at_law : (s : Store) (i : ℕ) → i < m → held_at put (Vs s) i ≡ put (contents s i)
  values_at_law s i h = table_at m (λ j. put (contents s j)) _ i h

  values_written : (x : Write) (s : Store) → x.slot < m → m ≤ length s → Vs (written x s) ≡ set (Vs s) x.slot (put x.value)
  unfolding assigned
  values_written x s h l =
      let size : (t : Store) → length (Vs t) ≡ m = λ t. length_table m (λ j. put (contents t j)) in
      ext_get_or (put empty_slot.value) _ _ (size (written x s) ∙ sym (size s) ∙ sym (length-set (Vs s) x.slot (put x.value)))
      (λ i k. go i (omega (arith, size (written x s))) (ℕ_discrete i x.slot))
    where
      go : (i : ℕ) → i < m → Dec (i ≡ x.slot) → held_at put (Vs (written x s)) i ≡ held_at put (set (Vs s) x.slot (put x.value)) i
      go i k (yes q) =
          let size = length_table m (λ j. put (contents s j)) in
          values_at_law (written x s) i k
          ∙ rw q (ap (λ (t : Slot). put t.value) (written_same x s (omega arith)) ∙ sym (get_or-set_same (Vs s) x.slot _ _ (omega arith)))
      go i k (no q) =
          values_at_law (written x s) i k ∙ ap (λ (t : Slot). put t.value) (written_other x s i q)
          ∙ sym (values_at_law s i k) ∙ sym (get_or-set_other (Vs s) x.slot i _ _ q)

  pub redone_forth : {b : List Entry} {s : Store} {es : List Entry} → Each (λ _. Fits m) b s es → m ≤ length s
      → redone put es (Vs s) ≡ Vs (replayed es s)
  unfolding redone replayed
  redone_forth empty l = refl
  redone_forth {s} (next {e = e} {es = es} f w) l =
      let h = length_written (write_of e) s in
      ap (λ (u : List A). redone put es u) (sym (values_written (write_of e) s f.inside l)) ∙ redone_forth w (omega arith)

  undone_back : {b : List Entry} {s : Store} {es : List Entry} → Each (λ _. Fits m) b s es → m ≤ length s
      → undone put es (Vs (replayed es s)) ≡ Vs s
  unfolding undone replayed
  undone_back empty l = refl
  undone_back {s} (next {e = e} {es = es} f w) l =
      let h = length_written (write_of e) s in
      ap (λ (u : List A). set u e.slot (put e.old)) (undone_back w (omega arith) ∙ values_written (write_of e) s f.inside l)
      ∙ set-set (Vs s) e.slot _ _
      ∙ ap (λ (a : A). set (Vs s) e.slot a) (ap put f.old ∙ sym (values_at_law s e.slot f.inside))
      ∙ set-get_or (Vs s) e.slot (put empty_slot.value)

  pub walks : {s : Store} (es : List Entry) → Each (λ _. Fits m) [] s es → m ≤ length s → Walks put es (Vs s) (Vs (replayed es s))
  unfolding replayed assigned
  walks {s} es w l = record { forwards = redone_forth w l; backwards = undone_back w l; meets_old = met_old; meets_new = met_new }
    where
      parts : (e : Entry) (x : Stands es e) → Parts (λ _. Fits m) [] s x.before e x.after
      parts e x = each_parts x.before e x.after (rw x.is at w)

      met_old : (e : Entry) (x : Stands es e) → held_at put (redone put x.before (Vs s)) e.slot ≡ put e.old
      met_old e x =
          let p = parts e x in
          ap (λ (u : List A). held_at put u e.slot) (redone_forth p.front l)
          ∙ values_at_law (replayed x.before s) e.slot p.at.inside ∙ ap put (sym p.at.old)

      met_new : (e : Entry) (x : Stands es e) → held_at put (undone put x.after (Vs (replayed es s))) e.slot ≡ put e.new
      met_new e x =
          let p = parts e x in
          let t = replayed x.before s in
          let size : m ≤ length t = omega (arith, length_replayed x.before s) in
          let ends : replayed es s ≡ replayed x.after (written (write_of e) t) =
          ap (λ (l : List Entry). replayed l s) x.is ∙ replayed_append x.before (e ∷ x.after) s in
          ap (λ (u : Store). held_at put (undone put x.after (Vs u)) e.slot) ends
          ∙ ap (λ (u : List A). held_at put u e.slot) (undone_back p.back (omega (arith, length_written (write_of e) t)))
          ∙ values_at_law (written (write_of e) t) e.slot p.at.inside
          ∙ ap (λ (u : Slot). put u.value) (written_same (write_of e) t (omega (arith, p.at.inside)))
