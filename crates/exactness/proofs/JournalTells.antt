-- Proves `journal_tells`: what a run that finishes tells by its journal and its counts. Assumes nothing.
use Prim.Native.Nat.{ℕ, ◌+◌, ◌*◌, ◌^◌, ◌≤◌, ◌<◌}
use mathlib.Core.Path.{◌≡◌, refl, sym, ap, ◌∙◌}
use mathlib.Core.List.{List, [], ◌++◌, append-nil}
use native.Mathlib.Omega.{arith}
use lib.ListN.{get_or, length, take, drop}
use lib.Seq.{drop-nil, take_all, take_at, drop_at, take-take}
use Rattle.values.specs.declared.Answer.{Answer}
use Rattle.values.specs.declared.Entry.{Entry}
use Rattle.values.specs.Result.{Result, ok, refuse}
use Rattle.values.specs.Bytes.{number_at, number_bytes, part}
use Rattle.values.specs.Value.{value_width, value_bytes, Slot, opened, empty_slot, count_width, slot_width, slot_bytes}
use Rattle.values.proofs.Result.{post_at, one_value}
use Rattle.values.proofs.Bytes.{length_value, length_number, number_part, number_read}
use Rattle.values.proofs.BytesArrays.{table_same}
use Rattle.store.specs.Sheet.{slots_bytes}
use Rattle.store.proofs.SheetOpening.{Opens, store_opens, slot_part}
use Rattle.calculus.specs.Calculus.{Store, contents, State}
use Rattle.calculus.specs.Run.{Call, limits_of, Finished, run, entries_of, journal_of, output, entries}
use Rattle.calculus.specs.Faithfulness.{Good, own_run}
use Rattle.exactness.specs.Exactness.{Finishes, Within}
use Rattle.exactness.specs.JournalTells.{namings, redone, Stands, Walks, values_of, values_in, ByRule, Written, JournalTells}
use Rattle.store.specs.Counts.{total, count_at}
use Rattle.calculus.proofs.Faithfulness.{faithfulness}
use Rattle.exactness.proofs.Exactness.{exactness}
use Rattle.exactness.proofs.JournalTellsWalks.{replayed, Each, Fits, each_parts, each_map, namings_few, counts_grow, namings_total, redone_forth, walks}
use Rattle.exactness.proofs.JournalTellsEntries.{run_tells}

-- A slot in the output

-- its value's bytes, and its count
pub value_part : (store : List Slot) (n i : ℕ) → i < n → part (slots_bytes store 0 n) (slot_width * i) value_width ≡ value_bytes (contents store i)
unfolding slot_bytes
value_part store n i h =
    let s = get_or store i empty_slot in
    sym (take-take value_width slot_width (drop (slot_width * i) (slots_bytes store 0 n)) (omega arith))
    ∙ ap (λ (l : List ℕ). take value_width l) (slot_part store n i h)
    ∙ take_at (value_bytes s.value) (number_bytes count_width s.writes) value_width (length_value s.value)

count_last : (s : Slot) → s.writes < 256 ^ count_width → number_at count_width (slot_bytes s) value_width ≡ s.writes
unfolding slot_bytes
count_last s h =
    let count = number_bytes count_width s.writes in
    let e : value_width ≡ value_width + 0 = omega arith in
    ap (λ (k : ℕ). number_at count_width (slot_bytes s) k) e
    ∙ sym (number_part count_width count_width (slot_bytes s) value_width 0 (omega arith))
    ∙ ap (λ (l : List ℕ). number_at count_width (take count_width l) 0) (drop_at (value_bytes s.value) count value_width (length_value s.value))
    ∙ ap (λ (l : List ℕ). number_at count_width l 0) (take_all count_width count (omega (arith, length_number count_width s.writes)))
    ∙ number_read count_width s.writes h

pub count_part : (store : List Slot) (n i : ℕ) → i < n → (get_or store i empty_slot).writes < 256 ^ count_width
    → count_at (slots_bytes store 0 n) i ≡ (get_or store i empty_slot).writes
count_part store n i h k =
    sym (number_part count_width slot_width (slots_bytes store 0 n) (slot_width * i) value_width (omega arith))
    ∙ ap (λ (l : List ℕ). number_at count_width l value_width) (slot_part store n i h)
    ∙ count_last (get_or store i empty_slot) k

-- A run that finishes

-- its entries, where its journal held none before
entries_alone : (r : Result Answer Finished) → entries_of r ≡ journal_of r []
unfolding entries_of journal_of
entries_alone (ok f) = sym (ap (λ (l : List Entry). f.state.journal ++ l) (drop-nil (length f.state.journal)) ∙ append-nil f.state.journal)
entries_alone (refuse a) = refl

module _ (c : Call) (old : List ℕ) (g : Good c) (s : State) (e : own_run g ≡ ok s) where
  abbrev m : ℕ
  m = g.opening.tables.slots

  abbrev first : Store
  first = g.opening.store

  opens : Opens c.store g.opening
  opens = post_at _ _ _ _ (store_opens c.store) g.opens

  wide : m ≤ length first
  wide = omega (arith, opens.small, opens.sized)

  put_out : output c old ≡ slots_bytes s.store 0 m
  put_out = ((faithfulness c old [] g).ends s e).1

  filled : entries c ≡ s.journal
  filled =
      let n = length s.journal in
      entries_alone (run c) ∙ ((faithfulness c old [] g).ends s e).3
      ∙ ap (λ (l : List Entry). s.journal ++ l) (drop-nil n) ∙ append-nil s.journal

  each : Each (ByRule g) [] first (entries c)
  each = rw filled (run_tells g opens s e).each

  ended : s.store ≡ replayed (entries c) first
  ended = rw filled (run_tells g opens s e).ends

  fits : Each (λ _. Fits m) [] first (entries c)
  fits = each_map (λ _ _ _ p. record { inside = p.slot_listed; old = p.held }) each

  ends : Finishes g.opening g.rules g.blocks s × Within (limits_of c) s
  ends = ((exactness g.opening g.rules g.blocks).finishes (limits_of c) s).1 e

  few : length (entries c) ≤ s.steps
  few = rw filled ((exactness g.opening g.rules g.blocks).few_entries _ ends.0)

  -- counts open at 0, and fit their bytes
  counted : (i : ℕ) → i < m → (get_or s.store i empty_slot).writes ≡ namings i (entries c)
  unfolding opened
  counted i h =
      ap (λ (t : Store). (get_or t i empty_slot).writes) ended
      ∙ omega (arith, counts_grow fits wide i, ap (λ (t : Slot). t.writes) (opens.inside i h))

  counts : (i : ℕ) → i < m → count_at (output c old) i ≡ namings i (entries c)
  counts i h =
      ap (λ (out : List ℕ). count_at out i) put_out
      ∙ count_part s.store m i h (omega (arith, counted i h, namings_few i (entries c), few, ends.1.steps, g.modest))
      ∙ counted i h

  bytes : values_of value_bytes m (replayed (entries c) first) ≡ values_in m (output c old)
  bytes =
      table_same m _ _
      (λ i h. ap (λ (t : Store). value_bytes (contents t i)) (sym ended) ∙ sym (value_part s.store m i h)
      ∙ ap (λ (out : List ℕ). part out (slot_width * i) value_width) (sym put_out))

  in_store : Walks (λ v. v) (entries c) (values_of (λ v. v) m first) (values_of (λ v. v) m s.store)
  in_store = rw ended (walks (λ v. v) m (entries c) fits wide)

  by_rule : (e : Entry) (x : Stands (entries c) e)
      → (H : Store) × (values_of (λ v. v) m H ≡ redone (λ v. v) x.before (values_of (λ v. v) m first)) × ByRule g x.before H e
  by_rule e x =
      let p = each_parts x.before e x.after (rw x.is at each) in
      let q = each_parts x.before e x.after (rw x.is at fits) in
      (replayed x.before first, sym (redone_forth (λ v. v) m q.front wide), p.at)

  tells : Written c old g
  tells =
      record {
        first = λ kept. rw filled ((faithfulness c old kept g).ends s e).3;
        few = rw ((faithfulness c old [] g).ends s e).0 few;
        lent = rw filled ends.1.entries;
        counts_total = ap total (table_same m _ _ counts) ∙ namings_total fits;
        counts = counts;
        in_bytes = rw (← bytes) (walks value_bytes m (entries c) fits wide);
        in_stores = λ t d. rw (one_value _ _ _ d e) in_store;
        by_rule = by_rule;
      }

pub journal_tells : JournalTells
journal_tells c old g z = let x = (faithfulness c old [] g).finishes.0 z in tells c old g x.0 x.1
