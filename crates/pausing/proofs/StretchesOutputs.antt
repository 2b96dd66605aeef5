-- Laws of `store_in` (specs/Stretches.antt): an output is read back as the store it was written from; one that passes holds a good store. Assumes nothing.
use Prim.Native.Nat.{ℕ, zero, suc, ◌+◌, ◌*◌, ◌^◌, ◌≤◌, ◌<◌}
use mathlib.Core.Path.{◌≡◌, refl, sym, ap, ap₂, ◌∙◌}
use mathlib.Core.Logic.{⊎_elim}
use mathlib.Core.Bool.{true}
use mathlib.Core.List.{List, []}
use native.Mathlib.Decide.{dec_lt, ℕ_discrete}
use native.Mathlib.Omega.{arith}
use lib.ListN.{length, get_or, drop, get_or-eq_default}
use lib.Seq.{get_or-take, get_or-drop, ext_get_or}
use borrow.Author.Tests.{le-ltb, leb-true, le-leb}
use Rattle.lattice.specs.Tests.{◌or◌}
use Rattle.lattice.proofs.Tests.{and_l, and_r, and_of, every_at, every_of}
use Rattle.values.specs.declared.Value.{Value}
use Rattle.values.specs.Bytes.{Bytes, entries, part, table, filled}
use Rattle.values.specs.Value.{payload_width, value_width, well_formed, value_at, Slot, opened, empty_slot, slot_width}
use Rattle.values.proofs.BytesArrays.{table_same, pick, length_filled, entry_at, filled_at}
use Rattle.values.proofs.BytesNumbers.{number_lt}
use Rattle.values.proofs.Bytes.{number_part, value_read}
use Rattle.store.specs.Sheet.{most_slots, slots_bytes}
use Rattle.calculus.specs.Calculus.{State, contents}
use Rattle.store.specs.Counts.{total, count_at}
use Rattle.pausing.specs.Stretches.{slot_in, store_in, output_good}
use Rattle.calculus.proofs.ValueWellFormed.{formed_cases}
use Rattle.exactness.proofs.JournalTells.{value_part, count_part}
use Rattle.pausing.proofs.StretchesPositions.{Fits, count_of, StateGood}

-- no entry is larger than the total
total_least : (f : ℕ → ℕ) (n i k : ℕ) → i ≤ k → k < i + n → f k ≤ total (entries i n f)
unfolding entries total
total_least f zero i k h l = absurd (omega arith)
total_least f (suc n) i k h l = go (ℕ_discrete i k) (λ q. total_least f n (i + 1) k (omega arith) (omega arith))
  where
    go : Dec (i ≡ k) → ((i ≡ k → ⊥) → f k ≤ total (entries (i + 1) n f)) → f k ≤ f i + total (entries (i + 1) n f)
    go (yes q) r = rw q (omega arith)
    go (no q) r = omega (arith, r q)

-- a value, cut out
value_cut : (s : List ℕ) (at : ℕ) → value_at (part s at value_width) 0 ≡ value_at s at
unfolding value_at
value_cut s at =
    let z : at + 0 ≡ at = omega arith in
    ap₂ (λ (k p : ℕ). record { kind = k; payload = p })
    (get_or-take value_width (drop at s) 0 0 (omega arith) ∙ get_or-drop at s 0 0 ∙ ap (λ (j : ℕ). get_or s j 0) z)
    (number_part payload_width value_width s at 1 (omega arith))

module _ (m : ℕ) (small : m ≤ most_slots) where
  -- the store in an output
  module _ (out : List ℕ) where
    store_at : (i : ℕ) → i < m → get_or (store_in m out) i empty_slot ≡ slot_in out i
    unfolding store_in
    store_at i h = filled_at most_slots (slot_in out) empty_slot m empty_slot i small h

    store_past : (i : ℕ) → m ≤ i → get_or (store_in m out) i empty_slot ≡ empty_slot
    unfolding store_in pick
    store_past i h = go (dec_lt i most_slots)
      where
        go : Dec (i < most_slots) → get_or (store_in m out) i empty_slot ≡ empty_slot
        go (yes k) = entry_at most_slots (slot_in out) empty_slot m empty_slot i k ∙ rw (le-ltb i m h)
        go (no k) =
            get_or-eq_default (filled most_slots m (slot_in out) empty_slot) empty_slot {n = i} (omega (arith, length_filled most_slots (slot_in out) empty_slot m))

    store_sized : length (store_in m out) ≡ most_slots
    unfolding store_in
    store_sized = length_filled most_slots (slot_in out) empty_slot m

  -- Written and read back

  module _ (s : State) (g : StateGood m s) where
    abbrev out : List ℕ
    out = slots_bytes s.store 0 m

    count_small : (i : ℕ) → i < m → count_of s.store i < 2 ^ 32
    count_small i h = omega (arith, total_least (count_of s.store) m 0 i (omega arith) (omega arith), g.counts, g.steps)

    kind_small : (i : ℕ) → (contents s.store i).kind < 256
    kind_small i = ⊎_elim (λ e. omega (arith, e)) (λ x. omega (arith, x.0)) (formed_cases m small (contents s.store i) (g.store.values i).formed)

    value_back : (i : ℕ) → i < m → value_at out (slot_width * i) ≡ contents s.store i
    value_back i h =
        sym (value_cut out (slot_width * i)) ∙ ap (λ (l : List ℕ). value_at l 0) (value_part s.store m i h)
        ∙ value_read (contents s.store i) (kind_small i) (g.store.values i).small

    slot_back : (i : ℕ) → i < m → slot_in out i ≡ get_or s.store i empty_slot
    unfolding slot_in
    slot_back i h =
        ap₂ (λ (v : Value) (n : ℕ). record { value = v; writes = n }) (value_back i h) (count_part s.store m i h (count_small i h))

    pub store_back : store_in m out ≡ s.store
    store_back =
        ext_get_or empty_slot _ _ (store_sized out ∙ sym g.store.sized) (λ i _. go i (dec_lt i m))
      where
        go : (i : ℕ) → Dec (i < m) → get_or (store_in m out) i empty_slot ≡ get_or s.store i empty_slot
        go i (yes h) = store_at out i h ∙ slot_back i h
        go i (no h) = store_past out i (omega arith) ∙ sym (g.store.outside i (omega arith))

    pub output_good_law : output_good m out s.steps ≡ true
    unfolding output_good
    output_good_law =
        and_of _ _ (every_of m _ (λ i h. ap (λ (t : Slot). well_formed m t.value) (slot_back i h) ∙ (g.store.values i).formed))
        (le-leb (total (table m (count_at out))) s.steps
        (omega (arith, ap total (table_same m (count_at out) (count_of s.store) (λ i h. count_part s.store m i h (count_small i h))), g.counts)))

  -- Taken in

  module _ (out : List ℕ) (bytes : Bytes out) (steps : ℕ) (e : output_good m out steps ≡ true) where
    slot_fits : (i : ℕ) → i < m → Fits m (slot_in out i).value
    unfolding output_good slot_in value_at
    slot_fits i h = record { formed = every_at m _ (and_l _ _ e) i h; small = number_lt out bytes payload_width _ }

    empty_fits : Fits m empty_slot.value
    unfolding empty_slot opened well_formed ◌or◌
    empty_fits = record { formed = refl; small = omega arith }

    values : (i : ℕ) → Fits m (contents (store_in m out) i)
    values i = go (dec_lt i m)
      where
        go : Dec (i < m) → Fits m (contents (store_in m out) i)
        go (yes h) = rw (contents, store_at out i h) (slot_fits i h)
        go (no h) = rw (contents, store_past out i (omega arith)) empty_fits

    counts : total (table m (count_of (store_in m out))) ≤ steps
    unfolding output_good slot_in
    counts =
        omega (
          arith,
          ap total (table_same m (count_of (store_in m out)) (count_at out) (λ i h. ap (λ (t : Slot). t.writes) (store_at out i h))),
          leb-true (total (table m (count_at out))) steps (and_r _ _ e),
        )

    pub taken_state : steps < 2 ^ 32 → StateGood m (record { store = store_in m out; steps = steps; journal = [] })
    taken_state h = record { store = record { sized = store_sized out; values = values; outside = store_past out }; counts = counts; steps = h }
