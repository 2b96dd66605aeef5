-- For `written_good`: a step keeps a good state good, and the opening state is one. Assumes nothing.
use Prim.Native.Nat.{ℕ, ◌+◌, ◌^◌, ◌≤◌, ◌<◌}
use mathlib.Core.Path.{◌≡◌, refl, ap, ◌∙◌}
use mathlib.Core.Logic.{inr}
use mathlib.Core.Bool.{Bool, true, false}
use mathlib.Core.List.{List, [], ◌∷◌}
use native.Mathlib.Decide.{dec_lt}
use native.Mathlib.Omega.{arith}
use lib.ListN.{length, get_or, length-set}
use lib.Seq.{get_or-set_other}
use borrow.Author.Tests.{eqb-true}
use Rattle.lattice.specs.Order.{Label}
use Rattle.values.specs.declared.Entry.{Entry}
use Rattle.values.specs.declared.Value.{Value}
use Rattle.values.specs.Result.{ok}
use Rattle.values.specs.Bytes.{Bytes, table}
use Rattle.values.specs.Value.{payload_width, write_view, value_at, Slot, opened, empty_slot}
use Rattle.values.specs.Integers.{sum_of, difference_of}
use Rattle.values.proofs.Result.{Post, Any, post_ok, post_at, post_require, post_bind}
use Rattle.values.proofs.Bytes.{view_inside}
use Rattle.values.proofs.BytesArrays.{table_same}
use Rattle.values.proofs.BytesNumbers.{number_lt}
use Rattle.store.specs.Sheet.{Opening, most_slots, store_sheet}
use Rattle.store.proofs.SheetOpening.{Opens, store_opens}
use Rattle.syntax.specs.Syntax.{Op, sum, difference, less, equal, Expr, LiteralsOf}
use Rattle.calculus.specs.Calculus.{Setting, Store, State, Write, contents, truth_of, gives, permit, assignment, counted, written, entry_of, recorded, performed}
use Rattle.calculus.specs.Blocks.{start}
use Rattle.exactness.specs.JournalTells.{namings}
use Rattle.store.specs.Counts.{total}
use Rattle.calculus.proofs.CalculusOperations.{gives_formed}
use Rattle.calculus.proofs.CalculusInvariant.{Slots, written_slots, eval_gives}
use Rattle.exactness.proofs.JournalTellsWalks.{replayed, Each, empty, next, counts_grow, total_add, total_zero, namings_total}
use Rattle.pausing.proofs.StretchesPositions.{Fits, count_of, StoreGood, StateGood}
use Rattle.exactness.proofs.JournalTellsWalks as walks

-- Values

-- what an operation gives fits
truth_small : (b : Bool) → (truth_of b).payload < 2 ^ 64
unfolding truth_of
truth_small true = omega arith
truth_small false = omega arith

gives_small : (o : Op) (u v : Value) → (gives o u v).payload < 2 ^ 64
unfolding gives sum_of difference_of
gives_small sum u v = omega arith
gives_small difference u v = omega arith
gives_small less u v = truth_small _
gives_small equal u v = truth_small _

gives_fits : (m : ℕ) (o : Op) (u v : Value) → Fits m (gives o u v)
gives_fits m o u v = record { formed = gives_formed m o u v; small = gives_small o u v }

-- a write of one of m slots
pub record Puts (m : ℕ) (x : Write) : Type 0 where
  pub inside : x.slot < m
  pub value : Fits m x.value

pub assigns_fit : (w : Setting) (m : ℕ) (branch : Label) (s : Store) (t v : Expr) → LiteralsOf (Fits m) t → LiteralsOf (Fits m) v → Slots (Fits m) s
    → Post (Puts m) Any (assignment w branch s t v)
unfolding assignment permit
assigns_fit w m branch s t v l k h =
    post_bind _ _ _ _ _ (eval_gives (Fits m) w (gives_fits m) s t l h) λ x p.
    post_require _ _ _ _ _
    (λ e. post_bind _ _ _ _ _ (eval_gives (Fits m) w (gives_fits m) s v k h) λ y q.
    post_require _ _ _ _ _
    (λ _. post_require _ _ _ _ _
    (λ _. post_ok _ _ _ (record { inside = view_inside m x.value p.formed (inr (eqb-true x.value.kind write_view e)); value = q }))
    (λ _. tt)) (λ _. tt)) (λ _. tt)

-- Stores

module _ (m : ℕ) (small : m ≤ most_slots) (x : Write) (p : Puts m x) (s : Store) (g : StoreGood m s) where
  outside : (i : ℕ) → m ≤ i → get_or (written x s) i empty_slot ≡ empty_slot
  unfolding written
  outside i h = get_or-set_other s x.slot i _ empty_slot (λ e. omega (arith, p.inside)) ∙ g.outside i h

  sized : length (written x s) ≡ most_slots
  unfolding written
  sized = length-set s x.slot _ ∙ g.sized

  pub written_store : StoreGood m (written x s)
  written_store = record { sized = sized; values = written_slots (Fits m) x s p.value g.values; outside = outside }

  -- an entry for the write
  e : Entry
  e = entry_of 0 0 x s

  each : Each (λ _. walks.Fits m) [] s (e ∷ [])
  unfolding e entry_of
  each = next (record { inside = p.inside; old = refl }) empty

  -- a write counts as one
  pub written_count : total (table m (count_of (written x s))) ≡ total (table m (count_of s)) + 1
  unfolding e entry_of replayed
  written_count =
      ap total (table_same m _ _ (λ i _. counts_grow each (omega (arith, g.sized)) i))
      ∙ total_add 0 m (count_of s) (λ i. namings i (e ∷ []))
      ∙ omega (arith, namings_total each)

-- States

module _ (m : ℕ) (s : State) (g : StateGood m s) (l : s.steps + 1 < 2 ^ 32) where
  pub counted_good : StateGood m (counted s)
  unfolding counted
  counted_good = record { store = g.store; counts = omega (arith, g.counts); steps = l }

  pub performed_good : (w : Setting) (at : ℕ) (x : Write) → m ≤ most_slots → Puts m x → StateGood m (performed w at x s)
  unfolding performed recorded counted
  performed_good w at x small p =
      record {
        store = written_store m small x p s.store g.store;
        counts = omega (arith, written_count m small x p s.store g.store, g.counts);
        steps = l;
      }

-- The start

pub opening_of_law : (store : List ℕ) (o : Opening) → store_sheet store ≡ ok o → Opens store o
opening_of_law store o e = post_at _ _ _ _ (store_opens store) e

module _ (store : List ℕ) (bytes : Bytes store) (o : Opening) (e : store_sheet store ≡ ok o) where
  opens : Opens store o
  opens = opening_of_law store o e

  abbrev m : ℕ
  m = o.tables.slots

  -- a value of the sheet fits its bytes, and so does an empty slot's
  value_small : (i : ℕ) → (contents o.store i).payload < 2 ^ 64
  unfolding opened value_at empty_slot
  value_small i = go (dec_lt i m)
    where
      go : Dec (i < m) → (contents o.store i).payload < 2 ^ 64
      go (yes h) = rw (contents, opens.inside i h) (number_lt store bytes payload_width _)
      go (no h) = rw (contents, opens.outside i (omega arith)) (omega arith)

  unwritten : (i : ℕ) → i < m → count_of o.store i ≡ 0
  unfolding opened
  unwritten i h = ap (λ (t : Slot). t.writes) (opens.inside i h)

  pub opened_state : StateGood m (start o.store)
  unfolding start
  opened_state =
      record {
        store = record { sized = opens.sized; values = λ i. record { formed = opens.formed i; small = value_small i }; outside = opens.outside };
        counts = omega (arith, ap total (table_same m (count_of o.store) (λ _. 0) unwritten) ∙ total_zero 0 m);
        steps = omega arith;
      }
