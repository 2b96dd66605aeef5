-- The journal while `replay` fills it. All that is known of the second pass is which writes are left (`Left`). Assumes nothing.
use mathlib.Core.Path.{◌≡◌, refl, sym, ◌∙◌, ap}
use Prim.Native.Nat.{ℕ, suc, ◌+◌, ◌≤◌, ◌<◌}
use native.Mathlib.Omega.{arith}
use mathlib.Core.List.{List, [], ◌∷◌, ◌++◌, append_assoc, append-nil}
use lib.ListN.{length, set, take, drop, length-append}
use lib.Seq.{take-length}
use Rattle.store.specs.declared.HeldSlot.{HeldSlot}
use Rattle.std.proofs.lemmas.List.{length-take-le, take_more_set}
use Rattle.values.specs.declared.Entry.{Entry}
use Rattle.runner.specs.declared.journal.First.{First}
use Rattle.values.specs.declared.Answer.{Answer}
use Rattle.values.specs.Result.{Result, ok, refuse}
use Rattle.calculus.specs.Run.{Finished, entries_of, journal_of}
use Rattle.runner.specs.Journal.{Replayed, replayed, Seated, opens, Left, Going, Wrote, Ready, Filled}
use Rattle.machine.specs.BlockRuns.{Played}
use Rattle.runner.specs.WholeRun.{FirstPass}

none_left : (r : List Entry) → length r ≡ 0 → r ≡ []
none_left [] e = refl
none_left (x ∷ r) e = absurd (let s : suc (length r) ≡ 0 = e in omega (arith, s))

-- of the writes es, the first i of ys were made: the replay stands at s
pub record Split (g : Replayed) (es : List Entry) (i : ℕ) (s : Seated) (ys : List Entry) : Type 0 where
  pub rest : List Entry
  pub is : es ≡ take i ys ++ rest
  pub left : Left g s rest

module _ (g : Replayed) (store : List HeldSlot) (count : ℕ) where
  abbrev s₀ : Seated
  s₀ = opens g store

  -- i writes were made
  pub record Filling (i : ℕ) (s : Seated) (ys : List Entry) : Type 0 where
    pub each : (es : List Entry) → length es ≡ count → Left g s₀ es → Split g es i s ys

  pub start : (ys : List Entry) → Filling 0 s₀ ys
  start ys = record { each = λ es m l. record { rest = es; is = refl; left = l } }

  module _ (i : ℕ) (s : Seated) (ys : List Entry) (as_long : length ys ≡ count) (f : Filling i s ys) where
    -- as many are left as are to come
    many : (es : List Entry) → length es ≡ count → i ≤ count → (p : Split g es i s ys) → i + length p.rest ≡ count
    many es m h p =
        let c : length es ≡ length (take i ys) + length p.rest = ap length p.is ∙ length-append (take i ys) p.rest in
        omega (arith, length-take-le i ys (omega (arith, as_long)), c, m)

    -- while writes are left
    module _ (below : i < count) where
      going_at : (r : List Entry) → i + length r ≡ count → Left g s r → Going g s
      going_at [] e l = absurd (let a : i + 0 ≡ count = e in omega (arith, a))
      going_at (x ∷ r) e l = record { first = x; rest = r; left = l }

      pub going : (room : ℕ) → Ready g store count room → Going g s
      going room ready =
          let p = f.each ready.writes ready.many ready.left in going_at p.rest (many ready.writes ready.many (omega arith) p) p.left

      pub step : (s' : Seated) (e : Entry) → Wrote g s s' e → Filling (i + 1) s' (set ys i e)
      step s' e w = record { each = λ es m l. let p = f.each es m l in next es p.rest p.is (many es m (omega arith) p) p.left }
        where
          next : (es r : List Entry) → es ≡ take i ys ++ r → i + length r ≡ count → Left g s r → Split g es (i + 1) s' (set ys i e)
          next es [] is m left = absurd (let a : i + 0 ≡ count = m in omega (arith, a))
          next es (x ∷ r) is m left =
              let u = w.so x r left in
              record {
                rest = r;
                is = rw (take_more_set ys i e (omega (arith, as_long)), u.0, append_assoc (take i ys) (x ∷ []) r) is;
                left = u.1;
              }

    -- when none is left
    pub filled_up : i ≡ count → (xs : List Entry) → Filled g store count xs (ys ++ drop count xs)
    filled_up e xs = record {
      so = λ es m l.
          let p = f.each es m l in
          let none : p.rest ≡ [] = none_left p.rest (omega (arith, many es m (omega arith) p, e)) in
          let all : take i ys ≡ ys = rw (e, ← as_long) (take-length ys) in
          ap (λ (z : List Entry). z ++ drop count xs) (sym (p.is ∙ rw (none, all) (append-nil ys)));
    }

-- the entries, and then what the journal held
journal_is : (x : Result Answer Finished) (old : List Entry) → journal_of x old ≡ entries_of x ++ drop (length (entries_of x)) old
unfolding journal_of entries_of
journal_is (ok f) old = refl
journal_is (refuse a) old = refl

-- after a first pass that finished a replay can start, and what it fills is the call's journal
module _ {x : Result Answer Finished} {room : ℕ} {p : List ℕ} {by : Played} {held : List HeldSlot} {old out : List ℕ} {r : First} (f : FirstPass x room p by held old out r) where
  pub ready_to : Ready (replayed p by) held r.writes room
  ready_to = record { writes = entries_of x; many = sym f.many; fits = f.fits; left = f.left }

  pub journal_of_law : (xs ys : List Entry) → Filled (replayed p by) held r.writes xs ys → ys ≡ journal_of x xs
  journal_of_law xs ys d = d.so (entries_of x) (sym f.many) f.left ∙ ap (λ (n : ℕ). entries_of x ++ drop n xs) f.many ∙ sym (journal_is x xs)
