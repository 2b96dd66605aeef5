-- Laws of `table_ok` (specs/Masks.antt): the code's test of an order table is the definition's (`good`, specs/Order.antt). Assumes nothing.
use Prim.Native.Nat.{ℕ, ◌^◌, ◌-◌, ◌≤◌, ◌<◌}
use mathlib.Core.Path.{◌≡◌, refl, sym, ap, ◌∙◌}
use mathlib.Core.Logic.{⊎_elim}
use mathlib.Core.Bool.{Bool, true, false, not, true≢false}
use mathlib.Core.List.{List}
use native.Mathlib.Omega.{arith}
use lib.Pow.{pow_pos}
use lib.Bits.{bit_and}
use lib.Dec.{ltb, eqb}
use borrow.Author.Tests.{ltb-true, lt-ltb, le-ltb, eqb-true, eq-eqb, lt-leb, not-true}
use Rattle.lattice.specs.declared.Table.{Table}
use Rattle.lattice.specs.Tests.{◌and◌, ◌or◌}
use Rattle.lattice.specs.Order.{most_principals, bit, below, good}
use Rattle.lattice.specs.GoodTables.{Below, Good}
use Rattle.lattice.specs.Masks.{at, has_mask, pair_ok, meet_ok, row_ok, line_ok, rows_ok, table_ok}
use Rattle.lattice.proofs.Tests.{branches, and_l, and_r, and_of, or_at, or_l, or_r, imp_at, imp_of, iff, every_at, every_of, some_at, some_of}
use Rattle.lattice.proofs.OrderBits.{same_bits, bit_ones}
use Rattle.lattice.proofs.Order.{good_at, good_of, both_below, and_small, meet_mask, top_mask_law}

-- no bit n or higher is set: the mask is at most all ones
pub fits_ones : (m n : ℕ) → m ≤ 2 ^ n - 1 → ltb m (2 ^ n) ≡ true
fits_ones m n h = lt-ltb m (2 ^ n) (omega (arith, pow_pos n))

pub past_ones : (m n : ℕ) → 2 ^ n - 1 < m → ltb m (2 ^ n) ≡ false
past_ones m n h = le-ltb m (2 ^ n) (omega (arith, pow_pos n))

pub ruleset line_steps = (branches, fits_ones, past_ones)

module _ (masks : List ℕ) (n : ℕ) (few : n ≤ most_principals) where
  abbrev t : Table
  t = record { n = n; masks = masks }

  ok_at : table_ok masks n ≡ true → Good t
  unfolding table_ok rows_ok line_ok row_ok meet_ok pair_ok has_mask
  ok_at e =
      record {
        few = few;
        small = λ i h. ltb-true _ _ (and_l _ _ (and_l _ _ (row i h)));
        self = self;
        anti = λ i j hi hj p q.
            ⊎_elim (λ w. eqb-true _ _ w) (λ w. absurd (true≢false (sym q ∙ not-true _ w))) (or_at _ _ (and_r _ _ (pair i j hi hj p)));
        trans = λ i j k hi hj hk p q.
            and_l _ _ (sym (both_below t i j k) ∙ ap (λ (x : ℕ). bit x k) (eqb-true _ _ (and_l _ _ (pair i j hi hj q))) ∙ p);
        meets = λ i j hi hj.
            let s = some_at n _ (and_r _ _ (every_at n _ (and_r _ _ (row i hi)) j hj)) in
            let q : (l : ℕ) → below t l s.0 ≡ below t l i and below t l j =
            λ l. ap (λ (x : ℕ). bit x l) (eqb-true _ _ s.2) ∙ both_below t i j l in
            let b = sym (q s.0) ∙ self s.0 s.1 in
            (s.0, s.1, record { lower_l = and_l _ _ b; lower_r = and_r _ _ b; greatest = λ l h u v. q l ∙ and_of _ _ u v });
        tops =
            let s = some_at n _ (and_r _ _ e) in
            (s.0, s.1, λ i h. ap (λ (x : ℕ). bit x i) (eqb-true _ _ s.2) ∙ bit_ones n i h);
      }
    where
      row : (i : ℕ) → i < n → ltb (at masks i) (2 ^ n) and bit (at masks i) i and row_ok masks n i ≡ true
      row i h = every_at n _ (and_l _ _ e) i h

      self : (i : ℕ) → i < n → Below t i i
      self i h = and_r _ _ (and_l _ _ (row i h))

      pair : (i j : ℕ) → i < n → j < n → Below t j i
          → eqb (bit_and (at masks i) (at masks j)) (at masks j) and (eqb i j or not (bit (at masks j) i)) ≡ true
      pair i j hi hj p = imp_at _ _ (and_l _ _ (every_at n _ (and_r _ _ (row i hi)) j hj)) p

  module _ (g : Good t) where
    -- where j stands below i, all below j does
    inside : (i j : ℕ) → i < n → j < n → Below t j i → bit_and (at masks i) (at masks j) ≡ at masks j
    inside i j hi hj p =
        same_bits n _ _ (and_small t i j (g.small i hi)) (g.small j hj)
        (λ l h. both_below t i j l ∙ iff _ _ (λ q. and_r _ _ q) (λ q. and_of _ _ (g.trans i j l hi hj h q p) q))

    ok_of : table_ok masks n ≡ true
    unfolding table_ok rows_ok line_ok row_ok meet_ok pair_ok has_mask
    ok_of =
        and_of _ _
        (every_of n _ (λ i hi.
        and_of _ _ (and_of _ _ (lt-ltb _ _ (g.small i hi)) (g.self i hi))
        (every_of n _ (λ j hj.
        and_of _ _
        (imp_of _ _ (λ p. and_of _ _ (eq-eqb _ _ (inside i j hi hj p)) (apart i j hi hj p)))
        (let m = g.meets i j hi hj in
        some_of n _ m.0 m.1 (eq-eqb _ _ (meet_mask t g i j m.0 hi hj m.1 m.2)))))))
        (some_of n _ g.tops.0 g.tops.1 (eq-eqb _ _ (top_mask_law t g g.tops.0 g.tops.1 g.tops.2)))
      where
        apart : (i j : ℕ) → i < n → j < n → Below t j i → eqb i j or not (bit (at masks j) i) ≡ true
        apart i j hi hj p = go (bit (at masks j) i) refl
          where
            go : (b : Bool) → bit (at masks j) i ≡ b → eqb i j or not b ≡ true
            go true q = or_l _ _ (eq-eqb _ _ (g.anti i j hi hj p q))
            go false q = or_r _ _ refl

  pub table_ok_law : table_ok masks n ≡ good t
  table_ok_law = iff _ _ (λ e. good_of t (ok_at e)) (λ e. ok_of (good_at t e))

-- more principals than a table may have are none that is good
pub too_many : (t : Table) → most_principals < t.n → good t ≡ false
unfolding good ◌and◌
too_many t h = rw (lt-leb t.n most_principals h)
