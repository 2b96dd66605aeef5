-- Proves `good_tables`: a good table (specs/Order.antt) is a partial order with meets and a top; and the masks of these. Assumes nothing.
use Prim.Native.Nat.{ℕ, ◌-◌, ◌^◌, ◌<◌}
use mathlib.Core.Path.{◌≡◌, sym, ap, ◌∙◌}
use mathlib.Core.Bool.{true}
use native.Mathlib.Nat.{lt_of_le_of_lt}
use lib.Pow.{ones_lt}
use lib.Bits.{bit_and, and_le_l}
use borrow.Author.Tests.{ltb-true, leb-true, lt-ltb, le-leb, eqb-true, eq-eqb}
use Rattle.lattice.specs.Tests.{◌and◌}
use Rattle.lattice.specs.declared.Table.{Table}
use Rattle.lattice.specs.Order.{Label, mask, bit, below, in_range, reflexive, antisymmetric, transitive, is_meet, has_meets, is_top, has_top, good, meet, top}
use Rattle.lattice.specs.GoodTables.{Below, Meets, Good, GoodTables}
use Rattle.lattice.proofs.Tests.{and_l, and_r, and_of, imp_at, imp_of, iff, every_at, every_of, some_at, some_of, find_at}
use Rattle.lattice.proofs.OrderBits.{bit_of_and, same_bits, bit_ones}

module _ (t : Table) where
  meet_at : (i j k : Label) → is_meet t i j k ≡ true → Meets t i j k
  unfolding is_meet
  meet_at i j k e =
      let both = and_l _ _ e in
      record {
        lower_l = and_l _ _ both;
        lower_r = and_r _ _ both;
        greatest = λ l h p q. imp_at _ _ (every_at t.n _ (and_r _ _ e) l h) (and_of _ _ p q);
      }

  meet_of_law : (i j k : Label) → Meets t i j k → is_meet t i j k ≡ true
  unfolding is_meet
  meet_of_law i j k m =
      and_of _ _ (and_of _ _ m.lower_l m.lower_r)
      (every_of t.n _ (λ l h. imp_of _ _ (λ p. m.greatest l h (and_l _ _ p) (and_r _ _ p))))

  pub good_at : good t ≡ true → Good t
  unfolding good in_range reflexive antisymmetric transitive has_meets has_top is_top
  good_at e =
      let e5 = and_l _ _ e in
      let e4 = and_l _ _ e5 in
      let e3 = and_l _ _ e4 in
      let e2 = and_l _ _ e3 in
      let e1 = and_l _ _ e2 in
      record {
        few = leb-true _ _ (and_l _ _ e1);
        small = λ i h. ltb-true _ _ (every_at t.n _ (and_r _ _ e1) i h);
        self = λ i h. every_at t.n _ (and_r _ _ e2) i h;
        anti = λ i j hi hj p q. eqb-true _ _ (imp_at _ _ (every_at t.n _ (every_at t.n _ (and_r _ _ e3) i hi) j hj) (and_of _ _ p q));
        trans = λ i j k hi hj hk p q.
            imp_at _ _ (every_at t.n _ (every_at t.n _ (every_at t.n _ (and_r _ _ e4) i hi) j hj) k hk) (and_of _ _ p q);
        meets = λ i j hi hj.
            let s = some_at t.n _ (every_at t.n _ (every_at t.n _ (and_r _ _ e5) i hi) j hj) in
            (s.0, s.1, meet_at i j s.0 s.2);
        tops = let s = some_at t.n _ (and_r _ _ e) in (s.0, s.1, λ i h. every_at t.n _ s.2 i h);
      }

  pub good_of : Good t → good t ≡ true
  unfolding good in_range reflexive antisymmetric transitive has_meets has_top is_top
  good_of g =
      and_of _ _
      (and_of _ _
      (and_of _ _
      (and_of _ _
      (and_of _ _
      (and_of _ _ (le-leb _ _ g.few) (every_of t.n _ (λ i h. lt-ltb _ _ (g.small i h))))
      (every_of t.n _ (λ i h. g.self i h)))
      (every_of t.n _ (λ i hi. every_of t.n _ (λ j hj. imp_of _ _ (λ p. eq-eqb _ _ (g.anti i j hi hj (and_l _ _ p) (and_r _ _ p)))))))
      (every_of t.n _ (λ i hi. every_of t.n _ (λ j hj. every_of t.n _ (λ k hk. imp_of _ _ (λ p. g.trans i j k hi hj hk (and_l _ _ p) (and_r _ _ p)))))))
      (every_of t.n _ (λ i hi. every_of t.n _ (λ j hj.
      let m = g.meets i j hi hj in some_of t.n _ m.0 m.1 (meet_of_law i j m.0 m.2)))))
      (some_of t.n _ g.tops.0 g.tops.1 (every_of t.n _ (λ i h. g.tops.2 i h)))

  -- bit l of the two masks' conjunction: l stands below both
  pub both_below : (i j l : Label) → bit (bit_and (mask t i) (mask t j)) l ≡ below t l i and below t l j
  both_below i j l = bit_of_and (mask t i) (mask t j) l

  pub and_small : (i j : Label) → mask t i < 2 ^ t.n → bit_and (mask t i) (mask t j) < 2 ^ t.n
  and_small i j h = lt_of_le_of_lt (and_le_l (mask t i) (mask t j)) h

  module _ (g : Good t) where
    pub meet_mask : (i j k : Label) → i < t.n → j < t.n → k < t.n → Meets t i j k → mask t k ≡ bit_and (mask t i) (mask t j)
    meet_mask i j k hi hj hk m =
        same_bits t.n _ _ (g.small k hk) (and_small i j (g.small i hi))
        (λ l h. iff _ _
        (λ q. and_of _ _ (g.trans i k l hi hk h q m.lower_l) (g.trans j k l hj hk h q m.lower_r))
        (λ q. m.greatest l h (and_l _ _ q) (and_r _ _ q))
        ∙ sym (both_below i j l))

    pub top_mask_law : (k : Label) → k < t.n → ((i : Label) → i < t.n → Below t i k) → mask t k ≡ 2 ^ t.n - 1
    top_mask_law k hk h = same_bits t.n _ _ (g.small k hk) (ones_lt t.n) (λ l hl. h l hl ∙ sym (bit_ones t.n l hl))

  -- the laws of a good table
  module _ (e : good t ≡ true) where
    g : Good t
    g = good_at e

    pub below_trans : (i j k : Label) → i < t.n → j < t.n → k < t.n → Below t k j → Below t j i → Below t k i
    below_trans = g.trans

    meet_found : (i j : Label) → i < t.n → j < t.n → (meet t i j < t.n) × (is_meet t i j (meet t i j) ≡ true)
    unfolding meet
    meet_found i j hi hj = let m = g.meets i j hi hj in find_at t.n _ m.0 m.1 (meet_of_law i j m.0 m.2)

    pub meet_lt : (i j : Label) → i < t.n → j < t.n → meet t i j < t.n
    meet_lt i j hi hj = (meet_found i j hi hj).0

    -- the meet is below both, and greatest
    pub meet_meets : (i j : Label) → i < t.n → j < t.n → Meets t i j (meet t i j)
    meet_meets i j hi hj = meet_at i j _ (meet_found i j hi hj).1

    pub mask_meet : (i j : Label) → i < t.n → j < t.n → mask t (meet t i j) ≡ bit_and (mask t i) (mask t j)
    mask_meet i j hi hj = meet_mask g i j _ hi hj (meet_lt i j hi hj) (meet_meets i j hi hj)

    -- who stands at or below the meet stands at or below both, and the other way round
    pub below_meet : (i j l : Label) → i < t.n → j < t.n → below t l (meet t i j) ≡ below t l i and below t l j
    below_meet i j l hi hj = ap (λ (m : ℕ). bit m l) (mask_meet i j hi hj) ∙ both_below i j l

    top_found : (top t < t.n) × (is_top t (top t) ≡ true)
    unfolding top is_top
    top_found = let k = g.tops in find_at t.n _ k.0 k.1 (every_of t.n _ k.2)

    pub top_lt : top t < t.n
    top_lt = top_found.0

    pub below_top : (i : Label) → i < t.n → Below t i (top t)
    unfolding is_top
    below_top i h = every_at t.n _ top_found.1 i h

    pub mask_top : mask t (top t) ≡ 2 ^ t.n - 1
    mask_top = top_mask_law g _ top_lt below_top

pub good_tables : GoodTables
good_tables =
    record {
      facts = λ t. (good_at t, good_of t);
      meets = λ t e i j hi hj. (meet_lt t e i j hi hj, meet_meets t e i j hi hj);
      tops = λ t e. (top_lt t e, below_top t e);
    }
