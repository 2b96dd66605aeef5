-- What the tests of `Order` come to: a good table is a partial order with meets and a top, and `meet` and `top` find these. Assumes nothing.
use Rattle.std.specs.Prelude.{◌^◌, ◌≤◌, ◌<◌, ◌≡◌, ◌↔◌, true}
use Rattle.lattice.specs.declared.Table.{Table}
use Rattle.lattice.specs.Order.{Label, most_principals, mask, below, good, meet, top}

abbrev pub Below : Table → Label → Label → Type 0
Below t j i = below t j i ≡ true

-- k is the meet of i and j: below both, and the greatest such
pub record Meets (t : Table) (i j k : Label) : Type 0 where
  pub lower_l : Below t k i
  pub lower_r : Below t k j
  pub greatest : (l : Label) → l < t.n → Below t l i → Below t l j → Below t l k

-- what a good table is, as facts
pub record Good (t : Table) : Type 0 where
  pub few : t.n ≤ most_principals
  pub small : (i : Label) → i < t.n → mask t i < 2 ^ t.n
  pub self : (i : Label) → i < t.n → Below t i i
  pub anti : (i j : Label) → i < t.n → j < t.n → Below t j i → Below t i j → i ≡ j
  pub trans : (i j k : Label) → i < t.n → j < t.n → k < t.n → Below t k j → Below t j i → Below t k i
  pub meets : (i j : Label) → i < t.n → j < t.n → (k : Label) × (k < t.n) × Meets t i j k
  pub tops : (k : Label) × (k < t.n) × ((i : Label) → i < t.n → Below t i k)

-- The promise, for every table.
pub record GoodTables : Type 0 where
  pub facts : (t : Table) → (good t ≡ true) ↔ Good t
  pub meets : (t : Table) → good t ≡ true → (i j : Label) → i < t.n → j < t.n → (meet t i j < t.n) × Meets t i j (meet t i j)
  pub tops : (t : Table) → good t ≡ true → (top t < t.n) × ((i : Label) → i < t.n → Below t i (top t))
