-- How the code holds labels: each as the mask of its principal. Assumes nothing.
use Rattle.std.specs.Prelude.{ℕ, ◌-◌, ◌^◌, ◌<◌, min, ◌≡◌}
use Rattle.lattice.specs.declared.Table.{Table}
use Rattle.lattice.specs.Order.{Label, most_principals, mask}

-- a label is held as its principal's mask
pub record LabelHeld (t : Table) (l : Label) (x : ℕ) : Type 0 where
  pub inside : l < t.n
  pub same : x ≡ mask t l

-- the top's mask, of n principals
abbrev pub top_mask : ℕ → ℕ
top_mask n = 2 ^ min most_principals n - 1
