-- Laws of owners as labels: a slot's owner is held as a mask (`LabelHeld`). Serves whoever reads a slot's row. Assumes nothing.
use Prim.Native.Nat.{ℕ, ◌<◌}
use mathlib.Core.Path.{refl}
use native.Mathlib.Omega.{arith}
use lib.ListN.{get_or}
use Rattle.lattice.specs.Order.{most_principals}
use Rattle.lattice.proofs.Order.{good_at}
use Rattle.store.specs.Sheet.{Tables, owner_of}
use Rattle.store.specs.HeldStore.{Ordered}
use Rattle.lattice.specs.HeldLabels.{LabelHeld}

module _ (w : Tables) (g : Ordered w) (i : ℕ) where
  pub owner_few : owner_of w i < most_principals
  owner_few = omega (arith, g.owners i, (good_at w.order g.table).few)

  -- an owner, as a label
  pub owner_held : LabelHeld w.order (owner_of w i) (get_or w.order.masks (owner_of w i) 0)
  owner_held = record { inside = g.owners i; same = refl }
