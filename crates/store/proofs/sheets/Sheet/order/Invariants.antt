use Rattle.std.proofs.Common.{◌≡◌}
use Rattle.lattice.specs.Order.{most_principals}
use Rattle.values.specs.Bytes.{filled}
use Rattle.store.specs.Sheet.{mask_at}
use Rattle.store.proofs.sheets.Sheet.order.Given as goal

abbrev pub invariant-loop-i : goal.invariant-loop-i
invariant-loop-i l = l.masks ≡ filled most_principals l.i (mask_at l.self.bytes.now) 0
