use Rattle.std.proofs.Common.{◌≡◌}
use Rattle.values.specs.Bytes.{filled}
use Rattle.store.specs.Sheet.{most_slots}
use Rattle.store.specs.HeldStore.{empty_row, row_at}
use Rattle.store.proofs.held.fill_held.Given as goal

abbrev pub invariant-loop-i : goal.invariant-loop-i
invariant-loop-i l = l.held ≡ filled most_slots l.i (row_at l.sheet.bytes.now) empty_row
