use Rattle.std.proofs.Common.{◌≡◌}
use Rattle.values.specs.Result.{ok, in_turn}
use Rattle.store.specs.Sheet.{slot_checked}
use Rattle.store.proofs.sheets.Sheet.slots_checked.Given as goal

abbrev pub invariant-loop-i : goal.invariant-loop-i
invariant-loop-i l = in_turn l.i (slot_checked l.self.form l.self.bytes.now) ≡ ok tt
