use Rattle.std.proofs.Common.{◌≡◌}
use Rattle.store.specs.HeldStore.{out_after}
use Rattle.store.proofs.held.write_store.Given as goal

abbrev pub invariant-loop-i : goal.invariant-loop-i
invariant-loop-i l = l.out ≡ out_after l.held l.i l.initial.out
