use mathlib.Core.Path.{◌≡◌}
use mathlib.Core.List.{◌++◌}
use lib.ListN.{drop}
use Rattle.store.specs.Sheet.{Tables}
use Rattle.store.specs.HeldStore.{held_of}
use Rattle.calculus.specs.Calculus.{Store}
use Rattle.runner.proofs.OldOutput.{rows_after}
use Rattle.runner.proofs.outputs.open_output.Given as goal

-- the rows so far are the output's; those from slot `slots` on stay as they were
abbrev pub invariant-loop-i : goal.invariant-loop-i
invariant-loop-i l = (w : Tables) (s : Store) → l.fn.held ≡ held_of w s → l.row-items ++ drop l.slots l.fn.held ≡ rows_after w s l.out l.i
