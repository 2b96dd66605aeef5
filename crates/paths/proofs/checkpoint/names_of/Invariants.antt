use Prim.Native.Nat.{ℕ, ◌+◌, ◌<◌}
use mathlib.Core.Path.{◌≡◌}
use mathlib.Core.List.{List}
use lib.ListN.{length, get_or}
use Rattle.lattice.specs.Order.{Label}
use Rattle.syntax.specs.Code.{most_deep}
use Rattle.pausing.specs.RowPaths.{LabelsHeld}
use Rattle.paths.proofs.checkpoint.names_of.Given as goal

abbrev pub invariant-loop-j : goal.invariant-loop-j
invariant-loop-j l =
    (length l.names ≡ most_deep + 1) × ((x : List Label) → LabelsHeld l.table x l.labels → (q : ℕ) → q < l.j → get_or l.names q 0 ≡ get_or x q 0)
