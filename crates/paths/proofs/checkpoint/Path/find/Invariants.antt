use Prim.Native.Nat.{◌<◌, ◌≤◌}
use mathlib.Core.Path.{◌≡◌}
use mathlib.Core.List.{List}
use lib.ListN.{get_or}
use Rattle.lattice.specs.Order.{Label}
use Rattle.syntax.specs.Syntax.{Cmd}
use Rattle.pausing.specs.RowPaths.{LabelsHeld}
use Rattle.paths.specs.CodeLayout.{Sits}
use Rattle.paths.proofs.SheetPaths.{Led}
use Rattle.paths.proofs.checkpoint.Path.find.Given as goal

-- the path was followed up to its entry i
abbrev pub invariant-loop-i : goal.invariant-loop-i
invariant-loop-i l =
    let p = l.self in
    (l.depth ≤ l.i) × (l.outer < p.table.now.n) × (l.row ≤ l.at)
    × ((c : Cmd) (x : List Label) → Sits p.code.now c 0 → LabelsHeld p.table.now x l.initial.labels → get_or x 0 0 ≡ l.top
    → Led p.code.now p.sheet.now p.table.now p.size c x l.top l.i l.at l.depth l.outer l.row l.labels)
