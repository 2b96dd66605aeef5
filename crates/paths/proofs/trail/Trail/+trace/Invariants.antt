use Prim.Native.Nat.{ℕ, ◌+◌, ◌-◌, ◌*◌, ◌<◌, ◌≤◌}
use mathlib.Core.Path.{◌≡◌}
use lib.ListN.{length}
use Rattle.syntax.specs.Syntax.{Cmd}
use Rattle.paths.specs.CodeLayout.{Left}
use Rattle.paths.specs.SheetPaths.{Seeks}
use Rattle.paths.proofs.TraceSequence.{Rest}
use Rattle.paths.proofs.trail.Trail.+trace.Given as goal

-- The measure is what of the code is left, and at one place the order of the calls.
abbrev pub decreases-trace : goal.decreases-trace
decreases-trace l = 3 * (length l.self.now.code.now - l.s.at) + 1

abbrev pub decreases-trace_all : goal.decreases-trace_all
decreases-trace_all l = 3 * (length l.self.now.code.now - l.s.at)

abbrev pub decreases-trace_child : goal.decreases-trace_child
decreases-trace_child l = 3 * (length l.self.now.code.now - l.s.at) + 2

abbrev pub decreases-trace_if : goal.decreases-trace_if
decreases-trace_if l = 3 * (length l.self.now.code.now - l.s.at)

abbrev pub decreases-trace_while : goal.decreases-trace_while
decreases-trace_while l = 3 * (length l.self.now.code.now - l.s.at)

-- the row is to be looked for in the commands from here on, and those before had as many rows as were counted off
abbrev pub invariant-trace_all-loop-child : goal.invariant-trace_all-loop-child
invariant-trace_all-loop-child l =
    let code = l.self.code.now in
    (l.s.at < l.here)
    × (l.row ≤ l.s.row)
    × (l.sheet ≡ l.initial.sheet)
    × ((end total : ℕ) → Left code (l.s.at + 2) l.child-end 0 end total → Left code l.here (l.child-end - l.child) (l.s.row - l.row) end total)
    × ((c : Cmd) → Seeks code c l.s.at l.s.row l.s.len → Rest code c l.s.row l.s.len l.here l.row l.child l.child-end)
