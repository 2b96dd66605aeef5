use Prim.Native.Nat.{◌-◌}
use Rattle.syntax.specs.Sheet.{k_of}
use Rattle.machine.specs.BlockRuns.{played_of}
use Rattle.runner.specs.Journal.{replayed, seated}
use Rattle.runner.proofs.JournalSeat.{Onwards}
use Rattle.runner.proofs.journal.next_write.Given as goal

-- from here comes the write that was next
abbrev pub invariant-loop-end : goal.invariant-loop-end
invariant-loop-end l =
    Onwards (replayed l.programme (played_of l.by)) (seated l.initial.labels l.initial.held l.initial.place) (seated l.labels l.held l.place)

abbrev pub decreases-loop-end : goal.decreases-loop-end
decreases-loop-end l = k_of l.programme - l.place.block
