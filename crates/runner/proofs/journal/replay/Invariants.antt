-- The invariant: as many writes were made as entries are filled, and the others are left (`Filling`).
use Rattle.machine.specs.BlockRuns.{played_of}
use Rattle.runner.specs.Journal.{replayed, seated}
use Rattle.runner.proofs.JournalReplay.{Filling}
use Rattle.runner.proofs.journal.replay.Given as goal

abbrev pub invariant-loop-entry : goal.invariant-loop-entry
invariant-loop-entry l =
    Filling (replayed l.programme (played_of l.by)) l.fn.held l.writes l.entry-index (seated l.labels l.held l.place) l.entry-items
