-- What the turns come to is `JournalReplay`'s.
use Rattle.std.proofs.Common.{◌≡◌, ◌∙◌, arith, length}
use Rattle.std.proofs.lemmas.List.{length-take-le}
use Rattle.runner.proofs.JournalReplay.{going, step}
use Rattle.runner.proofs.journal.replay.Goals as goal
use Rattle.runner.proofs.journal.replay.Goals.{At-loop-entry}

-- there is an entry for each write
many : (l : At-loop-entry) → length l.loop-entry.entry-items ≡ l.args.writes
many l = l.loop-entry.auto.entry-items ∙ length-take-le l.args.writes l.args.journal.now l.requires.fits

pub next_write-requires : goal.next_write-requires
next_write-requires c =
    let n = many (goal.at.next_write-requires c).At-loop-entry in
    going _ _ _ _ _ _ n c.loop-entry.invariant (omega (arith, n)) _ c.requires

pub loop-entry-preserved : goal.loop-entry-preserved
loop-entry-preserved c =
    let n = many (goal.at.loop-entry-preserved c).At-loop-entry in
    step _ _ _ _ _ _ n c.loop-entry.invariant (omega (arith, n)) _ _ c.next_write.ensures
