use mathlib.Core.Path.{refl, ap}
use mathlib.Core.List.{◌∷◌}
use native.Mathlib.Omega.{arith}
use Rattle.machine.specs.BlockRuns.{played_of}
use Rattle.machine.proofs.BlockRuns.{everywhere}
use Rattle.runner.specs.Journal.{replayed, seated, Seat}
use Rattle.runner.proofs.JournalSeat.{standing, left_of, seat_few, seat_tell, seat_go, seat_last, seat_more, seat_next, seat_here, seat_early, seat_make, seat_made}
use Rattle.runner.proofs.journal.next_write.Goals as goal
use Rattle.runner.proofs.journal.next_write.Goals.{At-loop-end}

-- a write is left, so the pass stands in a block
own : (l : At-loop-end)
    → Seat (replayed l.args.programme.now (played_of l.args.by)) (seated l.loop-end.labels l.loop-end.held l.loop-end.place) (l.requires.first ∷ l.requires.rest)
own l = standing (l.loop-end.invariant.so l.requires.first l.requires.rest l.requires.left)

pub block_terms-terms-requires : goal.block_terms-terms-requires
block_terms-terms-requires c = seat_tell (own (goal.at.block_terms-terms-requires c).At-loop-end)

pub go-requires : goal.go-requires
go-requires c = seat_go (own (goal.at.go-requires c).At-loop-end) _ c.block_terms-terms.ensures

pub overflow_add-place : goal.overflow_add-place
overflow_add-place c =
    let s = own (goal.at.overflow_add-place c).At-loop-end in record { fits = omega (arith, seat_few s, (seat_tell s).sheet_room, c.well_formed) }

pub overflow_add-place-in-Ok : goal.overflow_add-place-in-Ok
overflow_add-place-in-Ok c =
    record { fits = omega (arith, seat_last (own (goal.at.overflow_add-place-in-Ok c).At-loop-end) _ c.block_terms-terms.ensures _ _ _ c.in-Ok.ensures) }

pub overflow_add-place-in-Err : goal.overflow_add-place-in-Err
overflow_add-place-in-Err c =
    record { fits = omega (arith, seat_here (own (goal.at.overflow_add-place-in-Err c).At-loop-end) _ c.block_terms-terms.ensures _ _ _ c.in-Err.ensures) }

pub overflow_add-place-in-Err-2 : goal.overflow_add-place-in-Err-2
overflow_add-place-in-Err-2 c =
    let s = own (goal.at.overflow_add-place-in-Err-2 c).At-loop-end in
    record { fits = omega (arith, seat_early s _ c.block_terms-terms.ensures _ _ _ c.in-Err.ensures, c.well_formed) }

pub loop-end-smaller : goal.loop-end-smaller
loop-end-smaller c =
    omega (arith, seat_more (own (goal.at.loop-end-smaller c).At-loop-end) _ c.block_terms-terms.ensures _ _ _ c.in-Ok.ensures _ _ refl)

pub loop-end-preserved : goal.loop-end-preserved
loop-end-preserved c =
    record {
      so = λ y es k.
          left_of
          (seat_next (standing (c.loop-end.invariant.so y es k)) _ c.block_terms-terms.ensures _ _ _ c.in-Ok.ensures y es refl _
          (ap everywhere c.top_mask-labels.ensures));
    }

pub make_write-requires : goal.make_write-requires
make_write-requires c =
    seat_make (own (goal.at.make_write-requires c).At-loop-end) _ c.block_terms-terms.ensures _ _ _ c.in-Err.ensures

pub returns-in-Err : goal.returns-in-Err
returns-in-Err c =
    record {
      so = λ y es k.
          seat_made (standing (c.loop-end.invariant.so y es k)) _ c.block_terms-terms.ensures _ _ _ c.in-Err.ensures y es refl _ _
          c.make_write.ensures;
    }
