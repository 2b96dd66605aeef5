use mathlib.Core.Path.{refl}
use native.Mathlib.Omega.{arith}
use Rattle.machine.proofs.MachineSteps.{Judges, made_of, assign_slot, assign_few}
use Rattle.runner.proofs.JournalWrite.{make_row, row_of_assign, make_allowed, make_old, make_new, make_made}
use Rattle.runner.proofs.journal.make_write.Goals as goal
use Rattle.runner.proofs.journal.make_write.Goals.{After-unwrap-write}

pub unreachable-requires : goal.unreachable-requires
unreachable-requires c = make_row c.requires c.in_default.not-Assign

pub unwrap-write-requires : goal.unwrap-write-requires
unwrap-write-requires c = make_allowed refl c.requires (row_of_assign c.in-Assign.is) _ (rw (c.from.ensures, c.from-2.ensures, c.from-3.ensures) at c.assign.ensures)

-- it is allowed
judged : (c : After-unwrap-write) → Judges c.requires.can (row_of_assign c.in-Assign.is) (made_of c.unwrap-write.result)
judged c = rw c.unwrap-write.ensures at (rw (c.from.ensures, c.from-2.ensures, c.from-3.ensures) at c.assign.ensures)

pub row_of-old-requires : goal.row_of-old-requires
row_of-old-requires c = assign_slot c.requires.can (row_of_assign c.in-Assign.is) _ (judged c)

pub put-requires : goal.put-requires
put-requires c =
    let n = row_of_assign c.in-Assign.is in
    let a = judged (goal.at.put-requires c).After-unwrap-write in
    (assign_slot c.requires.can n _ a, omega (arith, assign_few c.requires.can n _ a))

pub value_of-requires : goal.value_of-requires
value_of-requires c =
    make_old refl c.requires (row_of_assign c.in-Assign.is) _ (judged (goal.at.value_of-requires c).After-unwrap-write) _ c.row_of-old.ensures

pub value_of-requires-2 : goal.value_of-requires-2
value_of-requires-2 c = make_new refl c.requires (row_of_assign c.in-Assign.is) _ (judged (goal.at.value_of-requires-2 c).After-unwrap-write)

pub returns : goal.returns
returns c =
    rw c.from-4.ensures
    (make_made refl c.requires (row_of_assign c.in-Assign.is) _ (judged (goal.at.returns c).After-unwrap-write) _ _ _ _ _ c.row_of-old.ensures c.value_of.ensures
    c.value_of-2.ensures c.put.ensures)
