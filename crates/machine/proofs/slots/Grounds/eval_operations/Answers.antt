use Rattle.machine.specs.MachineContracts.{Grounds, grounds_of}
use Rattle.machine.proofs.Exits.{exit}
use Rattle.machine.proofs.EvalFirstOperand.{some_first, first_refused, some_second, third_inside, can_fold, folded, second_refused, pair_done}
use Rattle.machine.proofs.slots.Grounds.eval_operations.Goals as goal
use Rattle.machine.proofs.slots.Grounds.eval_operations.Goals.{Start}

abbrev by : Start → Grounds
by s = grounds_of s.args.self

pub read_through-requires : goal.read_through-requires
read_through-requires c = (c.requires.0, some_first c.requires.1.more c.requires.0 c.requires.1.some)

pub returns-in_err-x : goal.returns-in_err-x
returns-in_err-x c =
    rw (exit _ c.from_residual.ensures.1) (first_refused c.requires.1.more {g = by (goal.at.returns-in_err-x c).Start} c.in_err-x.ensures)

pub bounds-self-o : goal.bounds-self-o
bounds-self-o c =
    third_inside c.requires.1.more {g = by (goal.at.bounds-self-o c).Start} c.in_ok-x.x c.in_ok-x.ensures c.requires.0 c.requires.1.some

pub read_through-requires-then-third-eq0 : goal.read_through-requires-then-third-eq0
read_through-requires-then-third-eq0 c = (
  c.requires.0,
  some_second c.requires.1.more {g = by (goal.at.read_through-requires-then-third-eq0 c).Start} c.in_ok-x.x c.in_ok-x.ensures c.requires.0 c.requires.1.some,
)

pub returns-in_err-y : goal.returns-in_err-y
returns-in_err-y c =
    rw (exit _ c.from_residual-in_err-y.ensures.1)
    (second_refused c.requires.1.more {g = by (goal.at.returns-in_err-y c).Start} c.in_ok-x.x c.in_ok-x.ensures c.in_err-y.ensures)

pub returns-then-third-eq0 : goal.returns-then-third-eq0
returns-then-third-eq0 c =
    pair_done c.requires.1.more {g = by (goal.at.returns-then-third-eq0 c).Start} c.in_ok-x.x c.in_ok-x.ensures c.in_ok-y.y c.in_ok-y.ensures c.if-third-eq0.true _
    c.operate.ensures

pub fold-requires : goal.fold-requires
fold-requires c =
    can_fold c.requires.1.more {g = by (goal.at.fold-requires c).Start} c.in_ok-x.x c.in_ok-x.ensures c.requires.0 c.requires.1.some

pub returns : goal.returns
returns c = folded c.requires.1.more {g = by (goal.at.returns c).Start} c.in_ok-x.x c.in_ok-x.ensures _ c.fold.ensures
