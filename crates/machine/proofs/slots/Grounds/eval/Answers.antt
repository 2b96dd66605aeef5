use Rattle.machine.proofs.EvalFirstOperand.{first_inside, some_only, only_read}
use Rattle.machine.proofs.slots.Grounds.eval.Goals as goal

pub bounds-self-o : goal.bounds-self-o
bounds-self-o g c = first_inside c.requires.0 c.requires.1

pub read_through-requires : goal.read_through-requires
read_through-requires g c = let p = c.requires in (p.0, some_only c.if-self-o-lt-MORE.true p.0 p.1)

pub returns-then-self-o-lt-MORE : goal.returns-then-self-o-lt-MORE
returns-then-self-o-lt-MORE g c = only_read c.if-self-o-lt-MORE.true _ c.read_through.ensures
