use mathlib.Core.Path.{sym, ◌∙◌}
use Rattle.values.specs.Refusal.{number}
use Rattle.machine.specs.MachineContracts.{Grounds, grounds_of}
use Rattle.machine.proofs.Exits.{exit}
use Rattle.machine.proofs.StepJudgements.{aim_refused, aim_kind, aim_view}
use Rattle.machine.proofs.EvalFirstOperand.{first_inside, some_only, only_read, no_aim}
use Rattle.machine.proofs.slots.Grounds.aim.Given.{Over}
use Rattle.machine.proofs.slots.Grounds.aim.Goals as goal
use Rattle.machine.proofs.slots.Grounds.aim.Goals.{Start}

abbrev by : (g : Over) → Start g → Grounds
by g s = grounds_of s.args.self

pub bounds-self-o : goal.bounds-self-o
bounds-self-o g c = first_inside c.requires.0 c.requires.1

pub returns-in_err-eval_apart : goal.returns-in_err-eval_apart
returns-in_err-eval_apart g c w s e b h = rw (exit _ c.from_residual.ensures.1) (aim_refused w s e (c.in_err-eval_apart.ensures w s e b h))

pub returns-then-self-o-ge-MORE : goal.returns-then-self-o-ge-MORE
unfolding number
returns-then-self-o-ge-MORE g c =
    no_aim c.if-self-o-ge-MORE.true {g = by g (goal.at.returns-then-self-o-ge-MORE g c).Start} c.in_ok-eval_apart.ensures

-- one literal
pub read_through-requires : goal.read_through-requires
read_through-requires g c = let p = c.requires in (p.0, some_only c.if-self-o-ge-MORE.false p.0 p.1)

pub returns-in_err-x : goal.returns-in_err-x
returns-in_err-x g c w s e b h =
    rw (exit _ c.from_residual-in_err-x.ensures.1)
    (aim_refused w s e (only_read c.if-self-o-ge-MORE.false {g = by g (goal.at.returns-in_err-x g c).Start} _ c.in_err-x.ensures w s e b h))

pub returns-then-not-is_write_view : goal.returns-then-not-is_write_view
unfolding number
returns-then-not-is_write_view g c w s e b h =
    aim_kind w s e (only_read c.if-self-o-ge-MORE.false {g = by g (goal.at.returns-then-not-is_write_view g c).Start} _ c.in_ok-x.ensures w s e b h)
    (sym (c.is_write_view.ensures c.in_ok-x.x.payload) ∙ c.if-not-is_write_view.true)

pub returns : goal.returns
returns g c w s e b h =
    aim_view w s e (only_read c.if-self-o-ge-MORE.false {g = by g (goal.at.returns g c).Start} _ c.in_ok-x.ensures w s e b h)
    (sym (c.is_write_view.ensures c.in_ok-x.x.payload) ∙ c.if-not-is_write_view.false)
