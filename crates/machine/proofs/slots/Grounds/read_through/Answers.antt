use Prim.Native.Nat.{◌%◌}
use mathlib.Core.Path.{refl, sym, ◌∙◌}
use mathlib.Core.Logic.{inl, inr}
use native.Mathlib.Omega.{arith}
use Rattle.values.specs.Refusal.{number}
use Rattle.syntax.specs.Syntax.{literal}
use Rattle.syntax.specs.Rows.{more_come}
use Rattle.calculus.specs.Calculus.{eval}
use Rattle.machine.specs.CompiledExpressions.{read_times}
use Rattle.machine.proofs.ViewAdmission.{owner_in}
use Rattle.machine.proofs.SlotRows.{view_held}
use Rattle.machine.proofs.LiteralReads.{Ready, ready_all, ready_barred, ready_done, ready_kind, ready_next}
use Rattle.machine.proofs.slots.Grounds.read_through.Goals as goal
use Rattle.machine.proofs.slots.Grounds.read_through.Goals.{At-loop-o}

pub loop-o-init : goal.loop-o-init
loop-o-init c w s v n h x = ready_all w s x _ _ _ _ c.from-kind.ensures refl refl h.serves.top

-- what the caller's setting and literal make of the value that has turned up
ready : (c : At-loop-o)
    → let p = c.requires in
    Ready p.0.setting p.0.store c.loop-o.kind c.loop-o.payload c.loop-o.label c.loop-o.left
    (read_times p.0.setting p.0.store (p.1.reads % more_come) (eval p.0.setting p.0.store (literal p.1.value)))
ready c = let p = c.requires in c.loop-o.invariant p.0.setting p.0.store p.1.value p.1.reads p.0.behind p.1.is

pub admitted-requires : goal.admitted-requires
admitted-requires c = (c.requires.0, λ k. view_held (ready c).held (inr k))

pub returns-then-not-admitted : goal.returns-then-not-admitted
unfolding number
returns-then-not-admitted c w s v n h x =
    ready_barred w s (c.loop-o.invariant w s v n h x) _ (c.admitted.ensures w s h) c.if-not-admitted.true

pub returns-then-left-eq0 : goal.returns-then-left-eq0
returns-then-left-eq0 c w s v n h x =
    ready_done w s (c.loop-o.invariant w s v n h x) _ (c.admitted.ensures w s h) c.if-not-admitted.false c.if-left-eq0.true

pub returns-then-kind-from : goal.returns-then-kind-from
unfolding number
returns-then-kind-from c w s v n h x =
    ready_kind w s (c.loop-o.invariant w s v n h x) _ (c.admitted.ensures w s h) c.if-not-admitted.false c.if-left-eq0.false
    (λ k. c.if-kind-from.true (k ∙ sym c.from.ensures))

pub row_of-row-requires : goal.row_of-row-requires
row_of-row-requires c =
    omega (arith, c.viewed.ensures 0, view_held (ready (goal.at.row_of-row-requires c).At-loop-o).held (inl (c.if-kind-from.false ∙ c.from.ensures)))

pub offset_bounds-self-row : goal.offset_bounds-self-row
offset_bounds-self-row c = omega (arith, owner_in _ _ c.requires.0 c.row_of-row.ensures)

pub bounds-self-row : goal.bounds-self-row
bounds-self-row c = owner_in _ _ c.requires.0 c.row_of-row.ensures

pub loop-o-preserved : goal.loop-o-preserved
loop-o-preserved c w s v n h x =
    ready_next w s (c.loop-o.invariant w s v n h x) _ (c.admitted.ensures w s h) _ (c.viewed.ensures 0) h _ c.row_of-row.ensures
    c.if-not-admitted.false c.if-left-eq0.false (c.if-kind-from.false ∙ c.from.ensures)
