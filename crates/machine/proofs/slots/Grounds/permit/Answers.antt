use mathlib.Core.Path.{◌≡◌, sym, ◌∙◌}
use mathlib.Core.Bool.{true}
use native.Mathlib.Omega.{arith}
use Rattle.values.specs.Refusal.{number}
use Rattle.calculus.specs.Calculus.{Setting, Store, authorised}
use Rattle.machine.specs.MachineContracts.{grounds_of, Behind}
use Rattle.machine.proofs.SlotRows.{row_owner}
use Rattle.machine.proofs.StepJudgements.{region_unjudged, region_judged, permit_14, permit_16, permit_writes}
use Rattle.machine.proofs.slots.Grounds.permit.Goals as goal
use Rattle.machine.proofs.slots.Grounds.permit.Given.{Over}
use Rattle.machine.proofs.slots.Grounds.permit.Goals.{Joined-else-self, else-self-via-then-self+else-not-has_bit, else-self-via-else-self}

pub row_of-owner-requires : goal.row_of-owner-requires
row_of-owner-requires g c = omega (arith, c.viewed-slot.ensures 0, c.requires.1)

pub returns-then-not-has_bit : goal.returns-then-not-has_bit
unfolding number
returns-then-not-has_bit g c w s x y b v q t l d =
    permit_14 w x y b _ (q ∙ sym (c.viewed-slot.ensures 0))
    (region_judged w _ _ v.serves _ _ _ c.if-self.true (row_owner _ _ _ (c.row_of-owner.ensures w.tables s v.held))
    c.has_bit.ensures
    ∙ c.if-not-has_bit.true)

-- past the first test the region has the authority
allowed : (g : Over) (c : Joined-else-self g) (w : Setting) (s : Store)
    → Behind (grounds_of c.args.self) w s
    → authorised w c.viewed-slot.result ≡ true
allowed g c w s v =
    (elim c.else-self.branch [
      | else-self-via-then-self+else-not-has_bit k ↦ region_judged w _ _ v.serves _ _ _ k.if-self.true (row_owner _ _ _ (c.row_of-owner.ensures w.tables s v.held)) k.has_bit.ensures
          ∙ k.if-not-has_bit.false
      | else-self-via-else-self k ↦ region_unjudged w _ _ v.serves _ k.if-self.false
    ])

pub returns-then-not-reliable : goal.returns-then-not-reliable
unfolding number
returns-then-not-reliable g c w s x y b v q t l d =
    let o = row_owner _ _ _ (c.row_of-owner.ensures w.tables s v.held) in
    permit_16 w x y b _ (q ∙ sym (c.viewed-slot.ensures 0)) (allowed g (goal.at.returns-then-not-reliable g c).Joined-else-self w s v)
    (sym (c.reliable.ensures w _ _ x.label y.label b v.serves (sym o) t l.label d) ∙ c.if-not-reliable.true)

pub returns : goal.returns
returns g c w s x y b v q t l d =
    let o = row_owner _ _ _ (c.row_of-owner.ensures w.tables s v.held) in
    permit_writes w x y b _ (q ∙ sym (c.viewed-slot.ensures 0)) (omega (arith, c.viewed-slot.ensures 0, c.requires.1)) _ _ _ _ l (sym o) (allowed g (goal.at.returns g c).Joined-else-self w s v)
    (sym (c.reliable.ensures w _ _ x.label y.label b v.serves (sym o) t l.label d) ∙ c.if-not-reliable.false)
