use Prim.Native.Nat.{ℕ}
use mathlib.Core.Path.{◌≡◌, sym, ◌∙◌}
use mathlib.Core.Bool.{true, false, true≢false}
use native.Mathlib.Omega.{arith}
use borrow.Author.Tests.{eqb-true}
use Rattle.std.proofs.lemmas.Bool.{not-false, not-true, not_from_false}
use Rattle.values.specs.declared.Value.{Value}
use Rattle.values.specs.Value.{write_view, is_write_view}
use Rattle.machine.proofs.SlotRows.{row_owner}
use Rattle.machine.proofs.ViewAdmission.{unjudged, no_view, view_judged}
use Rattle.machine.proofs.slots.Grounds.admitted.Goals as goal
use Rattle.machine.proofs.slots.Grounds.admitted.Goals.{Joined-not-self, then-not-self, else-not-self}

-- the value that is judged
abbrev value : (kind payload : ℕ) → Value
value kind payload = record { kind = kind; payload = payload }

-- where neither of the first two tests holds, views are judged, and the value is a write view
judged : (c : Joined-not-self) → c.if-not-self.value ≡ false
    → (c.args.self.terms.now.judges.views ≡ true) × (is_write_view (value c.args.kind c.args.payload) ≡ true)
judged c f =
    (elim c.if-not-self.branch [
      | then-not-self k ↦ absurd (true≢false (sym (k.value-is ∙ not_from_false _ k.if-not-self.true) ∙ f))
      | else-not-self k ↦ (k.if-not-self.false, sym (k.is_write_view.ensures c.args.payload) ∙ not-false _ (sym k.value-is ∙ f))
    ])

pub row_of-requires : goal.row_of-requires
row_of-requires c =
    omega (arith, c.viewed.ensures 0, c.requires.1 (eqb-true c.args.kind write_view (judged (goal.at.row_of-requires c).Joined-not-self c.if-not-is_write_view.false).1))

pub returns-then-not-is_write_view : goal.returns-then-not-is_write_view
returns-then-not-is_write_view c w s v =
    (elim c.if-not-self.branch [
      | then-not-self k ↦ c.if-not-is_write_view.true ∙ unjudged w _ _ v.serves (value c.args.kind c.args.payload) k.if-not-self.true
      | else-not-self k ↦
          c.if-not-is_write_view.true
          ∙ no_view w (value c.args.kind c.args.payload)
          (sym (k.is_write_view.ensures c.args.payload) ∙ not-true _ (sym k.value-is ∙ c.if-not-is_write_view.true))
    ])

pub returns-else-not-is_write_view : goal.returns-else-not-is_write_view
returns-else-not-is_write_view c w s v =
    let j = judged (goal.at.returns-else-not-is_write_view c).Joined-not-self c.if-not-is_write_view.false in
    view_judged w _ _ v.serves (value c.args.kind c.args.payload) _ _ _ j.0 j.1 (c.viewed.ensures 0) (row_owner _ _ _ (c.row_of.ensures w.tables s v.held)) c.has_bit.ensures
