use Rattle.std.proofs.Common.{◌≡◌, sym, ◌∙◌, eq-eqb, ne_eqb}
use Rattle.values.specs.Result.{require}
use Rattle.values.specs.Refusal.{number, said}
use Rattle.store.specs.Sheet.{value_width_in, body_checked}
use Rattle.store.proofs.sheets.Sheet.body_checked.Goals as goal
use Rattle.store.proofs.sheets.Sheet.body_checked.Goals.{Joined-self, in-Store, in-Table}

-- the bytes of a slot's value
width : (c : Joined-self) → c.match-self.each ≡ value_width_in c.args.self.now.form
unfolding value_width_in
width c = elim c.match-self.branch [ in-Store w ↦ rw w.in-Store.is w.each-is | in-Table w ↦ rw w.in-Table.is w.each-is ]

pub returns-then-self-masks : goal.returns-then-self-masks
unfolding said number body_checked require
returns-then-self-masks c =
    let pre = c.args.self.now.sized in
    rw (← pre.principals, ← pre.slots, ← width (goal.at.returns-then-self-masks c).Joined-self, ne_eqb _ _ c.if-self-masks.true)

pub returns-then-not-table_good : goal.returns-then-not-table_good
unfolding said number body_checked require
returns-then-not-table_good c =
    let pre = c.args.self.now.sized in
    rw (
      ← pre.principals,
      ← pre.slots,
      ← width (goal.at.returns-then-not-table_good c).Joined-self,
      eq-eqb _ _ c.if-self-masks.false,
      ← c.order.ensures,
      sym c.table_good.ensures ∙ c.if-not-table_good.true,
    )

pub returns : goal.returns
unfolding body_checked require
returns c =
    let pre = c.args.self.now.sized in
    rw (
      ← pre.principals,
      ← pre.slots,
      ← width (goal.at.returns c).Joined-self,
      eq-eqb _ _ c.if-self-masks.false,
      ← c.order.ensures,
      sym c.table_good.ensures ∙ c.if-not-table_good.false,
    ) c.slots_checked.ensures
