use Rattle.std.proofs.Common.{◌<◌, sym, ◌∙◌, arith}
use Rattle.values.specs.Result.{require}
use Rattle.values.specs.Refusal.{number, said}
use Rattle.store.specs.Sheet.{n_of, owner_at}
use Rattle.store.proofs.Sheet.{owner_refused, owner_passed}
use Rattle.store.proofs.sheets.Sheet.slot_checked.Goals as goal
use Rattle.store.proofs.sheets.Sheet.slot_checked.Goals.{Else-self-owner}

-- the owner is one of the principals
owned : (c : Else-self-owner) → owner_at c.args.self.now.bytes.now c.args.i < n_of c.args.self.now.bytes.now
owned c = omega (arith, c.owner.ensures, c.args.self.now.sized.principals)

pub returns-then-self-owner : goal.returns-then-self-owner
unfolding said number
returns-then-self-owner c = sym (owner_refused _ _ _ (omega (arith, c.owner.ensures, c.args.self.now.sized.principals)))

pub returns-then-not-value_good : goal.returns-then-not-value_good
unfolding said number require
returns-then-not-value_good c =
    rw (owner_passed c.args.self.now.form _ _ (owned (goal.at.returns-then-not-value_good c).Else-self-owner), sym c.value_good.ensures ∙ c.if-not-value_good.true)

pub returns : goal.returns
unfolding said require
returns c =
    rw (owner_passed c.args.self.now.form _ _ (owned (goal.at.returns c).Else-self-owner), sym c.value_good.ensures ∙ c.if-not-value_good.false)
