use mathlib.Core.Path.{◌≡◌, sym, ◌∙◌}
use mathlib.Core.Bool.{true, false, true≢false}
use Rattle.std.proofs.Common.{rules}
use denote.Enum.Bare.{sameb, same_true}
use Rattle.values.specs.contracts.refusal.Refusal.{the_type}
use Rattle.values.specs.declared.refusal.Refusal.{Refusal}
use Rattle.values.specs.declared.refusal.Refusal.TheVariants as r
use Rattle.runner.proofs.StretchPlay.{settle_done, settle_refused, settle_pauses, settle_paused}
use Rattle.runner.proofs.stretches.settle.Goals as goal
use Rattle.runner.proofs.stretches.settle.Goals.{then-eq, else-eq}

pub returns-in-Ok : goal.returns-in-Ok
returns-in-Ok c = rw c.in-Ok.is (settle_done _ _ _ _ _ _ _ _ c.requires.fits c.write_store.ensures _ c.finishing.ensures)

-- the test
spent : (e : Refusal) → sameb the_type e r.BudgetSpent ≡ true → e ≡ r.BudgetSpent
spent e q = same_true the_type (search rules) _ _ q

other : (e : Refusal) → sameb the_type e r.BudgetSpent ≡ false → e ≡ r.BudgetSpent → ⊥
other e q p = true≢false (rw p at q)

pub write_pause-requires : goal.write_pause-requires
write_pause-requires c =
    settle_pauses _ _ _ _ _ _ _ (spent _ (sym c.eq.ensures ∙ c.if-eq.true)) (rw c.in-Err.is at c.requires)

pub returns-after-eq : goal.returns-after-eq
returns-after-eq c =
    elim c.if-eq.branch [
      | then-eq w ↦
          rw (c.in-Err.is, w.out-is, w.pause-is)
          (settle_paused _ _ _ _ _ _ _ (spent _ (sym c.eq.ensures ∙ w.if-eq.true)) _ _ c.requires.fits w.write_store-then-eq.ensures w.write_pause.ensures)
      | else-eq w ↦ rw (c.in-Err.is, w.out-is, w.pause-is) (settle_refused _ _ _ _ _ _ _ (other _ (sym c.eq.ensures ∙ w.if-eq.false)))
    ]
