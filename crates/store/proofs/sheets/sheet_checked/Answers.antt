use Rattle.std.proofs.Common.{sym, refl, ◌∙◌, arith}
use Rattle.std.proofs.lemmas.Bool.{lt-leb}
use Rattle.std.proofs.lemmas.Result.{err_from_is_err_and}
use Rattle.values.specs.Result.{require}
use Rattle.values.specs.Refusal.{number, said}
use Rattle.store.specs.Sheet.{sheet_checked}
use Rattle.store.specs.HeldStore.{Sized}
use Rattle.store.proofs.Sheet.{sizes_refused, sizes_passed}
use Rattle.store.proofs.sheets.sheet_checked.Goals as goal
use Rattle.store.proofs.sheets.sheet_checked.Goals.{Else-slots-gt-MOST_SLOTS}

pub returns-then-bytes-lt-SIZES : goal.returns-then-bytes-lt-SIZES
unfolding number sheet_checked require
returns-then-bytes-lt-SIZES c = rw (lt-leb _ _ c.if-bytes-lt-SIZES.true)

pub returns-then-principals-lt1 : goal.returns-then-principals-lt1
unfolding number
returns-then-principals-lt1 c = sizes_refused _ _ c.if-bytes-lt-SIZES.false _ _ c.number_at-principals.ensures c.number_at-slots.ensures (λ a b d. omega (arith, c.then-principals-lt1.either))

sized : (c : Else-slots-gt-MOST_SLOTS) → Sized c.args.bytes.now c.number_at-principals.result c.number_at-slots.result
sized c =
    record {
      principals = c.number_at-principals.ensures;
      slots = c.number_at-slots.ensures;
      some = omega arith;
      few = omega arith;
      small = omega arith;
    }

pub returns-in_err-body_checked : goal.returns-in_err-body_checked
unfolding said
returns-in_err-body_checked c =
    let p = err_from_is_err_and c.from_residual.result c.from_residual.ensures.1 in
    rw (p.1, p.2) (sizes_passed _ _ c.if-bytes-lt-SIZES.false (sized (goal.at.returns-in_err-body_checked c).Else-slots-gt-MOST_SLOTS) ∙ sym c.in_err-body_checked.ensures)

pub returns : goal.returns
unfolding said
returns c = (refl, sizes_passed _ _ c.if-bytes-lt-SIZES.false (sized (goal.at.returns c).Else-slots-gt-MOST_SLOTS) ∙ sym c.in_ok-body_checked.ensures)
