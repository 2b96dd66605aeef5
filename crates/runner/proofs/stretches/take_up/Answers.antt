use Prim.Native.Nat.{◌^◌, ◌≤◌, ◌<◌}
use mathlib.Core.Path.{refl, sym, ◌∙◌}
use native.Mathlib.Omega.{arith}
use lib.ListN.{length}
use Rattle.syntax.specs.Sheet.{k_of}
use Rattle.values.proofs.BytesNumbers.{number_lt}
use Rattle.pausing.specs.Stretches.{block_in}
use Rattle.runner.proofs.StretchTakeUp.{no_block, no_output, take_small, take_locate, take_ordered, take_resume, no_path, taken_up, taken_few}
use Rattle.runner.proofs.stretches.take_up.Goals as goal
use Rattle.runner.proofs.stretches.take_up.Goals.{then-blocks_of-from-via-then-blocks_of-from, then-blocks_of-from-via-else-blocks_of-from+then-not-output_good, After-locate-start, After-number_at-steps, After-output_good}

-- the steps have four bytes
few : (c : After-number_at-steps) → c.number_at-steps.result < 2 ^ 32
few c = omega (arith, c.number_at-steps.ensures, number_lt c.args.sheet.now (λ j. (c.type_inv.sheet j).fits) 4 0)

pub overflow_cast-steps : goal.overflow_cast-steps
overflow_cast-steps c = record { fits = few c }

pub returns-then-blocks_of-from : goal.returns-then-blocks_of-from
returns-then-blocks_of-from c =
    elim c.then-blocks_of-from.branch [
      | then-blocks_of-from-via-then-blocks_of-from w ↦ no_block _ _ _ _ _ (block_in c.args.sheet.now) _ (omega (arith, c.blocks_of.ensures, c.from.ensures, w.if-blocks_of-from.true)) refl
      | then-blocks_of-from-via-else-blocks_of-from+then-not-output_good w ↦
          no_output _ _ _ _ _ _ _ c.number_at-steps.ensures (sym w.output_good.ensures ∙ w.if-not-output_good.true)
    ]

pub output_good-requires : goal.output_good-requires
output_good-requires c = take_small _ _ _ _ _ _ c.requires

-- the block is one of the programme's
inside : (c : After-output_good) → block_in c.args.sheet.now < k_of c.args.programme.now
inside c = omega (arith, c.blocks_of.ensures, c.from.ensures, c.if-blocks_of-from.false)

pub locate-start-requires : goal.locate-start-requires
locate-start-requires c = take_locate _ _ _ _ _ _ c.requires _ (inside (goal.at.locate-start-requires c).After-output_good)

-- where the block lies
ordered : (c : After-locate-start) → (c.locate-start.result.start ≤ c.locate-start.result.end) × (c.locate-start.result.end ≤ length c.args.programme.now)
ordered c =
    take_ordered _ _ _ _ _ (block_in c.args.sheet.now) (omega (arith, c.blocks_of.ensures, c.from.ensures, c.if-blocks_of-from.false)) refl _ c.locate-start.ensures _ c.requires

pub slice_bounds-resume-start : goal.slice_bounds-resume-start
slice_bounds-resume-start c = (ordered (goal.at.slice_bounds-resume-start c).After-locate-start).0

pub slice_bounds-resume-end : goal.slice_bounds-resume-end
slice_bounds-resume-end c = (ordered (goal.at.slice_bounds-resume-end c).After-locate-start).1

pub slice_bounds-resume-count : goal.slice_bounds-resume-count
slice_bounds-resume-count c = (ordered (goal.at.slice_bounds-resume-count c).After-locate-start).0

pub resume-requires : goal.resume-requires
resume-requires c = take_resume _ _ _ _ _ _ (inside (goal.at.resume-requires c).After-output_good) refl _ c.locate-start.ensures _ c.requires

pub open_output-requires : goal.open_output-requires
open_output-requires c = take_small _ _ _ _ _ _ c.requires

pub overflow_add-result : goal.overflow_add-result
overflow_add-result c = record {
  fits = omega (
    arith,
    taken_few _ _ _ _ _ _ (inside (goal.at.overflow_add-result c).After-output_good) refl _ c.locate-start.ensures _ _ _ _ c.in_ok-past.ensures c.number_at-steps.ensures
        (sym c.output_good.ensures ∙ c.if-not-output_good.false) c.open_output.ensures _ c.requires,
  );
}

pub returns : goal.returns
returns c =
    rw c.from-2.ensures
    (taken_up _ _ _ _ _ _ (inside (goal.at.returns c).After-output_good) refl _ c.locate-start.ensures _ _ _ _ c.in_ok-past.ensures c.number_at-steps.ensures
    (sym c.output_good.ensures ∙ c.if-not-output_good.false) c.open_output.ensures)

pub returns-in_err-past : goal.returns-in_err-past
returns-in_err-past c =
    rw c.from_residual.ensures
    (no_path _ _ _ _ _ _ (inside (goal.at.returns-in_err-past c).After-output_good) refl _ c.locate-start.ensures _ c.in_err-past.ensures)
