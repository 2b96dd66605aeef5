use Rattle.std.proofs.Common.{sym, ap, ◌∙◌}
use Rattle.std.proofs.lemmas.Result.{err_from_is_err_and}
use Rattle.values.specs.Result.{refusal_of}
use Rattle.values.specs.Refusal.{said}
use Rattle.store.specs.Sheet.{table_sheet}
use Rattle.store.proofs.Sheet.{refusal_kept}
use Rattle.store.proofs.sheets.check_table.Goals as goal

pub returns-in_err-sheet_checked : goal.returns-in_err-sheet_checked
unfolding said table_sheet
returns-in_err-sheet_checked c =
    let p = err_from_is_err_and c.from_residual.result c.from_residual.ensures.1 in
    rw (p.1, p.2) (ap refusal_of (sym c.in_err-sheet_checked.ensures) ∙ refusal_kept _ _)

pub returns : goal.returns
unfolding said table_sheet
returns c = ap refusal_of (sym c.in_ok-sheet_checked.ensures.1) ∙ refusal_kept _ _
