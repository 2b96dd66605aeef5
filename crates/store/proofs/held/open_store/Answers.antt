use Rattle.std.proofs.Common.{◌∙◌}
use Rattle.std.proofs.lemmas.Result.{err_from_is_err_and}
use Rattle.values.specs.Refusal.{said}
use Rattle.store.specs.Sheet.{tables_of, opening_of}
use Rattle.store.specs.HeldStore.{opened_of}
use Rattle.store.proofs.Sheet.{refused_opened, refused_held, store_opened, store_held}
use Rattle.store.proofs.held.open_store.Goals as goal

pub returns-in_err-sheet-clause-opened : goal.returns-in_err-sheet-clause-opened
unfolding said
returns-in_err-sheet-clause-opened c =
    let p = err_from_is_err_and c.from_residual.result c.from_residual.ensures.1 in
    rw (p.1, p.2) (refused_opened _ _ c.in_err-sheet.ensures)

pub returns-in_err-sheet-clause-held : goal.returns-in_err-sheet-clause-held
returns-in_err-sheet-clause-held c = refused_held _ _ c.in_err-sheet.ensures _

pub returns-clause-opened : goal.returns-clause-opened
unfolding said opened_of opening_of tables_of
returns-clause-opened c =
    let sheet = c.in_ok-sheet in
    rw (sheet.sheet.sized.slots, c.order.ensures, sheet.ensures.0) (store_opened _ sheet.ensures.1)

pub returns-clause-held : goal.returns-clause-held
returns-clause-held c =
    let sheet = c.in_ok-sheet in
    c.fill_held.ensures ∙ rw sheet.ensures.0 (store_held _ sheet.ensures.1 _)
