use mathlib.Core.Path.{sym}
use Rattle.std.proofs.lemmas.Result.{err_from_is_err_and}
use Rattle.runner.proofs.WholeRunReady.{Known, rules_known, SheetOpened, sheet_opened, ready_rule, ready_budget, ready_store, ready_sheet, ready_done}
use Rattle.runner.proofs.ready.prepare.Goals as goal
use Rattle.runner.proofs.ready.prepare.Goals.{In_ok-judges, In_ok-opened}

pub returns-in_err-judges : goal.returns-in_err-judges
returns-in_err-judges c =
    let e = err_from_is_err_and c.from_residual.result c.from_residual.ensures.1 in
    rw e.1 (ready_rule _ _ _ _ _ _ _ _ _ c.judges_of.ensures (sym c.in_err-judges.ensures.value) e.2)

-- the rule set is known
known : (c : In_ok-judges) → Known c.args.rule c.in_ok-judges.judges
known c = rules_known _ _ _ c.judges_of.ensures (sym c.in_ok-judges.ensures.value)

pub returns-then-budget-gt-MOST_BUDGET : goal.returns-then-budget-gt-MOST_BUDGET
returns-then-budget-gt-MOST_BUDGET c =
    ready_budget _ _ _ _ _ _ _ (known (goal.at.returns-then-budget-gt-MOST_BUDGET c).In_ok-judges) c.if-budget-gt-MOST_BUDGET.true _ c.from.ensures

pub returns-in_err-opened : goal.returns-in_err-opened
returns-in_err-opened c =
    let e = err_from_is_err_and c.from_residual-in_err-opened.result c.from_residual-in_err-opened.ensures.1 in
    rw e.1
    (ready_store _ _ _ _ _ _ _ (known (goal.at.returns-in_err-opened c).In_ok-judges) c.if-budget-gt-MOST_BUDGET.false _ c.in_err-opened.ensures.opened _ e.2)

-- the store sheet was opened
sheet : (c : In_ok-opened) → SheetOpened c.args.store.now c.in_ok-opened.opened
sheet c = sheet_opened _ _ c.in_ok-opened.ensures.opened

pub returns-in_err-compile : goal.returns-in_err-compile
returns-in_err-compile c =
    let e = err_from_is_err_and c.from_residual-in_err-compile.result c.from_residual-in_err-compile.ensures.1 in
    rw (e.1, e.2)
    (ready_sheet _ _ _ _ _ _ _ (known (goal.at.returns-in_err-compile c).In_ok-judges) c.if-budget-gt-MOST_BUDGET.false _
    (sheet (goal.at.returns-in_err-compile c).In_ok-opened) _ c.in_ok-opened.ensures.held _ _ c.in_err-compile.ensures)

pub returns : goal.returns
returns c =
    ready_done _ _ _ _ _ _ _ (known (goal.at.returns c).In_ok-judges) c.if-budget-gt-MOST_BUDGET.false _ (sheet (goal.at.returns c).In_ok-opened) _
    c.in_ok-opened.ensures.held _ c.in_ok-compile.ensures c.requires
