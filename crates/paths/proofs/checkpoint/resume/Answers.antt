use mathlib.Core.Path.{sym, ◌∙◌}
use mathlib.Core.List.{[]}
use native.Mathlib.Omega.{arith}
use Rattle.paths.proofs.CodeReadBlock.{block_lies}
use Rattle.paths.proofs.SheetPaths.{one_label}
use Rattle.paths.proofs.CheckpointResume.{too_long, not_clear, resumed}
use Rattle.paths.proofs.checkpoint.resume.Goals as goal
use Rattle.paths.proofs.checkpoint.resume.Goals.{then-size-gt-MOST_OPEN-via-then-size-gt-MOST_OPEN, then-size-gt-MOST_OPEN-via-else-size-gt-MOST_OPEN+then-not-all_zero}

pub returns-then-size-gt-MOST_OPEN : goal.returns-then-size-gt-MOST_OPEN
returns-then-size-gt-MOST_OPEN c m x e =
    elim c.then-size-gt-MOST_OPEN.branch [
      | then-size-gt-MOST_OPEN-via-then-size-gt-MOST_OPEN w ↦ too_long _ x _ [] _ c.from-size.ensures w.if-size-gt-MOST_OPEN.true
      | then-size-gt-MOST_OPEN-via-else-size-gt-MOST_OPEN+then-not-all_zero w ↦ not_clear _ x _ [] _ c.from-size.ensures c.requires.sheet_size (omega (arith, w.if-size-gt-MOST_OPEN.false)) w.if-not-all_zero.ensures
    ]

pub find-requires : goal.find-requires
find-requires c =
    let p = c.requires in
    let o = p.tops.same 0 (omega arith) in
    let e = c.from-top.ensures ∙ one_label _ p.table_good c.principal.ensures o in
    record {
      command = p.command;
      sits = record { end = _; lies = block_lies _ _ _ p.was_read };
      labels = _;
      labels_held = p.tops;
      top_is = sym e;
      outside = omega (arith, e, o.inside);
    }

pub returns : goal.returns
returns c m x y =
    let p = c.requires in
    let e = c.from-top.ensures ∙ one_label _ p.table_good c.principal.ensures (p.tops.same 0 (omega arith)) in
    resumed _ x _ _ _ c.from-size.ensures p.sheet_size (omega (arith, c.if-size-gt-MOST_OPEN.false)) c.if-not-all_zero.ensures _ _ _ e
    (c.find.ensures x _ (record { end = _; lies = block_lies _ _ _ y }) p.tops (sym e))
