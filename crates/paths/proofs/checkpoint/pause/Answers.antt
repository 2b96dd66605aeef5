use Prim.Native.Nat.{ℕ}
use mathlib.Core.Path.{ap, ◌∙◌}
use native.Mathlib.Omega.{arith}
use lib.ListN.{replicate, length-set, length-append}
use Rattle.std.proofs.Common.{length-drop, length-take}
use Rattle.paths.proofs.TraceBranches.{block_seeks, not_past, traced_as}
use Rattle.paths.proofs.PauseSheetBytes.{paused}
use Rattle.paths.proofs.checkpoint.pause.Goals as goal

pub trace-requires : goal.trace-requires
trace-requires c =
    let p = c.requires in
    record {
      command = p.command;
      seeks = block_seeks _ _ _ _ p.was_read p.steps;
      sheet_size = simp (length-set, length-append, length-drop) (omega (arith, simp length-take at c.copy_from_slice.ensures.len, c.fill.ensures.len, p.sheet_size));
      deep = omega arith;
    }

pub overflow_cast-sheet : goal.overflow_cast-sheet
overflow_cast-sheet c = let p = c.requires in omega (arith, (c.in-Break.ensures p.command (block_seeks _ _ _ _ p.was_read p.steps)).traced.short)

pub returns-in-Break : goal.returns-in-Break
returns-in-Break c m x l s e h k z =
    paused _ _ _ _ _ _ _ s (c.copy_from_slice.ensures.after ∙ c.to_le_bytes.ensures)
    (c.fill.ensures.after (λ y q. q) ∙ ap (λ (n : ℕ). replicate n 0) c.requires.sheet_size) z
    (traced_as _ l x _ _ (c.names_of-names.ensures l h) (c.in-Break.ensures x (block_seeks m _ _ x e k)).traced)

pub returns-in_default : goal.returns-in_default
returns-in_default c m x l s e h k z = absurd (not_past (c.in_default.ensures x (block_seeks m _ _ x e k)) k)
