use Rattle.paths.proofs.CodeReadBlock.{block_lies}
use Rattle.paths.proofs.walking.rows_in.Goals as goal

pub span_at-requires : goal.span_at-requires
span_at-requires c = let p = c.requires.2 in record { command = p.command; sits = record { end = _; lies = block_lies _ _ _ p.was_read } }

pub returns : goal.returns
returns c m x e = (c.span_at.ensures x _ (block_lies m _ x e)).1
