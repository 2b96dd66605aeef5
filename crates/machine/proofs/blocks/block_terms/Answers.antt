use Rattle.machine.proofs.blocks.block_terms.Goals as goal

pub terms_of-requires : goal.terms_of-requires
terms_of-requires c = rw c.header_at.ensures c.requires.region

pub returns : goal.returns
returns c = rw (← c.header_at.ensures) c.terms_of.ensures
