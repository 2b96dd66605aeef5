use Rattle.std.proofs.Common.{rules}
use borrow.Author.Tests.{tests}
use Rattle.lattice.specs.Masks.{meet_ok, row_ok}
use Rattle.lattice.proofs.Tests.{every_from_all}
use Rattle.lattice.proofs.Table.row_ok.Goals as goal

pub returns : goal.returns
unfolding row_ok
returns c = let t = c.args.self.now in every_from_all t.n (meet_ok t.masks t.n c.args.i) c.all.ensures.ran (cc) (λ x b q k. search (rules, tests))
