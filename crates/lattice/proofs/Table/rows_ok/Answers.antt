use Rattle.std.proofs.Common.{rules}
use borrow.Author.Tests.{tests}
use Rattle.lattice.specs.Masks.{line_ok, rows_ok}
use Rattle.lattice.proofs.Tests.{every_from_all}
use Rattle.lattice.proofs.Table.rows_ok.Goals as goal

pub returns : goal.returns
unfolding rows_ok
returns c = let t = c.args.self.now in every_from_all t.n (line_ok t.masks t.n) c.all.ensures.ran (cc) (λ x b q k. search (rules, tests))
