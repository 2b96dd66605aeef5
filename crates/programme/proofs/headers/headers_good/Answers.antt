use Rattle.std.proofs.Common.{rules}
use Rattle.lattice.proofs.Tests.{every_from_all}
use Rattle.syntax.specs.Sheet.{header_at, header_good}
use Rattle.programme.proofs.headers.headers_good.Goals as goal

pub returns : goal.returns
returns c =
    every_from_all c.args.k (λ i. header_good c.args.n (header_at c.args.sheet.now i)) c.all.ensures.ran (cc) (λ x b q k. search rules)
