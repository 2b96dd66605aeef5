use Prim.Native.Nat.{◌-◌}
use lib.ListN.{length}
use Rattle.paths.proofs.walking.+skip_expr.Given as goal

-- The measure is what of the code is left.
abbrev pub decreases-skip_expr : goal.decreases-skip_expr
decreases-skip_expr l = length l.code.now - l.at
