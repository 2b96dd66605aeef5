use Prim.Native.Nat.{ℕ, ◌+◌, ◌-◌, ◌*◌, ◌≤◌}
use lib.ListN.{length}
use Rattle.paths.specs.CodeLayout.{Left}
use Rattle.paths.proofs.walking.+blank_all_blank_end.Given as goal

-- The measure is what of the code is left, and at one place the order of the calls.
abbrev pub decreases-blank_all : goal.decreases-blank_all
decreases-blank_all l = 2 * (length l.code.now - l.at) + 1

abbrev pub decreases-blank_end : goal.decreases-blank_end
decreases-blank_end l = 2 * (length l.code.now - l.at)

-- what is left from `end` on is what was left from the first on, and there were no rows
abbrev pub invariant-blank_all-loop : goal.invariant-blank_all-loop
invariant-blank_all-loop l = (l.at ≤ l.end) × ((end total : ℕ) → Left l.code l.at l.n 0 end total → Left l.code l.end (l.n - l.counter) 0 end total)
