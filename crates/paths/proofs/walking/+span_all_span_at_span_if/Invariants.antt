use Prim.Native.Nat.{ℕ, ◌+◌, ◌-◌, ◌*◌, ◌≤◌}
use lib.ListN.{length}
use Rattle.paths.specs.CodeLayout.{Left}
use Rattle.paths.proofs.walking.+span_all_span_at_span_if.Given as goal

-- The measure is what of the code is left, and at one place the order of the calls.
abbrev pub decreases-span_all : goal.decreases-span_all
decreases-span_all l = 2 * (length l.code.now - l.at) + 2

abbrev pub decreases-span_at : goal.decreases-span_at
decreases-span_at l = 2 * (length l.code.now - l.at) + 1

abbrev pub decreases-span_if : goal.decreases-span_if
decreases-span_if l = 2 * (length l.code.now - l.at)

-- what is left from `end` on is what was left from the first on
abbrev pub invariant-span_all-loop : goal.invariant-span_all-loop
invariant-span_all-loop l = (l.at ≤ l.end) × ((end total : ℕ) → Left l.code l.at l.n 0 end total → Left l.code l.end (l.n - l.counter) l.rows end total)
