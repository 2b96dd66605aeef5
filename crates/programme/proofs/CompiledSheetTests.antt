-- Laws of what checking a programme sheet answers (`Checked`, specs/CompiledSheet.antt), by the first test that fails. Assumes nothing.
use Prim.Native.Nat.{ℕ, ◌+◌, ◌<◌, ◌≤◌}
use mathlib.Core.Path.{◌≡◌}
use mathlib.Core.Bool.{true, false}
use mathlib.Core.List.{List}
use native.Mathlib.Omega.{arith}
use lib.ListN.{length}
use lib.Dec.{eqb}
use borrow.Author.Tests.{le-leb, lt-leb, eq-eqb, ne_eqb}
use Rattle.lattice.specs.Tests.{◌and◌, every}
use Rattle.values.specs.declared.refusal.Refusal.TheVariants.{ProgrammeLength, ProgrammeLimits, Region}
use Rattle.values.specs.Refusal.{number}
use Rattle.values.specs.Result.{require, unplaced}
use Rattle.values.specs.Bytes.{sizes_width}
use Rattle.syntax.specs.Sheet.{most_blocks, most_code, k_of, c_of, code_at, start_of, header_at, header_good, blocks_from, programme_sheet}
use Rattle.programme.specs.CompiledSheet.{Stood, Turned}

pub sheet_short : (n : ℕ) (p : List ℕ) → length p < sizes_width → Turned n p ProgrammeLength
unfolding programme_sheet require number
sheet_short n p h = record { early = omega arith; refused = λ m. rw (lt-leb _ _ h) }

-- a sheet that gives k blocks and c bytes of code
module _ (n : ℕ) (p : List ℕ) (k c : ℕ) (ek : k ≡ k_of p) (ec : c ≡ c_of p) (a : sizes_width ≤ length p) where
  pub sheet_many : most_blocks < k → Turned n p ProgrammeLimits
  unfolding programme_sheet require ◌and◌ number
  sheet_many h = record { early = omega arith; refused = λ m. rw (← ek, le-leb _ _ a, lt-leb _ _ h) }

  pub sheet_large : k ≤ most_blocks → most_code < c → Turned n p ProgrammeLimits
  unfolding programme_sheet require ◌and◌ number
  sheet_large f h = record { early = omega arith; refused = λ m. rw (← ek, ← ec, le-leb _ _ a, le-leb _ _ f, lt-leb _ _ h) }

  pub sheet_size : k ≤ most_blocks → c ≤ most_code → (length p ≡ code_at k + c → ⊥) → Turned n p ProgrammeLength
  unfolding programme_sheet require ◌and◌ number
  sheet_size f g h = record { early = omega arith; refused = λ m. rw (← ek, ← ec, le-leb _ _ a, le-leb _ _ f, le-leb _ _ g, ne_eqb _ _ h) }

-- the sizes are in limits, and the sheet is as long as they say
module _ (n : ℕ) (p : List ℕ) (k c : ℕ) (ek : k ≡ k_of p) (ec : c ≡ c_of p) (few : k ≤ most_blocks) (small : c ≤ most_code) (size : length p ≡ code_at k + c) where
  past_sizes : (m : ℕ) → programme_sheet n m p ≡
      require (every k (λ i. header_good n (header_at p i))) (unplaced 8) (
      require (eqb (start_of p k) c) (unplaced 6) (
      blocks_from m p k 0))
  unfolding programme_sheet require ◌and◌
  past_sizes m =
      let a : sizes_width ≤ length p = omega arith in
      rw (← ek, ← ec, le-leb _ _ a, le-leb _ _ few, le-leb _ _ small, eq-eqb _ _ size)

  pub sheet_header : every k (λ i. header_good n (header_at p i)) ≡ false → Turned n p Region
  unfolding require number
  sheet_header h = record { early = omega arith; refused = λ m. rw (past_sizes m, h) }

  module _ (b : every k (λ i. header_good n (header_at p i)) ≡ true) where
    pub sheet_sum : (start_of p k ≡ c → ⊥) → Turned n p ProgrammeLength
    unfolding require number
    sheet_sum h = record { early = omega arith; refused = λ m. rw (past_sizes m, b, ne_eqb _ _ h) }

    pub sheet_good : start_of p k ≡ c → Stood n p k
    unfolding require
    sheet_good h = record {
      lengths = record { blocks = ek; few = few; small = rw (← ec) small; size = rw (← ec) size; sum = rw (← ec) h };
      blocks = λ m. rw (past_sizes m, b, eq-eqb _ _ h);
    }
