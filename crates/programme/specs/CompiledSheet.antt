-- What checking and compiling a programme sheet answers, and what it leaves in the tables. Assumes nothing.
use Rattle.std.specs.Prelude.{ℕ, ◌+◌, ◌<◌, ◌≡◌, List, true, MatchResult}
use Rattle.std.specs.Prelude as std
use Rattle.values.specs.declared.Answer.{Answer}
use Rattle.values.specs.declared.refusal.Refusal.{Refusal}
use Rattle.values.specs.declared.refusal.Refused.{Refused}
use Rattle.values.specs.Refusal.{number, said_at}
use Rattle.values.specs.Result.{Result, ok, refuse, unplaced}
use Rattle.syntax.specs.declared.Compiled.{Compiled}
use Rattle.syntax.specs.Rows.{compiled, Kept, rows_in, operands_in}
use Rattle.syntax.specs.Sheet.{Block, k_of, c_of, blocks_from, programme_sheet, check_answer}
use Rattle.syntax.specs.RunningStarts.{GoodLengths}

-- What compiling a programme sheet leaves in the tables: where it is taken in, its blocks'. A refusal by 6, 7 or 8 leaves them as they were,
-- one by 9 or 10 what the sheet's sizes cannot come to.
unfoldable pub Compiles : List ℕ → Result Answer (List Block) → Compiled → Compiled → Type 0
Compiles p (ok bs) old new = new ≡ compiled bs old
Compiles p (refuse a) old new = (a.number < 9 → new ≡ old) × Kept (rows_in (c_of p) + k_of p) (operands_in (c_of p)) old new

-- the answer, and the tables
abbrev pub CompilesTo : List ℕ → Result Answer (List Block) → Compiled → Compiled → std.Result (Unit {0}) Refused → Type 0
CompilesTo p bs old new r = (check_answer (said_at r) ≡ check_answer bs) × Compiles p bs old new

-- A sheet of k blocks whose sizes, headers and lengths are good is as its blocks are, ..
pub record Stood (n : ℕ) (p : List ℕ) (k : ℕ) : Type 0 where
  pub lengths : GoodLengths p k
  pub blocks : (m : ℕ) → programme_sheet n m p ≡ blocks_from m p k 0

-- .. and any other is refused by 6, 7 or 8.
pub record Turned (n : ℕ) (p : List ℕ) (e : Refusal) : Type 0 where
  pub early : number e < 9
  pub refused : (m : ℕ) → programme_sheet n m p ≡ refuse (unplaced (number e))

abbrev pub Checked : ℕ → List ℕ → std.Result ℕ Refusal → Type 0
Checked n p r = MatchResult r (Stood n p) (Turned n p)
