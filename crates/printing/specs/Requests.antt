-- What an input asks for, as the code holds it. Assumes nothing.
use Rattle.std.specs.Prelude.{ℕ, ◌≡◌, ◌≤◌, List, length, get_or, take, drop}
use Rattle.values.specs.Bytes.{number_at}
use Rattle.printing.specs.declared.Request.{Request}
use Rattle.printing.specs.PrintedText.{budget_width, head_width, store_length, printed_run}

-- the bytes after the rule and the budget
abbrev pub rest_of : List ℕ → List ℕ
rest_of s = drop head_width s

-- these bytes hold the rule and the budget, and ask for this run
pub record Asked (s : List ℕ) (r : Request) : Type 0 where
  pub head : head_width ≤ length s
  pub rule : r.rule ≡ get_or s 0 0
  pub budget : r.budget ≡ number_at budget_width s 1
  pub store : r.store.now ≡ take (store_length (rest_of s)) (rest_of s)
  pub programme : r.programme.now ≡ drop (store_length (rest_of s)) (rest_of s)

-- the lines of the run that is asked for
abbrev pub run_of : Request → List ℕ
run_of r = printed_run r.rule r.budget r.store.now r.programme.now
