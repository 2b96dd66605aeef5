-- The numbers of refusals. Document 01, "Who can cause which refusal". Assumes nothing.
use Rattle.std.specs.Prelude.{ℕ, Ok, Err}
use Rattle.std.specs.Prelude as std
use Rattle.values.specs.declared.Answer.{Answer}
use Rattle.values.specs.declared.refusal.Refused.{Refused}
use Rattle.values.specs.Result.{Result, ok, refuse, says}
use Rattle.values.specs.declared.refusal.Refusal.{Refusal}
use Rattle.values.specs.declared.refusal.Refusal.TheVariants as r

unfoldable pub number : Refusal → ℕ
number r.StoreLength = 1
number r.StoreLimits = 2
number r.OrderTable = 3
number r.Owner = 4
number r.Value = 5
number r.ProgrammeLength = 6
number r.ProgrammeLimits = 7
number r.Region = 8
number r.IllFormedCode = 9
number r.NestedTooDeep = 10
number r.Arguments = 11
number r.OutputLength = 12
number r.WrongKind = 13
number r.NoAuthority = 14
number r.WriteViewNotAllowed = 15
number r.ProvenanceTooLow = 16
number r.BudgetSpent = 17
number r.JournalFull = 18
number r.Checkpoint = 19

-- a refusal and its place
abbrev pub placed : Refusal → ℕ → ℕ → ℕ → Refused
placed e block offset steps = record { refusal = e; block = block; offset = offset; steps = steps }

-- the answer that it is
abbrev pub answer_in : Refused → Answer
answer_in r = says (number r.refusal) r.block r.offset r.steps

-- What the code answers, as the definitions say it: a value, or the number of its refusal, or that with its place.
unfoldable pub said : {A : Type 0} → std.Result A Refusal → Result ℕ A
said (Ok a) = ok a
said (Err e) = refuse (number e)

unfoldable pub said_at : {A : Type 0} → std.Result A Refused → Result Answer A
said_at (Ok a) = ok a
said_at (Err e) = refuse (answer_in e)
