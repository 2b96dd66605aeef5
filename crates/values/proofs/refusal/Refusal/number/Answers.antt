use Rattle.std.proofs.Common.{◌≡◌, ◌+◌, refl}
use denote.Enum
use Rattle.values.specs.Refusal.{number}
use Rattle.values.specs.contracts.refusal.Refusal.{the_type}
use Rattle.values.specs.declared.refusal.Refusal.{Refusal}
use Rattle.values.specs.declared.refusal.Refusal.TheVariants as r
use Rattle.values.proofs.refusal.Refusal.number.Goals as goal

-- each variant has its number in the source, one more than its place
each : (x : Refusal) → Enum.Declared.tag_of the_type x + 1 ≡ number x
unfolding number
each r.StoreLength = refl
each r.StoreLimits = refl
each r.OrderTable = refl
each r.Owner = refl
each r.Value = refl
each r.ProgrammeLength = refl
each r.ProgrammeLimits = refl
each r.Region = refl
each r.IllFormedCode = refl
each r.NestedTooDeep = refl
each r.Arguments = refl
each r.OutputLength = refl
each r.WrongKind = refl
each r.NoAuthority = refl
each r.WriteViewNotAllowed = refl
each r.ProvenanceTooLow = refl
each r.BudgetSpent = refl
each r.JournalFull = refl
each r.Checkpoint = refl

pub returns : goal.returns
returns c = each c.args.self
