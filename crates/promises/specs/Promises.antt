-- Every promised theorem, by demand and request: one record, which the checker proves (`promises`). What a function promises is its contract,
-- and stands at the function. docs/PROMISES.md follows this order. Assumes nothing.
use Rattle.std.specs.Prelude.{ℕ, List}
use Rattle.lattice.specs.GoodTables.{GoodTables}
use Rattle.values.specs.SignedIntegers.{SignedIntegers}
use Rattle.values.specs.Integers.{WrappingIntegers}
use Rattle.syntax.specs.RunningStarts.{RunningStarts, ThreeWorked}
use Rattle.syntax.specs.SheetWorked.{SheetsHold}
use Rattle.calculus.specs.RuleNumbers.{RuleNumbers}
use Rattle.calculus.specs.Faithfulness.{Faithfulness}
use Rattle.exactness.specs.Exactness.{Exactness, FaithfulnessByRules}
use Rattle.isolation.specs.Ladder.{Ladder, Descent, Further, OwnRefusals, Budgets, Journals}
use Rattle.isolation.specs.Isolation.{FullRules, Isolation, IsolationDownToFloors, ProtectedTested, ProtectedEntriesAgree}
use Rattle.exactness.specs.StepByStep.{StepByStep}
use Rattle.isolation.specs.SlotsAtEveryStep.{CapabilitySafety, WriteIntegrity}
use Rattle.calculus.specs.Steps.{WhileLaw, StepsBounded}
use Rattle.isolation.specs.ConfusedDeputy.{ProvenanceSafety, ProvenanceSafetyDownToFloors, CapabilityDeputySafety, DeputySafety, DeputySafetyDownToFloors, FullDeputySafety, FullDeputySafetyDownToFloors, NoninterferenceSuffices, IsolationSuffices, IsolationSufficesDownToFloors}
use Rattle.calculus.specs.Vectors.{VectorsHold, VectorsOfRule0Hold}
use Rattle.isolation.specs.UnrelatedProtected.{UnrelatedProtected}
use Rattle.isolation.specs.EndorsedNotIsolated.{EndorsedIsolation, IsolationAtFloors, IsolationBelowFloors, EndorsedWorked, FloorWorked}
use Rattle.isolation.specs.WholeRunNotSafe.{WholeRunSafety, WholeWorked}
use Rattle.isolation.specs.NotEnoughUnderCapability.{SufficesUnderCapability, ChosenWorked}
use Rattle.calculus.specs.Descents.{DescentsHold}
use Rattle.calculus.specs.Faults.{FaultsHold}
use Rattle.calculus.specs.Misreadings.{MisreadingsHold}
use Rattle.calculus.specs.OperationsWorked.{OperationsHold}
use Rattle.exactness.specs.JournalTells.{JournalTells}
use Rattle.calculus.specs.JournalsWorked.{JournalsHold}
use Rattle.pausing.specs.StretchesPromises.{PathsAside, NeverPaused, StartsAsRun, NoneFull, WrittenGood, RuleOfNext}
use Rattle.promises.specs.IsolatedInStretches.{IsolationInStretches}
use Rattle.promises.specs.StretchesWorked.{StretchesHold}
use Rattle.promises.specs.CheckpointsWorked.{CheckpointsHold}
use Rattle.promises.specs.LooseNotIsolated.{LooseIsolation, LooseWorked}
use Rattle.calculus.specs.Floors.{JudgedByMeet, FloorsIgnored, FloorsHold}

pub record Promises : Type 0 where
  -- Demand 1, "The table is good when ..": the tests of a table say that it is a partial order with meets and a top; programme sheets with their answers
  pub good_tables : GoodTables
  pub sheets_hold : SheetsHold
  -- Demand 2: a call's run is exactly what the rules of the calculus come to within its limits, as every run within limits is; what the functions
  -- that compute it say; a while is its own unrolling; steps grow up to the budget; P1 to P12, the order of refusals in a step, and what is
  -- easily misread
  pub faithfulness_by_rules : FaithfulnessByRules
  pub exactness : Exactness
  pub faithfulness : Faithfulness
  pub while_law : WhileLaw
  pub steps_bounded : StepsBounded
  pub vectors_hold : VectorsHold
  -- P9 under rule 0 finishes
  pub vectors_of_rule_0_hold : VectorsOfRule0Hold
  pub faults_hold : FaultsHold
  pub misreadings_hold : MisreadingsHold
  -- Demand 3: isolation under full provenance, of all the rule numbers that mean it. An unrelated owner's slot is protected.
  pub isolated : Isolation
  pub full_rule : FullRules
  pub unrelated_protected : UnrelatedProtected
  -- Document 02, N1: rule numbers
  pub rule_numbers : RuleNumbers
  -- Document 02, N2: the rule ladder and larger budgets; D1 to D26
  pub ladder : Ladder
  pub descent : Descent
  pub budgets : Budgets
  pub further : Further
  pub own_refusals : OwnRefusals
  pub descents_hold : DescentsHold
  -- Document 02, N2, and source 003, theorem 2: what slots keep at every step
  pub step_by_step : StepByStep
  pub capability_safety : CapabilitySafety
  pub write_integrity : WriteIntegrity
  -- Source 003, theorems 4 to 7: no confused deputy. Over whole runs with endorsed blocks theorem 5 is false, and under rule 1 theorem 7.
  pub capability_deputy_safety : CapabilityDeputySafety
  pub provenance_safety : ProvenanceSafety
  pub deputy_safety : DeputySafety
  pub full_deputy_safety : FullDeputySafety
  pub noninterference_suffices : NoninterferenceSuffices
  pub isolation_suffices : IsolationSuffices
  pub whole_worked : WholeWorked
  pub whole_run_not_safe : WholeRunSafety → ⊥
  pub chosen_worked : ChosenWorked
  pub not_enough_under_capability : SufficesUnderCapability → ⊥
  -- Document 02, N3: integers of 64 bits
  pub signed_integers : SignedIntegers
  -- Document 02, N4: the running start of blocks
  pub running_starts : (p : List ℕ) → RunningStarts p
  pub three_worked : ThreeWorked
  -- Document 02, N5: sums and comparisons
  pub wrapping_integers : WrappingIntegers
  pub operations_hold : OperationsHold
  -- Document 02, N6: endorsement down to floors. Demand 3, wider; its proviso cannot be dropped, for a floor at the adversary or one below it
  -- (`EndorsedWorked`). Theorems 5 to 7 with endorsed blocks. What is asked of the meet of the labels judged; floors that are ignored; examples
  pub isolated_down_to_floors : IsolationDownToFloors
  pub endorsed_worked : EndorsedWorked 1 × EndorsedWorked 0
  pub floor_worked : FloorWorked
  pub endorsed_not_isolated : EndorsedIsolation → ⊥
  pub not_isolated_at_floors : IsolationAtFloors → ⊥
  pub not_isolated_below_floors : IsolationBelowFloors → ⊥
  pub provenance_safety_down_to_floors : ProvenanceSafetyDownToFloors
  pub deputy_safety_down_to_floors : DeputySafetyDownToFloors
  pub full_deputy_safety_down_to_floors : FullDeputySafetyDownToFloors
  pub isolation_suffices_down_to_floors : IsolationSufficesDownToFloors
  pub judged_by_meet : JudgedByMeet
  pub floors_ignored : FloorsIgnored
  pub floors_hold : FloorsHold
  -- Document 02, N7: the writing journal. What a finished run's entries and counts tell: totals, walks both ways, and who wrote each. A longer
  -- journal alters no run but one that was refused for want of an entry. Of two runs as in demand 3, the entries that name protected slots are the
  -- same list. Worked examples
  pub journal_tells : JournalTells
  pub journals : Journals
  pub protected_entries_agree : ProtectedEntriesAgree
  pub protected_tested : ProtectedTested
  pub journals_hold : JournalsHold
  -- Document 02, N8: pause and carry on. A command whose stops have paths comes to what `exec` says; a start answers and writes what a run does with
  -- a journal long enough, but for 17, and pausing and carrying on under one rule is never pausing. 18 does not arise, and what was written at a pause is
  -- not refused by 19. The rule of a stretch judges the step that is next. Demand 3 over runs in stretches, where each goes on from what the one before it
  -- wrote; said of a checkpoint that some call wrote it is false. Worked examples
  pub paths_aside : PathsAside
  pub starts_as_run : StartsAsRun
  pub never_paused : NeverPaused
  pub none_full : NoneFull
  pub written_good : WrittenGood
  pub rule_of_next : RuleOfNext
  pub isolated_in_stretches : IsolationInStretches
  pub loose_worked : LooseWorked
  pub loose_not_isolated : LooseIsolation → ⊥
  pub stretches_hold : StretchesHold
  pub checkpoints_hold : CheckpointsHold
