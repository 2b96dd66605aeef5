-- The promises hold: without any one of these theorems this file is refused. Assumes nothing.
use Rattle.lattice.proofs.Order.{good_tables}
use Rattle.values.proofs.SignedIntegers.{signed_integers}
use Rattle.values.proofs.WrappingIntegers.{wrapping_integers}
use Rattle.syntax.proofs.RunningStarts.{running_starts, three_worked}
use Rattle.syntax.proofs.SheetWorked.{sheets_hold}
use Rattle.promises.specs.Promises.{Promises}
use Rattle.calculus.proofs.WhileLaw.{while_law}
use Rattle.exactness.proofs.FaithfulnessByRules.{faithfulness_by_rules}
use Rattle.exactness.proofs.Exactness.{exactness}
use Rattle.calculus.proofs.Faithfulness.{faithfulness}
use Rattle.isolation.proofs.Isolation.{full_rule, isolated_down_to_floors, isolated, protected_entries_agree}
use Rattle.isolation.proofs.IsolationAgreement.{protected_tested}
use Rattle.exactness.proofs.JournalTells.{journal_tells}
use Rattle.calculus.proofs.RuleNumbers.{rule_numbers}
use Rattle.isolation.proofs.Ladder.{ladder, descent, budgets, journals, further}
use Rattle.isolation.proofs.OwnRefusals.{own_refusals}
use Rattle.calculus.proofs.StepsBounded.{steps_bounded}
use Rattle.exactness.proofs.StepByStep.{step_by_step}
use Rattle.isolation.proofs.CapabilitySafety.{capability_safety}
use Rattle.isolation.proofs.WriteIntegrity.{write_integrity}
use Rattle.isolation.proofs.ProvenanceSafety.{provenance_safety_down_to_floors, provenance_safety}
use Rattle.isolation.proofs.ConfusedDeputy.{capability_deputy_safety, deputy_safety_down_to_floors, deputy_safety, full_deputy_safety_down_to_floors, full_deputy_safety, noninterference_suffices, isolation_suffices, isolation_suffices_down_to_floors}
use Rattle.isolation.proofs.WholeRunNotSafe.{whole_worked, whole_run_not_safe}
use Rattle.isolation.proofs.NotEnoughUnderCapability.{chosen_worked, not_enough_under_capability}
use Rattle.isolation.proofs.EndorsedNotIsolated.{endorsed_worked, floor_worked, endorsed_not_isolated, not_isolated_at_floors, not_isolated_below_floors}
use Rattle.isolation.proofs.UnrelatedProtected.{unrelated_protected}
use Rattle.calculus.proofs.Floors.{judged_by_meet, floors_ignored}
use Rattle.calculus.proofs.Vectors.{vectors_hold, vectors_of_rule_0_hold, descents_hold, faults_hold, misreadings_hold, operations_hold, floors_hold, journals_hold}
use Rattle.pausing.proofs.PathsAside.{paths_aside}
use Rattle.pausing.proofs.StartsAsRun.{starts_as_run}
use Rattle.pausing.proofs.NeverPaused.{never_paused}
use Rattle.pausing.proofs.NoneFull.{none_full}
use Rattle.pausing.proofs.WrittenGood.{written_good}
use Rattle.pausing.proofs.RuleOfNext.{rule_of_next}
use Rattle.promises.proofs.IsolatedInStretches.{isolated_in_stretches}
use Rattle.promises.proofs.LooseNotIsolated.{loose_worked, loose_not_isolated}
use Rattle.promises.proofs.StretchesWorked.{stretches_hold, checkpoints_hold}

pub promises : Promises
promises =
    record {
      good_tables = good_tables;
      sheets_hold = sheets_hold;
      faithfulness_by_rules = faithfulness_by_rules;
      exactness = exactness;
      faithfulness = faithfulness;
      while_law = while_law;
      steps_bounded = steps_bounded;
      vectors_hold = vectors_hold;
      vectors_of_rule_0_hold = vectors_of_rule_0_hold;
      faults_hold = faults_hold;
      misreadings_hold = misreadings_hold;
      isolated = isolated;
      full_rule = full_rule;
      unrelated_protected = unrelated_protected;
      rule_numbers = rule_numbers;
      ladder = ladder;
      descent = descent;
      budgets = budgets;
      further = further;
      own_refusals = own_refusals;
      descents_hold = descents_hold;
      step_by_step = step_by_step;
      capability_safety = capability_safety;
      write_integrity = write_integrity;
      capability_deputy_safety = capability_deputy_safety;
      provenance_safety = provenance_safety;
      deputy_safety = deputy_safety;
      full_deputy_safety = full_deputy_safety;
      noninterference_suffices = noninterference_suffices;
      isolation_suffices = isolation_suffices;
      whole_worked = whole_worked;
      whole_run_not_safe = whole_run_not_safe;
      chosen_worked = chosen_worked;
      not_enough_under_capability = not_enough_under_capability;
      signed_integers = signed_integers;
      running_starts = running_starts;
      three_worked = three_worked;
      wrapping_integers = wrapping_integers;
      operations_hold = operations_hold;
      isolated_down_to_floors = isolated_down_to_floors;
      endorsed_worked = endorsed_worked;
      floor_worked = floor_worked;
      endorsed_not_isolated = endorsed_not_isolated;
      not_isolated_at_floors = not_isolated_at_floors;
      not_isolated_below_floors = not_isolated_below_floors;
      provenance_safety_down_to_floors = provenance_safety_down_to_floors;
      deputy_safety_down_to_floors = deputy_safety_down_to_floors;
      full_deputy_safety_down_to_floors = full_deputy_safety_down_to_floors;
      isolation_suffices_down_to_floors = isolation_suffices_down_to_floors;
      judged_by_meet = judged_by_meet;
      floors_ignored = floors_ignored;
      floors_hold = floors_hold;
      journal_tells = journal_tells;
      journals = journals;
      protected_entries_agree = protected_entries_agree;
      protected_tested = protected_tested;
      journals_hold = journals_hold;
      paths_aside = paths_aside;
      starts_as_run = starts_as_run;
      never_paused = never_paused;
      none_full = none_full;
      written_good = written_good;
      rule_of_next = rule_of_next;
      isolated_in_stretches = isolated_in_stretches;
      loose_worked = loose_worked;
      loose_not_isolated = loose_not_isolated;
      stretches_hold = stretches_hold;
      checkpoints_hold = checkpoints_hold;
    }
