-- Proves `ladder`, `descent`, `budgets`, `journals`, `further`: the rule ladder, larger budgets and longer journals. Assumes nothing.
use Prim.Native.Nat.{ℕ, ◌≤◌}
use mathlib.Core.Path.{◌≡◌, refl}
use mathlib.Core.Bool.{Bool, true, false}
use mathlib.Core.List.{List, [], ◌∷◌, ◌++◌}
use native.Mathlib.Omega.{arith}
use lib.Dec.{leb}
use borrow.Author.Tests.{le-leb}
use Rattle.lattice.specs.Tests.{◌and◌, ◌implies◌}
use Rattle.lattice.specs.declared.Table.{Table}
use Rattle.lattice.specs.Order.{Label}
use Rattle.lattice.proofs.Tests.{and_l, and_r, and_of, imp_at}
use Rattle.values.specs.declared.Answer.{Answer}
use Rattle.values.specs.Result.{Result, ok, refuse, ◌>>=◌, require, refused_as}
use Rattle.values.proofs.Result.{Post, Any, post_all, bind_with}
use Rattle.store.specs.Sheet.{Tables}
use Rattle.syntax.specs.Sheet.{Block}
use Rattle.calculus.specs.Rules.{RuleSet, access_control, capability, explicit_provenance, full_provenance, rules_of, judges_views, judges_region, labels_judged, all_above}
use Rattle.calculus.specs.Calculus.{Limits, limits, Store, State, in_region, authorised, reliable}
use Rattle.calculus.specs.Blocks.{Halt, halt_answer, setting, run_blocks, most_budget, start}
use Rattle.calculus.specs.Run.{Call, call, limits_of, Finished, run_programme, run_opened, run_under, run, answer_of, output_of, entries_of}
use Rattle.isolation.specs.Ladder.{Descent, Ladder, Budgets, Journals, Further}
use Rattle.calculus.proofs.StepsBounded.{halted}
use Rattle.calculus.proofs.RulesLabels.{as_others}
use Rattle.calculus.proofs.ResultUnless.{Unless, same_test, unless_same, unless_require, unless_then, unless_refused_as}
use Rattle.isolation.proofs.LadderPairs.{Eased}
use Rattle.isolation.proofs.LadderMilderSettings.{Roomier, Milder, blocks_eased}

-- the second run's answer has no fewer steps
abbrev AsFar : Result Answer Finished → Result Answer Finished → Type 0
AsFar r r' = (answer_of r).steps ≤ (answer_of r').steps

require_far : (b : Bool) (e : Answer) (r r' : Result Answer Finished) → AsFar r r' → AsFar (require b e r) (require b e r')
unfolding require
require_far true e r r' h = h
require_far false e r r' h = omega arith

bind_far : {A : Type 0} (r : Result Answer A) (k k' : A → Result Answer Finished) → ((a : A) → AsFar (k a) (k' a)) → AsFar (r >>= k) (r >>= k')
bind_far r k k' h = bind_with AsFar Any Any r k k' (post_all _ _ _ (λ _. tt) (λ _. tt)) (λ a _. h a) (λ e. omega arith)

answers_far : (Q : Halt → Type 0) (budget blocks slots : ℕ) (r r' : Result Halt State) → Eased Q halted budget r r'
    → AsFar (refused_as halt_answer r >>= λ s. ok (record { blocks = blocks; slots = slots; state = s }))
    (refused_as halt_answer r' >>= λ s. ok (record { blocks = blocks; slots = slots; state = s }))
unfolding Post refused_as ◌>>=◌ answer_of halt_answer
answers_far Q budget blocks slots (ok s) r' u = rw (u.alike.else tt) (omega arith)
answers_far Q budget blocks slots (refuse h) (ok t) u = u.further.grown
answers_far Q budget blocks slots (refuse h) (refuse h') u = u.further.grown

-- a call under another rule number and within other limits
abbrev within : Limits → ℕ → Call → Call
within l rule c = call c.store c.programme rule l.budget c.room l.entries

-- runs over the same sheets, with budgets that are both allowed or both not
module _ {own : ℕ} {rules rules' : RuleSet} {l l' : Limits} (allowed : leb l'.budget most_budget ≡ leb l.budget most_budget)
    (m : (t : Tables) (i : ℕ) (b : Block) → Milder own (setting t rules l i b) (setting t rules' l' i b)) where
  played : (t : Tables) (blocks : List Block) (s : Store)
      → Eased (λ (h : Halt). h.stop.number ≡ own) halted l'.budget
      (run_blocks t rules l 0 blocks (start s)) (run_blocks t rules' l' 0 blocks (start s))
  unfolding start
  played t blocks s = blocks_eased t (m t) 0 blocks (start s) (record { grown = omega arith; kept = omega arith })

  runs_alike : (rule rule' : ℕ) (c : Call)
      → Unless (λ (a : Answer). a.number ≡ own) (run_under rules (within l rule c)) (run_under rules' (within l' rule' c))
  unfolding run_under run_opened run_programme halt_answer
  runs_alike rule rule' c =
      rw allowed (
      unless_require _ same_test λ _.
      unless_then unless_same λ o.
      unless_then unless_same λ blocks.
      unless_require _ same_test λ _.
      unless_then (unless_refused_as _ (played o.tables blocks o.store).alike) (λ s. unless_same))

  runs_further : (rule rule' : ℕ) (c : Call) → AsFar (run_under rules (within l rule c)) (run_under rules' (within l' rule' c))
  unfolding run_under run_opened run_programme
  runs_further rule rule' c =
      rw allowed (
      require_far _ _ _ _ (
      bind_far _ _ _ λ o.
      bind_far _ _ _ λ blocks.
      require_far _ _ _ _ (answers_far _ _ _ _ _ _ (played o.tables blocks o.store))))

-- a run that is not refused by `own` is the other run, so both have one answer, one output and the same entries
ends : {own : ℕ} (old : List ℕ) {r r' : Result Answer Finished} → Unless (λ (a : Answer). a.number ≡ own) r r'
    → ((answer_of r).number ≡ own → ⊥) → (answer_of r ≡ answer_of r') × (output_of r old ≡ output_of r' old) × (entries_of r ≡ entries_of r')
unfolding Post answer_of
ends old {r = ok f} u h = rw (u.else tt) (refl, refl, refl)
ends old {r = refuse a} u h = rw (u.else h) (refl, refl, refl)

same_limits : {own : ℕ} {l : Limits} → Roomier own l l
same_limits = record { larger = omega arith; longer = omega arith; spent = λ _. refl; full = λ _. refl }

-- where all of some labels stand at or above a principal, so do the first ones
firsts_above : (t : Table) (x : Label) (ls more : List Label) → all_above t x (ls ++ more) ≡ true → all_above t x ls ≡ true
unfolding all_above
firsts_above t x [] more e = refl
firsts_above t x (l ∷ ls) more e = and_of _ _ (and_l _ _ e) (firsts_above t x ls more (and_r _ _ e))

-- rules that judge alike but for the labels, of which the second judge only the first ones
fewer_labels : (rules rules' : RuleSet) → judges_views rules' ≡ judges_views rules → judges_region rules' ≡ judges_region rules
    → ((x y branch : Label) → (more : List Label) × (labels_judged rules x y branch ≡ labels_judged rules' x y branch ++ more))
    → {l : Limits} (t : Tables) (i : ℕ) (b : Block) → Milder 16 (setting t rules l i b) (setting t rules' l i b)
unfolding in_region authorised reliable
fewer_labels rules rules' p q f t i b =
    record {
      views = λ v. rw p same_test;
      regions = λ v _ _. rw q same_test;
      labels = λ i x y branch. record {
        passes = λ e. as_others _ _ _ _ _ (λ z. firsts_above _ z _ (f x y branch).0) (rw (f x y branch).1 at e);
        else = λ o. absurd (o refl);
      };
      limits = same_limits;
    }

-- from rule 1 to rule 0: a write view that rule 1 admits has its owner in the region, and that is all that rule 0 asks
views_judged : {l : Limits} (t : Tables) (i : ℕ) (b : Block) → Milder 15 (setting t capability l i b) (setting t access_control l i b)
unfolding judges_views judges_region labels_judged in_region authorised reliable ◌and◌ ◌implies◌
views_judged t i b =
    record {
      views = λ v. record { passes = λ _. refl; else = λ o. absurd (o refl) };
      regions = λ v e h. record { passes = λ _. imp_at _ _ h e; else = λ _. imp_at _ _ h e };
      labels = λ i x y branch. same_test;
      limits = same_limits;
    }

-- the same rules within larger limits
larger_limits : {own : ℕ} {rules : RuleSet} {l l' : Limits} → Roomier own l l'
    → (t : Tables) (i : ℕ) (b : Block) → Milder own (setting t rules l i b) (setting t rules l' i b)
unfolding in_region authorised reliable
larger_limits r t i b = record { views = λ v. same_test; regions = λ v _ _. same_test; labels = λ i x y branch. same_test; limits = r }

larger_budget : {budget budget' entries : ℕ} → budget ≤ budget' → Roomier 17 (limits budget entries) (limits budget' entries)
larger_budget h = record { larger = h; longer = omega arith; spent = λ o. absurd (o refl); full = λ _. refl }

longer_journal : {budget entries entries' : ℕ} → entries ≤ entries' → Roomier 18 (limits budget entries) (limits budget entries')
longer_journal h = record { larger = omega arith; longer = h; spent = λ _. refl; full = λ o. absurd (o refl) }

three_to_two : {l : Limits} (t : Tables) (i : ℕ) (b : Block) → Milder 16 (setting t full_provenance l i b) (setting t explicit_provenance l i b)
unfolding judges_views judges_region labels_judged
three_to_two = fewer_labels _ _ refl refl (λ x y branch. (branch ∷ [], refl))

two_to_none : {l : Limits} (t : Tables) (i : ℕ) (b : Block) → Milder 16 (setting t explicit_provenance l i b) (setting t access_control l i b)
unfolding judges_views judges_region labels_judged
two_to_none = fewer_labels _ _ refl refl (λ x y branch. (x ∷ y ∷ [], refl))

pub descent : Descent
unfolding run rules_of refused_as ◌>>=◌
descent =
    record {
      from_3_to_2 = λ c old. ends old (runs_alike refl three_to_two 3 2 c);
      from_2_to_0 = λ c old. ends old (runs_alike refl two_to_none 2 0 c);
      from_1_to_0 = λ c old. ends old (runs_alike refl views_judged 1 0 c);
    }

-- 0 is neither 15 nor 16
pub ladder : Ladder
ladder =
    record {
      from_3_to_2 = λ c old e. descent.from_3_to_2 c old (λ q. omega arith);
      from_2_to_0 = λ c old e. descent.from_2_to_0 c old (λ q. omega arith);
      from_1_to_0 = λ c old e. descent.from_1_to_0 c old (λ q. omega arith);
    }

both_allowed : {budget budget' : ℕ} → budget ≤ budget' → budget' ≤ most_budget → leb budget' most_budget ≡ leb budget most_budget
both_allowed {budget = n} {budget' = m} l most = rw (le-leb n most_budget (omega arith), le-leb m most_budget most)

-- the same call within larger limits
module _ {own : ℕ} (c : Call) {l : Limits} (allowed : leb l.budget most_budget ≡ leb c.budget most_budget) (r : Roomier own (limits_of c) l) where
  roomier_alike : Unless (λ (a : Answer). a.number ≡ own) (run c) (run (within l c.rule c))
  unfolding run
  roomier_alike = unless_then unless_same λ rules. runs_alike allowed (larger_limits r) c.rule c.rule c

  roomier_further : AsFar (run c) (run (within l c.rule c))
  unfolding run
  roomier_further = bind_far _ _ _ λ rules. runs_further allowed (larger_limits r) c.rule c.rule c

pub budgets : Budgets
budgets c budget old h most = ends old (roomier_alike c (both_allowed h most) (larger_budget h))

pub journals : Journals
journals c entries old h = ends old (roomier_alike c refl (longer_journal h))

pub further : Further
unfolding run rules_of refused_as ◌>>=◌
further =
    record {
      from_3_to_2 = λ c. runs_further refl three_to_two 3 2 c;
      from_2_to_0 = λ c. runs_further refl two_to_none 2 0 c;
      from_1_to_0 = λ c. runs_further refl views_judged 1 0 c;
      larger_budget = λ c budget h most. roomier_further c (both_allowed h most) (larger_budget h);
      longer_journal = λ c entries h. roomier_further c refl (longer_journal h);
    }
