-- Proves `own_refusals`: which refusals a rule cannot give. Assumes nothing.
use Prim.Native.Nat.{ℕ}
use mathlib.Core.Path.{◌≡◌, refl, sym, ap, ◌∙◌}
use mathlib.Core.Bool.{false, true≢false}
use mathlib.Core.List.{[]}
use native.Mathlib.Omega.{arith}
use Rattle.lattice.specs.Tests.{◌and◌, ◌implies◌}
use Rattle.lattice.specs.Order.{Label}
use Rattle.values.specs.declared.Answer.{Answer}
use Rattle.values.specs.Result.{Result, ok, refuse}
use Rattle.values.proofs.Result.{post_refused}
use Rattle.store.specs.Sheet.{Tables}
use Rattle.syntax.specs.Sheet.{Block}
use Rattle.calculus.specs.Rules.{RuleSet, access_control, capability, explicit_provenance, full_provenance, rules_of, judges_views, judges_region, labels_judged}
use Rattle.calculus.specs.Calculus.{Limits, State, authorised, reliable}
use Rattle.calculus.specs.Blocks.{Halt, halt_answer, setting}
use Rattle.calculus.specs.Run.{limits_of}
use Rattle.calculus.specs.Faithfulness.{own_run}
use Rattle.isolation.specs.Ladder.{NeverBy, OwnRefusals}
use Rattle.calculus.proofs.Rules.{rules_one}
use Rattle.calculus.proofs.RulesLabels.{none_judged}
use Rattle.calculus.proofs.CalculusRefusals.{Refusing, blocks_refuse_by}
use Rattle.calculus.proofs.Faithfulness.{faithfulness}

-- the rules refuse no step by n
abbrev Never : ℕ → RuleSet → Type 0
Never n rules = (w : Tables) (l : Limits) (i : ℕ) (b : Block) → Refusing (λ e. e ≡ n → ⊥) (setting w rules l i b)

never_under : (n : ℕ) (rules rules' : RuleSet) → rules' ≡ rules → Never n rules → Never n rules'
never_under n rules rules' e h = rw e h

-- so neither is a run
never_by : (n rule : ℕ) (rules : RuleSet) → (n ≡ 0 → ⊥) → (17 ≡ n → ⊥) → (18 ≡ n → ⊥) → rules_of rule ≡ ok rules → Never n rules → NeverBy n rule
unfolding halt_answer
never_by n rule rules some unspent free r never c is g e =
    let f = faithfulness c [] [] g in
    let q = never_under n rules g.rules (rules_one c.rule rules g.rules (ap rules_of is ∙ r) g.ruled) never in
    let stops = blocks_refuse_by _ g.opening.tables g.rules (limits_of c) (q g.opening.tables (limits_of c)) unspent free 0 g.blocks _ in
    go (own_run g) refl (λ s h. some (sym e ∙ ap (λ (a : Answer). a.number) (f.ends s h).0))
    (λ h x. post_refused _ _ _ h stops x (sym (ap (λ (a : Answer). a.number) (f.stops h x).0) ∙ e))
  where
    go : (x : Result Halt State) → own_run g ≡ x → ((s : State) → own_run g ≡ ok s → ⊥) → ((h : Halt) → own_run g ≡ refuse h → ⊥) → ⊥
    go (ok s) q a b = a s q
    go (refuse h) q a b = b h q

-- where the region is not asked
no_14 : (rules : RuleSet) → judges_region rules ≡ false → Never 14 rules
unfolding authorised ◌implies◌
no_14 rules p w l i b =
    record {
      kind = λ e. omega arith;
      region = λ i f. absurd (true≢false (rw p at f));
      view = λ v f e. omega arith;
      labels = λ i x y branch f e. omega arith;
    }

-- where write views are not judged
no_15 : (rules : RuleSet) → judges_views rules ≡ false → Never 15 rules
unfolding ◌and◌ ◌implies◌
no_15 rules p w l i b =
    record {
      kind = λ e. omega arith;
      region = λ i f e. omega arith;
      view = λ v f. absurd (true≢false (rw p at f));
      labels = λ i x y branch f e. omega arith;
    }

-- where no labels are judged
no_16 : (rules : RuleSet) → ((x y branch : Label) → labels_judged rules x y branch ≡ []) → Never 16 rules
unfolding reliable
no_16 rules p w l i b =
    record {
      kind = λ e. omega arith;
      region = λ i f e. omega arith;
      view = λ v f e. omega arith;
      labels = λ i x y branch f. absurd (true≢false (sym (none_judged _ _ _) ∙ rw (p x y branch) at f));
    }

pub own_refusals : OwnRefusals
unfolding rules_of judges_region judges_views labels_judged
own_refusals =
    record {
      no_14 = never_by 14 1 capability (λ e. omega arith) (λ e. omega arith) (λ e. omega arith) refl (no_14 capability refl);
      no_15_by_0 = never_by 15 0 access_control (λ e. omega arith) (λ e. omega arith) (λ e. omega arith) refl (no_15 access_control refl);
      no_15_by_2 = never_by 15 2 explicit_provenance (λ e. omega arith) (λ e. omega arith) (λ e. omega arith) refl (no_15 explicit_provenance refl);
      no_15_by_3 = never_by 15 3 full_provenance (λ e. omega arith) (λ e. omega arith) (λ e. omega arith) refl (no_15 full_provenance refl);
      no_16_by_0 = never_by 16 0 access_control (λ e. omega arith) (λ e. omega arith) (λ e. omega arith) refl (no_16 access_control (λ x y branch. refl));
      no_16_by_1 = never_by 16 1 capability (λ e. omega arith) (λ e. omega arith) (λ e. omega arith) refl (no_16 capability (λ x y branch. refl));
    }
