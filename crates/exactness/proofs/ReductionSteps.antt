-- For `exactness`: the rules of expressions, guards and assignments say what `eval`, `judge` and `assignment` compute. Assumes nothing.
use Prim.Native.Nat.{ℕ}
use mathlib.Core.Path.{◌≡◌, refl, sym, ap, ◌∙◌}
use mathlib.Core.Logic.{◌↔◌, ⊎_elim}
use mathlib.Core.Bool.{Bool, true, false, true≢false}
use mathlib.Core.List.{List, ◌∷◌}
use native.Mathlib.Omega.{arith}
use Rattle.lattice.specs.Tests.{◌and◌, ◌implies◌}
use Rattle.lattice.specs.Order.{Label}
use Rattle.lattice.proofs.Tests.{and_l, and_r, and_of, or_at, or_l, or_r, imp_at, imp_of, is_false}
use Rattle.values.specs.Result.{Result, ok, refuse, ◌>>=◌, require}
use Rattle.values.specs.declared.Value.{Value}
use Rattle.values.specs.Value.{is_write_view, viewed}
use Rattle.values.proofs.Result.{Post, one_value, one_refusal, not_both, post_ok, post_map, post_bind, post_require}
use Rattle.store.specs.Sheet.{owner_of}
use Rattle.syntax.specs.Syntax.{Expr, literal, read, operation, cmd, assign}
use Rattle.calculus.specs.Rules.{RuleSet, access_control, capability, explicit_provenance, full_provenance, judges_views, judges_region, labels_judged, all_above, labels_suffice}
use Rattle.calculus.specs.Calculus.{limits, Setting, Store, Labelled, Judged, in_region, may_hold, admit, fetch, operate, eval, judge, authorised, reliable, permit, assignment, Memory, recorded}
use Rattle.exactness.specs.Reduction.{Region, Trusts, by_owner, by_floor, semantics, asks, ◌⊢⟨◌∣◌⟩⇓◌^◌, Val, Deref, Operate, ◌⊢⟨◌∣◌⟩⇓if◌^◌, Guard, Code, ◌⨾◌, ⟨◌∣◌∣◌⟩, ◌⊢◌⟶◌, If, Else, While_1, While_2, Assign, Config}
use Rattle.exactness.specs.Forbidden.{◌⊢⟨◌∣◌⟩⇑◌, Val_15, Deref_in, Deref_13, Deref_15, Left_in, Right_in, Operate_13, Tries, Tries_if, Tries_while, Tries_assign, ◌⊢⟨◌∣◌⟩✗◌, Guard_in, Guard_13, Target_in, Target_13, Value_in, Assign_14, Assign_16}
use Rattle.calculus.specs.Tasks.{Task, judging, assigning}
use Rattle.exactness.specs.Exactness.{From13To16}
use Rattle.calculus.proofs.RulesLabels.{none_judged}

-- Tests and what they say

-- a test that does not pass
fails : {P : Type 0} (b : Bool) → (b ≡ true) ↔ P → b ≡ false → P → ⊥
fails b f e p = true≢false (sym (f.1 p) ∙ e)

failed : {P : Type 0} (b : Bool) → (b ≡ true) ↔ P → (P → ⊥) → b ≡ false
failed b f n = is_false b (λ e. n (f.0 e))

-- a region, whatever the limits
abbrev pub region_of : Setting → Region
region_of w = record { tables = w.tables; rules = w.rules; header = w.header; block = w.block }

-- what a rule set asks is what its tests ask
module _ (w : Setting) where
  abbrev ρ : Region
  ρ = region_of w

  admitted : (rules : RuleSet) (v : Value) → (judges_views rules and is_write_view v implies in_region w (viewed v) ≡ true) ↔ (semantics rules ρ).value v
  unfolding judges_views semantics in_region ◌and◌ ◌implies◌
  admitted access_control v = (λ _. tt, λ _. refl)
  admitted capability v = (λ e p. imp_at _ _ e p, λ f. imp_of _ _ f)
  admitted explicit_provenance v = (λ _. tt, λ _. refl)
  admitted full_provenance v = (λ _. tt, λ _. refl)

  authority : (rules : RuleSet) (r : ℕ) → (judges_region rules implies in_region w r ≡ true) ↔ (semantics rules ρ).slot r
  unfolding judges_region semantics in_region ◌implies◌
  authority access_control r = (λ e. e, λ e. e)
  authority capability r = (λ _. tt, λ _. refl)
  authority explicit_provenance r = (λ e. e, λ e. e)
  authority full_provenance r = (λ e. e, λ e. e)

  -- P is what the test of all labels says of a principal
  trusts : (r : ℕ) (ls : List Label) (P : Label → Type 0) → ((x : Label) → (all_above w.tables.order x ls ≡ true) ↔ P x)
      → (labels_suffice w.tables.order w.header (owner_of w.tables r) ls ≡ true) ↔ Trusts ρ r P
  unfolding labels_suffice
  trusts r ls P f = (λ e. ⊎_elim (λ a. by_owner ((f _).0 a)) (λ a. by_floor (and_l _ _ a) ((f _).0 (and_r _ _ a))) (or_at _ _ e), back)
    where
      back : Trusts ρ r P → labels_suffice w.tables.order w.header (owner_of w.tables r) ls ≡ true
      back (by_owner p) = or_l _ _ ((f _).1 p)
      back (by_floor e p) = or_r _ _ (and_of _ _ e ((f _).1 p))

  trusted : (rules : RuleSet) (r : ℕ) (l l' pc : Label)
      → (labels_suffice w.tables.order w.header (owner_of w.tables r) (labels_judged rules l l' pc) ≡ true) ↔ (semantics rules ρ).labels r l l' pc
  unfolding labels_judged semantics all_above
  trusted access_control r l l' pc = (λ _. tt, λ _. none_judged _ _ _)
  trusted capability r l l' pc = (λ _. tt, λ _. none_judged _ _ _)
  trusted explicit_provenance r l l' pc =
      trusts r _ _ (λ x. (λ e. (and_l _ _ e, and_l _ _ (and_r _ _ e)), λ p. and_of _ _ p.0 (and_of _ _ p.1 refl)))
  trusted full_provenance r l l' pc =
      trusts r _ _ (λ x. (
        λ e. (and_l _ _ e, and_l _ _ (and_r _ _ e), and_l _ _ (and_r _ _ (and_r _ _ e))),
        λ p. and_of _ _ p.0 (and_of _ _ p.1 (and_of _ _ p.2 refl)),
      ))

  may_hold_law : (v : Value) → (may_hold w v ≡ true) ↔ (asks ρ).value v
  may_hold_law v = admitted w.rules v

  may_write : (r : ℕ) → (authorised w r ≡ true) ↔ (asks ρ).slot r
  unfolding authorised
  may_write r = authority w.rules r

  may_trust : (r : ℕ) (l l' pc : Label) → (reliable w r (labels_judged w.rules l l' pc) ≡ true) ↔ (asks ρ).labels r l l' pc
  unfolding reliable
  may_trust r l l' pc = trusted w.rules r l l' pc

-- From the rules to the functions: so the rules give one value, one number, and never both

-- what a task is answered, less its value
abbrev asked : Setting → Store → Task → Result ℕ (Unit {0})
asked w H (judging g) = judge w H g >>= λ _. ok tt
asked w H (assigning pc x y) = assignment w pc H x y >>= λ _. ok tt

module _ (w : Setting) {H : Store} where
  eval_ok : {e : Expr} {v : Value} {l : Label} → region_of w ⊢⟨ H ∣ e ⟩⇓ v ^ l → eval w H e ≡ ok (record { value = v; label = l })
  unfolding eval fetch operate admit require ◌>>=◌
  eval_ok (Val p) = rw ((may_hold_law w _).1 p)
  eval_ok (Deref x p q) = rw (eval_ok x, p, (may_hold_law w _).1 q)
  eval_ok (Operate x y p) = rw (eval_ok x, eval_ok y, p)

  eval_no : {e : Expr} {n : ℕ} → region_of w ⊢⟨ H ∣ e ⟩⇑ n → eval w H e ≡ refuse n
  unfolding eval fetch operate admit require ◌>>=◌
  eval_no (Val_15 p) = rw (failed _ (may_hold_law w _) p)
  eval_no (Deref_in x) = rw (eval_no x)
  eval_no (Deref_13 x p) = rw (eval_ok x, p)
  eval_no (Deref_15 x p q) = rw (eval_ok x, p, failed _ (may_hold_law w _) q)
  eval_no (Left_in x) = rw (eval_no x)
  eval_no (Right_in x y) = rw (eval_ok x, eval_no y)
  eval_no (Operate_13 x y p) = rw (eval_ok x, eval_ok y, p)

  judge_ok : {g : Expr} {b : Bool} {l : Label} → region_of w ⊢⟨ H ∣ g ⟩⇓if b ^ l → judge w H g ≡ ok (record { passes = b; label = l })
  unfolding judge require ◌>>=◌
  judge_ok (Guard x p q) = rw (eval_ok x, p, q)

  asked_no : {t : Task} {n : ℕ} → region_of w ⊢⟨ H ∣ t ⟩✗ n → asked w H t ≡ refuse n
  unfolding judge assignment permit require ◌>>=◌
  asked_no (Guard_in x) = rw (eval_no x)
  asked_no (Guard_13 x p) = rw (eval_ok x, p)
  asked_no (Target_in x) = rw (eval_no x)
  asked_no (Target_13 x p) = rw (eval_ok x, p)
  asked_no (Value_in x p y) = rw (eval_ok x, p, eval_no y)
  asked_no (Assign_14 x p y a) = rw (eval_ok x, p, eval_ok y, failed _ (may_write w _) a)
  asked_no (Assign_16 x p y a b) = rw (eval_ok x, p, eval_ok y, (may_write w _).1 a, failed _ (may_trust w _ _ _ _) b)

-- the functions within some limits, which the rules don't know
abbrev setting_of : Region → Setting
setting_of ρ = record { tables = ρ.tables; rules = ρ.rules; header = ρ.header; block = ρ.block; limits = limits 0 0 }

module _ {ρ : Region} {H : Store} where
  pub one_eval : {e : Expr} {v v' : Value} {l l' : Label} → ρ ⊢⟨ H ∣ e ⟩⇓ v ^ l → ρ ⊢⟨ H ∣ e ⟩⇓ v' ^ l' → v ≡ v'
  one_eval x y = ap (λ (z : Labelled). z.value) (one_value _ _ _ (eval_ok (setting_of ρ) x) (eval_ok (setting_of ρ) y))

  pub one_judged : {g : Expr} {b b' : Bool} {l l' : Label} → ρ ⊢⟨ H ∣ g ⟩⇓if b ^ l → ρ ⊢⟨ H ∣ g ⟩⇓if b' ^ l' → (b ≡ b') × (l ≡ l')
  one_judged x y =
      let e = one_value _ _ _ (judge_ok (setting_of ρ) x) (judge_ok (setting_of ρ) y) in (ap (λ (j : Judged). j.passes) e, ap (λ (j : Judged). j.label) e)

  pub one_number : {t : Task} {n n' : ℕ} → ρ ⊢⟨ H ∣ t ⟩✗ n → ρ ⊢⟨ H ∣ t ⟩✗ n' → n ≡ n'
  one_number x y = one_refusal _ _ _ (asked_no (setting_of ρ) x) (asked_no (setting_of ρ) y)

module _ {ρ : Region} {H : Memory} where
  asked_ok : {PC : List Label} {k : Code} {D : Config} {at : ℕ} {t : Task} → ρ ⊢ ⟨ H ∣ PC ∣ k ⟩ ⟶ D → Tries PC k at t → asked (setting_of ρ) H.store t ≡ ok tt
  unfolding assignment permit require ◌>>=◌
  asked_ok (If x) Tries_if = rw (judge_ok (setting_of ρ) x)
  asked_ok (Else x) Tries_if = rw (judge_ok (setting_of ρ) x)
  asked_ok (While_1 x) Tries_while = rw (judge_ok (setting_of ρ) x)
  asked_ok (While_2 x) Tries_while = rw (judge_ok (setting_of ρ) x)
  asked_ok (Assign x p y a b) Tries_assign =
      let w = setting_of ρ in rw (eval_ok w x, p, eval_ok w y, (may_write w _).1 a, (may_trust w _ _ _ _).1 b)

  -- a step that is made is not forbidden
  pub not_forbidden : {PC : List Label} {k : Code} {D : Config} {at n : ℕ} {t : Task}
      → ρ ⊢ ⟨ H ∣ PC ∣ k ⟩ ⟶ D → Tries PC k at t → ρ ⊢⟨ H.store ∣ t ⟩✗ n → ⊥
  not_forbidden g x y = not_both _ _ _ (asked_ok g x) (asked_no (setting_of ρ) y)

-- the numbers that the rules forbid by
module _ {ρ : Region} {H : Store} where
  eval_numbers : {e : Expr} {n : ℕ} → ρ ⊢⟨ H ∣ e ⟩⇑ n → From13To16 n
  eval_numbers (Val_15 p) = (omega arith, omega arith)
  eval_numbers (Deref_in x) = eval_numbers x
  eval_numbers (Deref_13 x p) = (omega arith, omega arith)
  eval_numbers (Deref_15 x p q) = (omega arith, omega arith)
  eval_numbers (Left_in x) = eval_numbers x
  eval_numbers (Right_in x y) = eval_numbers y
  eval_numbers (Operate_13 x y p) = (omega arith, omega arith)

  pub by_rule : {t : Task} {n : ℕ} → ρ ⊢⟨ H ∣ t ⟩✗ n → From13To16 n
  by_rule (Guard_in x) = eval_numbers x
  by_rule (Guard_13 x p) = (omega arith, omega arith)
  by_rule (Target_in x) = eval_numbers x
  by_rule (Target_13 x p) = (omega arith, omega arith)
  by_rule (Value_in x p y) = eval_numbers y
  by_rule (Assign_14 x p y a) = (omega arith, omega arith)
  by_rule (Assign_16 x p y a b) = (omega arith, omega arith)

-- From the functions to the rules, whatever the limits

pub judged_as : {ρ : Region} {H : Store} {g : Expr} {b b' : Bool} {l : Label} → ρ ⊢⟨ H ∣ g ⟩⇓if b ^ l → b ≡ b' → ρ ⊢⟨ H ∣ g ⟩⇓if b' ^ l
judged_as (Guard x p q) e = Guard x p (q ∙ e)

module _ (w : Setting) where
  pub evaluates : (H : Store) (e : Expr) → Post (λ x. region_of w ⊢⟨ H ∣ e ⟩⇓ x.value ^ x.label) (λ n. region_of w ⊢⟨ H ∣ e ⟩⇑ n) (eval w H e)
  unfolding eval fetch operate admit
  evaluates H (literal v) = post_require _ _ _ _ _ (λ p. post_ok _ _ _ (Val ((may_hold_law w _).0 p))) (λ p. Val_15 (fails _ (may_hold_law w _) p))
  evaluates H (read e) =
      post_bind _ _ _ _ _ (post_map _ _ _ _ _ (evaluates H e) (λ x p. p) (λ n p. Deref_in p)) λ x p.
      post_require _ _ _ _ _
      (λ q. post_require _ _ _ _ _ (λ m. post_ok _ _ _ (Deref p q ((may_hold_law w _).0 m))) (λ m. Deref_15 p q (fails _ (may_hold_law w _) m))) (λ q. Deref_13 p q)
  evaluates H (operation o l r) =
      post_bind _ _ _ _ _ (post_map _ _ _ _ _ (evaluates H l) (λ x p. p) (λ n p. Left_in p)) λ x p.
      post_bind _ _ _ _ _ (post_map _ _ _ _ _ (evaluates H r) (λ y q. q) (λ n q. Right_in p q)) λ y q.
      post_require _ _ _ _ _ (λ t. post_ok _ _ _ (Operate p q t)) (λ t. Operate_13 p q t)

  pub judges : (H : Store) (g : Expr)
      → Post (λ j. region_of w ⊢⟨ H ∣ g ⟩⇓if j.passes ^ j.label) (λ n. region_of w ⊢⟨ H ∣ judging g ⟩✗ n) (judge w H g)
  unfolding judge
  judges H g =
      post_bind _ _ _ _ _ (post_map _ _ _ _ _ (evaluates H g) (λ x p. p) (λ n p. Guard_in p)) λ x p.
      post_require _ _ _ _ _ (λ q. post_ok _ _ _ (Guard p q refl)) (λ q. Guard_13 p q)

  pub assigns : (H : Memory) (pc : Label) (PC : List Label) (at : ℕ) (x y : Expr) (k : Code)
      → Post (λ z. region_of w ⊢ ⟨ H ∣ pc ∷ PC ∣ cmd at (assign x y) ⨾ k ⟩ ⟶ ⟨ recorded w.block at z H ∣ pc ∷ PC ∣ k ⟩)
      (λ n. region_of w ⊢⟨ H.store ∣ assigning pc x y ⟩✗ n) (assignment w pc H.store x y)
  unfolding assignment permit
  assigns H pc PC at x y k =
      post_bind _ _ _ _ _ (post_map _ _ _ _ _ (evaluates H.store x) (λ r p. p) (λ n p. Target_in p)) λ r p.
      post_require _ _ _ _ _
      (λ t. post_bind _ _ _ _ _ (post_map _ _ _ _ _ (evaluates H.store y) (λ v q. q) (λ n q. Value_in p t q)) λ v q.
      post_require _ _ _ _ _
      (λ a. post_require _ _ _ _ _
      (λ b. post_ok _ _ _ (Assign p t q ((may_write w _).0 a) ((may_trust w _ _ _ _).0 b)))
      (λ b. Assign_16 p t q ((may_write w _).0 a) (fails _ (may_trust w _ _ _ _) b)))
      (λ a. Assign_14 p t q (fails _ (may_write w _) a)))
      (λ t. Target_13 p t)
