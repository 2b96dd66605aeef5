-- Proves `exactness`: a run is exactly what the rules come to within its limits. Assumes nothing.
use Prim.Native.Nat.{ℕ, ◌+◌, ◌≤◌, ◌<◌}
use mathlib.Core.Path.{◌≡◌, refl, sym, ap, subst, ◌∙◌}
use mathlib.Core.Logic.{◌↔◌, ◌⊎◌, inl, inr, ⊎_elim}
use mathlib.Core.List.{List, [], ◌∷◌}
use native.Mathlib.Omega.{arith}
use lib.ListN.{length}
use Rattle.lattice.specs.Order.{Label, top}
use Rattle.values.specs.Result.{Result, ok, refuse}
use Rattle.values.proofs.Result.{one_value, one_refusal, not_both}
use Rattle.store.specs.Sheet.{Opening}
use Rattle.syntax.specs.declared.Header.{Header}
use Rattle.syntax.specs.Sheet.{Block}
use Rattle.calculus.specs.Rules.{RuleSet}
use Rattle.calculus.specs.Calculus.{Limits, limits, State, Memory, memory, state_at}
use Rattle.calculus.specs.Blocks.{Halt, start}
use Rattle.calculus.specs.Tasks.{reached}
use Rattle.exactness.specs.Reduction.{Region, done, ⟨◌∣◌∣◌⟩, regions, Stage, before, during, ◌⊩◌⟹◌, Comp_2, Prg_1, Prg_1_silent}
use Rattle.exactness.specs.Forbidden.{Forbidden, Forbid, Due, Due_17, Due_18}
use Rattle.exactness.specs.Exactness.{◌⊩◌⟹*◌, here, after, held, Within, From13To16, By17Or18, Reaches, finish, Finishes, Forbids, ForbidsIn, ComesDue, under, RunsOut, Exact, Exactness}
use Rattle.exactness.proofs.ReductionSteps.{by_rule}
use Rattle.exactness.proofs.ReductionDeterministic.{Rests, finished, forbidden, out_of_limits, Ends, deterministic, steps_at_law, entries_at, all_keep, all_add, fork, all_numbered, forbidden_rests, one_forbidden, forbidden_at, due_at, rest_within, rest_stays, one_end, done_silent, done_rests, not_done}
use Rattle.exactness.proofs.ReductionRuns.{run_ends}

-- where a run that finishes stands, and one that is stopped
at_finish : {ρ : ℕ → Header → Region} {l : Limits} {P : Stage} {s : State} → Rests ρ l P (ok s)
    → (k : ℕ) × (P ≡ before k s.steps (memory s) []) × Within l s
at_finish (finished {i = i} m) = (i, refl, m)

at_stop : {ρ : ℕ → Header → Region} {l : Limits} {P : Stage} {h : Halt} → Rests ρ l P (refuse h)
    → (Within l (held P) × Forbidden ρ P h × ((h' : Halt) → Due l P h' → ⊥)) ⊎ (Within l (held P) × Due l P h)
at_stop (forbidden m x d) = inl (m, x, d)
at_stop (out_of_limits m x) = inr (m, x)

-- where a run stands still is where it is then
pub rests_at : {ρ : ℕ → Header → Region} {l : Limits} {P : Stage} {r : Result Halt State} → Rests ρ l P r → held P ≡ reached r
unfolding reached
rests_at (finished _) = refl
rests_at (forbidden _ x _) = sym (forbidden_at x)
rests_at (out_of_limits _ x) = sym (due_at x)

-- what they are stopped by
forbidden_number : {ρ : ℕ → Header → Region} {P : Stage} {h : Halt} → Forbidden ρ P h → From13To16 h.stop.number
forbidden_number (Forbid x n) = by_rule n

due_number : {l : Limits} {P : Stage} {h : Halt} → Due l P h → By17Or18 h.stop.number
due_number (Due_17 x e) = inl refl
due_number (Due_18 x d e) = inr refl

pub from_17 : {n : ℕ} → By17Or18 n → 17 ≤ n
from_17 = ⊎_elim (λ e. omega arith) (λ e. omega arith)

not_by_both : {n : ℕ} → From13To16 n → By17Or18 n → ⊥
not_by_both x y = omega (arith, from_17 y)

-- limits that leave a step and an entry at a state; none of its steps is due there
record Spare (l : Limits) (s : State) : Type 0 where
  steps : s.steps < l.budget
  entries : length s.journal < l.entries

not_due : {l : Limits} {P : Stage} {h : Halt} → Spare l (held P) → Due l P h → ⊥
not_due x (Due_17 y e) = omega arith
not_due x (Due_18 y d e) = omega arith

-- limits that leave them at two
abbrev ample : State → State → Limits
ample s t = limits (s.steps + t.steps + 1) (length s.journal + length t.journal + 1)

abbrev Underway : Stage → Type 0
Underway (before i n H bs) = ⊥
Underway (during i n h C bs) = Unit {0}

module _ (o : Opening) (rules : RuleSet) (blocks : List Block) where
  abbrev ρ : ℕ → Header → Region
  ρ = regions o.tables rules

  abbrev opens : Stage
  opens = before 0 0 (memory (start o.store)) blocks

  abbrev At : Stage → Type 0
  At = Reaches o rules blocks

  abbrev run : Limits → Result Halt State
  run = under o rules blocks

  comes : (l : Limits) → Ends ρ l opens (run l)
  unfolding start
  comes l = run_ends o.tables rules l 0 blocks (start o.store) (omega arith)

  pub to : (l : Limits) (r : Result Halt State) → Ends ρ l opens r → run l ≡ r
  to l r x = one_end l (comes l) x

  pub from : (l : Limits) (r : Result Halt State) → run l ≡ r → Ends ρ l opens r
  from l r e = rw e at (comes l)

  -- a run that finishes has played every block
  played : (k : ℕ) (s : State) → At (before k s.steps (memory s) []) → k ≡ length blocks
  played k s x = omega (arith, all_numbered x)

  finishes : (l : Limits) (s : State) → (Finishes o rules blocks s × Within l s) ↔ (run l ≡ ok s)
  finishes l s = (λ x. to l (ok s) (_, x.0, finished x.1), back)
    where
      back : run l ≡ ok s → Finishes o rules blocks s × Within l s
      back e =
          let x = from l (ok s) e in
          let f = at_finish x.2 in
          let y : At (before f.0 s.steps (memory s) []) = rw f.1 at x.1 in (rw (played f.0 s y) at y, f.2)

  stopped_by_rules : (l : Limits) (h : Halt) → ForbidsIn o rules blocks l h → run l ≡ refuse h
  stopped_by_rules l h x = to l (refuse h) (x.0, x.1, forbidden x.2 x.3 x.4)

  stopped_by_limits : (l : Limits) (h : Halt) → ComesDue o rules blocks l h → run l ≡ refuse h
  stopped_by_limits l h x = to l (refuse h) (x.0, x.1, out_of_limits x.2 x.3)

  stops : (l : Limits) (h : Halt) → run l ≡ refuse h → ForbidsIn o rules blocks l h ⊎ ComesDue o rules blocks l h
  stops l h e =
      let x = from l (refuse h) e in
      ⊎_elim (λ y. inl (x.0, x.1, y.0, y.1, y.2)) (λ y. inr (x.0, x.1, y.0, y.1)) (at_stop x.2)

  forbids : (l : Limits) (h : Halt) → ForbidsIn o rules blocks l h ↔ ((run l ≡ refuse h) × From13To16 h.stop.number)
  forbids l h = (
    λ x. (stopped_by_rules l h x, forbidden_number x.3),
    λ y. ⊎_elim (λ x. x) (λ x. absurd (not_by_both y.1 (due_number x.3))) (stops l h y.0),
  )

  runs_out : (l : Limits) (h : Halt) → ComesDue o rules blocks l h ↔ ((run l ≡ refuse h) × By17Or18 h.stop.number)
  runs_out l h = (
    λ x. (stopped_by_limits l h x, due_number x.3),
    λ y. ⊎_elim (λ x. absurd (not_by_both (forbidden_number x.3) y.1)) (λ x. x) (stops l h y.0),
  )

  numbers : (l : Limits) (h : Halt) → run l ≡ refuse h → From13To16 h.stop.number ⊎ By17Or18 h.stop.number
  numbers l h e = ⊎_elim (λ x. inl (forbidden_number x.3)) (λ x. inr (due_number x.3)) (stops l h e)

  -- it has finished, or its next step is forbidden
  abbrev AtEnd : Stage → Type 0
  AtEnd P = ((s : State) × (P ≡ finish o rules blocks s)) ⊎ ((h : Halt) × Forbidden ρ P h)

  -- where a run stands still with a step and an entry to spare
  at_end : {P : Stage} {r : Result Halt State} (l : Limits) → Spare l (held P) → At P → Rests ρ l P r → AtEnd P
  at_end l m x (finished {i = k} {n = n} {H = H} _) =
      let s = state_at n H in inl (s, ap (λ (k : ℕ). before k n H []) (played k s x))
  at_end l m x (forbidden {h = h} _ y _) = inr (h, y)
  at_end l m x (out_of_limits _ d) = absurd (not_due m d)

  one_way : {P Q : Stage} {r : Result Halt State} (l : Limits) → Spare l (held P) → At P → Rests ρ l Q r
      → (ρ ⊩ P ⟹* Q) ⊎ (ρ ⊩ Q ⟹* P) → ((R : Stage) × (ρ ⊩ P ⟹ R)) ⊎ AtEnd P
  one_way l m x y (inl here) = inr (at_end l m x y)
  one_way l m x y (inl (after p ps)) = inl (_, p)
  one_way l m x y (inr here) = inr (at_end l m x y)
  one_way l m x y (inr (after p ps)) = absurd (rest_stays l y p ps (omega arith))

  goes_on : (P : Stage) → At P → ((Q : Stage) × (ρ ⊩ P ⟹ Q)) ⊎ AtEnd P
  goes_on P x = let l = ample (held P) (held P) in let y = comes l in one_way l (omega arith) x y.2 (fork x y.1)

  finish_stays : (s : State) (Q : Stage) → ρ ⊩ finish o rules blocks s ⟹ Q → ⊥
  finish_stays s Q = elim [ ]

  finish_allowed : (s : State) (h : Halt) → Forbidden ρ (finish o rules blocks s) h → ⊥
  finish_allowed s h = elim [ ]

  -- a block is left under the stack that it was begun with
  leaves : {i n : ℕ} {h : Header} {H : Memory} {PC : List Label} {bs : List Block} {Q : Stage} → ρ ⊩ during i n h ⟨ H ∣ PC ∣ done ⟩ bs ⟹ Q
      → PC ≡ top o.tables.order ∷ []
  leaves (Prg_1_silent p) = absurd (done_silent p)
  leaves (Prg_1 p) = absurd (done_rests p)
  leaves (Comp_2 e) = e

  not_finished : {i n : ℕ} {h : Header} {H : Memory} {PC : List Label} {bs : List Block} (s : State)
      → during i n h ⟨ H ∣ PC ∣ done ⟩ bs ≡ finish o rules blocks s → ⊥
  not_finished s e = subst Underway e tt

  not_forbidden_there : {i n : ℕ} {h : Header} {H : Memory} {PC : List Label} {bs : List Block} {e : Halt} → Forbidden ρ (during i n h ⟨ H ∣ PC ∣ done ⟩ bs) e → ⊥
  not_forbidden_there (Forbid x n) = not_done x

  block_ends : {i n : ℕ} {h : Header} {H : Memory} {PC : List Label} {bs : List Block} → At (during i n h ⟨ H ∣ PC ∣ done ⟩ bs)
      → PC ≡ top o.tables.order ∷ []
  block_ends x =
      ⊎_elim (λ q. leaves q.1) (⊎_elim (λ s. absurd (not_finished s.0 s.1)) (λ f. absurd (not_forbidden_there f.1))) (goes_on _ x)

  same_state : {P Q : Stage} {r : Result Halt State} (l : Limits) → l.budget ≡ steps_at_law P → entries_at P ≤ l.entries → Rests ρ l Q r
      → (ρ ⊩ P ⟹* Q) ⊎ (ρ ⊩ Q ⟹* P) → held P ≡ reached r
  same_state l b n y (inl ps) = ⊎_elim (λ e. e ∙ rests_at y) (λ g. absurd (omega (arith, rest_within l y, g.later))) (all_keep ps)
  same_state l b n y (inr here) = rests_at y
  same_state l b n y (inr (after q qs)) = absurd (rest_stays l y q qs (omega arith))

  everywhere : (P : Stage) → At P → (l : Limits) → l.budget ≡ steps_at_law P → entries_at P ≤ l.entries → held P ≡ reached (run l)
  everywhere P x l b n = let y = comes l in same_state l b n y.2 (fork x y.1)

  few_entries : (P : Stage) → At P → entries_at P ≤ steps_at_law P
  unfolding start
  few_entries P x = omega (arith, (all_add x).2)

  -- limits run out that neither the end nor a forbidden step comes within
  none_within : (l : Limits) → ((s : State) → Finishes o rules blocks s → Within l s → ⊥) → ((h : Halt) → ForbidsIn o rules blocks l h → ⊥)
      → RunsOut o rules blocks l
  none_within l f g = go (run l) refl
    where
      go : (r : Result Halt State) → run l ≡ r → RunsOut o rules blocks l
      go (ok s) e = let x = (finishes l s).1 e in absurd (f s x.0 x.1)
      go (refuse h) e = ⊎_elim (λ x. absurd (g h x)) (λ x. (h, x, e)) (stops l h e)

  -- a forbidden step, without limits and within such as leave a step and an entry there
  forbids_at_all : {l : Limits} (h : Halt) → ForbidsIn o rules blocks l h → Forbids o rules blocks h
  forbids_at_all h x = (x.0, x.1, x.3)

  forbids_in : (l : Limits) (h : Halt) (x : Forbids o rules blocks h) → Spare l (held x.0) → ForbidsIn o rules blocks l h
  forbids_in l h x m = (x.0, x.1, omega arith, x.2, λ h'. not_due m)

  one_finish : (s s' : State) → Finishes o rules blocks s → Finishes o rules blocks s' → s ≡ s'
  one_finish s s' x y =
      let l = ample s s' in one_value (run l) s s' ((finishes l s).0 (x, omega arith)) ((finishes l s').0 (y, omega arith))

  forbidden_once : (h h' : Halt) → Forbids o rules blocks h → Forbids o rules blocks h' → h ≡ h'
  forbidden_once h h' x y =
      let l = ample (held x.0) (held y.0) in
      one_refusal (run l) h h' (stopped_by_rules l h (forbids_in l h x (omega arith))) (stopped_by_rules l h' (forbids_in l h' y (omega arith)))

  either : (s : State) (h : Halt) → Finishes o rules blocks s → Forbids o rules blocks h → ⊥
  either s h x y =
      let l = ample s (held y.0) in
      not_both (run l) s h ((finishes l s).0 (x, omega arith)) (stopped_by_rules l h (forbids_in l h y (omega arith)))

  -- a run that all limits run out in never ends
  never_finishes : ((l : Limits) → RunsOut o rules blocks l) → (s : State) → Finishes o rules blocks s → ⊥
  never_finishes f s x = let l = ample s s in let y = f l in not_both (run l) s y.0 ((finishes l s).0 (x, omega arith)) y.2

  never_forbidden : ((l : Limits) → RunsOut o rules blocks l) → (h : Halt) → Forbids o rules blocks h → ⊥
  never_forbidden f h x =
      let l = ample (held x.0) (held x.0) in
      let y = f l in
      let e = one_refusal (run l) h y.0 (stopped_by_rules l h (forbids_in l h x (omega arith))) y.2 in
      not_by_both (rw e at (forbidden_number x.2)) (due_number y.1.3)

  exact : Exact o rules blocks
  exact =
      record {
        determined = deterministic;
        goes_on = goes_on;
        finish_stays = finish_stays;
        forbidden_stays = λ P Q h. forbidden_rests;
        finish_allowed = finish_allowed;
        one_forbidden = λ P h h'. one_forbidden;
        block_ends = block_ends;
        finishes = finishes;
        forbids = forbids;
        runs_out = runs_out;
        numbers = numbers;
        everywhere = everywhere;
        few_entries = few_entries;
        cut_short = λ s x l n. none_within l (λ s' y m. n (rw (one_finish s s' x y) m)) (λ h y. either s h x (forbids_at_all h y));
        cut_before = λ h x l n. none_within l (λ s y m. either s h y x) (λ h' y. n (rw (forbidden_once h h' x (forbids_at_all h' y)) y));
        endless = (λ f l. none_within l (λ s y m. f.0 s y) (λ h y. f.1 h (forbids_at_all h y)), λ f. (never_finishes f, never_forbidden f));
      }

pub exactness : Exactness
exactness = exact
