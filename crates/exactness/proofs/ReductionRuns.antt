-- For `exactness` and `step_by_step`: a run goes by the rules to where it ends or is stopped, and to each step that it comes to. Assumes nothing.
use Prim.Native.Nat.{ℕ, zero, suc, ◌+◌, ◌-◌, ◌≤◌, ◌<◌}
use mathlib.Core.Path.{◌≡◌, refl, sym, ap, subst}
use borrow.Table.Steps.{cases}
use mathlib.Core.List.{List, [], ◌∷◌}
use mathlib.Core.Bool.{Bool}
use native.Mathlib.Omega.{arith}
use borrow.Author.Tests.{ltb-true, ltb-false, eqb-true, eqb-false, not-true, not-false}
use lib.ListN.{length}
use Rattle.lattice.specs.Order.{Label, meet, top}
use Rattle.values.specs.Result.{Result, ok, refuse}
use Rattle.values.proofs.Result.{Post, post_ok, post_refuse, post_map, post_join, post_require, post_bind, post_refused_as, post_at}
use Rattle.store.specs.Sheet.{Tables}
use Rattle.syntax.specs.declared.Header.{Header}
use Rattle.syntax.specs.Syntax.{Expr, Cmd, cmd, Body, skip, assign, seq, if, while, Cmds, nil, cons}
use Rattle.syntax.specs.Sheet.{Block}
use Rattle.calculus.specs.Rules.{RuleSet}
use Rattle.calculus.specs.Calculus.{Limits, limits, Setting, Store, Judged, Write, State, Memory, memory, Stop, judge, counted, recorded, performed, stop_at, step, attempt, loop, exec, exec_body, execs}
use Rattle.calculus.specs.Blocks.{Halt, halt_in, run_blocks}
use Rattle.exactness.specs.Reduction.{Region, Code, done, ◌⨾◌, end⨾◌, ◌⨾⨾◌, ⟨◌∣◌∣◌⟩, Seq, Seq_2, End, If, Else, While_1, While_2, regions, Stage, before, during, Start, Prg_1, Prg_1_silent, Comp_2, ◌⊢⟨◌∣◌⟩⇓if◌^◌, ◌⊢◌⟶◌, ◌⊩◌⟹◌}
use Rattle.calculus.specs.Tasks.{Task, judging}
use Rattle.exactness.specs.Forbidden.{Tries, Tries_if, Tries_while, Tries_assign, Forbid, Due, Due_17, Due_18}
use Rattle.exactness.specs.Exactness.{◌⊩◌⟹*◌, here, after, held, Within}
use Rattle.exactness.specs.StepByStep.{outcome, Place, Comes, at_assignment, at_if, at_while, in_first, in_rest, in_then, in_else, in_body, in_later_round}
use Rattle.calculus.proofs.Steps.{post_choose}
use Rattle.exactness.proofs.ReductionSteps.{judged_as, judges, assigns}
use Rattle.exactness.proofs.ReductionDeterministic.{finished, forbidden, out_of_limits, Ends, one_more, all_add, deterministic, one_try, not_assigning, meets}

module _ {ρ : ℕ → Header → Region} where
  pub then_all : {P Q R : Stage} → ρ ⊩ P ⟹* Q → ρ ⊩ Q ⟹* R → ρ ⊩ P ⟹* R
  then_all here qs = qs
  then_all (after p ps) qs = after p (then_all ps qs)

  pub go_on : {l : Limits} {P Q : Stage} {r : Result Halt State} → ρ ⊩ P ⟹* Q → Ends ρ l Q r → Ends ρ l P r
  go_on g x = (x.0, then_all g x.1, x.2)

-- the step that a stage tries
abbrev TriesAt : Stage → ℕ → Task → Type 0
TriesAt (before i n H bs) at t = ⊥
TriesAt (during i n h ⟨ H ∣ PC ∣ k ⟩ bs) at t = Tries PC k at t

-- a sequence is opened before anything in it is tried
not_seq : {PC : List Label} {at o : ℕ} {cs : Cmds} {k : Code} {t : Task} → Tries PC (cmd at (seq cs) ⨾ k) o t → ⊥
not_seq = elim [ ]

opened : {ρ : ℕ → Header → Region} {i n at : ℕ} {h : Header} {H : Memory} {PC : List Label} {cs : Cmds} {k : Code} {bs : List Block}
    {P : Stage} (o : ℕ) (t : Task) → ρ ⊩ during i n h ⟨ H ∣ PC ∣ cmd at (seq cs) ⨾ k ⟩ bs ⟹* P → TriesAt P o t → ρ ⊩ during i n h ⟨ H ∣ PC ∣ cs ⨾⨾ k ⟩ bs ⟹* P
opened o t here x = absurd (not_seq x)
opened o t (after p ps) x = rw (deterministic p (Prg_1_silent Seq)) at ps

-- with budget left nothing is due at a guard, nor at an assignment for which an entry is free
module _ {l : Limits} {i n : ℕ} {h : Header} {H : Memory} {PC : List Label} {k : Code} {bs : List Block} (d : n ≡ l.budget → ⊥) where
  guard_judged : {at : ℕ} {g : Expr} → Tries PC k at (judging g) → (e : Halt) → Due l (during i n h ⟨ H ∣ PC ∣ k ⟩ bs) e → ⊥
  guard_judged x e (Due_17 y m) = d m
  guard_judged x e (Due_18 y _ m) = not_assigning x y

  entry_free : length H.journal < l.entries → (e : Halt) → Due l (during i n h ⟨ H ∣ PC ∣ k ⟩ bs) e → ⊥
  entry_free f e (Due_17 y m) = d m
  entry_free f e (Due_18 y _ m) = omega arith

-- a block's run
module _ (w : Tables) (rules : RuleSet) (l : Limits) (i : ℕ) (h : Header) (bs : List Block) where
  abbrev W : Setting
  W = record { tables = w; rules = rules; header = h; block = i; limits = l }

  -- during the block, in state s, with this code left under these branch labels
  abbrev left : State → List Label → Code → Stage
  left s PC k = during i s.steps h ⟨ memory s ∣ PC ∣ k ⟩ bs

  abbrev Goes : Stage → Stage → Type 0
  Goes P Q = regions w rules ⊩ P ⟹* Q

  -- from P the run is stopped at e
  abbrev Stops : Limits → Stage → Stop → Type 0
  Stops l P e = Ends (regions w rules) l P (refuse (halt_in i e))

  -- from P to this code under these branch labels, within the limits if s was; or it is stopped, the limits not having been passed before
  abbrev Arrives : State → Stage → List Label → Code → Result Stop State → Type 0
  Arrives s P PC k r = Post (λ t. Goes P (left t PC k) × (Within l s → Within l t)) (λ e. Within l s → Stops l P e) r

  -- from code to code, under the same branch labels
  abbrev Does : List Label → Code → Code → State → Result Stop State → Type 0
  Does PC k k' s r = Arrives s (left s PC k) PC k' r

  then_does : {P : Stage} {u : State} {PC : List Label} {k : Code} (s : State) (k' : Code) (r : Result Stop State)
      → Goes P (left u PC k) → (Within l s → Within l u) → Does PC k k' u r → Arrives s P PC k' r
  then_does s k' r g f p = post_map _ _ _ _ r p (λ t q. (then_all g q.0, λ m. q.1 (f m))) (λ e q m. go_on g (q (f m)))

  -- where budget is left the run is stopped by this number, under any budget: the rules forbid the step, or no entry is free
  abbrev StoppedBy : ℕ → State → List Label → Code → ℕ → Type 0
  StoppedBy at s PC k n =
      (l' : Limits) → l'.entries ≡ l.entries → (s.steps ≡ l'.budget → ⊥) → Within l' s → Stops l' (left s PC k) (stop_at at s n)

  guards : (at : ℕ) (s : State) (PC : List Label) (k : Code) (g : Expr) → Tries PC k at (judging g)
      → Post (λ j. regions w rules i h ⊢⟨ s.store ∣ g ⟩⇓if j.passes ^ j.label) (StoppedBy at s PC k) (judge W s.store g)
  guards at s PC k g x =
      post_map _ _ _ _ _ (judges W s.store g) (λ j q. q) (λ n q l' e d m. (_, here, forbidden m (Forbid x q) (guard_judged d x)))

  attempts : (at : ℕ) (s : State) (pc : Label) (PC : List Label) (k : Code) (x y : Expr)
      → Post (λ z. (regions w rules i h ⊢ ⟨ memory s ∣ pc ∷ PC ∣ cmd at (assign x y) ⨾ k ⟩ ⟶ ⟨ recorded i at z (memory s) ∣ pc ∷ PC ∣ k ⟩)
      × (length s.journal < l.entries))
      (StoppedBy at s (pc ∷ PC) (cmd at (assign x y) ⨾ k)) (attempt W pc s x y)
  unfolding attempt
  attempts at s pc PC k x y =
      post_require _ _ _ _ _
      (λ f. let f : length s.journal < l.entries = ltb-true _ _ f in
      post_map _ _ _ _ _ (assigns W (memory s) pc PC at x y k) (λ z q. (q, f))
      (λ n q l' e d m. (_, here, forbidden m (Forbid Tries_assign q) (entry_free d (omega arith)))))
      (λ f l' e d m. (_, here, out_of_limits m (Due_18 Tries_assign d (omega (arith, ltb-false (length s.journal) l.entries f)))))

  -- a step: by the rules, with budget left, or forbidden
  tried : {A : Type 0} (P : A → Type 0) (at : ℕ) (s : State) (t : Task) (PC : List Label) (k : Code) (r : Result ℕ A) → Tries PC k at t
      → Post P (StoppedBy at s PC k) r
      → Post (λ a. P a × (s.steps ≡ l.budget → ⊥)) (λ e. Within l s → Stops l (left s PC k) e) (step W at s r)
  unfolding step
  tried P at s t PC k r x p =
      post_refused_as _ _ _ _
      (post_require _ _ _ _ _
      (λ e. let d : s.steps ≡ l.budget → ⊥ = eqb-false s.steps l.budget (not-true _ e) in
      post_map _ _ _ _ _ p (λ a q. (q, d)) (λ n q m. q l refl d m))
      (λ e m. (_, here, out_of_limits m (Due_17 x (eqb-true s.steps l.budget (not-false _ e))))))

  -- a step that was made with budget left stays within the limits: a guard ..
  tick : (s : State) → (s.steps ≡ l.budget → ⊥) → Within l s → Within l (counted s)
  unfolding counted
  tick s d m = omega (arith, d)

  -- .. and an assignment for which an entry was free
  write : (at : ℕ) (x : Write) (s : State) → (s.steps ≡ l.budget → ⊥) → length s.journal < l.entries → Within l s → Within l (performed W at x s)
  unfolding performed counted
  write at x s d f m = omega (arith, d, one_more i at x (memory s))

  -- a part that is entered from s, where budget was left, by one step
  part : (pc : Label) (PC : List Label) (k k' : Code) (P : Stage) (s : State) (r : Result Stop State) → (s.steps ≡ l.budget → ⊥)
      → Goes P (left (counted s) (pc ∷ PC) k) → Does (pc ∷ PC) k (end⨾ k') (counted s) r
      → Post (λ t. (Goes P (left t PC k') × (Within l s → Within l t)) × (s.steps < t.steps)) (λ e. Within l s → Stops l P e) r
  unfolding counted
  part pc PC k k' P s r d g p =
      post_map _ _ _ _ r p
      (λ t q. ((then_all g (then_all q.0 (after (Prg_1_silent End) here)), λ m. q.1 (tick s d m)), omega (arith, (all_add q.0).0)))
      (λ e q m. go_on g (q (tick s d m)))

  branch : (pc : Label) (PC : List Label) (k k' : Code) (P : Stage) (s : State) (r : Result Stop State) → (s.steps ≡ l.budget → ⊥)
      → Goes P (left (counted s) (pc ∷ PC) k) → Does (pc ∷ PC) k (end⨾ k') (counted s) r → Arrives s P PC k' r
  branch pc PC k k' P s r d g p = post_map _ _ _ _ r (part pc PC k k' P s r d g p) (λ t q. q.0) (λ e q. q)

  module _ (g : Expr) (c : Cmd) (at : ℕ) (pc : Label) (PC : List Label) (k : Code) where
    abbrev again : Code
    again = cmd at (while g c) ⨾ k

    module _ (body : (b : Label) (s : State) → Does (b ∷ pc ∷ PC) (c ⨾ end⨾ again) (end⨾ again) s (exec W c b s)) where
      rounds_go : (n : ℕ) (s : State) → l.budget ≤ n + s.steps
          → Does (pc ∷ PC) again k s (loop (λ t. step W at t (judge W t.store g)) (λ b t. exec W c (meet w.order pc b) t) at n s)
      unfolding loop counted
      rounds_go zero s m = post_refuse _ _ _ (λ x. (_, here, out_of_limits x (Due_17 Tries_while (omega arith))))
      rounds_go (suc n) s m =
          post_bind _ _ _ _ _ (tried _ at s _ _ _ _ Tries_while (guards at s _ _ g Tries_while)) λ j q.
          post_choose _ _ _ _ _ _
          (λ e. let b = meet w.order pc j.label in
          post_bind _ _ _ _ _
          (part b (pc ∷ PC) _ again _ s _ q.1 (after (Prg_1 (While_1 (judged_as q.0 e))) here) (body b (counted s)))
          (λ u x. then_does s k _ x.0.0 x.0.1 (rounds_go n u (omega (arith, x.1)))))
          (λ e. post_ok _ _ _ (after (Prg_1 (While_2 (judged_as q.0 e))) here, tick s q.1))

  mutual
    unfolding exec exec_body execs counted performed ◌⨾⨾◌

    pub exec_goes : (c : Cmd) (pc : Label) (s : State) (PC : List Label) (k : Code) → Does (pc ∷ PC) (c ⨾ k) k s (exec W c pc s)
    exec_goes (cmd at b) pc s PC k = body_goes b at pc s PC k

    body_goes : (b : Body) (at : ℕ) (pc : Label) (s : State) (PC : List Label) (k : Code)
        → Does (pc ∷ PC) (cmd at b ⨾ k) k s (exec_body W b at pc s)
    body_goes skip at pc s PC k = post_ok _ _ _ (after (Prg_1_silent Seq_2) here, λ m. m)
    body_goes (assign x v) at pc s PC k =
        post_bind _ _ _ _ _
        (tried _ at s _ _ _ _ Tries_assign (attempts at s pc PC k x v))
        (λ y q. post_ok _ _ _ (after (Prg_1 q.0.0) here, write at y s q.1 q.0.1))
    body_goes (seq cs) at pc s PC k = then_does s k _ (after (Prg_1_silent Seq) here) (λ m. m) (execs_goes cs pc s PC k)
    body_goes (if g c d) at pc s PC k =
        post_bind _ _ _ _ _ (tried _ at s _ _ _ _ Tries_if (guards at s _ _ g Tries_if)) λ j q.
        let b = meet w.order pc j.label in
        post_choose _ _ _ _ _ _
        (λ e. branch b (pc ∷ PC) _ k _ s _ q.1 (after (Prg_1 (If (judged_as q.0 e))) here) (exec_goes c b (counted s) (pc ∷ PC) (end⨾ k)))
        (λ e. branch b (pc ∷ PC) _ k _ s _ q.1 (after (Prg_1 (Else (judged_as q.0 e))) here) (exec_goes d b (counted s) (pc ∷ PC) (end⨾ k)))
    body_goes (while g c) at pc s PC k =
        rounds_go g c at pc PC k (λ b t. exec_goes c b t (pc ∷ PC) (end⨾ cmd at (while g c) ⨾ k)) (l.budget - s.steps) s (omega arith)

    execs_goes : (cs : Cmds) (pc : Label) (s : State) (PC : List Label) (k : Code) → Does (pc ∷ PC) (cs ⨾⨾ k) k s (execs W cs pc s)
    execs_goes nil pc s PC k = post_ok _ _ _ (here, λ m. m)
    execs_goes (cons c cs) pc s PC k =
        post_bind _ _ _ _ _ (exec_goes c pc s PC (cs ⨾⨾ k)) (λ u x. then_does s k _ x.0 x.1 (execs_goes cs pc u PC k))

  -- Where a command comes to a step, the rules lead there

  -- from P to where the step at p is tried
  abbrev pub LeadsTo : Stage → Place → Type 0
  LeadsTo P p = (PC : List Label) × (k : Code) × (regions w rules ⊩ P ⟹* left p.state PC k) × Tries PC k p.offset p.task

  pub onwards : {P Q : Stage} {p : Place} → regions w rules ⊩ P ⟹* Q → LeadsTo Q p → LeadsTo P p
  onwards g x = (x.0, x.1, then_all g x.2, x.3)

  judged : {H : Store} {g : Expr} {j : Judged} {b : Bool} → judge W H g ≡ ok j → j.passes ≡ b → regions w rules i h ⊢⟨ H ∣ g ⟩⇓if b ^ j.label
  judged q e = judged_as (post_at _ _ _ _ (judges W _ _) q) e

  pub comes_goes : {c : Cmd} {b : Label} {s : State} {p : Place} → Comes W c b s p
      → (PC : List Label) (k : Code) → LeadsTo (left s (b ∷ PC) (c ⨾ k)) p
  unfolding counted ◌⨾⨾◌
  comes_goes at_assignment PC k = (_, _, here, Tries_assign)
  comes_goes at_if PC k = (_, _, here, Tries_if)
  comes_goes at_while PC k = (_, _, here, Tries_while)
  comes_goes (in_first {cs = cs} x) PC k = onwards (after (Prg_1_silent Seq) here) (comes_goes x PC (cs ⨾⨾ k))
  comes_goes (in_rest {c = c} {cs = cs} d x) PC k =
      let y = comes_goes x PC k in
      let run = post_at _ _ _ _ (exec_goes c _ _ PC (cs ⨾⨾ k)) d in
      (y.0, y.1, after (Prg_1_silent Seq) (then_all run.0 (opened _ _ y.2 y.3)), y.3)
  comes_goes (in_then {l = b} q e x) PC k = onwards (after (Prg_1 (If (judged q e))) here) (comes_goes x (b ∷ PC) (end⨾ k))
  comes_goes (in_else {l = b} q e x) PC k = onwards (after (Prg_1 (Else (judged q e))) here) (comes_goes x (b ∷ PC) (end⨾ k))
  comes_goes (in_body {at = at} {g = g} {c = c} {l = b} q e x) PC k =
      onwards (after (Prg_1 (While_1 (judged q e))) here) (comes_goes x (b ∷ PC) (end⨾ cmd at (while g c) ⨾ k))
  comes_goes (in_later_round {at = at} {g = g} {c = c} {l = b} q e d x) PC k =
      let run = post_at _ _ _ _ (exec_goes c _ _ (b ∷ PC) (end⨾ cmd at (while g c) ⨾ k)) d in
      onwards (after (Prg_1 (While_1 (judged q e))) (then_all run.0 (after (Prg_1_silent End) here))) (comes_goes x PC k)

  -- after as many steps it comes to one step
  pub one_place : {c : Cmd} {b : Label} {s : State} {p q : Place} → Comes W c b s p → Comes W c b s q → p.state.steps ≡ q.state.steps → p ≡ q
  one_place {p = p} {q = q} x y e =
      let f = comes_goes x [] done in
      let g = comes_goes y [] done in
      let l' = limits p.state.steps (length p.state.journal + length q.state.journal) in
      let m : left q.state g.0 g.1 ≡ left p.state f.0 f.1 =
      meets l' g.2 f.2 (out_of_limits (omega arith) (Due_17 g.3 (sym e))) (out_of_limits (omega arith) (Due_17 f.3 refl)) in
      let o = one_try f.3 (subst (λ P. TriesAt P q.offset q.task) m g.3) in
      let s : p.state ≡ q.state = sym (ap held m) in λ j. record { offset = o.0 j; state = s j; task = o.1 j }

  -- from a stage to the state u by one step
  abbrev pub To : Stage → State → Type 0
  To P u = (Q : Stage) × (regions w rules ⊩ P ⟹ Q) × (held Q ≡ u)

  -- what a step comes to is what the rules say, and for what is written an entry was free
  pub outcome_goes : (s : State) {PC : List Label} {k : Code} {at : ℕ} {t : Task} → Tries PC k at t
      → Post (λ u. To (left s PC k) u × (length s.journal ≤ l.entries → length u.journal ≤ l.entries)) (StoppedBy at s PC k) (outcome W at s t)
  unfolding outcome counted performed
  outcome_goes s (Tries_if {at = at} {g = g}) =
      post_bind _ _ _ _ _ (guards at s _ _ g Tries_if) λ j q.
      post_ok _ _ _ (cases j.passes (λ e. (_, Prg_1 (If (judged_as q e)), refl)) (λ e. (_, Prg_1 (Else (judged_as q e)), refl)), λ m. m)
  outcome_goes s (Tries_while {at = at} {g = g}) =
      post_bind _ _ _ _ _ (guards at s _ _ g Tries_while) λ j q.
      post_ok _ _ _ (cases j.passes (λ e. (_, Prg_1 (While_1 (judged_as q e)), refl)) (λ e. (_, Prg_1 (While_2 (judged_as q e)), refl)), λ m. m)
  outcome_goes s (Tries_assign {pc = pc} {PC = PC} {at = at} {x = x} {y = y} {k = k}) =
      post_bind _ _ _ _ _ (attempts at s pc PC k x y) λ z q. post_ok _ _ _ ((_, Prg_1 q.0, refl), λ m. omega (arith, q.1, one_more i at z (memory s)))

-- a programme's run
blocks_go : (w : Tables) (rules : RuleSet) (l : Limits) (i : ℕ) (bs : List Block) (s : State) → Within l s
    → Post (λ t. Ends (regions w rules) l (before i s.steps (memory s) bs) (ok t))
    (λ e. Ends (regions w rules) l (before i s.steps (memory s) bs) (refuse e)) (run_blocks w rules l i bs s)
unfolding run_blocks
blocks_go w rules l i [] s m = post_ok _ _ _ (_, here, finished m)
blocks_go w rules l i (b ∷ bs) s m =
    post_bind (λ u. (regions w rules ⊩ before i s.steps (memory s) (b ∷ bs) ⟹* before (i + 1) u.steps (memory u) bs) × Within l u) _ _ _ _
    (post_refused_as _ _ _ _
    (post_map _ _ _ _ _ (exec_goes w rules l i b.header bs b.command (top w.order) s [] done)
    (λ u x. (after Start (then_all x.0 (after (Comp_2 refl) here)), x.1 m)) (λ e y. go_on (after Start here) (y m))))
    (λ u x. post_map _ _ _ _ _ (blocks_go w rules l (i + 1) bs u x.1) (λ t y. go_on x.0 y) (λ e y. go_on x.0 y))

pub run_ends : (w : Tables) (rules : RuleSet) (l : Limits) (i : ℕ) (bs : List Block) (s : State) → Within l s
    → Ends (regions w rules) l (before i s.steps (memory s) bs) (run_blocks w rules l i bs s)
run_ends w rules l i bs s m = post_join (Ends (regions w rules) l (before i s.steps (memory s) bs)) _ (blocks_go w rules l i bs s m)
