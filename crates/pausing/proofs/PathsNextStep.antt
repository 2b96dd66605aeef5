-- For `rule_of_next`: taking up along a path comes first to the step that it leads to (`due`); with no steps left a command takes none. Assumes nothing.
use Prim.Native.Nat.{ℕ, zero, suc, ◌+◌, ◌-◌}
use mathlib.Core.Path.{◌≡◌, refl, sym, subst}
use mathlib.Core.Bool.{true, false, false≢true}
use mathlib.Core.List.{List, [], ◌∷◌}
use native.Mathlib.Omega.{arith}
use lib.Dec.{eqb}
use borrow.Author.Tests.{eqb-true, eq-eqb}
use Rattle.lattice.specs.Tests.{◌and◌}
use Rattle.lattice.specs.declared.Table.{Table}
use Rattle.lattice.specs.Order.{Label}
use Rattle.lattice.proofs.Tests.{and_l, and_r}
use Rattle.values.specs.Result.{Result, refuse, ◌>>=◌, require, refused_as}
use Rattle.values.proofs.Result.{Post, post_ok, post_refuse, post_refused_as, post_bind}
use Rattle.syntax.specs.Syntax.{Expr, Cmd, cmd, Body, skip, assign, seq, if, while, Cmds, nil, cons}
use Rattle.calculus.specs.Calculus.{Setting, State, Stop, Judged, step, stop_at, choose}
use Rattle.calculus.specs.Tasks.{Task, judging, assigning}
use Rattle.pausing.specs.Paths.{Open, Pause, pause_at, within, rounds, play, play_body, play_all, take_up, take_up_body, take_up_all, Child, nowhere, in_sequence, inside_guard, child_in, child_of, child, steps_body, takes_step, at_or_below, leads}
use Rattle.pausing.specs.StretchesPromises.{Does, nothing, tries, own, due}
use Rattle.pausing.proofs.PathsAside.{PostStop}

-- Out of budget

-- no step was made from s, and a stop is by 17
pub record SpentAt (s : State) (e : Stop) : Type 0 where
  pub number : e.number ≡ 17
  pub state : e.state ≡ s

-- a step with none left
spent_step : {A : Type 0} (w : Setting) (at : ℕ) (s : State) (r : Result ℕ A) → s.steps ≡ w.limits.budget → step w at s r ≡ refuse (stop_at at s 17)
unfolding step require refused_as
spent_step w at s r h = rw (eq-eqb s.steps w.limits.budget h)

-- With no steps left a command takes none: it ends where it began, or it is stopped there.
module _ (w : Setting) where
  stops_at_once : {A : Type 0} (P : A → Type 0) (at : ℕ) (s : State) (r : Result ℕ A) → s.steps ≡ w.limits.budget
      → Post P (λ (x : Pause). SpentAt s x.stop) (refused_as (pause_at []) (step w at s r))
  stops_at_once P at s r h = post_refused_as _ _ _ _ (rw (spent_step w at s r h) (post_refuse _ _ _ (record { number = refl; state = refl })))

  -- no round begins
  rounds_spent : (P : State → Type 0) (guard : State → Result Pause Judged) (body : Label → State → Result Pause State) (at n : ℕ) (s : State) → n ≡ 0
      → PostStop P (SpentAt s) (rounds guard body at n s)
  unfolding rounds
  rounds_spent P guard body at n s e = rw e (post_refuse _ _ _ (record { number = refl; state = refl }))

  mutual
    unfolding play play_body play_all

    pub play_spent : (c : Cmd) (branch : Label) (s : State) → s.steps ≡ w.limits.budget → PostStop (λ t. t ≡ s) (SpentAt s) (play w c branch s)
    play_spent (cmd at b) branch s h = body_spent b at branch s h

    body_spent : (b : Body) (at : ℕ) (branch : Label) (s : State) → s.steps ≡ w.limits.budget
        → PostStop (λ t. t ≡ s) (SpentAt s) (play_body w b at branch s)
    body_spent skip at branch s h = post_ok _ _ _ refl
    body_spent (assign x v) at branch s h = post_bind (λ _. ⊥) _ _ _ _ (stops_at_once _ at s _ h) (λ _ n. absurd n)
    body_spent (seq cs) at branch s h = all_spent cs _ branch s h
    body_spent (if g c d) at branch s h = post_bind (λ _. ⊥) _ _ _ _ (stops_at_once _ at s _ h) (λ _ n. absurd n)
    body_spent (while g c) at branch s h = rounds_spent _ _ _ at (w.limits.budget - s.steps) s (omega arith)

    all_spent : (cs : Cmds) (i : ℕ) (branch : Label) (s : State) → s.steps ≡ w.limits.budget
        → PostStop (λ t. t ≡ s) (SpentAt s) (play_all w cs i branch s)
    all_spent nil i branch s h = post_ok _ _ _ refl
    all_spent (cons c cs) i branch s h =
        post_bind _ _ _ _ _ (post_refused_as _ _ _ _ (play_spent c branch s h)) (λ t e. rw e (all_spent cs (i + 1) branch s h))

-- Along a path

-- what a command does next, where it does something
unfoldable pub Doing : (ℕ → Task → Type 0) → Does → Type 0
Doing R nothing = ⊥
Doing R (tries at t) = R at t

-- with no steps left, a command whose own step is next is stopped
pub own_spent : (R : ℕ → Task → Type 0) (w : Setting) (s : State) → s.steps ≡ w.limits.budget → (c : Cmd) (branch : Label) → Doing R (own c branch)
    → PostStop (λ _. ⊥) (SpentAt s) (play w c branch s)
unfolding Doing own play play_body
own_spent R w s h (cmd at skip) branch r = absurd r
own_spent R w s h (cmd at (assign x v)) branch r = post_bind (λ _. ⊥) _ _ _ _ (stops_at_once w _ at s _ h) (λ _ n. absurd n)
own_spent R w s h (cmd at (seq cs)) branch r = absurd r
own_spent R w s h (cmd at (if g c d)) branch r = post_bind (λ _. ⊥) _ _ _ _ (stops_at_once w _ at s _ h) (λ _ n. absurd n)
own_spent R w s h (cmd at (while g c)) branch r = rounds_spent w _ _ _ at (w.limits.budget - s.steps) s (omega arith)

-- a path that leads through its first entry: to a child, whose label it has
unfoldable pub Through : Table → Label → Label → List Open → Child → Type 0
Through t outer label p nowhere = ⊥
Through t outer label p (in_sequence d) = (label ≡ outer) × (leads t d label p ≡ true)
Through t outer label p (inside_guard d) = (at_or_below t label outer ≡ true) × (leads t d label p ≡ true)

-- and what is due there
unfoldable pub due_in : Child → Label → List Open → Does
due_in nowhere label p = nothing
due_in (in_sequence d) label p = due d label p
due_in (inside_guard d) label p = due d label p

pub through : (t : Table) (c : Cmd) (outer : Label) (o : Open) (p : List Open) → leads t c outer (o ∷ p) ≡ true
    → Through t outer o.label p (child c o.child)
unfolding leads Through
through t c outer o p = by_child (child c o.child)
  where
    by_child : (x : Child) → elim x [
      | nowhere ↦ false
      | in_sequence d ↦ eqb o.label outer and leads t d o.label p
      | inside_guard d ↦ at_or_below t o.label outer and leads t d o.label p
    ] ≡ true → Through t outer o.label p x
    by_child nowhere e = absurd (false≢true e)
    by_child (in_sequence d) e = (eqb-true o.label outer (and_l _ _ e), and_r _ _ e)
    by_child (inside_guard d) e = (and_l _ _ e, and_r _ _ e)

due_in_law : (c : Cmd) (branch : Label) (o : Open) (p : List Open) → due c branch (o ∷ p) ≡ due_in (child c o.child) o.label p
unfolding due due_in
due_in_law c branch o p = by_child (child c o.child)
  where
    by_child : (x : Child) → elim x [ nowhere ↦ nothing | in_sequence d ↦ due d o.label p | inside_guard d ↦ due d o.label p ] ≡ due_in x o.label p
    by_child nowhere = refl
    by_child (in_sequence d) = refl
    by_child (inside_guard d) = refl

-- a step that is due
abbrev pub IsDue : Does → Type 0
IsDue x = (at : ℕ) × (task : Task) × (x ≡ tries at task)

-- a command that takes a step has its own due
own_due : (c : Cmd) (branch : Label) → takes_step c ≡ true → IsDue (own c branch)
unfolding takes_step steps_body own
own_due (cmd at skip) branch h = absurd (false≢true h)
own_due (cmd at (assign x v)) branch h = (at, assigning branch x v, refl)
own_due (cmd at (seq cs)) branch h = absurd (false≢true h)
own_due (cmd at (if g c d)) branch h = (at, judging g, refl)
own_due (cmd at (while g c)) branch h = (at, judging g, refl)

in_child : (t : Table) (x : Child) (outer label : Label) (p : List Open) → ((d : Cmd) → leads t d label p ≡ true → IsDue (due d label p))
    → Through t outer label p x → IsDue (due_in x label p)
unfolding Through due_in
in_child t nowhere outer label p go h = absurd h
in_child t (in_sequence d) outer label p go h = go d h.1
in_child t (inside_guard d) outer label p go h = go d h.1

-- a path that leads to a step has one due
pub leads_due : (t : Table) (c : Cmd) (outer : Label) (p : List Open) → leads t c outer p ≡ true → IsDue (due c outer p)
unfolding leads due
leads_due t c outer [] h = own_due c outer h
leads_due t c outer (o ∷ p) h =
    subst IsDue (sym (due_in_law c outer o p))
    (in_child t (child c o.child) outer o.label p (λ d. leads_due t d o.label p) (through t c outer o p h))

-- Taking up along a path that leads to a step comes to that step first (`first`), and to what follows it only from where it ends (`after`).
module _ (w : Setting) (s : State) (P : State → Type 0) (Q : Stop → Type 0) (R : ℕ → Task → Type 0)
    (first : (c : Cmd) (branch : Label) → Doing R (own c branch) → PostStop P Q (play w c branch s))
    (after : (c : Cmd) (branch : Label) (u : State) → P u → PostStop P Q (play w c branch u)) where
  rest : (cs : Cmds) (i : ℕ) (branch : Label) (u : State) → P u → PostStop P Q (play_all w cs i branch u)
  unfolding play_all
  rest nil i branch u q = post_ok _ _ _ q
  rest (cons c cs) i branch u q = post_bind _ _ _ _ _ (post_refused_as _ _ _ _ (after c branch u q)) (λ t r. rest cs (i + 1) branch t r)

  -- that a command is taken up so, along a path
  abbrev TakesUp : Cmd → Label → List Open → Type 0
  TakesUp c branch p = leads w.tables.order c branch p ≡ true → Doing R (due c branch p) → PostStop P Q (take_up w c branch p s)

  in_if : (g : Expr) (c d : Cmd) (k : ℕ) (branch label : Label) (p : List Open) → TakesUp c label p → TakesUp d label p
      → Through w.tables.order branch label p (child_of (if g c d) k) → Doing R (due_in (child_of (if g c d) k) label p)
      → PostStop P Q (choose (eqb k 0)
      (λ t. refused_as (within 0 label) (take_up w c label p t)) (λ t. refused_as (within 1 label) (take_up w d label p t)) s)
  unfolding child_of Through due_in choose
  in_if g c d zero branch label p x y h r = post_refused_as _ _ _ _ (x h.1 r)
  in_if g c d (suc zero) branch label p x y h r = post_refused_as _ _ _ _ (y h.1 r)
  in_if g c d (suc (suc k)) branch label p x y h r = absurd h

  in_while : (g : Expr) (c : Cmd) (at k : ℕ) (branch label : Label) (p : List Open) → TakesUp c label p
      → Through w.tables.order branch label p (child_of (while g c) k) → Doing R (due_in (child_of (while g c) k) label p)
      → PostStop P Q (refused_as (within 0 label) (take_up w c label p s) >>= λ t. play_body w (while g c) at branch t)
  unfolding child_of Through due_in play
  in_while g c at zero branch label p x h r =
      post_bind _ _ _ _ _ (post_refused_as _ _ _ _ (x h.1 r)) (λ t q. after (cmd at (while g c)) branch t q)
  in_while g c at (suc k) branch label p x h r = absurd h

  -- in a sequence the label is the one outside
  in_first : (c : Cmd) (cs : Cmds) (i : ℕ) (branch label : Label) (p : List Open) → TakesUp c branch p
      → Through w.tables.order branch label p (in_sequence c) → Doing R (due_in (in_sequence c) label p)
      → PostStop P Q (refused_as (within i branch) (take_up w c branch p s) >>= λ t. play_all w cs (i + 1) branch t)
  unfolding Through due_in
  in_first c cs i branch label p x h r =
      post_bind _ _ _ _ _ (post_refused_as _ _ _ _ (x (rw h.0 at h.1) (rw h.0 at r))) (λ t q. rest cs (i + 1) branch t q)

  turned : (c : Cmd) (branch : Label) (o : Open) (p : List Open) → Doing R (due c branch (o ∷ p)) → Doing R (due_in (child c o.child) o.label p)
  turned c branch o p r = subst (Doing R) (due_in_law c branch o p) r

  mutual
    unfolding take_up take_up_body take_up_all play due own Doing due_in child child_of child_in

    pub takes_up_law : (c : Cmd) (branch : Label) (p : List Open) → TakesUp c branch p
    takes_up_law (cmd at b) branch p h r = body_takes_up b at branch p h r

    body_takes_up : (b : Body) (at : ℕ) (branch : Label) (p : List Open) → TakesUp (cmd at b) branch p
    body_takes_up skip at branch [] h r = absurd r
    body_takes_up skip at branch (o ∷ p) h r = absurd (turned (cmd at skip) branch o p r)
    body_takes_up (assign x v) at branch [] h r = first (cmd at (assign x v)) branch r
    body_takes_up (assign x v) at branch (o ∷ p) h r = absurd (turned (cmd at (assign x v)) branch o p r)
    body_takes_up (seq cs) at branch [] h r = absurd r
    body_takes_up (seq cs) at branch (o ∷ p) h r =
        all_take_up cs 0 o.child branch o.label p (through w.tables.order (cmd at (seq cs)) branch o p h) (turned (cmd at (seq cs)) branch o p r)
    body_takes_up (if g c d) at branch [] h r = first (cmd at (if g c d)) branch r
    body_takes_up (if g c d) at branch (o ∷ p) h r =
        in_if g c d o.child branch o.label p (λ a b. takes_up_law c o.label p a b) (λ a b. takes_up_law d o.label p a b)
        (through w.tables.order (cmd at (if g c d)) branch o p h) (turned (cmd at (if g c d)) branch o p r)
    body_takes_up (while g c) at branch [] h r = first (cmd at (while g c)) branch r
    body_takes_up (while g c) at branch (o ∷ p) h r =
        in_while g c at o.child branch o.label p (λ a b. takes_up_law c o.label p a b)
        (through w.tables.order (cmd at (while g c)) branch o p h) (turned (cmd at (while g c)) branch o p r)

    all_take_up : (cs : Cmds) (i k : ℕ) (branch label : Label) (p : List Open)
        → Through w.tables.order branch label p (child_in cs k) → Doing R (due_in (child_in cs k) label p)
        → PostStop P Q (take_up_all w cs i k branch p s)
    all_take_up nil i k branch label p h r = absurd r
    all_take_up (cons c cs) i zero branch label p h r = in_first c cs i branch label p (λ a b. takes_up_law c branch p a b) h r
    all_take_up (cons c cs) i (suc k) branch label p h r = all_take_up cs (i + 1) k branch label p h r
