-- Laws of `take_up` (specs/Paths.antt): a journal with room for every write that the budget allows alters nothing; 18 does not arise. Assumes nothing.
use Prim.Native.Nat.{ℕ, zero, suc, ◌+◌, ◌-◌, ◌≤◌, ◌<◌}
use mathlib.Core.Path.{◌≡◌, refl, sym, ap, ◌∙◌}
use mathlib.Core.Bool.{Bool, true, false}
use mathlib.Core.List.{List, [], ◌∷◌}
use native.Mathlib.Omega.{arith}
use lib.Dec.{eqb}
use lib.ListN.{length, length-append}
use borrow.Author.Tests.{lt-ltb, eqb-false}
use Rattle.lattice.specs.Order.{Label, meet, top}
use Rattle.values.specs.Result.{Result, ok, refuse, require, refused_as}
use Rattle.values.proofs.Result.{Post, Refuses}
use Rattle.store.specs.Sheet.{Tables}
use Rattle.syntax.specs.Syntax.{Expr, Cmd, cmd, Body, skip, assign, seq, if, while, Cmds, nil, cons}
use Rattle.syntax.specs.Sheet.{Block}
use Rattle.calculus.specs.Rules.{RuleSet}
use Rattle.calculus.specs.Calculus.{Limits, limits, Setting, Store, State, Stop, Write, Judged, counted, written, entry_of, recorded, performed, stop_at, step, attempt, assignment, judge}
use Rattle.calculus.specs.Blocks.{setting}
use Rattle.pausing.specs.Paths.{Open, Pause, pause_at, within, rounds, play, play_body, play_all, take_up, take_up_body, take_up_all}
use Rattle.pausing.specs.Stretches.{Halted, take_up_blocks}
use Rattle.calculus.proofs.Steps.{choose_both}
use Rattle.calculus.proofs.CalculusLimits.{limited_by, judge_same, assignment_same, judge_not, assignment_not}
use Rattle.pausing.proofs.ResultRelation.{Alike, alike_ok, alike_refuse, alike_as, alike_bind}

-- a state has room for every write that the budget allows
pub record Roomy (l : Limits) (s : State) : Type 0 where
  pub kept : s.steps ≤ l.budget
  pub room : length s.journal + l.budget ≤ l.entries + s.steps

-- two states of one budget that differ in their journals only
pub record Beside (budget entries entries' : ℕ) (s s' : State) : Type 0 where
  pub store : s.store ≡ s'.store
  pub steps : s.steps ≡ s'.steps
  pub left : Roomy (limits budget entries) s
  pub right : Roomy (limits budget entries') s'

-- two stops there: neither for want of an entry
pub record StopsBeside (budget entries entries' : ℕ) (x x' : Stop) : Type 0 where
  pub number : x.number ≡ x'.number
  pub offset : x.offset ≡ x'.offset
  pub state : Beside budget entries entries' x.state x'.state
  pub free : x.number ≡ 18 → ⊥

-- two pauses, and two halts, at one place
pub record PausesBeside (budget entries entries' : ℕ) (x x' : Pause) : Type 0 where
  pub path : x.path ≡ x'.path
  pub stop : StopsBeside budget entries entries' x.stop x'.stop

pub record HaltsBeside (budget entries entries' : ℕ) (h h' : Halted) : Type 0 where
  pub block : h.block ≡ h'.block
  pub pause : PausesBeside budget entries entries' h.pause h'.pause

-- an entry is free where a step is left
attempt_free : (w : Setting) (branch : Label) (s : State) (t v : Expr) → Roomy w.limits s → s.steps < w.limits.budget
    → attempt w branch s t v ≡ assignment w branch s.store t v
unfolding attempt require
attempt_free w branch s t v r h = rw (lt-ltb (length s.journal) w.limits.entries (omega (arith, r.room)))

-- a step takes up no more than its own room
roomy_counted : (l : Limits) (s : State) → Roomy l s → s.steps < l.budget → Roomy l (counted s)
unfolding counted
roomy_counted l s r h = record { kept = omega arith; room = omega (arith, r.room) }

-- an assignment fills one entry
pub performed_entries : (w : Setting) (at : ℕ) (x : Write) (s : State) → length (performed w at x s).journal ≡ length s.journal + 1
unfolding performed recorded counted
performed_entries w at x s = length-append s.journal (entry_of w.block at x s.store ∷ [])

roomy_performed : (l : Limits) (w : Setting) (at : ℕ) (x : Write) (s : State) → Roomy l s → s.steps < l.budget → Roomy l (performed w at x s)
unfolding performed recorded counted
roomy_performed l w at x s r h =
    record { kept = omega arith; room = omega (arith, r.room, performed_entries w at x s) }

-- settings that differ in their journals' lengths only
module _ (w₀ : Setting) (budget entries entries' : ℕ) where
  abbrev w : Setting
  w = limited_by (limits budget entries) w₀

  abbrev w' : Setting
  w' = limited_by (limits budget entries') w₀

  abbrev Two : State → State → Type 0
  Two = Beside budget entries entries'

  abbrev TwoPauses : Pause → Pause → Type 0
  TwoPauses = PausesBeside budget entries entries'

  -- a step on both sides
  two_counted : (s s' : State) → Two s s' → s.steps < budget → Two (counted s) (counted s')
  unfolding counted
  two_counted s s' b h =
      record {
        store = b.store;
        steps = ap (λ (n : ℕ). n + 1) b.steps;
        left = roomy_counted _ s b.left h;
        right = roomy_counted _ s' b.right (rw b.steps at h);
      }

  two_performed : (at : ℕ) (x : Write) (s s' : State) → Two s s' → s.steps < budget → Two (performed w at x s) (performed w' at x s')
  unfolding performed recorded counted
  two_performed at x s s' b h =
      record {
        store = ap (written x) b.store;
        steps = ap (λ (n : ℕ). n + 1) b.steps;
        left = roomy_performed _ w at x s b.left h;
        right = roomy_performed _ w' at x s' b.right (rw b.steps at h);
      }

  -- two steps that are judged alike
  two_step : {A : Type 0} (at : ℕ) (s s' : State) → Two s s' → (r r' : Result ℕ A) → (s.steps < budget → (r ≡ r') × Refuses (λ n. n ≡ 18 → ⊥) r)
      → Alike (λ a b. (a ≡ b) × (s.steps < budget)) TwoPauses (refused_as (pause_at []) (step w at s r)) (refused_as (pause_at []) (step w' at s' r'))
  unfolding step require refused_as Alike Post
  two_step {A} at s s' b r r' h = go (eqb s.steps budget) refl (ap (λ (n : ℕ). eqb n budget) (sym b.steps))
    where
      same : (r r' : Result ℕ A) → r ≡ r' → Refuses (λ n. n ≡ 18 → ⊥) r → s.steps < budget
          → Alike (λ a b. (a ≡ b) × (s.steps < budget)) TwoPauses
          (refused_as (pause_at []) (refused_as (stop_at at s) r)) (refused_as (pause_at []) (refused_as (stop_at at s') r'))
      same (ok a) r' e n l = rw (← e) (refl, l)
      same (refuse x) r' e n l = rw (← e) (record { path = refl; stop = record { number = refl; offset = refl; state = b; free = n } })

      go : (c : Bool) → eqb s.steps budget ≡ c → eqb s'.steps budget ≡ c
          → Alike (λ a b. (a ≡ b) × (s.steps < budget)) TwoPauses (refused_as (pause_at []) (step w at s r)) (refused_as (pause_at []) (step w' at s' r'))
      go true q q' = rw (q, q') (record { path = refl; stop = record { number = refl; offset = refl; state = b; free = λ e. omega arith } })
      go false q q' =
          let l : s.steps < budget = omega (arith, eqb-false s.steps budget q, b.left.kept) in
          rw (q, q') (same r r' (h l).0 (h l).1 l)

  -- guards and assignments, tried on both sides
  two_guard : (at : ℕ) (s s' : State) → Two s s' → (g : Expr)
      → Alike (λ (j k : Judged). (j ≡ k) × (s.steps < budget)) TwoPauses
      (refused_as (pause_at []) (step w at s (judge w s.store g))) (refused_as (pause_at []) (step w' at s' (judge w' s'.store g)))
  two_guard at s s' b g =
      two_step at s s' b _ _ λ _.
      (judge_same _ w₀ s.store g ∙ ap (λ (x : Store). judge w₀ x g) b.store ∙ sym (judge_same _ w₀ s'.store g), judge_not w 18 (omega arith) s.store g)

  two_attempt : (at : ℕ) (branch : Label) (s s' : State) → Two s s' → (t v : Expr)
      → Alike (λ (x y : Write). (x ≡ y) × (s.steps < budget)) TwoPauses
      (refused_as (pause_at []) (step w at s (attempt w branch s t v))) (refused_as (pause_at []) (step w' at s' (attempt w' branch s' t v)))
  two_attempt at branch s s' b t v =
      two_step at s s' b _ _ λ h.
      let e = attempt_free w branch s t v b.left h in (
        e ∙ assignment_same _ w₀ branch s.store t v ∙ ap (λ (x : Store). assignment w₀ branch x t v) b.store
            ∙ sym (assignment_same _ w₀ branch s'.store t v) ∙ sym (attempt_free w' branch s' t v b.right (rw b.steps at h)),
        rw e (assignment_not w 18 (omega arith) branch s.store t v),
      )

  abbrev Twice : Result Pause State → Result Pause State → Type 0
  Twice = Alike Two TwoPauses

  -- an entry more
  two_within : (i : ℕ) (l : Label) (r r' : Result Pause State) → Twice r r' → Twice (refused_as (within i l) r) (refused_as (within i l) r')
  two_within i l r r' p =
      alike_as Two TwoPauses TwoPauses _ _
      (λ x y q. record { path = ap (λ (p : List Open). record { child = i; label = l } ∷ p) q.path; stop = q.stop }) r r' p

  -- the rounds of two whiles, with the same fuel
  two_rounds : (g : Expr) (c : Cmd) (at : ℕ) (branch : Label)
      → ((l : Label) (s s' : State) → Two s s' → Twice (play w c l s) (play w' c l s'))
      → (n : ℕ) (s s' : State) → Two s s'
      → Twice
      (rounds (λ t. refused_as (pause_at []) (step w at t (judge w t.store g)))
      (λ l t. refused_as (within 0 (meet w₀.tables.order branch l)) (play w c (meet w₀.tables.order branch l) t)) at n s)
      (rounds (λ t. refused_as (pause_at []) (step w' at t (judge w' t.store g)))
      (λ l t. refused_as (within 0 (meet w₀.tables.order branch l)) (play w' c (meet w₀.tables.order branch l) t)) at n s')
  unfolding rounds
  two_rounds g c at branch body zero s s' b =
      alike_refuse _ _ _ _ (record { path = refl; stop = record { number = refl; offset = refl; state = b; free = λ e. omega arith } })
  two_rounds g c at branch body (suc n) s s' b =
      alike_bind _ _ _ _ _ _ _ (two_guard at s s' b g) λ j j' q.
      let z = two_counted s s' b q.1 in
      rw (← q.0) (
      choose_both Twice j.passes _ _ _ _ _ _
      (alike_bind Two Two TwoPauses _ _ _ _ (two_within 0 _ _ _ (body _ (counted s) (counted s') z)) (λ t t' y. two_rounds g c at branch body n t t' y))
      (alike_ok Two _ _ _ z))

  mutual
    unfolding play play_body play_all

    two_plays : (c : Cmd) (branch : Label) (s s' : State) → Two s s' → Twice (play w c branch s) (play w' c branch s')
    two_plays (cmd at b) branch s s' z = two_bodies b at branch s s' z

    two_bodies : (b : Body) (at : ℕ) (branch : Label) (s s' : State) → Two s s' → Twice (play_body w b at branch s) (play_body w' b at branch s')
    two_bodies skip at branch s s' z = alike_ok Two _ _ _ z
    two_bodies (assign t v) at branch s s' z =
        alike_bind _ _ _ _ _ _ _ (two_attempt at branch s s' z t v) λ x x' q. rw (← q.0) (alike_ok Two _ _ _ (two_performed at x s s' z q.1))
    two_bodies (seq cs) at branch s s' z = two_all cs _ branch s s' z
    two_bodies (if g c d) at branch s s' z =
        alike_bind _ _ _ _ _ _ _ (two_guard at s s' z g) λ j j' q.
        let y = two_counted s s' z q.1 in
        rw (← q.0) (
        choose_both Twice j.passes _ _ _ _ _ _
        (two_within 0 _ _ _ (two_plays c _ (counted s) (counted s') y)) (two_within 1 _ _ _ (two_plays d _ (counted s) (counted s') y)))
    two_bodies (while g c) at branch s s' z =
        let e : budget - s'.steps ≡ budget - s.steps = rw z.steps in
        rw e (two_rounds g c at branch (λ l t t' y. two_plays c l t t' y) (budget - s.steps) s s' z)

    two_all : (cs : Cmds) (i : ℕ) (branch : Label) (s s' : State) → Two s s' → Twice (play_all w cs i branch s) (play_all w' cs i branch s')
    two_all nil i branch s s' z = alike_ok Two _ _ _ z
    two_all (cons c cs) i branch s s' z =
        alike_bind Two Two TwoPauses _ _ _ _ (two_within i branch _ _ (two_plays c branch s s' z)) (λ t t' y. two_all cs (i + 1) branch t t' y)

  mutual
    unfolding take_up take_up_body take_up_all

    -- a command taken up: its end or its stop is the same but for the journal
    pub two_takes : (c : Cmd) (branch : Label) (p : List Open) (s s' : State) → Two s s' → Twice (take_up w c branch p s) (take_up w' c branch p s')
    two_takes (cmd at b) branch p s s' z = two_taken b at branch p s s' z

    two_taken : (b : Body) (at : ℕ) (branch : Label) (p : List Open) (s s' : State) → Two s s'
        → Twice (take_up_body w b at branch p s) (take_up_body w' b at branch p s')
    two_taken skip at branch p s s' z = two_bodies skip at branch s s' z
    two_taken (assign t v) at branch p s s' z = two_bodies (assign t v) at branch s s' z
    two_taken (seq cs) at branch [] s s' z = two_bodies (seq cs) at branch s s' z
    two_taken (seq cs) at branch (o ∷ p) s s' z = two_take_all cs 0 o.child branch p s s' z
    two_taken (if g c d) at branch [] s s' z = two_bodies (if g c d) at branch s s' z
    two_taken (if g c d) at branch (o ∷ p) s s' z =
        choose_both Twice (eqb o.child 0) _ _ _ _ _ _
        (two_within 0 _ _ _ (two_takes c o.label p s s' z)) (two_within 1 _ _ _ (two_takes d o.label p s s' z))
    two_taken (while g c) at branch [] s s' z = two_bodies (while g c) at branch s s' z
    two_taken (while g c) at branch (o ∷ p) s s' z =
        alike_bind Two Two TwoPauses _ _ _ _ (two_within 0 _ _ _ (two_takes c _ p s s' z)) (λ t t' y. two_bodies (while g c) at branch t t' y)

    two_take_all : (cs : Cmds) (i k : ℕ) (branch : Label) (p : List Open) (s s' : State) → Two s s'
        → Twice (take_up_all w cs i k branch p s) (take_up_all w' cs i k branch p s')
    two_take_all nil i k branch p s s' z = alike_ok Two _ _ _ z
    two_take_all (cons c cs) i zero branch p s s' z =
        alike_bind Two Two TwoPauses _ _ _ _ (two_within i branch _ _ (two_takes c branch p s s' z)) (λ t t' y. two_all cs (i + 1) branch t t' y)
    two_take_all (cons c cs) i (suc k) branch p s s' z = two_take_all cs (i + 1) k branch p s s' z

-- the blocks of a programme, the first of them taken up along a path
pub two_blocks : (t : Tables) (rules : RuleSet) (budget entries entries' : ℕ) (i : ℕ) (bs : List Block) (p : List Open) (s s' : State)
    → Beside budget entries entries' s s'
    → Alike (Beside budget entries entries') (HaltsBeside budget entries entries')
    (take_up_blocks t rules (limits budget entries) i bs p s) (take_up_blocks t rules (limits budget entries') i bs p s')
unfolding take_up_blocks
two_blocks t rules budget entries entries' i [] p s s' z = alike_ok _ _ _ _ z
two_blocks t rules budget entries entries' i (b ∷ bs) p s s' z =
    alike_bind (Beside budget entries entries') _ _ _ _ _ _
    (alike_as _ (PausesBeside budget entries entries') _ _ _ (λ x y q. record { block = refl; pause = q }) _ _
    (two_takes (setting t rules (limits budget entries) i b) budget entries entries' b.command (top t.order) p s s' z))
    (λ u u' y. two_blocks t rules budget entries entries' (i + 1) bs [] u u' y)
