-- Laws of `answer` (specs/Stretches.antt): a stretch is refused by 1 to 12, or by 19; one that answers 17 is paused. Assumes nothing.
use Prim.Native.Nat.{ℕ, ◌≤◌}
use mathlib.Core.Path.{◌≡◌, refl, sym, ap, subst, ◌∙◌}
use mathlib.Core.Bool.{Bool, true, false}
use mathlib.Core.List.{List, []}
use native.Mathlib.Omega.{arith}
use lib.ListN.{length, drop}
use lib.Dec.{eqb}
use borrow.Author.Tests.{leb-true, eqb-true, eqb-false}
use Rattle.values.specs.declared.Answer.{Answer}
use Rattle.values.specs.Result.{Result, ok, refuse, ◌>>=◌, require, refused_as, unplaced}
use Rattle.values.proofs.Result.{Post, Refuses, post_self, post_ok, post_refuse, post_map, post_both, post_refused_as, one_value, refuses_ok, refuses_require, refuses_bind}
use Rattle.values.proofs.ResultInTurn.{require_ok}
use Rattle.store.specs.Sheet.{Opening, store_form, slot_checked, body_checked, sheet_checked, store_sheet}
use Rattle.store.proofs.SheetOpening.{post_in_turn}
use Rattle.syntax.specs.Sheet.{Block, programme_sheet}
use Rattle.syntax.proofs.SheetRefusals.{programme_numbered}
use Rattle.calculus.specs.Rules.{RuleSet, rules_of}
use Rattle.calculus.specs.Calculus.{State}
use Rattle.calculus.specs.Blocks.{halt_answer, most_budget}
use Rattle.pausing.specs.Stretches.{Position, standing, steps_in, block_in, path_in, store_in, checkpoint_good, From, opening, checkpoint, Stretch, Halted, take_up_blocks, Ended, finished, paused, settled, end_of, limits_at, run_from, fitting, position_of, stretch_opened, stretch_under, run_stretch, answer_of, answer}
use Rattle.calculus.proofs.Rules.{rules_refuse}
use Rattle.pausing.proofs.StretchesSettled.{halted_at, settled_17, settled_else, settled_answer}

-- Before a run

-- an answer is what it is, and its refusal is known by its number
known : {E A : Type 0} (Q Q' : E → Type 0) (r : Result E A) → Refuses Q r → ((e : E) → Q e → Q' e) → Post (λ a. r ≡ ok a) Q' r
known Q Q' r h f = post_map _ _ _ _ _ (post_both _ _ _ _ _ (post_self r) h) (λ a q. q.0) (λ e q. f e q.1)

-- store sheets are refused by 1 to 5
abbrev UpTo5 : ℕ → Type 0
UpTo5 e = (1 ≤ e) × (e ≤ 5)

slot_numbered : (s : List ℕ) (i : ℕ) → Post (λ _. Unit {0}) UpTo5 (slot_checked store_form s i)
unfolding slot_checked
slot_numbered s i = refuses_require _ _ _ _ (omega arith) (refuses_require _ _ _ _ (omega arith) (refuses_ok _ _))

store_numbered : (s : List ℕ) → Refuses UpTo5 (store_sheet s)
unfolding store_sheet sheet_checked body_checked
store_numbered s =
    refuses_bind _ _ _
    (refuses_require _ _ _ _ (omega arith) (
    refuses_require _ _ _ _ (omega arith) (
    refuses_require _ _ _ _ (omega arith) (
    refuses_require _ _ _ _ (omega arith) (
    post_map _ _ _ _ _ (post_in_turn (λ _. Unit {0}) UpTo5 _ _ (λ i _. slot_numbered s i)) (λ _ _. tt) (λ _ q. q))))))
    (λ _. refuses_ok _ _)

-- a position is refused by 19
pub position_numbered : (o : Opening) (blocks : List Block) (from : From) → Refuses (λ (a : Answer). a.number ≡ 19) (position_of o blocks from)
unfolding position_of unplaced
position_numbered o blocks opening = refuses_ok _ _
position_numbered o blocks (checkpoint out sheet) = refuses_require _ _ _ _ refl (refuses_ok _ _)

-- the position that a checkpoint holds
abbrev pub place_in : ℕ → List ℕ → List ℕ → Position
place_in m out sheet = standing (block_in sheet) (path_in sheet) (record { store = store_in m out; steps = steps_in sheet; journal = [] })

-- one that is taken in is good, and the run goes on from there
pub taken_up : (o : Opening) (blocks : List Block) (out sheet : List ℕ) (x : Position) → position_of o blocks (checkpoint out sheet) ≡ ok x
    → (checkpoint_good o.tables blocks out sheet ≡ true) × (place_in o.tables.slots out sheet ≡ x)
unfolding position_of
taken_up o blocks out sheet x e = let z = require_ok _ _ _ x e in (z.0, one_value _ _ x refl z.1)

-- what holds of a test and what follows it, and of an answer and what follows it
require_by : {E A : Type 0} (R : Result E A → Type 0) (b : Bool) (e : E) (r : Result E A) → (b ≡ true → R r) → R (refuse e) → R (require b e r)
unfolding require
require_by R true e r h q = h refl
require_by R false e r h q = q

bind_by : {E A B : Type 0} (R : Result E B → Type 0) (r : Result E A) (k : A → Result E B) → Post (λ a. R (k a)) (λ e. R (refuse e)) r → R (r >>= k)
unfolding Post ◌>>=◌
bind_by R (ok a) k h = h
bind_by R (refuse e) k h = h

-- What holds of a stretch: of refusals by 1 to 12 and by 19, and of what is run from a position that is good
pub stretch_by : (from : From) (c : Stretch) (R : Result Answer Ended → Type 0)
    → ((a : Answer) → 1 ≤ a.number → a.number ≤ 12 → R (refuse a)) → ((a : Answer) → a.number ≡ 19 → R (refuse a))
    → ((rules : RuleSet) (o : Opening) (blocks : List Block) (x : Position) → rules_of c.rule ≡ ok rules → c.budget ≤ most_budget
    → store_sheet c.store ≡ ok o → programme_sheet o.tables.order.n o.tables.slots c.programme ≡ ok blocks
    → fitting o.tables.slots from c ≡ true → position_of o blocks from ≡ ok x → R (run_from rules c.budget o blocks x))
    → R (run_stretch from c)
unfolding run_stretch stretch_under stretch_opened unplaced
stretch_by from c R few no_place run =
    bind_by R _ _ (post_map _ _ _ _ _
    (post_refused_as _ _ _ _ (known (λ e. e ≡ 11) _ (rules_of c.rule) (rules_refuse _ c.rule refl) (λ e q. few (unplaced e) (omega arith) (omega arith)))) (λ rules ruled.
    require_by R _ _ _
    (λ modest. bind_by R _ _ (post_map (λ o. store_sheet c.store ≡ ok o) _ _ _ _
    (post_refused_as _ _ _ _ (known _ _ (store_sheet c.store) (store_numbered c.store) (λ e q. few (unplaced e) q.0 (omega (arith, q.1))))) (λ o opens.
    bind_by R _ _ (post_map _ _ _ _ _
    (known _ _ _ (programme_numbered o.tables.order.n o.tables.slots c.programme) (λ a q. few a (omega (arith, q.0)) (omega (arith, q.1)))) (λ blocks taken.
    require_by R _ _ _
    (λ fits. bind_by R _ _ (post_map _ _ _ _ _ (known _ _ _ (position_numbered o blocks from) no_place) (λ x good.
    run rules o blocks x ruled (leb-true c.budget most_budget modest) opens taken fits good) (λ _ q. q)))
    (few (unplaced 12) (omega arith) (omega arith))) (λ _ q. q))) (λ _ q. q)))
    (few (unplaced 11) (omega arith) (omega arith))) (λ _ q. q))

-- the number that a run answers: 0 where it ends, and where it is stopped the stop's
pub ends_by : (Q : ℕ → Type 0) (k m : ℕ) (r : Result Halted State) → Q 0 → Refuses (λ (h : Halted). Q h.pause.stop.number) r
    → Q (answer_of (end_of k m r)).number
unfolding end_of answer_of halt_answer Post
ends_by Q k m (ok s) z h = z
ends_by Q k m (refuse h) z q = subst Q (sym (ap (λ (a : Answer). a.number) (settled_answer m h))) q

-- A stretch that is paused

-- A stretch that is paused: its sheets were taken in, and from the position that it went on from it was stopped by 17
pub record Pauses (from : From) (c : Stretch) : Type 0 where
  pub rules : RuleSet
  pub start : Opening
  pub blocks : List Block
  pub place : Position
  pub halt : Halted
  pub ruled : rules_of c.rule ≡ ok rules
  pub modest : c.budget ≤ most_budget
  pub opens : store_sheet c.store ≡ ok start
  pub taken : programme_sheet start.tables.order.n start.tables.slots c.programme ≡ ok blocks
  pub fits : fitting start.tables.slots from c ≡ true
  pub good : position_of start blocks from ≡ ok place
  pub stops : take_up_blocks start.tables rules (limits_at c.budget place) place.block (drop place.block blocks) place.path place.state
      ≡ refuse halt
  pub spent : halt.pause.stop.number ≡ 17

-- what it ends with
abbrev pub paused_by : {from : From} {c : Stretch} → Pauses from c → Ended
paused_by p = paused p.start.tables.slots p.halt.pause.stop.offset (halted_at p.halt)

module _ (from : From) (c : Stretch) where
  -- an end is a pause only where the stretch is paused
  unfoldable EndsAs : Ended → Type 0
  EndsAs (finished k m s) = Unit {0}
  EndsAs (paused m at x) = (p : Pauses from c) × (paused m at x ≡ paused_by p)

  abbrev Not17 : Answer → Type 0
  Not17 a = a.number ≡ 17 → ⊥

  settles : (m : ℕ) (h : Halted)
      → (h.pause.stop.number ≡ 17 → EndsAs (paused m h.pause.stop.offset (halted_at h))) → Post EndsAs Not17 (settled m h)
  unfolding halt_answer
  settles m h f = go (eqb h.pause.stop.number 17) refl
    where
      go : (t : Bool) → eqb h.pause.stop.number 17 ≡ t → Post EndsAs Not17 (settled m h)
      go true q = let e = eqb-true h.pause.stop.number 17 q in rw (settled_17 m h e) (post_ok _ _ _ (f e))
      go false q = let e = eqb-false h.pause.stop.number 17 q in rw (settled_else m h e) (post_refuse _ _ _ e)

  ends : (k m : ℕ) (r : Result Halted State)
      → ((h : Halted) → r ≡ refuse h → h.pause.stop.number ≡ 17 → EndsAs (paused m h.pause.stop.offset (halted_at h)))
      → Post EndsAs Not17 (end_of k m r)
  unfolding end_of EndsAs
  ends k m (ok s) f = post_ok _ _ _ tt
  ends k m (refuse h) f = settles m h (f h refl)

  ran : Post EndsAs Not17 (run_stretch from c)
  unfolding run_from EndsAs
  ran =
      stretch_by from c (Post EndsAs Not17) (λ a l h. post_refuse _ _ _ (λ e. omega arith)) (λ a h. post_refuse _ _ _ (λ e. omega arith))
      λ rules o blocks x ruled modest opens taken fits good.
      ends (length blocks) o.tables.slots _
      (λ h stops spent. (
        record {
          rules = rules;
          start = o;
          blocks = blocks;
          place = x;
          halt = h;
          ruled = ruled;
          modest = modest;
          opens = opens;
          taken = taken;
          fits = fits;
          good = good;
          stops = stops;
          spent = spent;
        },
        refl,
      ))

-- the answer of a stretch is 17 only where it is paused
pub stretch_pauses : (from : From) (c : Stretch) → (answer from c).number ≡ 17 → (p : Pauses from c) × (run_stretch from c ≡ ok (paused_by p))
unfolding answer_of Post EndsAs
stretch_pauses from c e = go (run_stretch from c) (ran from c) e refl
  where
    go : (r : Result Answer Ended) → Post (EndsAs from c) (Not17 from c) r → (answer_of r).number ≡ 17 → run_stretch from c ≡ r
        → (p : Pauses from c) × (run_stretch from c ≡ ok (paused_by p))
    go (ok (finished k m s)) h z q = absurd (omega arith)
    go (ok (paused m at x)) h z q = (h.0, q ∙ ap ok h.1)
    go (refuse a) h z q = absurd (h z)

-- where the sheets are taken in and the position is good, the answer is not 19
module _ (from : From) (c : Stretch) (o : Opening) (blocks : List Block) (x : Position) (opens : store_sheet c.store ≡ ok o)
    (taken : programme_sheet o.tables.order.n o.tables.slots c.programme ≡ ok blocks) (good : position_of o blocks from ≡ ok x)
    (stops : (rules : RuleSet) → c.budget ≤ most_budget → Refuses (λ (h : Halted). h.pause.stop.number ≤ 18)
    (take_up_blocks o.tables rules (limits_at c.budget x) x.block (drop x.block blocks) x.path x.state)) where
  abbrev Not19 : Result Answer Ended → Type 0
  Not19 r = (answer_of r).number ≡ 19 → ⊥

  pub not_19 : (answer from c).number ≡ 19 → ⊥
  unfolding run_stretch stretch_under stretch_opened run_from answer_of unplaced ◌>>=◌ refused_as
  not_19 =
      bind_by Not19 _ _ (post_refused_as _ _ _ _ (post_map _ _ _ _ _ (rules_refuse (λ e. e ≡ 11) c.rule refl) (λ rules _.
      require_by Not19 _ _ _
      (λ modest. rw opens (rw taken (require_by Not19 _ _ _
      (λ _. rw good (ends_by (λ n. n ≡ 19 → ⊥) (length blocks) o.tables.slots _ (λ z. omega arith)
      (post_map _ _ _ _ _ (stops rules (leb-true c.budget most_budget modest)) (λ _ q. q) (λ h l z. omega arith))))
      (λ z. omega arith)))) (λ z. omega arith)) (λ e q z. omega arith)))
