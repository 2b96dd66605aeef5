-- Proves `rule_of_next`: the step that is next where a stretch goes on is judged by the rule of that stretch. Assumes nothing.
use Prim.Native.Nat.{ℕ, ◌+◌, ◌<◌}
use mathlib.Core.Path.{◌≡◌, refl, ap, subst, ◌∙◌}
use mathlib.Core.Bool.{true}
use mathlib.Core.List.{List, [], ◌∷◌}
use native.Mathlib.Omega.{arith}
use lib.ListN.{length, drop}
use borrow.Author.Tests.{le-leb}
use Rattle.lattice.specs.Order.{top}
use Rattle.lattice.proofs.Tests.{and_l, and_r}
use Rattle.values.specs.declared.Answer.{Answer}
use Rattle.values.specs.Result.{Result, ok, refuse, ◌>>=◌, require, refused_as, says}
use Rattle.values.proofs.Result.{Post, post_ok, post_map, post_refused_as, post_bind}
use Rattle.store.specs.Sheet.{Tables, slots_bytes}
use Rattle.syntax.specs.Sheet.{Block}
use Rattle.calculus.specs.Rules.{RuleSet}
use Rattle.calculus.specs.Calculus.{Limits, Setting, State, Stop, stop_at}
use Rattle.calculus.specs.Tasks.{Task}
use Rattle.exactness.specs.StepByStep.{outcome}
use Rattle.calculus.specs.Blocks.{halt_in, halt_answer, setting, most_budget}
use Rattle.pausing.specs.Paths.{Open, take_up, leads}
use Rattle.pausing.specs.Stretches.{Position, From, checkpoint, Stretch, block_in, path_in, path_good, checkpoint_good, Halted, take_up_blocks, Ended, end_of, limits_at, run_from, fitting, stretch_opened, stretch_under, run_stretch, answer_of, output_of, answer, output}
use Rattle.pausing.specs.StretchesPromises.{due, tries, GoesFrom, judged, with_budget, RuleOfNext}
use Rattle.pausing.proofs.PathsAside.{PostStop}
use Rattle.pausing.proofs.PathsAsideBlocks.{take_up_none}
use Rattle.pausing.proofs.StretchesSettled.{settled_17, settled_answer}
use Rattle.pausing.proofs.StretchesAnswers.{taken_up}
use Rattle.pausing.proofs.PathsNextStep.{SpentAt, play_spent, Doing, leads_due, takes_up_law}
use Rattle.pausing.proofs.RuleOfNextOwnStep.{own_forbidden, own_made, outcome_same, outcome_counts}

-- Blocks

-- with no steps left blocks take none
blocks_spent : (w : Tables) (rules : RuleSet) (l : Limits) (i : ℕ) (bs : List Block) (s : State) → s.steps ≡ l.budget
    → Post (λ t. t ≡ s) (λ (h : Halted). SpentAt s h.pause.stop) (take_up_blocks w rules l i bs [] s)
unfolding take_up_blocks
blocks_spent w rules l i [] s h = post_ok _ _ _ refl
blocks_spent w rules l i (b ∷ bs) s h =
    let x : PostStop (λ t. t ≡ s) (SpentAt s) (take_up (setting w rules l i b) b.command (top w.order) [] s) =
    rw (take_up_none (setting w rules l i b) b.command (top w.order) s) (play_spent (setting w rules l i b) b.command (top w.order) s h) in
    post_bind _ _ _ _ _ (post_refused_as _ _ _ _ x) (λ t e. rw e (blocks_spent w rules l (i + 1) bs s h))

-- The first of some blocks is taken up along a path that leads to a step.
module _ (w : Tables) (rules : RuleSet) (l : Limits) (i : ℕ) (b : Block) (bs : List Block) (p : List Open) (s : State)
    (led : leads w.order b.command (top w.order) p ≡ true) (offset : ℕ) (task : Task)
    (is : due b.command (top w.order) p ≡ tries offset task) (left : s.steps < l.budget) where
  abbrev under : Setting
  under = setting w rules l i b

  blocks_forbidden : (number : ℕ) → outcome under offset s task ≡ refuse number
      → Post (λ _. ⊥) (λ (h : Halted). (h.block ≡ i) × (h.pause.stop ≡ stop_at offset s number)) (take_up_blocks w rules l i (b ∷ bs) p s)
  unfolding take_up_blocks Doing
  blocks_forbidden number e =
      post_bind (λ _. ⊥) _ _ _ _
      (post_refused_as _ _ _ _
      (post_map _ _ _ _ _
      (takes_up_law under s _ _ _ (own_forbidden under s left offset number) (λ _ _ _ n. absurd n) b.command (top w.order) p led (rw is (refl, e)))
      (λ _ n. n) (λ x q. (refl, q))))
      (λ _ n. absurd n)

  blocks_made : (u : State) → s.steps + 1 ≡ l.budget → u.steps ≡ l.budget → outcome under offset s task ≡ ok u
      → Post (λ t. t ≡ u) (λ (h : Halted). SpentAt u h.pause.stop) (take_up_blocks w rules l i (b ∷ bs) p s)
  unfolding take_up_blocks Doing
  blocks_made u last counted e =
      post_bind _ _ _ _ _
      (post_refused_as _ _ _ _
      (takes_up_law under s _ _ _ (own_made under s left last u) (λ c branch v q. rw q (play_spent under c branch u counted)) b.command (top w.order) p led (rw is e)))
      (λ t q. rw q (blocks_spent w rules l (i + 1) bs u counted))

-- Ends

-- a run that is stopped answers where it is stopped
answer_forbidden : (blocks slots i offset number : ℕ) (s : State) (r : Result Halted State)
    → Post (λ _. ⊥) (λ (h : Halted). (h.block ≡ i) × (h.pause.stop ≡ stop_at offset s number)) r
    → answer_of (end_of blocks slots r) ≡ says number i offset s.steps
unfolding Post end_of halt_answer
answer_forbidden blocks slots i offset number s (ok t) h = absurd h
answer_forbidden blocks slots i offset number s (refuse x) h =
    settled_answer slots x ∙ ap (λ (j : ℕ). halt_answer (halt_in j x.pause.stop)) h.0 ∙ ap (λ (e : Stop). halt_answer (halt_in i e)) h.1

-- a run out of budget has paused
ends_made : (blocks slots : ℕ) (u : State) (r : Result Halted State) → Post (λ t. t ≡ u) (λ (h : Halted). SpentAt u h.pause.stop) r
    → ((answer_of (end_of blocks slots r)).steps ≡ u.steps) × ((old : List ℕ) → output_of (end_of blocks slots r) old ≡ slots_bytes u.store 0 slots)
unfolding Post end_of answer_of output_of
ends_made blocks slots u (ok t) h = rw h (refl, λ old. refl)
ends_made blocks slots u (refuse x) h = rw (settled_17 slots x h.number) (ap (λ (t : State). t.steps) h.state, λ old. ap (λ (t : State). slots_bytes t.store 0 slots) h.state)

-- Stretches

-- what a stretch comes to where it goes on
goes : (from : From) (c : Stretch) (g : GoesFrom from c) → run_stretch from c ≡ run_from g.rules c.budget g.start g.blocks g.place
unfolding run_stretch stretch_under stretch_opened require refused_as ◌>>=◌
goes from c g = rw (g.ruled, le-leb c.budget most_budget g.modest, g.opens, g.taken, g.fits, g.good) refl

-- a checkpoint that is good leads to a step of the block that is next
path_leads : (w : Tables) (bs : List Block) (b : Block) (rest : List Block) (sheet : List ℕ) → path_good w bs sheet ≡ true → bs ≡ b ∷ rest
    → leads w.order b.command (top w.order) (path_in sheet) ≡ true
unfolding path_good
path_leads w bs b rest sheet h e = rw e at h

module _ (out sheet : List ℕ) (c : Stretch) (g : GoesFrom (checkpoint out sheet) c) where
  leads_there : leads g.start.tables.order g.block.command (top g.start.tables.order) g.place.path ≡ true
  unfolding checkpoint_good
  leads_there =
      let q = taken_up g.start g.blocks out sheet g.place g.good in
      let at_block : block_in sheet ≡ g.place.block = ap (λ (x : Position). x.block) q.1 in
      let along : path_in sheet ≡ g.place.path = ap (λ (x : Position). x.path) q.1 in
      subst (λ (p : List Open). leads g.start.tables.order g.block.command (top g.start.tables.order) p ≡ true) along
      (path_leads g.start.tables (drop (block_in sheet) g.blocks) g.block g.rest sheet (and_r _ _ (and_l _ _ q.0))
      (ap (λ (i : ℕ). drop i g.blocks) at_block ∙ g.next))

  module _ (offset : ℕ) (task : Task) (is : due g.block.command (top g.start.tables.order) g.place.path ≡ tries offset task)
      (left : g.place.state.steps < c.budget) where
    forbids : (n : ℕ) → judged g offset task ≡ refuse n → answer (checkpoint out sheet) c ≡ says n g.place.block offset g.place.state.steps
    unfolding run_from limits_at
    forbids n e =
        ap answer_of (goes (checkpoint out sheet) c g)
        ∙ answer_forbidden (length g.blocks) g.start.tables.slots g.place.block offset n g.place.state _
        (rw g.next (
        blocks_forbidden g.start.tables g.rules (limits_at c.budget g.place) g.place.block g.block g.rest g.place.path g.place.state
        leads_there offset task is (omega arith) n e))

    -- the same stretch with a budget of one step more
    abbrev more : ℕ
    more = g.place.state.steps + 1

    fits_still : fitting g.start.tables.slots (checkpoint out sheet) (with_budget more c) ≡ true
    unfolding fitting
    fits_still = g.fits

    abbrev once : GoesFrom (checkpoint out sheet) (with_budget more c)
    once =
        record {
          rules = g.rules;
          start = g.start;
          blocks = g.blocks;
          place = g.place;
          block = g.block;
          rest = g.rest;
          ruled = g.ruled;
          modest = omega (arith, g.modest);
          opens = g.opens;
          taken = g.taken;
          fits = fits_still;
          good = g.good;
          next = g.next;
        }

    makes : (u : State) → judged g offset task ≡ ok u
        → ((answer (checkpoint out sheet) (with_budget more c)).steps ≡ u.steps)
        × ((old : List ℕ) → output (checkpoint out sheet) (with_budget more c) old ≡ slots_bytes u.store 0 g.start.tables.slots)
    unfolding run_from limits_at
    makes u e =
        let l = limits_at more g.place in
        let w = setting g.start.tables g.rules (limits_at c.budget g.place) g.place.block g.block in
        let e' : outcome (setting g.start.tables g.rules l g.place.block g.block) offset g.place.state task ≡ ok u =
        outcome_same l w refl offset g.place.state task ∙ e in
        let n = outcome_counts w offset g.place.state task u e in
        let x =
        ends_made (length g.blocks) g.start.tables.slots u
        (take_up_blocks g.start.tables g.rules l g.place.block (drop g.place.block g.blocks) g.place.path g.place.state)
        (rw g.next (
        blocks_made g.start.tables g.rules l g.place.block g.block g.rest g.place.path g.place.state
        leads_there offset task is (omega arith) u (omega arith) (omega arith) e')) in
        let r = goes (checkpoint out sheet) (with_budget more c) once in
        (ap (λ (z : Result Answer Ended). (answer_of z).steps) r ∙ x.0, λ old. ap (λ (z : Result Answer Ended). output_of z old) r ∙ x.1 old)

pub rule_of_next : RuleOfNext
rule_of_next out sheet c g left =
    let d = leads_due g.start.tables.order g.block.command (top g.start.tables.order) g.place.path (leads_there out sheet c g) in
    record {
      offset = d.0;
      task = d.1;
      is = d.2;
      forbidden = forbids out sheet c g d.0 d.1 d.2 left;
      made = makes out sheet c g d.0 d.1 d.2 left;
    }
