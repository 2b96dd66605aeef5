-- Proves `written_good`: what was written at a pause is read back, and is never refused by 19. Assumes nothing.
use Prim.Native.Nat.{ℕ, ◌^◌, ◌≤◌, ◌<◌}
use mathlib.Core.Path.{◌≡◌, refl, sym, ap, ap₂, subst, ◌∙◌}
use mathlib.Core.Logic.{inl, inr}
use mathlib.Core.Bool.{true}
use mathlib.Core.List.{List, [], ◌∷◌}
use native.Mathlib.Omega.{arith}
use lib.ListN.{length, drop}
use borrow.Author.Tests.{le-leb}
use Rattle.lattice.specs.Order.{most_principals}
use Rattle.lattice.proofs.Tests.{and_l, and_r, and_of}
use Rattle.lattice.proofs.Order.{good_at}
use Rattle.values.specs.declared.Answer.{Answer}
use Rattle.values.specs.Result.{Result, ok, require}
use Rattle.values.specs.Bytes.{Bytes}
use Rattle.values.proofs.Result.{Post, post_map, post_refused, one_value}
use Rattle.values.proofs.BytesNumbers.{number_lt}
use Rattle.store.specs.Sheet.{Tables, Opening, most_slots, store_sheet, slots_bytes}
use Rattle.syntax.specs.Sheet.{Block, programme_sheet}
use Rattle.calculus.specs.Rules.{RuleSet}
use Rattle.calculus.specs.Calculus.{Limits, Store}
use Rattle.calculus.specs.Blocks.{most_budget, start}
use Rattle.pausing.specs.Paths.{Open}
use Rattle.pausing.specs.Stretches.{Position, standing, most_open, From, opening, checkpoint, Stretch, stretch, steps_width, pause_sheet, steps_in, open_in, block_in, path_in, output_good, path_good, checkpoint_good, take_up_blocks, Ended, limits_at, position_of, run_stretch, output_of, pause_of, answer, output, pause}
use Rattle.pausing.specs.StretchesPromises.{Chain, begun, carried, BytesIn, WrittenGood}
use Rattle.pausing.proofs.StretchesPositions.{StateGood, TakenIn, leads_in, GoesOn, PausedAt}
use Rattle.pausing.proofs.WrittenGoodSteps.{opening_of_law, opened_state}
use Rattle.pausing.proofs.WrittenGoodAtTheHalt.{follows, placed_from, blocks_halt}
use Rattle.pausing.proofs.StretchesPauseSheet.{each_map, bytes_slots, sheet_steps, sheet_open, sheet_block, sheet_path, sheet_unused, sheet_bytes}
use Rattle.pausing.proofs.StretchesOutputs.{store_back, output_good_law, taken_state}
use Rattle.pausing.proofs.StretchesSettled.{halted_at}
use Rattle.pausing.proofs.StretchesAnswers.{place_in, taken_up, Pauses, paused_by, stretch_pauses, not_19}

-- a position without its state's journal, as a checkpoint holds it
abbrev pub restored : Position → Position
restored x = standing x.block x.path (record { store = x.state.store; steps = x.state.steps; journal = [] })

-- a position at which a run can be paused is one to go on from
pub goes_on : (o : Opening) (blocks : List Block) (x : Position) → PausedAt o blocks x → GoesOn o blocks x
goes_on o blocks x p = record { state = p.state; path = inr p.leading }

-- and it is one without its state's journal too
pub restored_paused : (o : Opening) (blocks : List Block) (x : Position) → PausedAt o blocks x → PausedAt o blocks (restored x)
restored_paused o blocks x p =
    record { state = record { store = p.state.store; counts = p.state.counts; steps = p.state.steps }; leading = p.leading }

-- the test of a path in a sheet
path_leads : (w : Tables) (bs : List Block) (sheet : List ℕ) → path_good w bs sheet ≡ leads_in w bs (path_in sheet)
unfolding path_good leads_in
path_leads w [] sheet = refl
path_leads w (b ∷ bs) sheet = refl

-- within these limits a stretch goes on from x
pub limits_fit : (budget : ℕ) (x : Position) → budget ≤ most_budget → x.state.steps < 2 ^ 32
    → ((limits_at budget x).budget < 2 ^ 32) × (x.state.steps ≤ (limits_at budget x).budget)
unfolding limits_at
limits_fit budget x h k = (omega arith, omega arith)

module _ {store programme : List ℕ} {o : Opening} {blocks : List Block} (t : TakenIn store programme o blocks) where
  abbrev m : ℕ
  m = o.tables.slots

  small : m ≤ most_slots
  small = (opening_of_law store o t.opens).small

  few : o.tables.order.n ≤ most_principals
  few = (good_at o.tables.order (opening_of_law store o t.opens).ordered.table).few

  -- the start
  pub start_good : GoesOn o blocks (standing 0 [] (start o.store))
  start_good = record { state = opened_state store t.store_bytes o t.opens; path = inl refl }

  -- From a good position on, within any limits that are not below its steps: where the run is stopped, by whatever number, it can be paused.
  pub pauses_good : (rules : RuleSet) (l : Limits) → l.budget < 2 ^ 32 → (x : Position) → GoesOn o blocks x → x.state.steps ≤ l.budget
      → Post (λ s. StateGood m s × (s.steps ≤ l.budget))
      (λ h. PausedAt o blocks (halted_at h) × (h.pause.stop.state.steps ≤ l.budget) × (h.pause.stop.number ≤ 18))
      (take_up_blocks o.tables rules l x.block (drop x.block blocks) x.path x.state)
  pauses_good rules l b x g h =
      post_map _ _ _ _ _
      (blocks_halt t rules l b x.block (drop x.block blocks) x.path x.state refl (placed_from t x.block) (g.state, h) g.path)
      (λ s q. q) (λ h q. (record { state = q.lasts.0; leading = q.leading }, q.lasts.1, q.number))

  -- what is written at a pause is read back
  module _ (x : Position) (p : PausedAt o blocks x) where
    abbrev out : List ℕ
    out = slots_bytes x.state.store 0 m

    steps : steps_in (pause_sheet x) ≡ x.state.steps
    steps = sheet_steps x p.state.steps

    leading : path_good o.tables (drop (block_in (pause_sheet x)) blocks) (pause_sheet x) ≡ true
    leading =
        path_leads o.tables _ (pause_sheet x)
        ∙ ap₂ (λ (i : ℕ) (q : List Open). leads_in o.tables (drop i blocks) q) (sheet_block x) (sheet_path x) ∙ p.leading

    passes : checkpoint_good o.tables blocks out (pause_sheet x) ≡ true
    unfolding checkpoint_good
    passes =
        let f = follows t x.block x.path p.leading in
        and_of _ _ (and_of _ _ (and_of _ _ (le-leb (open_in (pause_sheet x)) most_open (omega (arith, sheet_open x, f.short))) (sheet_unused x)) leading)
        (ap (output_good m out) steps ∙ output_good_law m small x.state p.state)

    pub read_back : position_of o blocks (checkpoint out (pause_sheet x)) ≡ ok (restored x)
    unfolding position_of require
    read_back = rw (passes, sheet_block x, sheet_path x, store_back m small x.state p.state, steps)

    -- what is written are bytes
    pub pause_bytes : Bytes (pause_sheet x)
    pause_bytes =
        let f = follows t x.block x.path p.leading in
        sheet_bytes x (omega (arith, f.short)) (omega (arith, f.block))
        (each_map _ _ x.path (λ e s. record { child = s.child; label = omega (arith, s.label, few) }) f.small)

  -- a checkpoint of bytes that is taken in is such a position
  module _ (out sheet : List ℕ) (bytes : Bytes out) (bytes' : Bytes sheet) where
    taken_at : checkpoint_good o.tables blocks out sheet ≡ true → PausedAt o blocks (place_in m out sheet)
    unfolding checkpoint_good
    taken_at e =
        record {
          state = taken_state m small out bytes (steps_in sheet) (and_r _ _ e) (number_lt sheet bytes' steps_width 0);
          leading = sym (path_leads o.tables _ sheet) ∙ and_r _ _ (and_l _ _ e);
        }

    pub taken_good : (x : Position) → position_of o blocks (checkpoint out sheet) ≡ ok x → PausedAt o blocks x
    taken_good x e = let z = taken_up o blocks out sheet x e in rw z.1 at (taken_at z.0)

  -- a position that any stretch goes on from
  pub from_good : (from : From) → BytesIn from → (x : Position) → position_of o blocks from ≡ ok x → GoesOn o blocks x
  unfolding BytesIn position_of
  from_good opening b x e = rw (one_value _ _ x refl e) at start_good
  from_good (checkpoint out sheet) b x e = goes_on o blocks x (taken_good out sheet b.0 b.1 x e)

-- every output that is written holds bytes
pub output_bytes : (s : Store) (m : ℕ) → Bytes (slots_bytes s 0 m)
output_bytes s m = bytes_slots s 0 m

-- A stretch that is paused

module _ {from : From} {c : Stretch} (b : Bytes c.store) (b' : Bytes c.programme) (b'' : BytesIn from) (p : Pauses from c) where
  -- its sheets were taken in
  pub pauses_taken : TakenIn c.store c.programme p.start p.blocks
  pauses_taken = record { store_bytes = b; programme_bytes = b'; opens = p.opens; taken = p.taken }

  -- it went on from a good position, and stands at one at which it can be paused
  pub pauses_from : GoesOn p.start p.blocks p.place
  pauses_from = from_good pauses_taken from b'' p.place p.good

  pub pauses_at : PausedAt p.start p.blocks (halted_at p.halt)
  pauses_at =
      let k = limits_fit c.budget p.place p.modest pauses_from.state.steps in
      (post_refused _ _ _ p.halt (pauses_good pauses_taken p.rules (limits_at c.budget p.place) k.0 p.place pauses_from k.1) p.stops).0

  -- so what it wrote is not refused by 19
  again : (c' : Stretch) → c'.store ≡ c.store → c'.programme ≡ c.programme
      → (answer (checkpoint (slots_bytes p.halt.pause.stop.state.store 0 p.start.tables.slots) (pause_sheet (halted_at p.halt))) c').number ≡ 19
      → ⊥
  again c' q q' =
      let x = halted_at p.halt in
      let on = goes_on p.start p.blocks (restored x) (restored_paused p.start p.blocks x pauses_at) in
      not_19 _ c' p.start p.blocks (restored x) (ap store_sheet q ∙ p.opens)
      (ap (programme_sheet p.start.tables.order.n p.start.tables.slots) q' ∙ p.taken) (read_back pauses_taken x pauses_at)
      (λ rules modest.
      let k = limits_fit c'.budget (restored x) modest on.state.steps in
      post_map _ _ _ _ _ (pauses_good pauses_taken rules (limits_at c'.budget (restored x)) k.0 (restored x) on k.1) (λ _ _. tt) (λ _ r. r.2))

-- what it wrote
module _ {from : From} {c : Stretch} (p : Pauses from c) (e : run_stretch from c ≡ ok (paused_by p)) where
  pub output_is : (old : List ℕ) → output from c old ≡ slots_bytes p.halt.pause.stop.state.store 0 p.start.tables.slots
  unfolding output_of
  output_is old = ap (λ (r : Result Answer Ended). output_of r old) e

  pub pause_is : (old : List ℕ) → pause from c old ≡ pause_sheet (halted_at p.halt)
  unfolding pause_of
  pause_is old = ap (λ (r : Result Answer Ended). pause_of r old) e

-- A pause sheet that was written is never refused by 19, with its own output, store and programme.
pub written_good : WrittenGood
written_good from c out sheet b b' b'' e c' q q' z =
    let p = stretch_pauses from c e in
    again b b' b'' p.0 c' q q'
    (sym (ap₂ (λ (l u : List ℕ). (answer (checkpoint l u) c').number) (output_is p.0 p.1 out) (pause_is p.0 p.1 sheet)) ∙ z)

-- what a stretch that answers 17 wrote are bytes
pub written_bytes : (from : From) (c : Stretch) (out sheet : List ℕ) → Bytes c.store → Bytes c.programme → BytesIn from → (answer from c).number ≡ 17
    → BytesIn (checkpoint (output from c out) (pause from c sheet))
unfolding BytesIn
written_bytes from c out sheet b b' b'' e =
    let p = stretch_pauses from c e in
    let x = halted_at p.0.halt in (
      subst Bytes (sym (output_is p.0 p.1 out)) (output_bytes x.state.store p.0.start.tables.slots),
      subst Bytes (sym (pause_is p.0 p.1 sheet)) (pause_bytes (pauses_taken b b' b'' p.0) x (pauses_at b b' b'' p.0)),
    )

-- so a chain of stretches goes on from bytes
pub chain_bytes : {Ruled : ℕ → Type 0} {store programme : List ℕ} {from : From} → Bytes store → Bytes programme → Chain Ruled store programme from → BytesIn from
unfolding BytesIn
chain_bytes b b' begun = tt
chain_bytes {store = store} {programme = programme} b b' (carried {from = from} k rule budget out sheet r e) =
    written_bytes from (stretch store programme rule budget (length out) (length sheet)) out sheet b b' (chain_bytes b b' k) e
