-- For `never_paused`: a chain of stretches under one rule is on the way of the run that never paused, and so ends as that run. Assumes nothing.
use Prim.Native.Nat.{ℕ, ◌-◌, ◌*◌, ◌≤◌, max}
use mathlib.Core.Path.{◌≡◌, refl, sym, ap, ◌∙◌}
use mathlib.Core.Bool.{Bool, true, false}
use mathlib.Core.List.{List, [], ◌∷◌, ◌++◌, map}
use native.Mathlib.Omega.{arith}
use lib.Dec.{eqb, leb}
use lib.ListN.{length, drop, replicate, length-append, length-map, length-replicate}
use borrow.Author.Tests.{eqb-true, eqb-false, eq-eqb, leb-true}
use Rattle.values.specs.declared.Answer.{Answer}
use Rattle.values.specs.Result.{Result, ok, refuse, ◌>>=◌, require, refused_as, says, unplaced}
use Rattle.values.specs.Bytes.{number_bytes}
use Rattle.values.specs.Value.{slot_width}
use Rattle.values.proofs.Result.{post_refused, one_value}
use Rattle.values.proofs.Bytes.{length_number}
use Rattle.store.specs.Sheet.{Opening, store_sheet, slots_bytes}
use Rattle.store.proofs.SheetOpening.{length_slots}
use Rattle.syntax.specs.Sheet.{Block, programme_sheet}
use Rattle.calculus.specs.Rules.{RuleSet, rules_of}
use Rattle.calculus.specs.Calculus.{limits, State}
use Rattle.calculus.specs.Blocks.{most_budget, start}
use Rattle.pausing.specs.Paths.{Open}
use Rattle.pausing.specs.Stretches.{Position, standing, From, opening, checkpoint, Stretch, stretch, Halted, pause_width, steps_width, unused_at, most_open, pause_sheet, take_up_blocks, Ended, paused, settled, end_of, limits_at, run_from, fitting, position_of, stretch_opened, stretch_under, run_stretch, answer_of, output_of, pause_of, answer, output, pause, steps_in}
use Rattle.pausing.specs.StretchesPromises.{Chain, begun, carried, Means, steps_at, EndsAlike}
use Rattle.pausing.proofs.ResultRelation.{Alike}
use Rattle.pausing.proofs.PathsJournals.{Beside, HaltsBeside}
use Rattle.pausing.proofs.StretchesSettled.{halted_at, settled_17, settled_else}
use Rattle.pausing.proofs.StartsAsRun.{halts_alike, and_true}
use Rattle.pausing.proofs.StretchesPositions.{TakenIn, GoesOn, PausedAt}
use Rattle.pausing.proofs.WrittenGoodAtTheHalt.{follows}
use Rattle.pausing.proofs.StretchesAnswers.{taken_up, stretch_pauses}
use Rattle.pausing.proofs.WrittenGood.{restored, goes_on, restored_paused, start_good, pauses_good, read_back}
use Rattle.pausing.proofs.NeverPausedPositions.{OnWay, on_start, on_pause}

-- the same answer, output and pause sheet
record EndsSame (r r' : Result Answer Ended) : Type 0 where
  pub answered : answer_of r ≡ answer_of r'
  pub put_out : (old : List ℕ) → output_of r old ≡ output_of r' old
  pub put_by : (old : List ℕ) → pause_of r old ≡ pause_of r' old

same_ends : (r : Result Answer Ended) → EndsSame r r
same_ends r = record { answered = refl; put_out = λ _. refl; put_by = λ _. refl }

-- both are asked the same first
require_same : (b : Bool) (a : Answer) (r r' : Result Answer Ended) → (b ≡ true → EndsSame r r') → EndsSame (require b a r) (require b a r')
unfolding require
require_same true a r r' h = h refl
require_same false a r r' h = same_ends (refuse a)

-- a pause sheet tells nothing of the journal
sheet_same : (x y : Position) → x.block ≡ y.block → x.path ≡ y.path → x.state.steps ≡ y.state.steps → pause_sheet x ≡ pause_sheet y
unfolding pause_sheet
sheet_same x y p q r = rw (p, q, r)

-- two halts that differ in their journals
halt_same : (slots budget entries entries' : ℕ) (g h : Halted) → HaltsBeside budget entries entries' g h → EndsSame (settled slots g) (settled slots h)
unfolding answer_of output_of pause_of
halt_same slots budget entries entries' g h z = go (eqb g.pause.stop.number 17) refl
  where
    go : (b : Bool) → eqb g.pause.stop.number 17 ≡ b → EndsSame (settled slots g) (settled slots h)
    go true q =
        let e = eqb-true g.pause.stop.number 17 q in
        rw (settled_17 slots g e, settled_17 slots h (sym z.pause.stop.number ∙ e))
        (record {
          answered = rw (z.block, z.pause.stop.offset, z.pause.stop.state.steps);
          put_out = λ _. rw z.pause.stop.state.store;
          put_by = λ _. sheet_same (halted_at g) (halted_at h) z.block z.pause.path z.pause.stop.state.steps;
        })
    go false q =
        let e = eqb-false g.pause.stop.number 17 q in
        rw (settled_else slots g e, settled_else slots h (λ y. e (z.pause.stop.number ∙ y)))
        (record { answered = halts_alike budget entries entries' g h z; put_out = λ _. refl; put_by = λ _. refl })

-- and two runs
end_same : (blocks slots budget entries entries' : ℕ) (r r' : Result Halted State)
    → Alike (Beside budget entries entries') (HaltsBeside budget entries entries') r r' → EndsSame (end_of blocks slots r) (end_of blocks slots r')
unfolding Alike end_of answer_of output_of pause_of
end_same blocks slots budget entries entries' (ok s) (ok s') z =
    record { answered = ap (λ (n : ℕ). says 0 blocks 0 n) z.steps; put_out = λ _. rw z.store; put_by = λ _. refl }
end_same blocks slots budget entries entries' (ok s) (refuse h) z = elim z [ ]
end_same blocks slots budget entries entries' (refuse g) (ok s') z = elim z [ ]
end_same blocks slots budget entries entries' (refuse g) (refuse h) z = halt_same slots budget entries entries' g h z

-- a checkpoint that is taken in goes on with the steps that it says
position_steps : (o : Opening) (blocks : List Block) (out sheet : List ℕ) (x : Position) → position_of o blocks (checkpoint out sheet) ≡ ok x
    → steps_in sheet ≡ x.state.steps
position_steps o blocks out sheet x e = ap (λ (y : Position). y.state.steps) (taken_up o blocks out sheet x e).1

-- a stretch under the rules that is out of budget, over sheets that were taken in
record PausesAt (rules : RuleSet) (o : Opening) (blocks : List Block) (from : From) (c : Stretch) : Type 0 where
  pub place : Position
  pub halt : Halted
  pub modest : c.budget ≤ most_budget
  pub good : position_of o blocks from ≡ ok place
  pub stops : take_up_blocks o.tables rules (limits_at c.budget place) place.block (drop place.block blocks) place.path place.state ≡ refuse halt
  pub spent : halt.pause.stop.number ≡ 17
  pub is : run_stretch from c ≡ ok (paused o.tables.slots halt.pause.stop.offset (halted_at halt))

-- sheets and a rule number are taken in one way only
pauses_moved : (rules rules' : RuleSet) (o o' : Opening) (blocks blocks' : List Block) (from : From) (c : Stretch) → rules_of c.rule ≡ ok rules'
    → rules_of c.rule ≡ ok rules → store_sheet c.store ≡ ok o' → store_sheet c.store ≡ ok o
    → programme_sheet o'.tables.order.n o'.tables.slots c.programme ≡ ok blocks'
    → programme_sheet o.tables.order.n o.tables.slots c.programme ≡ ok blocks
    → PausesAt rules' o' blocks' from c → PausesAt rules o blocks from c
pauses_moved rules rules' o o' blocks blocks' from c r' r s' s p' p x =
    let e = one_value (store_sheet c.store) o' o s' s in
    let q = one_value _ blocks' blocks (rw e at p') p in
    rw (one_value (rules_of c.rule) rules' rules r' r, e, q) at x

-- a stretch under the rules that answered 17
pausing : (rules : RuleSet) (o : Opening) (blocks : List Block) (from : From) (c : Stretch) → Means rules c.rule → store_sheet c.store ≡ ok o
    → programme_sheet o.tables.order.n o.tables.slots c.programme ≡ ok blocks → (answer from c).number ≡ 17 → PausesAt rules o blocks from c
pausing rules o blocks from c means opens taken e =
    let z = stretch_pauses from c e in
    let p = z.0 in
    pauses_moved rules p.rules o p.start blocks p.blocks from c p.ruled means p.opens opens p.taken taken
    (record { place = p.place; halt = p.halt; modest = p.modest; good = p.good; stops = p.stops; spent = p.spent; is = z.1 })

-- a pause sheet has its width where the path is short enough
parts_sized : (a p q z : List ℕ) (n b : ℕ) → length a ≡ steps_width → length p ≡ n → length q ≡ n → length z ≡ pause_width - unused_at n → n ≤ most_open
    → length (a ++ (n ∷ b ∷ (p ++ (q ++ z)))) ≡ pause_width
parts_sized a p q z n b e e' e'' k h =
    omega (arith, length-append a (n ∷ b ∷ (p ++ (q ++ z))), length-append p (q ++ z), length-append q z)

sheet_sized : (x : Position) → length x.path ≤ most_open → length (pause_sheet x) ≡ pause_width
unfolding pause_sheet
sheet_sized x h =
    let unused = pause_width - unused_at (length x.path) in
    parts_sized (number_bytes steps_width x.state.steps) (map (λ (o : Open). o.child) x.path) (map (λ (o : Open). o.label) x.path) (replicate unused 0)
    (length x.path) x.block (length_number steps_width x.state.steps) (length-map x.path (λ (o : Open). o.child))
    (length-map x.path (λ (o : Open). o.label)) (length-replicate {A = ℕ} unused 0) h

module _ (rules : RuleSet) {store programme : List ℕ} {o : Opening} {blocks : List Block} (t : TakenIn store programme o blocks) where
  -- a stretch over sheets that are taken in
  stretch_is : (from : From) (rule budget room pause_room : ℕ) → Means rules rule
      → run_stretch from (stretch store programme rule budget room pause_room)
      ≡ require (leb budget most_budget) (unplaced 11) (
      require (fitting o.tables.slots from (stretch store programme rule budget room pause_room)) (unplaced 12) (
      position_of o blocks from >>= run_from rules budget o blocks))
  unfolding run_stretch stretch_under stretch_opened refused_as ◌>>=◌
  stretch_is from rule budget room pause_room means = rw (means, t.opens, t.taken)

  -- the position that a chain has come to
  record Reached (from : From) : Type 0 where
    pub place : Position
    pub good : position_of o blocks from ≡ ok place
    pub steps : steps_at from ≡ place.state.steps
    pub on : OnWay rules o blocks place
    pub nice : GoesOn o blocks place
    pub fits : (c : Stretch) → fitting o.tables.slots from c ≡ fitting o.tables.slots opening c

  -- the start
  reached_start : Reached opening
  unfolding position_of steps_at start
  reached_start =
      record { place = standing 0 [] (start o.store); good = refl; steps = refl; on = on_start rules o blocks; nice = start_good t; fits = λ c. refl }

  -- what was written has the lengths that are asked for
  fits_written : (x : Position) → PausedAt o blocks x → (c : Stretch)
      → fitting o.tables.slots (checkpoint (slots_bytes x.state.store 0 o.tables.slots) (pause_sheet x)) c ≡ fitting o.tables.slots opening c
  unfolding fitting
  fits_written x p c =
      and_true _ _ (eq-eqb (length (pause_sheet x)) pause_width (sheet_sized x (follows t x.block x.path p.leading).short))
      ∙ and_true _ _ (eq-eqb (length (slots_bytes x.state.store 0 o.tables.slots)) (slot_width * o.tables.slots) (length_slots x.state.store 0 o.tables.slots))

  -- a pause on the way, read back
  reached_written : (h : Halted) → PausedAt o blocks (halted_at h) → OnWay rules o blocks (restored (halted_at h))
      → Reached (checkpoint (slots_bytes h.pause.stop.state.store 0 o.tables.slots) (pause_sheet (halted_at h)))
  unfolding steps_at
  reached_written h p on =
      record {
        place = restored (halted_at h);
        good = read_back t (halted_at h) p;
        steps = position_steps o blocks _ _ _ (read_back t (halted_at h) p);
        on = on;
        nice = goes_on o blocks (restored (halted_at h)) (restored_paused o blocks (halted_at h) p);
        fits = fits_written (halted_at h) p;
      }

  -- one stretch more
  reached_next : (from : From) → Reached from → (c : Stretch) → PausesAt rules o blocks from c → (out sheet : List ℕ)
      → Reached (checkpoint (output from c out) (pause from c sheet))
  unfolding limits_at output_of pause_of
  reached_next from r c p out sheet =
      let e = one_value (position_of o blocks from) r.place p.place r.good p.good in
      let on : OnWay rules o blocks p.place = rw e at r.on in
      let nice : GoesOn o blocks p.place = rw e at r.nice in
      let m : max c.budget p.place.state.steps ≤ most_budget = omega (arith, on.modest, p.modest) in
      rw p.is
      (reached_written p.halt
      (post_refused _ _ _ p.halt (pauses_good t rules (limits (max c.budget p.place.state.steps) most_budget) (omega arith) p.place nice (omega arith)) p.stops).0
      (on_pause rules o blocks p.place on (max c.budget p.place.state.steps) (omega arith) m p.halt p.stops p.spent).0)

  -- any number of stretches
  reached : {from : From} → Chain (Means rules) store programme from → Reached from
  reached begun = reached_start
  reached (carried {from} chain rule budget out sheet means e) =
      reached_next from (reached chain) _ (pausing rules o blocks from _ means t.opens t.taken e) out sheet

  -- from a position on the way, with a budget that is not below its steps
  run_same : (budget : ℕ) (x : Position) → OnWay rules o blocks x → x.state.steps ≤ budget → budget ≤ most_budget
      → EndsSame (run_from rules budget o blocks (standing 0 [] (start o.store))) (run_from rules budget o blocks x)
  unfolding run_from limits_at start
  run_same budget x on h m =
      let e : max budget 0 ≡ budget = omega arith in
      let q : max budget x.state.steps ≡ budget = omega arith in
      rw (e, q) (end_same (length blocks) o.tables.slots budget most_budget most_budget _ _ (on.alike budget h m))

  -- so the whole stretch ends as the one from the start
  stretch_same : (from : From) → Reached from → (rule budget room pause_room : ℕ) → Means rules rule → steps_at from ≤ budget
      → EndsSame (run_stretch opening (stretch store programme rule budget room pause_room)) (run_stretch from (stretch store programme rule budget room pause_room))
  unfolding position_of ◌>>=◌
  stretch_same from r rule budget room pause_room means h =
      rw (stretch_is opening rule budget room pause_room means, stretch_is from rule budget room pause_room means, r.fits, r.good)
      (require_same _ _ _ _ λ m.
      require_same _ _ _ _ λ _.
      run_same budget r.place r.on (omega (arith, r.steps)) (leb-true budget most_budget m))

  pub ends_alike : {from : From} → Chain (Means rules) store programme from → (rule budget room pause_room : ℕ) → Means rules rule → steps_at from ≤ budget
      → EndsAlike from opening (stretch store programme rule budget room pause_room)
  ends_alike {from} chain rule budget room pause_room means h =
      let e = stretch_same from (reached chain) rule budget room pause_room means h in
      (sym e.answered, λ old. sym (e.put_out old), λ old. sym (e.put_by old))
