-- Every answer of a stretch is the definitions' (`run_stretch`). Serves `all_fit`, `stand` and `stretch`. Assumes nothing.
use Prim.Native.Nat.{ℕ, ◌*◌, ◌≤◌, max}
use mathlib.Core.Path.{◌≡◌, refl, sym, ◌∙◌}
use mathlib.Core.Bool.{Bool, true, false}
use mathlib.Core.List.{List, []}
use native.Mathlib.Omega.{arith}
use borrow.Author.Tests.{eqb-true}
use lib.ListN.{length, drop}
use lib.Dec.{eqb}
use Rattle.store.specs.declared.HeldSlot.{HeldSlot}
use Rattle.std.proofs.Common.{Option, None, Some, Ok, Err}
use Rattle.std.specs.Prelude as std
use Rattle.std.specs.Option.{ok_or}
use Rattle.lattice.specs.Tests.{◌and◌}
use Rattle.values.specs.declared.Answer.{Answer}
use Rattle.values.specs.declared.refusal.Refused.{Refused}
use Rattle.values.specs.declared.refusal.Refusal.{Refusal}
use Rattle.values.specs.declared.refusal.Refusal.TheVariants as r
use Rattle.values.specs.Refusal.{number, placed, answer_in}
use Rattle.values.specs.Result.{Result, ok, refuse, ◌>>=◌, require, unplaced}
use Rattle.values.specs.Value.{slot_width}
use Rattle.store.specs.declared.Opened.{Opened}
use Rattle.store.specs.Sheet.{most_slots}
use Rattle.syntax.specs.Sheet.{k_of}
use Rattle.syntax.specs.declared.Compiled.{Compiled}
use Rattle.calculus.specs.Calculus.{limits, State}
use Rattle.calculus.specs.Blocks.{most_budget, start}
use Rattle.pausing.specs.Stretches.{pause_width, standing, Halted as Halting, From, opening, checkpoint, Stretch, stretch, take_up_blocks, Ended, limits_at, run_from, fitting, position_of, stretch_opened, stretch_under, run_stretch, answer_of, output_of, pause_of}
use Rattle.runner.specs.declared.ready.Ready.{Ready}
use Rattle.machine.specs.declared.blocks.Place.{Place}
use Rattle.machine.specs.BlockRuns.{opening_place, Played, played, CanPlayOn}
use Rattle.machine.specs.declared.blocks.Finished.{Finished}
use Rattle.machine.specs.declared.blocks.Halted.{Halted}
use Rattle.machine.specs.BlockRuns.{PlaysOn}
use Rattle.runner.specs.WholeRun.{answered, Readied, readied, IsReady, Readies, Prepared}
use Rattle.runner.specs.StretchRun.{Fitting, EndsWith, Ends, Settles, CanSettle, StandsAt, ResumedAs, CanTakeUp, TakesUp, AllFit, FromFits, CanStand, StandsAs, Stands}
use Rattle.lattice.specs.HeldLabels.{top_mask}
use Rattle.machine.proofs.BlockRuns.{everywhere}
use Rattle.runner.proofs.WholeRunFinish.{prepared_slots, prepared_opening, prepared_under, prepared_loaded, prepared_room, play_all_law}
use Rattle.runner.proofs.WholeRunReady.{readied_then}

-- tests of lengths
both_of : (a b : Bool) → (a and b) ≡ true → (a ≡ true) × (b ≡ true)
unfolding ◌and◌
both_of true b e = (refl, e)
both_of false b e = absurd (let z : ◌≡◌ {A = ℕ} 0 1 = cc in omega arith)

and_assoc : (a b c : Bool) → ((a and b) and c) ≡ (a and (b and c))
unfolding ◌and◌
and_assoc true b c = refl
and_assoc false b c = refl

fits_of : (slots : ℕ) (out sheet : List ℕ) → (eqb (length out) (slot_width * slots) and eqb (length sheet) pause_width) ≡ true → Fitting slots out sheet
fits_of slots out sheet e =
    let b = both_of (eqb (length out) (slot_width * slots)) (eqb (length sheet) pause_width) e in
    record { out_fits = eqb-true (length out) (slot_width * slots) b.0; sheet_fits = eqb-true (length sheet) pause_width b.1 }

-- `all_fit`
pub fit_opening : (slots room pause_room : ℕ) (b : Bool) → b ≡ (eqb room (slot_width * slots) and eqb pause_room pause_width) → AllFit slots opening room pause_room b
unfolding fitting
fit_opening slots room pause_room b e store p rule budget = e

known : (a b c : Bool) → a ≡ true → ((a and b) and c) ≡ (b and c)
unfolding ◌and◌
known a b c e = rw e

void : (a b c : Bool) → a ≡ false → ((a and b) and c) ≡ false
unfolding ◌and◌
void a b c e = rw e

module _ (slots room pause_room : ℕ) (out sheet : List ℕ) (b : Bool) (e : b ≡ (eqb room (slot_width * slots) and eqb pause_room pause_width)) where
  pub fit_both : b ≡ true → (c : Bool) → c ≡ (eqb (length out) (slot_width * slots) and eqb (length sheet) pause_width) → AllFit slots (checkpoint out sheet) room pause_room c
  unfolding fitting
  fit_both t c f store p rule budget = f ∙ sym (known _ _ _ (sym e ∙ t))

  pub fit_not : b ≡ false → AllFit slots (checkpoint out sheet) room pause_room b
  unfolding fitting
  fit_not t store p rule budget = t ∙ sym (void _ _ _ (sym e ∙ t))

-- where a stretch stands

-- from the start, with the top as the label throughout
pub stand_opening : (t : Opened) (p : List ℕ) (labels : List ℕ) (held : List HeldSlot) → CanStand t p opening labels held → (place : Place) → place ≡ opening_place most_budget
    → Stands t p opening held labels held (Ok place)
unfolding StandsAs position_of start
stand_opening t p labels held c place e rules o bs j tables h x =
    rw (e, c.tops)
    (record {
      position = standing 0 [] (start o.store);
      is = refl;
      steps_are = refl;
      along = λ limit le.
          play_all_law o t held h j rules x.judges p (played tables t.table j limit) bs x.taken refl refl (limits limit most_budget) refl (k_of p) refl _ refl;
    })

-- from a checkpoint
module _ (t : Opened) (p : List ℕ) (out sheet : List ℕ) (held : List HeldSlot) where
  pub stand_take : (labels : List ℕ) → CanStand t p (checkpoint out sheet) labels held → CanTakeUp t p out sheet labels held
  unfolding FromFits
  stand_take labels c =
      record {
        rules = c.rules;
        opening = c.opening;
        blocks = c.blocks;
        judges = c.judges;
        tables = c.tables;
        opening_held = c.opening_held;
        prepared = c.prepared;
        fits = c.fits;
        tops = c.tops;
      }

  module _ (labels' : List ℕ) (held' : List HeldSlot) where
    pub stand_taken : (o : Option Place) → TakesUp t p out sheet held labels' held' o → (x : std.Result Place Refusal) → x ≡ ok_or o r.Checkpoint
        → Stands t p (checkpoint out sheet) held labels' held' x
    unfolding StandsAs ResumedAs position_of require number
    stand_taken (Some place) w x e rules o bs j tables h y = rw e (w rules o bs j tables h y)
    stand_taken None w x e rules o bs j tables h y = rw (e, w rules o bs j tables h y) refl

-- A whole stretch

-- a refusal leaves both buffers
refused_with : (e : Result Answer Ended) (a : Refused) (old oldSheet : List ℕ) → e ≡ refuse (answer_in a) → EndsWith e old oldSheet old oldSheet (Err a)
unfolding answered answer_of output_of pause_of
refused_with e a old oldSheet q = rw q (record { answered_is = refl; written = refl; paused = refl })

module _ (store p : List ℕ) (rule budget : ℕ) (t : Compiled) (held : List HeldSlot) (from : From) (old oldSheet : List ℕ) where
  abbrev call : Stretch
  call = stretch store p rule budget (length old) (length oldSheet)

  abbrev Whole : List ℕ → List ℕ → std.Result Answer Refused → Type 0
  Whole out sheet a = EndsWith (run_stretch from call) old oldSheet out sheet a

  stretch_readied : run_stretch from call
      ≡ (readied store p rule budget >>= λ y. require (fitting y.opening.tables.slots from call) (unplaced 12) (
      position_of y.opening y.blocks from >>= run_from y.rules budget y.opening y.blocks))
  unfolding run_stretch stretch_under stretch_opened
  stretch_readied = readied_then store p rule budget _

  pub enter_unready : (e : Refused) → Readies store p rule budget t held (Err e) → Whole old oldSheet (Err e)
  unfolding Readies ◌>>=◌
  enter_unready e h = refused_with _ e old oldSheet (stretch_readied ∙ rw h)

  module _ (x : Ready) (h : Readies store p rule budget t held (Ok x)) where
    made : Readied
    unfolding Readies
    made = h.0

    made_is : readied store p rule budget ≡ ok made
    unfolding Readies made
    made_is = h.1

    is_ready : IsReady made p t held x
    unfolding Readies made
    is_ready = h.2

    is_prepared : Prepared made.rules made.opening made.blocks x.opened x.judges p t
    is_prepared = prepared_opening made.opening x.opened held is_ready.opening_held x.judges made.rules is_ready.judges p t made.blocks is_ready.taken

    from_fits : (f : From) → fitting made.opening.tables.slots f call ≡ true → FromFits x.opened.slots f
    unfolding fitting FromFits
    from_fits opening e = tt
    from_fits (checkpoint out sheet) e =
        fits_of x.opened.slots out sheet (rw (prepared_slots is_prepared) (both_of (eqb (length old) (slot_width * made.opening.tables.slots) and eqb (length oldSheet) pause_width) _ (rw and_assoc at e)).1)

    own_fits : (f : From) → fitting made.opening.tables.slots f call ≡ true → Fitting x.opened.slots old oldSheet
    unfolding fitting
    own_fits opening e = fits_of x.opened.slots old oldSheet (rw (prepared_slots is_prepared) e)
    own_fits (checkpoint out sheet) e =
        fits_of x.opened.slots old oldSheet (rw (prepared_slots is_prepared) (both_of (eqb (length old) (slot_width * made.opening.tables.slots) and eqb (length oldSheet) pause_width) _ (rw and_assoc at e)).0)

    -- an opened store has no more slots than its rows
    pub slots_few : x.opened.slots ≤ most_slots
    slots_few = omega (arith, prepared_slots is_prepared, is_prepared.small)

    module _ (b : Bool) (fit : AllFit x.opened.slots from (length old) (length oldSheet) b) where
      fit_is : b ≡ fitting made.opening.tables.slots from call
      fit_is = rw (prepared_slots is_prepared) at (fit store p rule budget)

      pub enter_12 : b ≡ false → (e : Refused) → e ≡ placed r.OutputLength 0 0 0 → Whole old oldSheet (Err e)
      unfolding require ◌>>=◌ unplaced number
      enter_12 q e i = refused_with _ e old oldSheet (stretch_readied ∙ rw (made_is, ← fit_is, q, i))

      module _ (q : b ≡ true) where
        fits : fitting made.opening.tables.slots from call ≡ true
        fits = sym fit_is ∙ q

        pub enter_stand : (labels : List ℕ) → labels ≡ everywhere (top_mask x.opened.table.n) → CanStand x.opened p from labels held
        enter_stand labels l =
            record {
              rules = made.rules;
              opening = made.opening;
              blocks = made.blocks;
              judges = x.judges;
              tables = t;
              opening_held = is_ready.opening_held;
              prepared = is_prepared;
              fits = from_fits from fits;
              tops = l;
            }

        module _ (labels' : List ℕ) (held' : List HeldSlot) where
          -- 19
          pub enter_19 : (e : Refusal) → Stands x.opened p from held labels' held' (Err e) → (d : Refused) → d ≡ placed e 0 0 0 → Whole old oldSheet (Err d)
          unfolding StandsAs require ◌>>=◌ unplaced
          enter_19 e w d i =
              let z : position_of made.opening made.blocks from ≡ refuse (unplaced (number e)) =
              w made.rules made.opening made.blocks x.judges t is_ready.opening_held is_prepared in
              refused_with _ d old oldSheet (stretch_readied ∙ rw (made_is, fits, z, i))

          module _ (place : Place) (w : Stands x.opened p from held labels' held' (Ok place)) (limit : ℕ) (m : limit ≡ max budget place.steps) where
            stands : StandsAt made.rules made.opening made.blocks x.opened x.judges p t from labels' held' place
            unfolding StandsAs
            stands = w made.rules made.opening made.blocks x.judges t is_ready.opening_held is_prepared

            abbrev by : Played
            by = played t x.opened.table x.judges limit

            abbrev whole : Result Halting State
            whole = take_up_blocks made.opening.tables made.rules (limits limit most_budget) stands.position.block (drop stands.position.block made.blocks) stands.position.path stands.position.state

            pub enter_play : (k : ℕ) → k ≡ k_of p → CanPlayOn by p k place labels' held'
            enter_play k e =
                record {
                  tables = made.opening.tables;
                  rules = made.rules;
                  under = prepared_under is_prepared by refl refl refl;
                  limits = limits limit most_budget;
                  blocks = made.blocks;
                  loaded = prepared_loaded is_prepared by refl k e;
                  whole = whole;
                  left = rw e (stands.along limit (omega (arith, m)));
                  count = e;
                  sheet = rw e (prepared_room is_prepared);
                }

            module _ (labels'' : List ℕ) (held'' : List HeldSlot) (k : ℕ) (e : k ≡ k_of p) (end : std.Result Finished Halted) (f : PlaysOn by p k place labels' held' labels'' held'' end) where
              ended : Ends made.rules made.opening made.blocks x.opened x.judges p t limit labels'' held'' end whole
              ended =
                  f made.opening.tables made.rules (limits limit most_budget) made.blocks _ (prepared_under is_prepared by refl refl refl) (prepared_loaded is_prepared by refl k e)
                  (rw e (stands.along limit (omega (arith, m))))

              pub enter_settle : CanSettle x.opened p labels'' held'' end old oldSheet
              enter_settle =
                  record {
                    rules = made.rules;
                    opening = made.opening;
                    blocks = made.blocks;
                    judges = x.judges;
                    tables = t;
                    limit = limit;
                    whole = _;
                    prepared = is_prepared;
                    ends = ended;
                    fits = own_fits from fits;
                  }

              pub enter_settled : (out sheet : List ℕ) (a : std.Result Answer Refused) → Settles x.opened p labels'' held'' end old oldSheet out sheet a → Whole out sheet a
              unfolding require ◌>>=◌ run_from limits_at
              enter_settled out sheet a v =
                  let n : max budget stands.position.state.steps ≡ limit = omega (arith, stands.steps_are, m) in
                  rw (stretch_readied, made_is, fits, stands.is, n) (v made.rules made.opening made.blocks x.judges t limit _ is_prepared ended)
