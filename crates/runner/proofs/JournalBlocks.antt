-- The second pass in a block (`Inside`): entering it, going on to its next assignment, and what is left after that write. Assumes nothing.
use Prim.Native.Nat.{ℕ, ◌+◌, ◌-◌, ◌≤◌, ◌<◌}
use mathlib.Core.Path.{◌≡◌, refl, sym, ap, ◌∙◌}
use mathlib.Core.List.{List, [], ◌∷◌, ◌++◌, append_assoc}
use native.Mathlib.Omega.{arith}
use native.Mathlib.Decide.{ℕ_discrete, dec_lt}
use lib.ListN.{length, get_or, take, drop, length-append}
use lib.Seq.{take-append_seam, drop-append_seam, take_at}
use Rattle.store.specs.declared.HeldSlot.{HeldSlot}
use Rattle.lattice.proofs.Order.{good_at}
use Rattle.values.specs.declared.Entry.{Entry}
use Rattle.values.specs.Result.{Result, ok, refuse, ◌>>=◌, refused_as}
use Rattle.values.proofs.Result.{post_at, one_value, not_both}
use Rattle.syntax.specs.declared.Header.{Header}
use Rattle.syntax.specs.Rows.{cmd_operands}
use Rattle.syntax.specs.Sheet.{Block, k_of, header_at}
use Rattle.calculus.specs.Calculus.{Setting, State}
use Rattle.calculus.specs.Blocks.{halt_in, run_blocks}
use Rattle.pausing.specs.Paths.{Pause, bare}
use Rattle.calculus.proofs.CalculusJournal.{Extends, extends_trans, blocks_extend}
use Rattle.machine.specs.declared.rules.Terms.{Terms}
use Rattle.machine.specs.declared.blocks.Place.{Place as From}
use Rattle.lattice.specs.HeldLabels.{top_mask}
use Rattle.machine.specs.MachineNumbers.{floor_held, Serves, DoneAs}
use Rattle.machine.specs.CompiledRuns.{Span, BlocksAt, span_of}
use Rattle.machine.specs.Machine.{Given, given, Place, place, GoesOn, Allows, Full, Halts, CanGo}
use Rattle.machine.specs.BlockRuns.{Served, Under, HeadersAt, CanTell, LeftToPlay}
use Rattle.runner.specs.Journal.{Replayed, Finishing, setting_in, Inside, CanMake, Makes}
use Rattle.machine.proofs.RuleTerms.{serves_under}
use Rattle.machine.proofs.MachineRows.{step_refused, attempt_full, assign_ends, takes_assign}
use Rattle.machine.proofs.MachineRuns.{paused_stops}
use Rattle.machine.proofs.CompiledRunsAppend.{runs_extend}
use Rattle.machine.proofs.BlockRuns.{everywhere, block_goes, left_next, headers, stand, unrolled}

-- Lists

-- two beginnings of one list, of the same length
same_first : (j k xs ys : List Entry) → j ++ xs ≡ k ++ ys → length j ≡ length k → j ≡ k
same_first j k xs ys e l = sym (take-append_seam j xs) ∙ ap (take (length j)) e ∙ take_at k ys (length j) (sym l)

-- what comes first after a list
next_first : (j : List Entry) (x y : Entry) (xs ys : List Entry) → j ++ (x ∷ xs) ≡ (j ++ (y ∷ [])) ++ ys → (y ≡ x) × (xs ≡ ys)
next_first j x y xs ys e =
    let q : x ∷ xs ≡ y ∷ ys =
    sym (drop-append_seam j (x ∷ xs)) ∙ ap (drop (length j)) (e ∙ append_assoc j (y ∷ []) ys) ∙ drop-append_seam j (y ∷ ys) in
    (sym (ap (λ (l : List Entry). get_or l 0 x) q), ap (drop 1) q)

-- a list does not go on and stay as it is
no_more : (j xs : List Entry) (x : Entry) → j ≡ j ++ (x ∷ xs) → ⊥
no_more j xs x e = omega (arith, length-append j (x ∷ xs), ap length e)

-- what a run of blocks comes to, from one that finishes
module _ (g : Replayed) (f : Finishing g) (block : ℕ) (inner : Result Pause State) (rest : List Block)
    (means : (refused_as (halt_in block) (bare inner) >>= λ t. run_blocks f.tables f.rules f.limits (block + 1) rest t) ≡ ok f.end) where
  -- the block is not stopped
  inner_runs : (e : Pause) → inner ≡ refuse e → ⊥
  unfolding refused_as ◌>>=◌
  inner_runs e q = not_both _ _ _ (rw q at means) refl

  pub record Done : Type 0 where
    pub state : State
    pub is : inner ≡ ok state
    pub then : run_blocks f.tables f.rules f.limits (block + 1) rest state ≡ ok f.end

  pub inner_done : Done
  unfolding refused_as ◌>>=◌
  inner_done = go inner refl
    where
      go : (r : Result Pause State) → inner ≡ r → Done
      go (ok t) e = record { state = t; is = e; then = rw e at means }
      go (refuse e) q = absurd (inner_runs e q)

  -- the end's journal goes on from there
  done_extends : Extends inner_done.state.journal f.end.journal
  done_extends = post_at _ _ _ _ (blocks_extend f.tables f.rules f.limits (block + 1) rest inner_done.state) inner_done.then

-- Entering a block

module _ (g : Replayed) (f : Finishing g) where
  abbrev under : (i : ℕ) (h : Header) → Type 0
  under i h = Under (setting_in f i h) g.by.order g.by.judges h

  is_under : (i : ℕ) (h : Header) → h.region < f.tables.order.n → under i h
  is_under i h r =
      record {
        grounds = f.under.grounds;
        order = f.under.order;
        judges = f.under.judges;
        header = refl;
        region = rw (← f.under.order) r;
      }

  abbrev pub full : ℕ
  full = top_mask g.by.order.n

  -- terms that serve a block, whatever it is
  abbrev some_terms : Header → Terms
  some_terms h = record { judges = g.by.judges; floor = floor_held h.endorsed h.floor; region = get_or g.by.order.masks h.region 0; top = full }

  serve : (h : Header) → Served g.by.order g.by.judges h (some_terms h)
  serve h w u = serves_under w g.by.order g.by.judges h _ _ _ u refl refl refl

  module _ (from : From) (held : List HeldSlot) (x : Entry) (es : List Entry)
      (l : LeftToPlay f.tables f.rules f.limits g.by g.sheet (k_of g.sheet) from held (ok f.end))
      (left : f.end.journal ≡ l.state.journal ++ (x ∷ es)) where
    -- there is one, since a write is left
    pub enter_some : from.block < k_of g.sheet
    unfolding run_blocks
    enter_some = go l.rest l.count l.means
      where
        go : (bs : List Block) → from.block + length bs ≡ k_of g.sheet → run_blocks f.tables f.rules f.limits from.block bs l.state ≡ ok f.end
            → from.block < k_of g.sheet
        go [] c e = absurd (no_more l.state.journal es x (ap (λ (s : State). s.journal) (one_value _ _ _ refl e) ∙ left))
        go (b ∷ bs) c e = omega arith

    pub entered : Inside g f (everywhere full) held (x ∷ es) from.block from.row from.steps
    unfolding HeadersAt BlocksAt block_goes
    entered =
        let n = left_next f.tables f.rules f.limits g.by g.sheet (k_of g.sheet) from held (ok f.end) enter_some l in
        let h = n.block.header in
        let hs = headers f.tables f.rules f.limits g.by g.sheet (k_of g.sheet) from held (ok f.end) l n in
        let st = stand f.tables f.rules f.limits g.by g.sheet (k_of g.sheet) from held (ok f.end) l n in
        record {
          header = h;
          heads = hs.0;
          region = hs.1;
          span = span_of n.block.command from.row;
          early = st.0.fits;
          room = length l.state.journal;
          inner = _;
          goes =
              block_goes (setting_in f from.block h) g.by.tables from.row from.steps 0 (length l.state.journal) full held
              (serve h (setting_in f from.block h) (is_under from.block h hs.1)).top l.state
              (record { store = l.store_held; steps = l.steps; counts = l.counts; entries = omega arith }) (omega (arith, l.kept, f.budget)) l.operand n.block.command st.0;
          fits = omega (arith, l.entries);
          within = l.kept;
          rest = n.rest;
          count = omega (arith, rw n.is at l.count);
          headers = hs.2;
          operand = l.operand + length (cmd_operands n.block.command);
          stand = st.1;
          means = unrolled f.tables f.rules f.limits g.by g.sheet (k_of g.sheet) from held (ok f.end) l n;
          left = left;
        }

-- Going on in it

module _ {g : Replayed} {f : Finishing g} {labels : List ℕ} {store : List HeldSlot} {js : List Entry} {block row steps : ℕ}
    (i : Inside g f labels store js block row steps) where
  abbrev pub w : Setting
  w = setting_in f block i.header

  within_budget : i.goes.state.steps ≤ w.limits.budget
  within_budget = omega (arith, i.goes.state_held.steps, i.within, f.budget)

  pub can_tell : CanTell g.sheet block
  can_tell =
      record {
        sheet_room = f.sheet;
        inside = omega (arith, i.count);
        region = rw (← i.heads) (omega (arith, i.region, (good_at f.tables.order f.under.grounds.table).few));
      }

  -- the end's journal goes on from whatever the block comes to
  module _ {span : Span} {room : ℕ} {p : Place} (o : GoesOn w g.by.tables span room p i.inner) (h : o.state.steps ≤ w.limits.budget) where
    end_extends : Extends o.state.journal f.end.journal
    end_extends =
        let d = inner_done g f block i.inner i.rest i.means in
        extends_trans o.state.journal d.state.journal f.end.journal (post_at _ _ _ _ (runs_extend w g.by.tables span o.runs h) d.is).0
        (done_extends g f block i.inner i.rest i.means)

    -- where no entry was filled on the way, the same are left
    same_left : length o.state.journal ≡ length i.goes.state.journal → f.end.journal ≡ o.state.journal ++ js
    same_left l =
        let x = end_extends in
        let e = same_first o.state.journal i.goes.state.journal x.more js (sym x.is ∙ i.left) l in
        rw e i.left

  module _ (terms : Terms) (served : Served g.by.order g.by.judges (header_at g.sheet block) terms) where
    abbrev pub by : Given
    by = given terms g.by.order.masks g.by.tables g.by.budget

    pub serves : Serves w terms g.by.order.masks
    serves = rw (← i.heads) at served w (is_under g f block i.header i.region)

    pub allows : (n : ℕ) → n ≤ f.limits.entries → Allows w by n
    allows n h = record { budget = omega (arith, f.budget); entries = h }

    pub go_can : CanGo by (place row steps 0 labels store)
    go_can =
        record {
          setting = w;
          serves = serves;
          room = i.room;
          enough = allows i.room i.fits;
          span = i.span;
          whole = i.inner;
          goes = i.goes;
          within = i.within;
        }

    module _ (labels' : List ℕ) (store' : List HeldSlot) where
      -- the block's end: the next one is left to play
      module _ (row' steps' free' : ℕ) (e : row' ≡ i.span.last) (d : DoneAs w i.room store' steps' free' i.inner) where
        abbrev pub after : From
        after = record { block = block + 1; row = row' + 1; steps = steps'; free = f.limits.entries - i.room }

        filled : Extends i.goes.state.journal d.state.journal × (d.state.steps ≤ w.limits.budget)
        filled = post_at _ _ _ _ (runs_extend w g.by.tables i.span i.goes.runs within_budget) d.means

        pub done_left : (l : LeftToPlay f.tables f.rules f.limits g.by g.sheet (k_of g.sheet) after store' (ok f.end))
            × (f.end.journal ≡ l.state.journal ++ js)
        unfolding refused_as ◌>>=◌
        done_left =
            let k = filled.0 in
            let longer : length d.state.journal ≡ length i.goes.state.journal + length k.more = ap length k.is ∙ length-append i.goes.state.journal k.more in
            let same : length d.state.journal ≡ length i.goes.state.journal = omega (arith, longer, d.held.entries, i.goes.state_held.entries) in
            let then : run_blocks f.tables f.rules f.limits (block + 1) i.rest d.state ≡ ok f.end = rw d.means at i.means in
            let end = post_at _ _ _ _ (blocks_extend f.tables f.rules f.limits (block + 1) i.rest d.state) then in
            let j : d.state.journal ≡ i.goes.state.journal = same_first d.state.journal i.goes.state.journal end.more js (sym end.is ∙ i.left) same in (
              record {
                budget = f.budget;
                rest = i.rest;
                count = i.count;
                headers = i.headers;
                operand = i.operand;
                stand = rw e i.stand;
                state = d.state;
                store_held = d.held.store;
                steps = d.held.steps;
                counts = d.held.counts;
                entries = omega (arith, same, i.goes.state_held.entries, i.fits);
                kept = omega (arith, filled.1, d.held.steps, f.budget);
                means = then;
              },
              rw j i.left,
            )

      -- an assignment, for which no entry is free
      module _ (number row' steps' free' : ℕ) (h : Halts w by i.span i.room number (place row' steps' free' labels' store') i.inner) where
        abbrev pub here : Place
        here = place row' steps' 0 labels' store'

        pub there : Full w by i.span i.room here i.inner
        there = go (ℕ_discrete number 17) (ℕ_discrete number 18)
          where
            go : Dec (number ≡ 17) → Dec (number ≡ 18) → Full w by i.span i.room here i.inner
            go (yes q) d =
                absurd (inner_runs g f block i.inner i.rest i.means _
                (paused_stops w by i.span i.room (place row' steps' free' labels' store') i.inner f.budget (h.paused q)).means)
            go (no q) (yes d) = let z = h.full d in rw z.none at z
            go (no q) (no d) = absurd (inner_runs g f block i.inner i.rest i.means _ (h.final q d).means)

        abbrev done : Done g f block i.inner i.rest i.means
        done = inner_done g f block i.inner i.rest i.means

        -- the journal has room for its entry, since the run is not stopped there
        has_room : length there.goes.state.journal < w.limits.entries
        has_room = go (dec_lt (length there.goes.state.journal) w.limits.entries)
          where
            go : Dec (length there.goes.state.journal < w.limits.entries) → length there.goes.state.journal < w.limits.entries
            go (yes l) = l
            go (no l) =
                let o = there.goes in
                let t = takes_assign o.runs there.due in
                let a = attempt_full w (get_or o.labels t.depth 0) o.state t.x t.v (omega arith) in
                let n : o.state.steps ≡ w.limits.budget → ⊥ = λ q. omega (arith, o.state_held.steps, there.left, f.budget, q) in
                absurd (inner_runs g f block i.inner i.rest i.means _ (assign_ends t _ (step_refused w t.at o.state _ 18 n a)))

        pub make_can : CanMake by here
        make_can =
            record {
              can =
                  record {
                    can =
                        record {
                          setting = w;
                          serves = serves;
                          room = i.room;
                          enough = allows i.room i.fits;
                          span = i.span;
                          whole = i.inner;
                          goes = there.goes;
                          within = omega (arith, there.left);
                        };
                    is = there.due;
                    left = there.left;
                  };
              end = done.state;
              ends = done.is;
              more = has_room;
            }

        -- it is the next write, and the rest is left
        module _ (y : Entry) (es : List Entry) (e : js ≡ y ∷ es) (store'' : List HeldSlot) (z : Entry) (m : Makes by here block store'' z) where
          pub made_next : (z ≡ y) × Inside g f labels' store'' es block (row' + 1) (steps' + 1)
          made_next =
              let o = there.goes in
              let l : length o.state.journal ≡ length i.goes.state.journal = omega (arith, o.state_held.entries, i.goes.state_held.entries) in
              let h : o.state.steps ≤ w.limits.budget = omega (arith, o.state_held.steps, there.left, f.budget) in
              let q = m w i.span i.room i.inner done.state serves (allows i.room i.fits) refl o has_room done.is in
              let b = end_extends q.0 (omega (arith, q.0.state_held.steps, there.left, f.budget)) in
              let n = next_first o.state.journal y z es b.more (sym (same_left o h l ∙ ap (λ (k : List Entry). o.state.journal ++ k) e) ∙ b.is
              ∙ ap (λ (k : List Entry). k ++ b.more) q.1) in (
                n.0,
                record {
                  header = i.header;
                  heads = i.heads;
                  region = i.region;
                  span = i.span;
                  early = i.early;
                  room = length o.state.journal + 1;
                  inner = i.inner;
                  goes = q.0;
                  fits = omega (arith, has_room);
                  within = omega (arith, there.left);
                  rest = i.rest;
                  count = i.count;
                  headers = i.headers;
                  operand = i.operand;
                  stand = i.stand;
                  means = i.means;
                  left = b.is ∙ ap (λ (k : List Entry). q.0.state.journal ++ k) (sym n.1);
                },
              )
