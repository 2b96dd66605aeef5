-- The loop of `play_blocks`: what is left to play from the start comes to what is left from here. Assumes nothing.
use Prim.Native.Nat.{ℕ, ◌+◌, ◌≤◌, ◌<◌}
use mathlib.Core.Path.{◌≡◌, refl, sym}
use mathlib.Core.Logic.{◌⊎◌, inl, inr, ⊎_elim}
use mathlib.Core.List.{List, [], ◌∷◌}
use native.Mathlib.Omega.{arith}
use native.Mathlib.Decide.{ℕ_discrete}
use lib.ListN.{length, drop}
use Rattle.lattice.specs.Order.{most_principals, top}
use Rattle.lattice.proofs.Order.{good_at}
use Rattle.std.proofs.Common.{Ok, Err}
use Rattle.std.specs.Prelude as std
use Rattle.values.specs.Refusal.{number, placed}
use Rattle.values.specs.Result.{Result, ◌>>=◌, refused_as}
use Rattle.values.proofs.Result.{post_at}
use Rattle.store.specs.declared.HeldSlot.{HeldSlot}
use Rattle.store.specs.Sheet.{Tables}
use Rattle.syntax.specs.Sheet.{Block, header_at}
use Rattle.syntax.specs.Rows.{most_rows, size}
use Rattle.calculus.specs.Rules.{RuleSet}
use Rattle.calculus.specs.Calculus.{Limits, Setting, State}
use Rattle.calculus.specs.Blocks.{setting}
use Rattle.pausing.specs.Paths.{play}
use Rattle.pausing.specs.Stretches.{Halted as Halting, take_up_blocks}
use Rattle.pausing.proofs.PathsAsideBlocks.{take_up_none}
use Rattle.machine.specs.declared.rules.Terms.{Terms}
use Rattle.machine.specs.declared.blocks.Place.{Place}
use Rattle.machine.specs.declared.blocks.Finished.{Finished}
use Rattle.machine.specs.declared.blocks.Halted.{Halted}
use Rattle.machine.specs.declared.rows.Stop.{Stop}
use Rattle.lattice.specs.HeldLabels.{LabelHeld}
use Rattle.machine.specs.MachineNumbers.{Serves, StoreHeld, FewCounts, DoneAs}
use Rattle.machine.specs.CompiledRuns.{offset_at, span_of, rows_before}
use Rattle.machine.specs.Machine.{Given, given, Place as Spot, place, Allows, Halts, CanGo, Ends, Went}
use Rattle.machine.specs.BlockRuns.{Served, Played, CanTell, AllUnder, Loaded, InBlock, Over, ToPlay, EndedAs, finished, halted, PlaysOn, CanPlayOn}
use Rattle.machine.proofs.MachineRows.{step_inside}
use Rattle.machine.proofs.MachineRuns.{paused_means, halts_stops}
use Rattle.machine.proofs.CompiledRunsAppend.{runs_extend}
use Rattle.machine.proofs.BlockRuns.{everywhere, block_goes, drop_inside, drop_none, drop_next, header_of_law, block_of, before_next}

module _ {w : Tables} {rules : RuleSet} {m : Limits} {g : Played} {p : List ℕ} {k : ℕ} {blocks : List Block} (u : AllUnder w rules g) (d : Loaded w g p k blocks) where
  -- at the start of a block, or after the last: the top is the branch label at every depth
  pub at_start : (from : Place) (x : ℕ) (held : List HeldSlot) (s : State) (whole : Result Halting State) → LabelHeld w.order (top w.order) x
      → m.budget ≡ g.budget → from.steps ≤ g.budget → from.row ≡ rows_before blocks from.block
      → StoreHeld w s.store held → s.steps ≡ from.steps → FewCounts s → length s.journal + from.free ≡ m.entries
      → take_up_blocks w rules m from.block (drop from.block blocks) [] s ≡ whole
      → ToPlay w rules m g k blocks from (everywhere x) held whole
  unfolding take_up_blocks
  at_start from x held s whole t e le q h n c f z = record { budget = e; kept = le; left = go (drop from.block blocks) refl z }
    where
      go : (bs : List Block) → drop from.block blocks ≡ bs → take_up_blocks w rules m from.block bs [] s ≡ whole
          → Over w m k from held whole ⊎ InBlock w rules m g blocks from (everywhere x) held whole
      go [] y z =
          inl (record { over = omega (arith, d.count, drop_none blocks from.block y); state = s; store_held = h; steps = n; entries = f; means = sym z })
      go (b ∷ bs) y z =
          let v = setting w rules m from.block b in
          let a = block_of g.tables 0 0 from.block blocks b bs d.stand y in
          let i : 0 + rows_before blocks from.block ≡ from.row = omega (arith, q) in
          inr (record {
            block = b;
            rest = bs;
            listed = y;
            inner = play v b.command (top w.order) s;
            goes = rw (← q)
                (block_goes v g.tables from.row from.steps from.free m.entries x held t s (record { store = h; steps = n; counts = c; entries = f }) (omega arith)
                a.operand b.command (rw i at a.stands));
            means = rw (sym (take_up_none v b.command (top w.order) s)) z;
          })

  -- a block is next
  pub now_in : (from : Place) (labels : List ℕ) (held : List HeldSlot) (whole : Result Halting State) → from.block < k → ToPlay w rules m g k blocks from labels held whole
      → InBlock w rules m g blocks from labels held whole
  now_in from labels held whole h x = ⊎_elim (λ o. absurd (omega (arith, o.over))) (λ i. i) x.left

  -- none is
  pub now_over : (from : Place) (labels : List ℕ) (held : List HeldSlot) (whole : Result Halting State) → k ≤ from.block → ToPlay w rules m g k blocks from labels held whole
      → EndedAs w m g blocks labels held (Ok (record { steps = from.steps; free = from.free })) whole
  now_over from labels held whole h x =
      ⊎_elim (λ o. rw o.means (finished o.store_held o.steps o.entries))
      (λ i. absurd (omega (arith, d.count, drop_inside blocks from.block i.block i.rest i.listed))) x.left

  module _ (from : Place) (labels : List ℕ) (held : List HeldSlot) (whole : Result Halting State) (x : ToPlay w rules m g k blocks from labels held whole)
      (i : InBlock w rules m g blocks from labels held whole) where
    abbrev v : Setting
    v = setting w rules m from.block i.block

    headed : (i.block.header ≡ header_at p from.block) × (i.block.header.region < w.order.n)
    headed =
        let y : 0 + from.block ≡ from.block = omega arith in
        rw y at (header_of_law w.order.n p 0 from.block blocks i.block i.rest d.headers i.listed)

    pub in_region_law : (header_at p from.block).region < most_principals
    in_region_law = rw (← headed.0) (omega (arith, headed.1, (good_at w.order u.grounds.table).few))

    module _ (terms : Terms) (served : Served g.order g.judges (header_at p from.block) terms) where
      abbrev by : Given
      by = given terms g.order.masks g.tables g.budget

      serves : Serves v terms g.order.masks
      serves =
          served v (record { grounds = u.grounds; order = u.order; judges = u.judges; header = sym headed.0; region = rw (← headed.0, ← u.order) headed.1 })

      allows : Allows v by m.entries
      allows = record { budget = omega (arith, x.budget); entries = omega arith }

      pub in_can : CanGo by (place from.row from.steps from.free labels held)
      in_can =
          record {
            setting = v;
            serves = serves;
            room = m.entries;
            enough = allows;
            span = span_of i.block.command (rows_before blocks from.block);
            whole = i.inner;
            goes = i.goes;
            within = x.kept;
          }

      module _ (labels' : List ℕ) (held' : List HeldSlot) where
        module _ (last steps free : ℕ) (f : Went by (place from.row from.steps from.free labels held) labels' held' (Ok (record { row = last; steps = steps; free = free }))) where
          done : (last ≡ rows_before blocks from.block + size i.block.command) × DoneAs v m.entries held' steps free i.inner
          unfolding Ends
          done = f.ends v (span_of i.block.command (rows_before blocks from.block)) m.entries i.inner serves allows i.goes

          pub in_row : last < most_rows
          in_row =
              let a = block_of g.tables 0 0 from.block blocks i.block i.rest d.stand i.listed in
              omega (arith, done.0, a.stands.fits)

          -- the next block is at its start
          pub in_done : (n : ℕ) → terms.top ≡ n
              → ToPlay w rules m g k blocks (record { block = from.block + 1; row = last + 1; steps = steps; free = free }) (everywhere n) held' whole
          unfolding refused_as ◌>>=◌
          in_done n e =
              let z = done.1 in
              let bound = (post_at _ _ _ _ (runs_extend v g.tables _ i.goes.runs (omega (arith, i.goes.state_held.steps, x.kept, x.budget))) z.means).1 in
              at_start (record { block = from.block + 1; row = last + 1; steps = steps; free = free }) n held' z.state whole (rw (← e) serves.top) x.budget
              (omega (arith, bound, z.held.steps, x.budget)) (omega (arith, done.0, before_next from.block blocks i.block i.rest i.listed))
              z.held.store z.held.steps z.held.counts z.held.entries
              (rw (drop_next blocks from.block i.block i.rest i.listed) (rw z.means at i.means))

        module _ (y : Stop) (f : Went by (place from.row from.steps from.free labels held) labels' held' (Err y)) where
          abbrev here : ℕ → Spot
          here free = place y.row y.steps free labels' held'

          abbrev halt : std.Result Finished Halted
          halt = Err (record { row = y.row; refused = placed y.refusal from.block y.offset y.steps })

          stopped : (y.offset ≡ offset_at g.tables y.row)
              × ((free : ℕ) × Halts v by (span_of i.block.command (rows_before blocks from.block)) m.entries (number y.refusal) (here free) i.inner)
          unfolding Ends
          stopped = f.ends v (span_of i.block.command (rows_before blocks from.block)) m.entries i.inner serves allows i.goes

          -- out of budget, its path is the path to the row
          in_paused : number y.refusal ≡ 17 → EndedAs w m g blocks labels' held' halt whole
          unfolding refused_as ◌>>=◌
          in_paused e =
              let z = stopped.1.1.paused e in
              let o = z.goes in
              let q = paused_means v by (span_of i.block.command (rows_before blocks from.block)) m.entries (here stopped.1.0) i.inner x.budget z in
              rw (← rw q at i.means)
              (halted (sym e) refl (sym stopped.0) o.state_held.steps (λ _.
              record {
                block = i.block;
                rest = i.rest;
                listed = i.listed;
                inside = step_inside o.runs z.due;
                due = z.due;
                principals = o.labels;
                labels_held = o.labels_held;
                store_held = o.state_held.store;
                path = refl;
              }))

          pub in_stopped : EndedAs w m g blocks labels' held' halt whole
          unfolding refused_as ◌>>=◌
          in_stopped = go (ℕ_discrete (number y.refusal) 17)
            where
              go : Dec (number y.refusal ≡ 17) → EndedAs w m g blocks labels' held' halt whole
              go (yes e) = in_paused e
              go (no n) =
                  let z = halts_stops v by (span_of i.block.command (rows_before blocks from.block)) m.entries (here stopped.1.0) i.inner x.budget (number y.refusal) refl stopped.1.1 in
                  rw (← rw z.means at i.means) (halted refl refl (sym stopped.0) z.counted (λ e. absurd (n e)))

-- what every turn knows
pub record Underway (g : Played) (p : List ℕ) (k : ℕ) (from : Place) (labels₀ : List ℕ) (opening : List HeldSlot) (here : Place) (labels : List ℕ) (held : List HeldSlot) : Type 0 where
  pub left : (w : Tables) (rules : RuleSet) (m : Limits) (blocks : List Block) (whole : Result Halting State) → AllUnder w rules g → Loaded w g p k blocks
      → ToPlay w rules m g k blocks from labels₀ opening whole → ToPlay w rules m g k blocks here labels held whole

module _ {g : Played} {p : List ℕ} {k : ℕ} {from : Place} {labels₀ : List ℕ} {opening : List HeldSlot} where
  pub underway_start : Underway g p k from labels₀ opening from labels₀ opening
  underway_start = record { left = λ w rules m blocks whole u d l. l }

  module _ {here : Place} {labels : List ℕ} {held : List HeldSlot} (x : Underway g p k from labels₀ opening here labels held) where
    pub underway_ends : k ≤ here.block → PlaysOn g p k from labels₀ opening labels held (Ok (record { steps = here.steps; free = here.free }))
    underway_ends h w rules m blocks whole u d l = now_over u d here labels held whole h (x.left w rules m blocks whole u d l)

    module _ (lt : here.block < k) where
      module _ (c : CanPlayOn g p k from labels₀ opening) where
        there : ToPlay c.tables c.rules c.limits g k c.blocks here labels held c.whole
        there = x.left c.tables c.rules c.limits c.blocks c.whole c.under c.loaded c.left

        inside : InBlock c.tables c.rules c.limits g c.blocks here labels held c.whole
        inside = now_in c.under c.loaded here labels held c.whole lt there

        pub underway_tell : CanTell p here.block
        underway_tell =
            record {
              sheet_room = rw (← c.count) c.sheet;
              inside = rw (← c.count) lt;
              region = in_region_law c.under c.loaded here labels held c.whole there inside;
            }

        module _ (terms : Terms) (served : Served g.order g.judges (header_at p here.block) terms) where
          pub underway_can : CanGo (given terms g.order.masks g.tables g.budget) (place here.row here.steps here.free labels held)
          underway_can = in_can c.under c.loaded here labels held c.whole there inside terms served

          pub underway_row : (labels' : List ℕ) (held' : List HeldSlot) (last steps free : ℕ)
              → Went (given terms g.order.masks g.tables g.budget) (place here.row here.steps here.free labels held) labels' held' (Ok (record { row = last; steps = steps; free = free })) → last < most_rows
          underway_row labels' held' last steps free f = in_row c.under c.loaded here labels held c.whole there inside terms served labels' held' last steps free f

      module _ (terms : Terms) (served : Served g.order g.judges (header_at p here.block) terms) (labels' : List ℕ) (held' : List HeldSlot) where
        pub underway_next : (last steps free : ℕ)
            → Went (given terms g.order.masks g.tables g.budget) (place here.row here.steps here.free labels held) labels' held' (Ok (record { row = last; steps = steps; free = free }))
            → Underway g p k from labels₀ opening (record { block = here.block + 1; row = last + 1; steps = steps; free = free }) (everywhere terms.top) held'
        underway_next last steps free f =
            record {
              left = λ w rules m blocks whole u d l₀.
                  let l = x.left w rules m blocks whole u d l₀ in
                  in_done u d here labels held whole l (now_in u d here labels held whole lt l) terms served labels' held' last steps free f terms.top refl;
            }

        pub underway_stops : (y : Stop) → Went (given terms g.order.masks g.tables g.budget) (place here.row here.steps here.free labels held) labels' held' (Err y)
            → PlaysOn g p k from labels₀ opening labels' held' (Err (record { row = y.row; refused = placed y.refusal here.block y.offset y.steps }))
        underway_stops y f w rules m blocks whole u d l₀ =
            let l = x.left w rules m blocks whole u d l₀ in
            in_stopped u d here labels held whole l (now_in u d here labels held whole lt l) terms served labels' held' y f
