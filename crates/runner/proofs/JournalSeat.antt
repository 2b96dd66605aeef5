-- Where the second pass stands between its writes (`Seat`): blocks are entered and end, a write is made. Serves `next_write`. Assumes nothing.
use Prim.Native.Nat.{ℕ, ◌+◌, ◌<◌}
use mathlib.Core.Path.{◌≡◌}
use mathlib.Core.List.{List, [], ◌∷◌, ◌++◌}
use native.Mathlib.Omega.{arith}
use Rattle.store.specs.declared.HeldSlot.{HeldSlot}
use Rattle.values.specs.declared.Entry.{Entry}
use Rattle.syntax.specs.Rows.{most_rows}
use Rattle.syntax.specs.Sheet.{k_of, header_at}
use Rattle.values.specs.Result.{ok}
use Rattle.machine.specs.declared.rules.Terms.{Terms}
use Rattle.machine.specs.declared.blocks.Place.{Place as From}
use Rattle.std.proofs.Common.{Ok, Err}
use Rattle.values.specs.Refusal.{number}
use Rattle.machine.specs.declared.rows.Place.{Place as At}
use Rattle.machine.specs.declared.rows.Stop.{Stop}
use Rattle.machine.specs.Machine.{Given, given, Place, place, Halts, CanGo, Ends, Went}
use Rattle.machine.specs.MachineNumbers.{DoneAs}
use Rattle.machine.specs.BlockRuns.{CanTell, Served, LeftToPlay}
use Rattle.runner.specs.Journal.{Replayed, Seated, seated, Inside, Seat, Left, CanMake, Makes}
use Rattle.machine.proofs.MachineRows.{run_inside}
use Rattle.machine.proofs.BlockRuns.{everywhere}
use Rattle.runner.proofs.JournalBlocks.{full, enter_some, entered, can_tell, w, serves, allows, go_can, after, done_left, there, make_can, made_next}

-- a place from which writes are left, if any
seat_left : {g : Replayed} {s : Seated} (es : List Entry) → Seat g s es → Left g s es
unfolding Left
seat_left [] x = tt
seat_left (e ∷ es) x = x

-- In a block
module _ {g : Replayed} {labels : List ℕ} {store : List HeldSlot} {place' : From} {js : List Entry} (s : Seat g (seated labels store place') js) where
  pub seat_few : place'.block < k_of g.sheet
  seat_few = omega (arith, s.inside.count)

  pub seat_tell : CanTell g.sheet place'.block
  seat_tell = can_tell s.inside

  module _ (terms : Terms) (served : Served g.by.order g.by.judges (header_at g.sheet place'.block) terms) where
    abbrev machine : Given
    machine = given terms g.by.order.masks g.by.tables g.by.budget

    abbrev from : Place
    from = place place'.row place'.steps 0 labels store

    pub seat_go : CanGo machine from
    seat_go = go_can s.inside terms served

    module _ (labels' : List ℕ) (store' : List HeldSlot) where
      -- the block ended: the next one is entered
      module _ (e : At) (x : Went machine from labels' store' (Ok e)) where
        ended : (e.row ≡ s.inside.span.last) × DoneAs (w s.inside) s.inside.room store' e.steps e.free s.inside.inner
        unfolding Ends
        ended =
            x.ends (w s.inside) s.inside.span s.inside.room s.inside.inner (serves s.inside terms served)
            (allows s.inside terms served s.inside.room s.inside.fits) s.inside.goes

        pub seat_last : e.row < most_rows
        seat_last = omega (arith, ended.0, s.inside.early)

        module _ (y : Entry) (es : List Entry) (q : js ≡ y ∷ es) where
          abbrev From' : From
          From' = after s.inside terms served labels' store' e.row e.steps e.free ended.0 ended.1

          left : (l : LeftToPlay s.run.tables s.run.rules s.run.limits g.by g.sheet (k_of g.sheet) From' store' (ok s.run.end))
              × (s.run.end.journal ≡ l.state.journal ++ (y ∷ es))
          left = rw q at (done_left s.inside terms served labels' store' e.row e.steps e.free ended.0 ended.1)

          pub seat_more : place'.block + 1 < k_of g.sheet
          seat_more = enter_some g s.run From' store' y es left.0 left.1

          pub seat_next : (labels'' : List ℕ) → labels'' ≡ everywhere (full g s.run)
              → Seat g (seated labels'' store' (record { block = place'.block + 1; row = e.row + 1; steps = e.steps; free = place'.free })) (y ∷ es)
          seat_next labels'' o = rw o (record { run = s.run; inside = entered g s.run From' store' y es left.0 left.1 })

      -- an assignment came, for which no entry was free: it is made
      module _ (e : Stop) (x : Went machine from labels' store' (Err e)) where
        stopped : (free : ℕ) × Halts (w s.inside) machine s.inside.span s.inside.room (number e.refusal) (place e.row e.steps free labels' store') s.inside.inner
        unfolding Ends
        stopped =
            (x.ends (w s.inside) s.inside.span s.inside.room s.inside.inner (serves s.inside terms served)
            (allows s.inside terms served s.inside.room s.inside.fits) s.inside.goes).1

        pub seat_here : e.row < most_rows
        seat_here = run_inside (there s.inside terms served labels' store' (number e.refusal) e.row e.steps stopped.0 stopped.1).goes.runs

        pub seat_early : e.steps < g.by.budget
        seat_early = (there s.inside terms served labels' store' (number e.refusal) e.row e.steps stopped.0 stopped.1).left

        pub seat_make : CanMake machine (place e.row e.steps 0 labels' store')
        seat_make = make_can s.inside terms served labels' store' (number e.refusal) e.row e.steps stopped.0 stopped.1

        module _ (y : Entry) (es : List Entry) (q : js ≡ y ∷ es) (store'' : List HeldSlot) (z : Entry)
            (m : Makes machine (place e.row e.steps 0 labels' store') place'.block store'' z) where
          made : (z ≡ y) × Inside g s.run labels' store'' es place'.block (e.row + 1) (e.steps + 1)
          made = made_next s.inside terms served labels' store' (number e.refusal) e.row e.steps stopped.0 stopped.1 y es q store'' z m

          pub seat_made : (z ≡ y) × Left g (seated labels' store'' (record { block = place'.block; row = e.row + 1; steps = e.steps + 1; free = place'.free })) es
          seat_made = (made.0, seat_left es (record { run = s.run; inside = made.1 }))

-- the loop over the blocks: from here comes the same write next
pub record Onwards (g : Replayed) (s s' : Seated) : Type 0 where
  pub so : (x : Entry) (es : List Entry) → Left g s (x ∷ es) → Left g s' (x ∷ es)

-- a write is left, so it stands in a block
pub standing : {g : Replayed} {s : Seated} {x : Entry} {es : List Entry} → Left g s (x ∷ es) → Seat g s (x ∷ es)
unfolding Left
standing l = l

pub left_of : {g : Replayed} {s : Seated} {x : Entry} {es : List Entry} → Seat g s (x ∷ es) → Left g s (x ∷ es)
unfolding Left
left_of l = l
