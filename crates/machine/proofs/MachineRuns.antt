-- A run from a place on: jumps, steps due, what is left after each move, pauses. Serves `take_assign`, `take_guard` and `go`. Assumes nothing.
use Prim.Native.Nat.{ℕ, ◌<◌}
use mathlib.Core.Path.{◌≡◌, refl, sym, ◌∙◌}
use mathlib.Core.Logic.{◌⊎◌, ⊎_elim}
use mathlib.Core.List.{List}
use native.Mathlib.Omega.{arith}
use lib.ListN.{get_or}
use native.Mathlib.Decide.{ℕ_discrete}
use Rattle.store.specs.declared.HeldSlot.{HeldSlot}
use Rattle.std.proofs.Common.{Ok, Err}
use Rattle.values.specs.Result.{Result, refuse}
use Rattle.values.specs.Refusal.{number}
use Rattle.syntax.specs.Rows.{end_row, jump_row, assign_kind, guard_kind, most_rows}
use Rattle.calculus.specs.Calculus.{Setting, State, stop_at}
use Rattle.pausing.specs.Paths.{Pause, pause_at}
use Rattle.machine.specs.declared.rows.Stop.{Stop}
use Rattle.machine.specs.Answers.{Control}
use Rattle.machine.specs.MachineNumbers.{Serves, StopsAs}
use Rattle.machine.specs.CompiledRuns.{row_at, kind_at, offset_at, Span}
use Rattle.machine.specs.Machine.{Given, Place, place, GoesOn, Allows, Paused, Full, Halts, Moves, Within, Moved, CanGo, CanStep, Ends, Went}
use Rattle.machine.proofs.CompiledTables.{kind_jump, kind_end, offset_assign, offset_guard}
use Rattle.machine.proofs.MachineRows.{step_spent, step_refused, attempt_full, assign_ends, guard_ends, takes_assign, takes_guard, same_jump, takes_jump, run_ends, run_inside, less_jump, less_stop}

-- Jumps

pub jump_on : {g : Given} {p : Place} (c : CanGo g p) (target : ℕ) → row_at g.tables p.row ≡ jump_row target
    → Moved g p p.labels p.store (Control.On target p.steps p.free)
unfolding Moves Within
jump_on {g} {p} c target e =
    let k = kind_jump e in
    let j = takes_jump c.goes.runs k in
    let q : target ≡ j.target = same_jump (sym e ∙ j.stands.holds) in
    record {
      same = λ w span room whole h b o.
          let t = takes_jump o.runs k in
          let y : target ≡ t.target = same_jump (sym e ∙ t.stands.holds) in
          record { labels = o.labels; state = o.state; labels_held = o.labels_held; state_held = o.state_held; runs = rw y t.then };
      less = less_jump g p.row p.steps p.free target k j.stands.early (rw q j.stands.falls);
      within = c.within;
    }

-- Steps that are due

module _ {g : Given} {p : Place} (c : CanGo g p) where
  -- none is left: the run is paused there
  pub spent_stops : (kind_at g.tables p.row ≡ assign_kind) ⊎ (kind_at g.tables p.row ≡ guard_kind) → p.steps ≡ g.budget
      → Moved g p p.labels p.store (Control.Stopped 17 p.row p.steps p.free)
  unfolding Moves Within
  spent_stops due e =
      record {
        same = λ w span room whole h b o.
            record {
              paused = λ _. record { due = due; spent = e; goes = o };
              full = λ k. absurd (omega arith);
              final = λ n _. absurd (n refl);
            };
        less = less_stop g p.row p.steps p.free 17;
        within = (c.within, run_inside c.goes.runs);
      }

  pub can_step : {kind : ℕ} → kind_at g.tables p.row ≡ kind → (p.steps ≡ g.budget → ⊥) → CanStep kind g p
  can_step e l = record { can = c; is = e; left = omega (arith, c.within) }

-- The loop: what is left to do comes to what the whole comes to

pub record Goes (g : Given) (p : Place) (labels : List ℕ) (store : List HeldSlot) (x : Control) : Type 0 where
  pub means : (w : Setting) (span : Span) (room : ℕ) (whole : Result Pause State) → Serves w g.terms g.masks → Allows w g room
      → GoesOn w g.tables span room p whole → Moves w g span room labels store x whole
  pub within : Within g.budget x

module _ {g : Given} {p : Place} (c : CanGo g p) where
  pub opening : Goes g p p.labels p.store (Control.On p.row p.steps p.free)
  unfolding Moves Within
  opening = record { means = λ w span room whole h b o. o; within = c.within }

  module _ {labels : List ℕ} {store : List HeldSlot} {row steps free : ℕ} (o : Goes g p labels store (Control.On row steps free)) where
    -- it can go on from every row that it comes to
    pub goes_on : CanGo g (place row steps free labels store)
    unfolding Moves Within
    goes_on =
        record {
          setting = c.setting;
          serves = c.serves;
          room = c.room;
          enough = c.enough;
          span = c.span;
          whole = c.whole;
          goes = o.means c.setting c.span c.room c.whole c.serves c.enough c.goes;
          within = o.within;
        }

    -- which is one
    pub row_inside : row < most_rows
    row_inside = run_inside goes_on.goes.runs

module _ {g : Given} {p : Place} {labels : List ℕ} {store : List HeldSlot} {row steps free : ℕ} (o : Goes g p labels store (Control.On row steps free)) where
  pub moved : {labels' : List ℕ} {store' : List HeldSlot} {x : Control}
      → Moved g (place row steps free labels store) labels' store' x → Goes g p labels' store' x
  unfolding Moves
  moved m = record { means = λ w span room whole h b q. m.same w span room whole h b (o.means w span room whole h b q); within = m.within }

  pub finished : row_at g.tables row ≡ end_row → Went g p labels store (Ok (record { row = row; steps = steps; free = free }))
  unfolding Moves Ends
  finished e =
      record {
        ends = λ w span room whole h b q.
            let m = o.means w span room whole h b q in
            let z = run_ends m.runs (kind_end e) in
            (z.0, record { state = m.state; held = m.state_held; means = z.1 });
      }

  pub halted : {labels' : List ℕ} {store' : List HeldSlot} (x : Stop) → x.row ≡ row → x.steps ≡ steps → x.offset ≡ offset_at g.tables row
      → Moved g (place row steps free labels store) labels' store' (Control.Stopped (number x.refusal) row steps free)
      → Went g p labels' store' (Err x)
  unfolding Moves Ends
  halted x r t e m =
      record { ends = λ w span room whole h b q. rw (r, t) (e, (free, m.same w span room whole h b (o.means w span room whole h b q))) }

-- Within the machine's own limits a run that is paused is stopped by 17 or 18 ..
module _ (w : Setting) (g : Given) (span : Span) (room : ℕ) (p : Place) (whole : Result Pause State) (b : w.limits.budget ≡ g.budget) where
  pub paused_means : (z : Paused w g span room p whole)
      → whole ≡ refuse (pause_at (span.path p.row z.goes.labels) (stop_at (offset_at g.tables p.row) z.goes.state 17))
  paused_means z =
      let o = z.goes in
      let e : o.state.steps ≡ w.limits.budget = o.state_held.steps ∙ z.spent ∙ sym b in
      ⊎_elim
      (λ k. let t = takes_assign o.runs k in rw (offset_assign t.stands.holds) (assign_ends t _ (step_spent w t.at o.state _ e)))
      (λ k. let t = takes_guard o.runs k in rw (offset_guard t.stands.holds) (guard_ends t _ (step_spent w t.at o.state _ e)))
      z.due

  pub paused_stops : Paused w g span room p whole → StopsAs 17 (offset_at g.tables p.row) p.steps whole
  paused_stops z = record { path = _; state = z.goes.state; counted = z.goes.state_held.steps; means = paused_means z }

  full_stops : w.limits.entries ≡ room → Full w g span room p whole → StopsAs 18 (offset_at g.tables p.row) p.steps whole
  full_stops e z =
      let o = z.goes in
      let t = takes_assign o.runs z.due in
      let a = attempt_full w (get_or o.labels t.depth 0) o.state t.x t.v (omega (arith, o.state_held.entries, z.none, e)) in
      let l : o.state.steps ≡ w.limits.budget → ⊥ = λ q. omega (arith, o.state_held.steps, z.left, b, q) in
      record { path = span.path p.row o.labels; state = o.state; counted = o.state_held.steps; means = rw (offset_assign t.stands.holds) (assign_ends t _ (step_refused w t.at o.state _ 18 l a)) }

  -- .. and so a run that was stopped is stopped by its number.
  pub halts_stops : (number : ℕ) → w.limits.entries ≡ room → Halts w g span room number p whole
      → StopsAs number (offset_at g.tables p.row) p.steps whole
  halts_stops number e z = go (ℕ_discrete number 17) (ℕ_discrete number 18)
    where
      go : Dec (number ≡ 17) → Dec (number ≡ 18) → StopsAs number (offset_at g.tables p.row) p.steps whole
      go (yes q) d = rw q (paused_stops (z.paused q))
      go (no q) (yes r) = rw r (full_stops e (z.full r))
      go (no q) (no r) = z.final q r
