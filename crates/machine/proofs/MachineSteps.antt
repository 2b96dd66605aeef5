-- What the machine makes of an assignment's and of a guard's row (`Moved`). Serves `take_assign` and `take_guard`. Assumes nothing.
use Prim.Native.Nat.{ℕ, ◌+◌, ◌-◌, ◌≤◌, ◌<◌}
use mathlib.Core.Path.{◌≡◌, refl, sym, ap, ◌∙◌}
use mathlib.Core.Bool.{Bool, true, false}
use mathlib.Core.List.{List, [], ◌∷◌}
use native.Mathlib.Omega.{arith}
use lib.ListN.{length, get_or, set, length-append}
use lib.Bits.{bit_and}
use Rattle.lattice.specs.declared.Table.{Table}
use Rattle.lattice.specs.Order.{Label, meet}
use Rattle.values.specs.Result.{Result, ok, refuse}
use Rattle.values.specs.Value.{well_formed, Slot, assigned, empty_slot}
use Rattle.store.specs.declared.HeldSlot.{HeldSlot}
use Rattle.store.specs.HeldStore.{row_of, empty_row}
use Rattle.store.specs.Sheet.{Tables, owner_of, most_slots}
use Rattle.syntax.specs.Code.{most_deep}
use Rattle.syntax.specs.Rows.{assign_kind, guard_kind}
use Rattle.calculus.specs.Calculus.{Setting, Store, State, Judged, Write, judge, assignment, entry_of, counted, written, recorded, performed}
use Rattle.pausing.specs.Paths.{Pause}
use Rattle.calculus.proofs.CalculusInvariant.{set_either}
use Rattle.machine.specs.declared.steps.Write.{Write as Made}
use Rattle.machine.specs.Answers.{Judging, judging_by, Making, Control}
use Rattle.lattice.specs.HeldLabels.{LabelHeld}
use Rattle.machine.specs.MachineNumbers.{Serves, JudgedAs, MadeAs, StateHeld}
use Rattle.machine.specs.CompiledRuns.{next, Span}
use Rattle.machine.specs.MachineContracts.{Grounds, grounds, Behind, CanJudge, SomeExpr, JudgesGuard, JudgesAssignment, PutsWrite}
use Rattle.machine.specs.Machine.{Given, Place, GoesOn, Allows, AssignRow, GuardRow, Moves, Within, Moved, CanGo, CanStep}
use Rattle.machine.proofs.CompiledTables.{offset_assign, offset_guard}
use Rattle.machine.proofs.SlotRows.{row_at_law}
use Rattle.machine.proofs.MachineRows.{step_made, step_refused, attempt_free, assign_by_rules, judge_by_rules, TakesAssign, TakesGuard, assign_goes, assign_ends, guard_goes, guard_ends, same_assign, same_guard, takes_assign, takes_guard, run_inside, labels_inside, less_step, less_stop}

-- Answers: an assignment that is made, one that is refused ..

pub record WasMade (w : Tables) (m : Made) (r : Result ℕ Write) : Type 0 where
  pub write : Write
  pub answer : r ≡ ok write
  pub inside : m.slot < most_slots
  pub formed : well_formed most_slots write.value ≡ true
  pub slot : write.slot ≡ m.slot
  pub kind : write.value.kind ≡ m.kind
  pub payload : write.value.payload ≡ m.payload
  pub owner : owner_of w m.slot ≡ m.owner

abbrev pub made_of : Made → Making
made_of m = Making.Write m.slot m.kind m.payload m.owner

was_made : {w : Tables} (m : Made) {r : Result ℕ Write} → MadeAs w (made_of m) r → WasMade w m r
was_made m (MadeAs.writes {x = x} i f s k p o) =
    record { write = x; answer = refl; inside = i; formed = f; slot = s; kind = k; payload = p; owner = o }

pub made_refused : {w : Tables} {n : ℕ} {r : Result ℕ Write} → MadeAs w (Making.Refused n) r → r ≡ refuse n
made_refused MadeAs.refuses = refl

-- .. a guard that passes or fails, one that is refused
record WasJudged (t : Table) (b : Bool) (l : ℕ) (r : Result ℕ Judged) : Type 0 where
  pub judged : Judged
  pub answer : r ≡ ok judged
  pub passes : judged.passes ≡ b
  pub label : LabelHeld t judged.label l

was_judged : {t : Table} (b : Bool) {l : ℕ} {r : Result ℕ Judged} → JudgedAs t (judging_by b l) r → WasJudged t b l r
unfolding judging_by
was_judged true (JudgedAs.passes {j = j} p h) = record { judged = j; answer = refl; passes = p; label = h }
was_judged false (JudgedAs.fails {j = j} p h) = record { judged = j; answer = refl; passes = p; label = h }

judged_refused : {t : Table} {n : ℕ} {r : Result ℕ Judged} → JudgedAs t (Judging.Refused n) r → r ≡ refuse n
judged_refused JudgedAs.refuses = refl

-- what the step there is judged by
abbrev pub grounds_at : Given → Place → Grounds
grounds_at g p = grounds g.terms g.masks p.store

module _ (g : Given) {w : Setting} {span : Span} {room : ℕ} {p : Place} {whole : Result Pause State} (h : Serves w g.terms g.masks) (o : GoesOn w g.tables span room p whole) where
  behind : Behind (grounds_at g p) w o.state.store
  behind = record { serves = h; held = o.state_held.store }

  -- steps are left
  pub unspent : p.steps < g.budget → Allows w g room → o.state.steps ≡ w.limits.budget → ⊥
  unspent l m e = omega (arith, o.state_held.steps, m.budget)

  -- and an entry is free
  some_free : (p.free ≡ 0 → ⊥) → Allows w g room → length o.state.journal < w.limits.entries
  some_free n m = omega (arith, o.state_held.entries, m.entries, n)

-- counts after a write
few_written : (x : Write) (s : Store) (n : ℕ) → ((i : ℕ) → (get_or s i empty_slot).writes ≤ n) → (i : ℕ) → (get_or (written x s) i empty_slot).writes ≤ n + 1
unfolding written assigned
few_written x s n h i =
    set_either (λ (t : Slot). t.writes ≤ n + 1) s x.slot i _ empty_slot (omega (arith, h x.slot)) (omega (arith, h i))

pub can_judge : {g : Given} {p : Place} → CanGo g p → CanJudge (grounds_at g p)
can_judge {g} c = record { setting = c.setting; store = c.goes.state.store; behind = behind g c.serves c.goes }

-- Assignments

module _ {g : Given} {p : Place} {depth target value : ℕ} (c : CanStep assign_kind g p) (n : AssignRow g p depth target value) where
  -- it is the row that runs
  same : {w : Setting} {span : Span} {l : List Label} {s : State} {whole : Result Pause State} → (t : TakesAssign w g.tables span p.row l s whole)
      → (depth ≡ t.depth) × (target ≡ t.stands.target) × (value ≡ t.stands.value)
  same t = same_assign (sym n.holds ∙ t.stands.holds)

  pub assign_level : depth ≤ most_deep
  assign_level =
      let t = takes_assign c.can.goes.runs c.is in
      omega (arith, (same t).0, t.stands.level)

  pub assign_operands : SomeExpr g.tables.operands target × SomeExpr g.tables.operands value
  assign_operands =
      let t = takes_assign c.can.goes.runs c.is in
      let q = same t in
      rw (q.1, q.2) (record { expr = t.x; is = t.stands.target_is }, record { expr = t.v; is = t.stands.value_is })

  abbrev pub Judges : Making → Type 0
  Judges m = JudgesAssignment (grounds_at g p) g.tables.operands target value (get_or p.labels depth 0) m

  pub made_as : (m : Making) → Judges m → {w : Setting} {span : Span} {room : ℕ} {whole : Result Pause State} → Serves w g.terms g.masks → (o : GoesOn w g.tables span room p whole)
      → (t : TakesAssign w g.tables span p.row o.labels o.state whole)
      → MadeAs w.tables m (assignment w (get_or o.labels t.depth 0) o.state.store t.x t.v)
  made_as m a {w} h o t =
      let q = same t in
      let b = rw (q.0, q.1, q.2) at a in
      b w o.state.store t.x t.v (get_or o.labels t.depth 0) (behind g h o) t.stands.target_is t.stands.value_is
      (o.labels_held.same t.depth t.stands.level)

  module _ (m : Made) (a : Judges (made_of m)) where
    pub made : {w : Setting} {span : Span} {room : ℕ} {whole : Result Pause State} → Serves w g.terms g.masks → (o : GoesOn w g.tables span room p whole)
        → (t : TakesAssign w g.tables span p.row o.labels o.state whole)
        → WasMade w.tables m (assignment w (get_or o.labels t.depth 0) o.state.store t.x t.v)
    made h o t = was_made m (made_as (made_of m) a h o t)

    pub assign_slot : m.slot < most_slots
    assign_slot = let o = c.can.goes in (made c.can.serves o (takes_assign o.runs c.is)).inside

    -- its slot's count is no more than the steps
    pub assign_few : (get_or p.store m.slot empty_row).writes ≤ p.steps
    unfolding row_of
    assign_few =
        let o = c.can.goes in
        let q = row_at_law c.can.setting.tables o.state.store m.slot p.store o.state_held.store assign_slot in
        rw q (omega (arith, o.state_held.counts m.slot, o.state_held.steps))

    -- the state after it
    pub assign_held : {w : Setting} {span : Span} {room free : ℕ} {whole : Result Pause State} {store : List HeldSlot}
        → PutsWrite p.store store m.slot m.kind m.payload m.owner → (h : Serves w g.terms g.masks) (o : GoesOn w g.tables span room p whole)
        → (t : TakesAssign w g.tables span p.row o.labels o.state whole) → (room' : ℕ) → length o.state.journal + 1 + free ≡ room'
        → StateHeld w room' store (p.steps + 1) free (performed w t.at (made h o t).write o.state)
    unfolding performed recorded counted
    assign_held {w} puts h o t room' q =
        let y = made h o t in
        record {
          store = puts w.tables o.state.store y.write o.state_held.store y.formed y.slot y.kind y.payload y.owner;
          steps = ap (λ (k : ℕ). k + 1) o.state_held.steps;
          counts = few_written y.write o.state.store o.state.steps o.state_held.counts;
          entries = omega (arith, length-append o.state.journal (entry_of w.block t.at y.write o.state.store ∷ []), q);
        }

    -- it goes on at the next row
    pub assign_on : (p.free ≡ 0 → ⊥) → {store : List HeldSlot} → PutsWrite p.store store m.slot m.kind m.payload m.owner
        → Moved g p p.labels store (Control.On (p.row + 1) (p.steps + 1) (p.free - 1))
    unfolding Moves Within
    assign_on some {store} puts =
        record {
          same = λ w span room whole h b o.
              let t = takes_assign o.runs c.is in
              let y = made h o t in
              let a = attempt_free w (get_or o.labels t.depth 0) o.state t.x t.v (some_free g h o some b) in
              let s = step_made w t.at o.state _ y.write (unspent g h o c.left b) (a ∙ y.answer) in
              record {
                labels = o.labels;
                state = performed w t.at y.write o.state;
                labels_held = o.labels_held;
                state_held = assign_held puts h o t room (omega (arith, o.state_held.entries, some));
                runs = assign_goes t y.write s;
              };
          less = less_step g p.row p.steps p.free (p.row + 1) (p.free - 1) c.left;
          within = omega (arith, c.left);
        }

  pub assign_stops : (p.free ≡ 0 → ⊥) → {number : ℕ} → Judges (Making.Refused number) → Moved g p p.labels p.store (Control.Stopped number p.row p.steps p.free)
  unfolding Moves Within
  assign_stops some {number} a =
      record {
        same = λ w span room whole h b o.
            let t = takes_assign o.runs c.is in
            let y = made_refused (made_as (Making.Refused number) a h o t) in
            let q = assign_by_rules w o.state.store (get_or o.labels t.depth 0) t.x t.v y in
            let a = attempt_free w (get_or o.labels t.depth 0) o.state t.x t.v (some_free g h o some b) in
            record {
              paused = λ k. absurd (q.0 k);
              full = λ k. absurd (q.1 k);
              final = λ _ _.
                  record {
                    path = span.path p.row o.labels;
                    state = o.state;
                    counted = o.state_held.steps;
                    means = rw (offset_assign t.stands.holds) (assign_ends t _ (step_refused w t.at o.state _ number (unspent g h o c.left b) (a ∙ y)));
                  };
            };
        less = less_stop g p.row p.steps p.free number;
        within = (omega (arith, c.left), run_inside c.can.goes.runs);
      }

-- none is free: the run is paused there
pub full_stops : {g : Given} {p : Place} → CanStep assign_kind g p → p.free ≡ 0 → Moved g p p.labels p.store (Control.Stopped 18 p.row p.steps p.free)
unfolding Moves Within
full_stops {g} {p} c e =
    record {
      same = λ w span room whole h b o.
          record {
            paused = λ k. absurd (omega arith);
            full = λ _. record { due = c.is; left = c.left; none = e; goes = o };
            final = λ _ n. absurd (n refl);
          };
      less = less_stop g p.row p.steps p.free 18;
      within = (omega (arith, c.left), run_inside c.can.goes.runs);
    }

-- Guards

module _ {g : Given} {p : Place} {depth operand other : ℕ} (c : CanStep guard_kind g p) (n : GuardRow g p depth operand other) where
  -- it is the row that runs
  same_as : {w : Setting} {span : Span} {l : List Label} {s : State} {whole : Result Pause State} → (t : TakesGuard w g.tables span p.row l s whole)
      → (depth ≡ t.depth) × (operand ≡ t.stands.operand) × (other ≡ t.other)
  same_as t = same_guard (sym n.holds ∙ t.stands.holds)

  pub guard_level : depth < most_deep
  guard_level =
      let t = takes_guard c.can.goes.runs c.is in
      omega (arith, (same_as t).0, t.stands.level)

  pub guard_operand : SomeExpr g.tables.operands operand
  guard_operand =
      let t = takes_guard c.can.goes.runs c.is in
      rw ((same_as t).1) (record { expr = t.g; is = t.stands.operand_is })

  abbrev pub Decides : Judging → Type 0
  Decides v = JudgesGuard (grounds_at g p) g.tables.operands operand v

  judged_as : (v : Judging) → Decides v → {w : Setting} {span : Span} {room : ℕ} {whole : Result Pause State} → Serves w g.terms g.masks → (o : GoesOn w g.tables span room p whole)
      → (t : TakesGuard w g.tables span p.row o.labels o.state whole)
      → JudgedAs w.tables.order v (judge w o.state.store t.g)
  judged_as v a {w} h o t =
      let b = rw ((same_as t).1) at a in
      b w o.state.store t.g (behind g h o) t.stands.operand_is

  -- it goes on at the next row where it passes, and at its other row where it fails
  pub guard_on : (b : Bool) (label : ℕ) → Decides (judging_by b label)
      → Moved g p (set p.labels (depth + 1) (bit_and (get_or p.labels depth 0) label)) p.store (Control.On (next b p.row other) (p.steps + 1) p.free)
  unfolding Moves Within counted
  guard_on b label a =
      record {
        same = λ w span room whole h m o.
            let t = takes_guard o.runs c.is in
            let y = was_judged b (judged_as (judging_by b label) a h o t) in
            let s = step_made w t.at o.state _ y.judged (unspent g h o c.left m) y.answer in
            record {
              labels = set o.labels (t.depth + 1) (meet w.tables.order (get_or o.labels t.depth 0) y.judged.label);
              state = counted o.state;
              labels_held =
                  labels_inside t.depth depth y.judged.label label (same_as t).0 h.grounds.table o.labels_held
                  t.stands.level y.label;
              state_held =
                  record {
                    store = o.state_held.store;
                    steps = ap (λ (k : ℕ). k + 1) o.state_held.steps;
                    counts = λ i. omega (arith, o.state_held.counts i);
                    entries = o.state_held.entries;
                  };
              runs = guard_goes t y.judged b (next b p.row other) s y.passes (ap (next b p.row) (same_as t).2);
            };
        less = less_step g p.row p.steps p.free (next b p.row other) p.free c.left;
        within = omega (arith, c.left);
      }

  pub guard_stops : {number : ℕ} → Decides (Judging.Refused number) → Moved g p p.labels p.store (Control.Stopped number p.row p.steps p.free)
  unfolding Moves Within
  guard_stops {number} a =
      record {
        same = λ w span room whole h b o.
            let t = takes_guard o.runs c.is in
            let y = judged_refused (judged_as (Judging.Refused number) a h o t) in
            let q = judge_by_rules w o.state.store t.g y in
            record {
              paused = λ k. absurd (q.0 k);
              full = λ k. absurd (q.1 k);
              final = λ _ _.
                  record {
                    path = span.path p.row o.labels;
                    state = o.state;
                    counted = o.state_held.steps;
                    means = rw (offset_guard t.stands.holds) (guard_ends t _ (step_refused w t.at o.state _ number (unspent g h o c.left b) y));
                  };
            };
        less = less_stop g p.row p.steps p.free number;
        within = (omega (arith, c.left), run_inside c.can.goes.runs);
      }
