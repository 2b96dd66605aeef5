-- An assignment that is known to be allowed is made, and its entry is the definitions' (`Makes`). Serves `make_write`. Assumes nothing.
use Prim.Native.Nat.{ℕ, ◌+◌, ◌<◌}
use mathlib.Core.Path.{◌≡◌, refl, sym, ap, ap₂, ◌∙◌}
use mathlib.Core.Bool.{true}
use mathlib.Core.Logic.{⊎_elim}
use mathlib.Core.List.{List, [], ◌∷◌, ◌++◌}
use native.Mathlib.Omega.{arith}
use borrow.Author.Tests.{eqb-true}
use lib.ListN.{length, get_or}
use Rattle.store.specs.declared.HeldSlot.{HeldSlot}
use Rattle.lattice.proofs.Tests.{and_l, or_at}
use Rattle.values.specs.declared.Entry.{Entry}
use Rattle.values.specs.declared.Value.{Value}
use Rattle.values.specs.Value.{integer, truth, read_view, write_view, kinds, well_formed}
use Rattle.values.proofs.Result.{not_both}
use Rattle.store.specs.Sheet.{most_slots}
use Rattle.store.specs.HeldStore.{row_of}
use Rattle.syntax.specs.Rows.{assign_row, assign_kind}
use Rattle.machine.specs.CompiledRuns.{row_at}
use Rattle.calculus.specs.Calculus.{Store, Write, contents, entry_of, recorded, counted, performed}
use Rattle.machine.specs.declared.steps.Write.{Write as Made}
use Rattle.machine.specs.Answers.{Making, making}
use Rattle.std.proofs.Common.{Ok, Err}
use Rattle.std.specs.Prelude as std
use Rattle.std.specs.Result.{IsOk}
use Rattle.values.specs.declared.refusal.Refusal.{Refusal}
use Rattle.values.specs.Refusal.{number}
use Rattle.machine.specs.MachineContracts.{RowRead, PutsWrite}
use Rattle.machine.specs.Machine.{Given, Place, AssignRow, CanStep}
use Rattle.runner.specs.Journal.{CanMake, Makes}
use Rattle.machine.proofs.CompiledTables.{offset_assign}
use Rattle.machine.proofs.MachineRows.{step_made, step_refused, attempt_free, takes_assign, assign_goes, assign_ends}
use Rattle.machine.proofs.MachineSteps.{Judges, made_of, unspent, made_refused, made_as, made, assign_held}

-- a value that is well-formed is of a known kind
pub formed_kind : (m : ℕ) (v : Value) → well_formed m v ≡ true → v.kind < kinds
unfolding well_formed
formed_kind m v h =
    ⊎_elim
    (λ p. ⊎_elim (λ i. omega (arith, eqb-true v.kind integer i)) (λ t. omega (arith, eqb-true v.kind truth (and_l _ _ t))) (or_at _ _ p))
    (λ w. ⊎_elim (λ i. omega (arith, eqb-true v.kind read_view i)) (λ i. omega (arith, eqb-true v.kind write_view i)) (or_at _ _ (and_l _ _ w)))
    (or_at _ _ h)

-- the entry of a write, from its numbers
entry_made : (block at at' slot : ℕ) (x : Write) (s : Store) (k p k' p' : ℕ) → at' ≡ at → x.slot ≡ slot
    → (contents s slot).kind ≡ k → (contents s slot).payload ≡ p → x.value.kind ≡ k' → x.value.payload ≡ p'
    → record { block = block; offset = at'; slot = slot; old = record { kind = k; payload = p }; new = record { kind = k'; payload = p' } } ≡ entry_of block at x s
unfolding entry_of
entry_made block at at' slot x s k p k' p' q e a b c d = rw (q, ← a, ← b, ← c, ← d, ← e) refl

-- the row there is an assignment's
pub make_row : {g : Given} {p : Place} → CanMake g p → ((depth at target value : ℕ) → row_at g.tables p.row ≡ assign_row depth at target value → ⊥) → ⊥
make_row c z = let t = takes_assign c.can.can.goes.runs c.can.is in z t.depth t.at t.stands.target t.stands.value t.stands.holds

abbrev pub row_of_assign : {g : Given} {p : Place} {depth at target value : ℕ} → row_at g.tables p.row ≡ assign_row depth at target value → AssignRow g p depth target value
row_of_assign {at = at} e = record { offset = at; holds = e }

module _ {g : Given} {p : Place} (none : p.free ≡ 0) (c : CanMake g p) {depth target value : ℕ} (n : AssignRow g p depth target value) where
  abbrev step_can : CanStep assign_kind g p
  step_can = c.can

  -- it is not refused
  not_refused : (e : ℕ) → Judges step_can n (Making.Refused e) → ⊥
  not_refused e a =
      let w = step_can.can.setting in
      let o = step_can.can.goes in
      let t = takes_assign o.runs step_can.is in
      let y = made_refused (made_as step_can n (Making.Refused e) a step_can.can.serves o t) in
      let f = attempt_free w (get_or o.labels t.depth 0) o.state t.x t.v c.more in
      let s = step_refused w t.at o.state _ e (unspent g step_can.can.serves o step_can.left step_can.can.enough) (f ∙ y) in
      not_both _ _ _ c.ends (assign_ends t _ s)

  pub make_allowed : (r : std.Result Made Refusal) → Judges step_can n (making r) → IsOk r
  make_allowed (Ok m) a = refl
  make_allowed (Err e) a = absurd (not_refused (number e) a)

  module _ (m : Made) (a : Judges step_can n (made_of m)) where
    -- the slot's row, before it
    pub make_old : (old : HeldSlot) → RowRead p.store m.slot old → old.kind < kinds
    unfolding row_of
    make_old old q =
        let o = step_can.can.goes in
        rw (q step_can.can.setting.tables o.state.store o.state_held.store) (formed_kind most_slots _ (o.state_held.store.formed m.slot))

    pub make_new : m.kind < kinds
    make_new =
        let o = step_can.can.goes in
        let y = made step_can n m a step_can.can.serves o (takes_assign o.runs step_can.is) in
        rw (← y.kind) (formed_kind most_slots _ y.formed)

    pub make_made : (block : ℕ) (old : HeldSlot) (store : List HeldSlot) (u v : Value) → RowRead p.store m.slot old
        → u ≡ record { kind = old.kind; payload = old.payload } → v ≡ record { kind = m.kind; payload = m.payload }
        → PutsWrite p.store store m.slot m.kind m.payload m.owner
        → Makes g p block store (record { block = block; offset = n.offset; slot = m.slot; old = u; new = v })
    unfolding performed recorded counted row_of
    make_made block old store u v e-old e-u e-v puts w last room whole end h b is o more ends =
        let t = takes_assign o.runs step_can.is in
        let y = made step_can n m a h o t in
        let f = attempt_free w (get_or o.labels t.depth 0) o.state t.x t.v more in
        let s = step_made w t.at o.state _ y.write (unspent g h o step_can.left b) (f ∙ y.answer) in
        let z = e-old w.tables o.state.store o.state_held.store in
        let made-entry = entry_made block t.at n.offset m.slot y.write o.state.store old.kind old.payload m.kind m.payload
        (sym (offset_assign n.holds) ∙ offset_assign t.stands.holds) y.slot (ap (λ (r : HeldSlot). r.kind) (sym z)) (ap (λ (r : HeldSlot). r.payload) (sym z)) y.kind y.payload in (
          record {
            labels = o.labels;
            state = performed w t.at y.write o.state;
            labels_held = o.labels_held;
            state_held = assign_held step_can n m a puts h o t (length o.state.journal + 1) (omega arith);
            runs = assign_goes t y.write s;
          },
          ap (λ (x : Entry). o.state.journal ++ (x ∷ []))
              (ap (λ (i : ℕ). entry_of i t.at y.write o.state.store) is ∙ sym made-entry
              ∙ sym (ap₂ (λ (x z : Value). record { block = block; offset = n.offset; slot = m.slot; old = x; new = z }) e-u e-v)),
        )
