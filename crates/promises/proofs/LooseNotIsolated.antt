-- Proves `loose_worked`, `loose_not_isolated`: demand 3 over stretches fails where a checkpoint need only be written by some call. Assumes nothing.
use Prim.Native.Nat.{ℕ, zero, suc}
use mathlib.Core.Path.{◌≡◌, refl, sym, ap, ◌∙◌}
use mathlib.Core.Bool.{true, false, true≢false}
use mathlib.Core.List.{List, ◌++◌}
use native.Mathlib.Omega.{arith}
use lib.ListN.{get_or}
use Rattle.lattice.specs.Tests.{◌and◌, ◌or◌, ◌implies◌, every, some, find}
use Rattle.lattice.specs.Order.{below, bit, in_range, reflexive, antisymmetric, transitive, is_meet, has_meets, is_top, has_top, good, meet, top}
use Rattle.values.specs.declared.Answer.{Answer}
use Rattle.values.specs.Result.{◌>>=◌, require, refused_as, in_turn, unplaced}
use Rattle.values.specs.Bytes.{Bytes, number_at, number_bytes, entries, filled}
use Rattle.values.specs.Value.{well_formed, value_at, value_bytes, opened, assigned, empty_slot, slot_bytes}
use Rattle.values.proofs.Bytes.{bytes_of}
use Rattle.store.specs.Sheet.{owner_of, order_of, tables_of, opening_of, value_width_in, value_good, sizes_allowed, slot_checked, body_checked, sheet_checked, store_sheet, slots_bytes}
use Rattle.syntax.specs.Code.{read_value, expr_sorted, expr_byte, read_literal, expr_by, read_expr, sorted, cmd_byte, read_assign, read_if, body_by, read_body, read_block}
use Rattle.syntax.specs.Sheet.{floor_of, header_of, header_at, start_of, header_good, block_at, blocks_from, programme_sheet}
use Rattle.calculus.specs.Rules.{rules_of, judges_views, judges_region, labels_judged, all_above, labels_suffice}
use Rattle.calculus.specs.Calculus.{in_region, admit, fetch, eval, judge, authorised, reliable, permit, assignment, counted, written, entry_of, recorded, performed, step, attempt, choose}
use Rattle.calculus.specs.Blocks.{halt_answer, start}
use Rattle.store.specs.Counts.{total}
use Rattle.calculus.specs.Vectors.{blank, int, bool, wrote, kept, flagged}
use Rattle.isolation.specs.Isolation.{StoresAgree, FloorsOutOfReach, by_number}
use Rattle.pausing.specs.Paths.{play, play_body, take_up, take_up_body, child_of, child, steps_body, takes_step, at_or_below, leads}
use Rattle.pausing.specs.Stretches.{checkpoint, pause_sheet, unused_zero, slot_in, store_in, output_good, path_good, checkpoint_good, take_up_blocks, settled, end_of, limits_at, run_from, fitting, position_of, stretch_opened, stretch_under, run_stretch, answer_of, output_of, pause_of, output, pause}
use Rattle.promises.specs.StretchesWorked.{lent, fitted, unflagged}
use Rattle.promises.specs.LooseNotIsolated.{SomeCallWrote, wrote_from, LooseStretches, LooseIsolation, programme, tables, before, labelled, ForgedWorked, LooseWorked}
use Rattle.isolation.proofs.Isolation.{same_again}

-- slot 0 is the adversary's own, and there is one more
agree : tables.slots ≡ 2 → below tables.order (owner_of tables 0) 0 ≡ true
    → get_or (opening_of flagged).store 1 empty_slot ≡ get_or (opening_of unflagged).store 1 empty_slot
    → StoresAgree tables 0 (opening_of flagged).store (opening_of unflagged).store
agree two own e zero p = absurd (true≢false (sym own ∙ p.above))
agree two own e (suc zero) p = e
agree two own e (suc (suc i)) p = absurd (omega (arith, p.inside))

-- the programme's one block is not endorsed
floors : (header_at programme 0).endorsed ≡ false → FloorsOutOfReach tables 0 programme
unfolding number_at
floors bare zero h out e = absurd (true≢false (sym e ∙ bare))
floors bare (suc i) h out e = absurd (omega arith)

pub loose_worked : LooseWorked
unfolding pause_sheet unused_zero slot_in store_in output_good path_good checkpoint_good take_up_blocks settled end_of limits_at run_from fitting position_of stretch_opened stretch_under run_stretch answer_of output_of pause_of
    play play_body take_up take_up_body child_of child steps_body takes_step at_or_below leads total
    ◌and◌ ◌or◌ ◌implies◌ every some find bit in_range reflexive antisymmetric transitive is_meet has_meets is_top has_top good meet top
    ◌>>=◌ require refused_as in_turn unplaced number_at number_bytes entries filled well_formed value_at value_bytes opened assigned empty_slot slot_bytes
    order_of tables_of opening_of value_width_in value_good sizes_allowed slot_checked body_checked sheet_checked store_sheet slots_bytes
    read_value expr_sorted expr_byte read_literal expr_by read_expr sorted cmd_byte read_assign read_if body_by read_body read_block
    floor_of header_of start_of header_good block_at blocks_from programme_sheet
    rules_of judges_views judges_region labels_judged all_above labels_suffice in_region admit fetch eval judge authorised reliable permit assignment
    counted written entry_of recorded performed step attempt choose halt_answer start
loose_worked =
    record {
      left_opens = refl;
      right_opens = refl;
      principal = omega arith;
      protected = record { inside = omega arith; above = refl };
      agree = agree refl refl refl;
      floors = floors refl;
      left =
          record {
            pauses = refl;
            out_paused = refl;
            sheet_paused = refl;
            refused = refl;
            copies = refl;
            out_copied = refl;
            sheet_copied = refl;
            finishes = refl;
            ends = refl;
          };
      right =
          record {
            pauses = refl;
            out_paused = refl;
            sheet_paused = refl;
            refused = refl;
            copies = refl;
            out_copied = refl;
            sheet_copied = refl;
            finishes = refl;
            ends = refl;
          };
    }

-- the copied sheet, and the run that goes on from it and finishes
loose : (store flag : List ℕ) (part offset written : ℕ) → ForgedWorked store flag part offset written
    → LooseStretches store programme (kept flag ++ wrote 1 (int written))
loose store flag part offset written x =
    record {
      from = checkpoint (before flag) (labelled part 1);
      came = rw (x.out_copied, x.sheet_copied) at came;
      rule = 3;
      full = by_number refl;
      budget = 10;
      old = blank;
      sheet = lent;
      finishes = ap (λ (a : Answer). a.number) x.finishes;
      ends = sym x.ends;
    }
  where
    came : SomeCallWrote store programme (checkpoint (output (checkpoint (before flag) (labelled part 1)) (fitted 3 0 store programme) blank)
        (pause (checkpoint (before flag) (labelled part 1)) (fitted 3 0 store programme) lent))
    came = wrote_from (checkpoint (before flag) (labelled part 1)) 3 0 blank lent (by_number refl) (ap (λ (a : Answer). a.number) x.copies)

pub loose_not_isolated : LooseIsolation → ⊥
unfolding every ◌and◌
loose_not_isolated h =
    let x = loose_worked in
    let b : Bytes programme = bytes_of programme refl in
    let self = same_again tables 0 programme in
    let e =
    (h 0 flagged unflagged tables _ _ x.principal (bytes_of flagged refl) (bytes_of unflagged refl) x.left_opens x.right_opens).0 x.agree
    programme b x.floors programme programme b b self self _ _
    (loose flagged (bool 1) 0 _ 41 x.left) (loose unflagged (bool 0) 1 _ 42 x.right) 1 x.protected in
    let differ : ◌≡◌ {A = ℕ} 41 42 = ap (λ (l : List ℕ). get_or l 1 0) e in
    omega arith
