-- Proves `whole_worked`, `whole_run_not_safe`: source 003, theorem 5, fails over whole runs with endorsed blocks; by computation. Assumes nothing.
use Prim.Native.Nat.{ℕ, zero, suc, ◌*◌, ◌<◌}
use mathlib.Core.Path.{◌≡◌, refl, sym, ap, ◌∙◌}
use mathlib.Core.Logic.{⊎_elim}
use mathlib.Core.Bool.{true, false, true≢false}
use mathlib.Core.List.{List}
use native.Mathlib.Omega.{arith}
use lib.ListN.{get_or, length, replicate, take, drop}
use lib.Seq.{take-take}
use Rattle.lattice.specs.Tests.{◌and◌, ◌or◌, ◌implies◌, every, some, find}
use Rattle.lattice.specs.Order.{below, bit, in_range, reflexive, antisymmetric, transitive, is_meet, has_meets, is_top, has_top, good, meet, top}
use Rattle.lattice.proofs.Tests.{some_at, some_of}
use Rattle.values.specs.Result.{◌>>=◌, require, refused_as, in_turn}
use Rattle.values.specs.Bytes.{part, number_at, number_bytes, entries, filled}
use Rattle.values.specs.declared.Value.{Value}
use Rattle.values.specs.Value.{is_write_view, well_formed, value_at, value_bytes, opened, assigned, empty_slot, slot_bytes, slot_width, value_width}
use Rattle.values.proofs.Bytes.{bytes_of}
use Rattle.values.proofs.Result.{Post, Any, post_at}
use Rattle.store.specs.Sheet.{order_of, tables_of, opening_of, value_width_in, value_good, sizes_allowed, slot_checked, body_checked, sheet_checked, store_sheet, slots_bytes}
use Rattle.syntax.specs.Syntax.{LiteralsOf, Exprs, ExprsBody, Literals}
use Rattle.syntax.specs.Code.{read_value, expr_sorted, expr_byte, read_literal, expr_by, read_expr, sorted, cmd_byte, read_assign, read_if, body_by, read_body, read_block}
use Rattle.syntax.specs.Sheet.{k_of, floor_of, header_of, header_at, code_of, start_of, header_good, block_at, blocks_from, programme_sheet}
use Rattle.syntax.proofs.SyntaxLiterals.{literals_join}
use Rattle.calculus.specs.Rules.{rules_of, judges_views, judges_region, labels_judged, all_above, labels_suffice}
use Rattle.calculus.specs.Calculus.{contents, in_region, admit, fetch, eval, judge, authorised, reliable, permit, assignment, counted, written, entry_of, recorded, performed, step, attempt, choose, exec, exec_body}
use Rattle.calculus.specs.Blocks.{run_blocks, start}
use Rattle.calculus.specs.Run.{call, run_programme, run_opened, run_under, run, answer_of, output_of}
use Rattle.calculus.specs.Vectors.{plenty}
use Rattle.isolation.specs.Isolation.{within_reach, FloorsOutOfReach, unchanged, exchanged, Replaced, Replacement}
use Rattle.isolation.specs.SlotsAtEveryStep.{Spares}
use Rattle.isolation.specs.ConfusedDeputy.{ProtectedSpare, BareBlocksSpare, ValueAlike, NoControl, DirectWrite}
use Rattle.isolation.specs.WholeRunNotSafe.{WholeRunSafety, sheet, tables, slots, sent, left, WholeWorked}
use Rattle.calculus.proofs.CalculusTaint.{tainted_down}
use Rattle.isolation.proofs.Isolation.{same_again, opens}
use Rattle.calculus.proofs.RunFinishedGood.{good_run}
use Rattle.isolation.proofs.WriteIntegrity.{write_integrity}

abbrev old : List ℕ
old = replicate (slot_width * 3) 0

abbrev NoView : Value → Type 0
NoView v = is_write_view v ≡ false

-- no opening slot holds a write view
slots_spare : some tables.slots (λ i. is_write_view (contents slots i)) ≡ false → ProtectedSpare tables 0 slots
slots_spare bare i p e q = true≢false (sym (some_of tables.slots (λ i. is_write_view (contents slots i)) i p.inside e) ∙ bare)

-- block 0 is within reach, block 1 is endorsed, and block 2 contains no write view
blocks_spare : within_reach tables 0 (sent 1) 0 ≡ true → (header_at (sent 1) 1).endorsed ≡ true
    → Post (Literals NoView) Any (read_block tables.slots (code_of (sent 1) 2)) → BareBlocksSpare tables 0 (sent 1)
unfolding number_at
blocks_spare own let_in none zero h out bare c e = absurd (true≢false (sym own ∙ out))
blocks_spare own let_in none (suc zero) h out bare c e = absurd (true≢false (sym let_in ∙ bare))
blocks_spare own let_in none (suc (suc zero)) h out bare c e =
    let l : Literals NoView c = post_at _ _ _ c none e in
    literals_join NoView NoView (Spares tables 0) (λ v n _ t p. true≢false (sym t ∙ n)) c l l
blocks_spare own let_in none (suc (suc (suc i))) h out bare c e = absurd (omega arith)

-- block 1 alone is endorsed, down to principal 1
floors : (header_at (sent 1) 0).endorsed ≡ false → below tables.order (header_at (sent 1) 1).floor 0 ≡ false → (header_at (sent 1) 2).endorsed ≡ false
    → FloorsOutOfReach tables 0 (sent 1)
unfolding number_at
floors first high last zero h out e = absurd (true≢false (sym e ∙ first))
floors first high last (suc zero) h out e = high
floors first high last (suc (suc zero)) h out e = absurd (true≢false (sym e ∙ last))
floors first high last (suc (suc (suc i))) h out e = absurd (omega arith)

-- the adversary may send another block 0
other : within_reach tables 0 (sent 1) 0 ≡ true → within_reach tables 0 (sent 0) 0 ≡ true → Replacement tables 0 (sent 1) (sent 0)
unfolding number_at start_of
other own own' = record { count = refl; each = each }
  where
    each : (i : ℕ) → i < k_of (sent 1) → Replaced tables 0 (sent 1) (sent 0) i
    each zero h = exchanged own own'
    each (suc zero) h = unchanged refl refl
    each (suc (suc zero)) h = unchanged refl refl
    each (suc (suc (suc i))) h = absurd (omega arith)

pub whole_worked : WholeWorked
unfolding run_programme run_opened run_under run answer_of output_of
    ◌and◌ ◌or◌ ◌implies◌ every some find bit in_range reflexive antisymmetric transitive is_meet has_meets is_top has_top good meet top
    ◌>>=◌ require refused_as in_turn number_at number_bytes entries filled well_formed value_at value_bytes opened assigned empty_slot slot_bytes
    order_of tables_of opening_of value_width_in value_good sizes_allowed slot_checked body_checked sheet_checked store_sheet slots_bytes
    read_value expr_sorted expr_byte read_literal expr_by read_expr sorted cmd_byte read_assign read_if body_by read_body read_block
    floor_of header_of start_of header_good block_at blocks_from programme_sheet Post LiteralsOf Exprs ExprsBody
    rules_of judges_views judges_region labels_judged all_above labels_suffice in_region admit fetch eval judge authorised reliable permit assignment
    counted written entry_of recorded performed step attempt choose exec exec_body run_blocks start
whole_worked =
    record {
      opens = refl;
      principal = omega arith;
      protected = record { inside = omega arith; above = refl };
      slots_spare = slots_spare refl;
      blocks_spare = blocks_spare refl refl (refl, (refl, refl), (refl, refl));
      outside = refl;
      endorsed = refl;
      floors = floors refl refl refl;
      other = other refl refl;
      seven = refl;
      left_run = record { budget = 10; entries = plenty; old = old; finishes = refl; ends = refl };
      right_run = record { budget = 10; entries = plenty; old = old; finishes = refl; ends = refl };
    }

-- slot 1 opened with 7
changed : (out : List ℕ) → ValueAlike 1 left out → part out slot_width slot_width ≡ slot_bytes (get_or slots 1 empty_slot) → ⊥
changed out alike same =
    let first = take-take value_width slot_width (drop slot_width out) (omega arith) in
    let e : ◌≡◌ {A = ℕ} 41 7 = ap (λ (l : List ℕ). get_or l 1 0) (alike ∙ sym first ∙ ap (take value_width) (same ∙ whole_worked.seven)) in
    omega arith

-- no block within the adversary's reach has authority over slot 1, so such blocks alone leave it as it opened
not_direct : DirectWrite 2 tables 0 sheet 1 left → ⊥
not_direct d =
    let r = d.finished in
    let c = call sheet d.programme 2 r.budget (length r.old) r.entries in
    let g = good_run c _ whole_worked.opens r.finishes in
    let x =
    some_at _ _
    ((write_integrity c r.old g).put_out r.finishes 1 whole_worked.protected.inside
    (λ same. changed d.end d.alike (ap (λ (l : List ℕ). part l slot_width slot_width) r.ends ∙ same))) in
    let o = (opens sheet tables slots whole_worked.opens).ordered in
    let low = tainted_down tables 0 o whole_worked.principal _ _ x.2 (d.reached x.0 x.1) in
    true≢false (sym low ∙ whole_worked.protected.above)

-- slot 1 ends with 41 or with 42, as the adversary chose
controlled : NoControl 2 tables 0 sheet (sent 1) 1 left → ⊥
unfolding every ◌and◌
controlled c =
    let e : ◌≡◌ {A = ℕ} 41 42 =
    ap (λ (l : List ℕ). get_or l 1 0) (c (sent 0) _ (bytes_of (sent 0) refl) whole_worked.other whole_worked.right_run) in
    omega arith

pub whole_run_not_safe : WholeRunSafety → ⊥
unfolding every ◌and◌
whole_run_not_safe h =
    let x = whole_worked in
    let self = same_again tables 0 (sent 1) in
    ⊎_elim controlled not_direct
    (h 0 sheet (sent 1) tables slots x.principal (bytes_of sheet refl) x.opens (x.slots_spare, x.blocks_spare, x.floors)
    (sent 1) _ (bytes_of (sent 1) refl) self x.left_run 1 x.protected.inside)
