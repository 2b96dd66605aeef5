-- Proves `endorsed_not_isolated`, `not_isolated_at_floors`, `not_isolated_below_floors`: where demand 3 fails, by an example. Assumes nothing.
use Prim.Native.Nat.{ℕ, zero, suc}
use mathlib.Core.Path.{◌≡◌, refl, sym, ap, ◌∙◌}
use mathlib.Core.Logic.{inr}
use mathlib.Core.Bool.{true, false, true≢false}
use mathlib.Core.List.{List, ◌++◌}
use native.Mathlib.Omega.{arith}
use lib.ListN.{get_or, length}
use Rattle.lattice.specs.Tests.{◌and◌, ◌or◌, ◌implies◌, every, some, find}
use Rattle.lattice.specs.Order.{Label, below, bit, in_range, reflexive, antisymmetric, transitive, is_meet, has_meets, is_top, has_top, good, meet, top}
use Rattle.values.specs.Result.{◌>>=◌, require, refused_as, in_turn}
use Rattle.values.specs.Bytes.{Bytes, number_at, number_bytes, entries, filled}
use Rattle.values.specs.Value.{well_formed, value_at, value_bytes, opened, assigned, empty_slot, slot_bytes}
use Rattle.values.proofs.Bytes.{bytes_of}
use Rattle.store.specs.Sheet.{Tables, owner_of, order_of, tables_of, opening_of, value_width_in, value_good, sizes_allowed, slot_checked, body_checked, sheet_checked, store_sheet, slots_bytes}
use Rattle.syntax.specs.Code.{read_value, expr_sorted, expr_byte, read_literal, expr_by, read_expr, sorted, cmd_byte, read_assign, body_by, read_body, read_block}
use Rattle.syntax.specs.declared.Header.{Header}
use Rattle.syntax.specs.Sheet.{floor_of, header_of, header_at, start_of, header_good, block_at, blocks_from, programme_sheet}
use Rattle.calculus.specs.Rules.{rules_of, judges_views, judges_region, labels_judged, all_above, labels_suffice}
use Rattle.calculus.specs.Calculus.{in_region, admit, fetch, eval, authorised, reliable, permit, assignment, counted, written, entry_of, recorded, performed, step, attempt, exec, exec_body}
use Rattle.calculus.specs.Blocks.{halt_answer, run_blocks, start}
use Rattle.calculus.specs.Run.{call, answer, output, run_programme, run_opened, run_under, run, answer_of, output_of}
use Rattle.calculus.specs.Vectors.{blank, plenty, int, wrote, kept}
use Rattle.isolation.specs.Isolation.{StoresAgree, FloorsOutOfReach, by_number, FullRun, IsolationWhere}
use Rattle.isolation.specs.EndorsedNotIsolated.{EndorsedIsolation, FloorsLetIn, IsolationAtFloors, IsolationBelowFloors, left, right, tables, leaking, EndorsedWorked, FloorWorked}
use Rattle.isolation.proofs.Isolation.{same_again}

-- slot 0 is the adversary's own, and there is one more
agree : tables.slots ≡ 2 → below tables.order (owner_of tables 0) 1 ≡ true
    → get_or (opening_of left).store 1 empty_slot ≡ get_or (opening_of right).store 1 empty_slot
    → StoresAgree tables 1 (opening_of left).store (opening_of right).store
agree two own e zero p = absurd (true≢false (sym own ∙ p.above))
agree two own e (suc zero) p = e
agree two own e (suc (suc i)) p = absurd (omega (arith, p.inside))

-- a run under full provenance
ran : (store programme out : List ℕ) → (answer (call store programme 3 10 (length blank) plenty)).number ≡ 0
    → out ≡ output (call store programme 3 10 (length blank) plenty) blank → FullRun store programme out
ran store programme out f e =
    record { rule = 3; full = by_number refl; run = record { budget = 10; entries = plenty; old = blank; finishes = f; ends = e } }

-- the programme's one block
out_of_reach : below tables.order (header_at (leaking 2) 0).floor 1 ≡ false → FloorsOutOfReach tables 1 (leaking 2)
unfolding number_at
out_of_reach high zero h out e = high
out_of_reach high (suc i) h out e = absurd (omega arith)

let_in : (In : Label → Type 0) (floor : ℕ) → (header_at (leaking floor) 0).floor ≡ floor → In floor → FloorsLetIn In tables 1 (leaking floor)
unfolding number_at
let_in In floor e p zero h out k = inr (rw e p)
let_in In floor e p (suc i) h out k = absurd (omega arith)

computed : EndorsedWorked 1 × EndorsedWorked 0 × FloorWorked
unfolding run_programme run_opened run_under run answer_of output_of
    ◌and◌ ◌or◌ ◌implies◌ every some find bit in_range reflexive antisymmetric transitive is_meet has_meets is_top has_top good meet top
    ◌>>=◌ require refused_as in_turn number_at number_bytes entries filled well_formed value_at value_bytes opened assigned empty_slot slot_bytes
    order_of tables_of opening_of value_width_in value_good sizes_allowed slot_checked body_checked sheet_checked store_sheet slots_bytes
    read_value expr_sorted expr_byte read_literal expr_by read_expr sorted cmd_byte read_assign body_by read_body read_block
    floor_of header_of start_of header_good block_at blocks_from programme_sheet
    rules_of judges_views judges_region labels_judged all_above labels_suffice in_region admit fetch eval authorised reliable permit assignment
    counted written entry_of recorded performed step attempt exec exec_body halt_answer run_blocks start
computed = (
  worked 1 refl (ran left (leaking 1) _ refl refl) (ran right (leaking 1) _ refl refl),
  worked 0 refl (ran left (leaking 0) _ refl refl) (ran right (leaking 0) _ refl refl),
  record { floors = out_of_reach refl; left_refused = refl; right_refused = refl },
)
  where
    worked : (floor : ℕ) → below tables.order floor 1 ≡ true → FullRun left (leaking floor) (kept (int 5) ++ wrote 1 (int 5))
        → FullRun right (leaking floor) (kept (int 6) ++ wrote 1 (int 6)) → EndorsedWorked floor
    worked floor low l r =
        record {
          left_opens = refl;
          right_opens = refl;
          principal = omega arith;
          protected = record { inside = omega arith; above = refl };
          agree = agree refl refl refl;
          outside = refl;
          header = refl;
          low = low;
          left_run = l;
          right_run = r;
        }

pub endorsed_worked : EndorsedWorked 1 × EndorsedWorked 0
endorsed_worked = (computed.0, computed.1)

pub floor_worked : FloorWorked
floor_worked = computed.2

-- the two stores agree, and the two outputs do not
leaks : (Condition : Tables → Label → List ℕ → Type 0) (floor : ℕ) → EndorsedWorked floor → Bytes (leaking floor) → Condition tables 1 (leaking floor)
    → IsolationWhere Condition → ⊥
unfolding every ◌and◌
leaks Condition floor x b met h =
    let self = same_again tables 1 (leaking floor) in
    let e =
    (h 1 left right tables _ _ x.principal (bytes_of left refl) (bytes_of right refl) x.left_opens x.right_opens).0 x.agree
    (leaking floor) b met (leaking floor) (leaking floor) b b self self _ _ x.left_run x.right_run 1 x.protected in
    let five-six : ◌≡◌ {A = ℕ} 5 6 = ap (λ (l : List ℕ). get_or l 1 0) e in
    omega arith

at_bytes : Bytes (leaking 1)
unfolding every ◌and◌
at_bytes = bytes_of (leaking 1) refl

below_bytes : Bytes (leaking 0)
unfolding every ◌and◌
below_bytes = bytes_of (leaking 0) refl

pub endorsed_not_isolated : EndorsedIsolation → ⊥
endorsed_not_isolated = leaks _ 1 endorsed_worked.0 at_bytes tt

pub not_isolated_at_floors : IsolationAtFloors → ⊥
not_isolated_at_floors = leaks _ 1 endorsed_worked.0 at_bytes (let_in (λ floor. floor ≡ 1) 1 (ap (λ (h : Header). h.floor) endorsed_worked.0.header) refl)

pub not_isolated_below_floors : IsolationBelowFloors → ⊥
not_isolated_below_floors =
    leaks _ 0 endorsed_worked.1 below_bytes (let_in (λ floor. floor ≡ 1 → ⊥) 0 (ap (λ (h : Header). h.floor) endorsed_worked.1.header) (λ e. omega arith))
