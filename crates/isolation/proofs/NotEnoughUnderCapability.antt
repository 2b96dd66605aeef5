-- Proves `chosen_worked` and `not_enough_under_capability`: source 003, theorem 7, fails under rule 1; the example. Assumes nothing.
use Prim.Native.Nat.{ℕ, zero, suc, ◌*◌, ◌%◌, ◌≤◌, ◌<◌}
use mathlib.Core.Path.{◌≡◌, refl, sym, ap, ◌∙◌}
use mathlib.Core.Logic.{⊎_elim}
use mathlib.Core.Bool.{true, false, true≢false, false≢true}
use mathlib.Core.List.{List}
use native.Mathlib.Omega.{arith}
use lib.ListN.{get_or, replicate, take, drop}
use lib.Seq.{take-take}
use borrow.Author.Tests.{eq-eqb}
use borrow.Table.Steps.{cases}
use Rattle.lattice.specs.Tests.{◌and◌, ◌or◌, ◌implies◌, every, some, find}
use Rattle.lattice.specs.Order.{Label, bit, in_range, reflexive, antisymmetric, transitive, is_meet, has_meets, is_top, has_top, good, meet, top}
use Rattle.values.specs.Result.{ok, ◌>>=◌, require, refused_as, in_turn}
use Rattle.values.specs.Bytes.{part, number_at, number_bytes, entries, filled}
use Rattle.values.specs.declared.Value.{Value}
use Rattle.values.specs.Value.{read_view, write_view, viewed, well_formed, value_at, value_bytes, opened, assigned, empty_slot, slot_bytes, slot_width, value_width}
use Rattle.values.proofs.Bytes.{bytes_of}
use Rattle.values.proofs.Result.{Post, Any, post_ok, post_all, post_at, post_map, post_require, post_bind}
use Rattle.store.specs.Sheet.{owner_of, most_slots, order_of, tables_of, opening_of, value_width_in, value_good, sizes_allowed, slot_checked, body_checked, sheet_checked, store_sheet, slots_bytes}
use Rattle.syntax.specs.Syntax.{Expr, literal, read, Cmd, cmd, assign}
use Rattle.syntax.specs.Code.{read_value, expr_sorted, expr_byte, read_literal, expr_by, read_expr, sorted, cmd_byte, read_assign, body_by, read_body, read_block}
use Rattle.syntax.specs.Sheet.{Block, k_of, floor_of, header_of, code_of, start_of, header_good, block_at, blocks_from, programme_sheet}
use Rattle.syntax.proofs.SheetBlocks.{IsBlock}
use Rattle.calculus.specs.Rules.{RuleSet, capability, rules_of, judges_views, judges_region, labels_judged, all_above, labels_suffice}
use Rattle.calculus.specs.Calculus.{Limits, Setting, Store, State, contents, in_region, admit, fetch, eval, authorised, reliable, permit, assignment, counted, written, entry_of, recorded, performed, step, attempt, exec, exec_body}
use Rattle.calculus.specs.Blocks.{setting, run_blocks, start}
use Rattle.calculus.specs.Run.{FinishedRun, run_programme, run_opened, run_under, run, answer_of, output_of}
use Rattle.calculus.specs.Vectors.{plenty, writes}
use Rattle.isolation.specs.Isolation.{Protected, within_reach, unchanged, exchanged, Replaced, Replacement}
use Rattle.isolation.specs.ConfusedDeputy.{NoControl, DirectWrite, Noninterference}
use Rattle.isolation.specs.NotEnoughUnderCapability.{SufficesUnderCapability, sheet, tables, slots, sent, left, ChosenWorked}
use Rattle.calculus.proofs.Rules.{rules_one}
use Rattle.calculus.proofs.Steps.{post_tried, post_attempt}
use Rattle.calculus.proofs.CalculusTaint.{Tainted, Agree, agree_refl, agree_tainted}
use Rattle.calculus.proofs.CalculusInvariant.{Ends, all_ends, written_slot, assignment_gives}
use Rattle.calculus.proofs.CalculusAuthority.{reach_keeps}
use Rattle.exactness.proofs.StepByStepInvariant.{Keeps, keeps_under}
use Rattle.isolation.proofs.SlotsAtEveryStep.{protected_kept}
use Rattle.isolation.proofs.Isolation.{same_again, opens}
use Rattle.isolation.proofs.CapabilitySafety.{Low, gives_within}
use Rattle.isolation.proofs.ConfusedDeputyEndStore.{end_call, end_good, end_store, end_part, end_keeps, end_formed, end_kept}
use Rattle.calculus.proofs.ValueWellFormed.{formed_cases}
use Rattle.isolation.proofs.ConfusedDeputy.{outside_left}

-- An assignment to a literal write view of a slot that is not protected leaves the protected slots alone.
module _ (w : Setting) (a : Label) (v : Value) (own : Tainted w.tables a (owner_of w.tables (viewed v))) (e : Expr) where
  literal_target : (branch : Label) (s : Store) → Post (λ x. Tainted w.tables a (owner_of w.tables x.slot)) Any (assignment w branch s (literal v) e)
  unfolding assignment permit eval admit
  literal_target branch s =
      post_bind (λ x. Tainted w.tables a (owner_of w.tables (viewed x.value))) _ _ _ _
      (post_require _ _ _ _ _ (λ _. post_ok _ _ _ own) (λ _. tt)) λ x p.
      post_require _ _ _ _ _
      (λ _. post_bind (λ _. Unit {0}) _ _ _ _ (post_all _ _ _ (λ _. tt) (λ _. tt)) λ y _.
      post_require _ _ _ _ _ (λ _. post_require _ _ _ _ _ (λ _. post_ok _ _ _ p) (λ _. tt)) (λ _. tt)) (λ _. tt)

  target_keeps : (u : Store) (at : ℕ) (branch : Label) (s : State) → Agree w.tables a s.store u
      → Ends (λ t. Agree w.tables a t u) (exec w (cmd at (assign (literal v) e)) branch s)
  unfolding exec exec_body performed recorded counted
  target_keeps u at branch s m =
      post_bind (λ x. Agree w.tables a (written x s.store) u) _ _ _ _
      (post_tried w at s _ _ _
      (post_attempt _ _ w branch s (literal v) e
      (post_map _ _ _ _ _ (literal_target branch s.store) (λ x p. agree_tainted w.tables a x s.store u p m) (λ _ _. m)) m) m)
      (λ x q. post_ok _ _ _ q)

-- block 1 as it is read
abbrev obeying : Cmd
obeying =
    cmd 0 (
    assign (literal (record { kind = write_view; payload = 1 })) (read (read (literal (record { kind = read_view; payload = 0 })))))

-- Noninterference

module _ (own : Tainted tables 0 (owner_of tables 1)) (within : within_reach tables 0 (sent 2) 0 ≡ true)
    (reads : Post (λ c. c ≡ obeying) Any (read_block tables.slots (code_of (sent 2) 1))) (in-0 : 0 < tables.order.n) where
  outside : (i : ℕ) → i < k_of (sent 2) → within_reach tables 0 (sent 2) i ≡ false
      → (c : Cmd) → read_block tables.slots (code_of (sent 2) i) ≡ ok c → c ≡ obeying
  unfolding number_at
  outside zero h out c e = absurd (true≢false (sym within ∙ out))
  outside (suc zero) h out c e = post_at _ _ _ c reads e
  outside (suc (suc i)) h out c e = absurd (omega arith)

  module _ (store : List ℕ) (s : Store) (opening : store_sheet store ≡ ok (record { tables = tables; store = s }))
      (q out : List ℕ) (r : Replacement tables 0 (sent 2) q) (x : FinishedRun 1 store q out) where
    block_keeps : (k : Limits) (j : ℕ) (b : Block) → IsBlock tables.slots q j b
        → Keeps (λ t. Agree tables 0 t s) tables (end_good 1 store tables s opening q out x).rules k j b
    block_keeps k j b is t m =
        cases (within_reach tables 0 q j)
        (λ e. reach_keeps (setting tables _ k j b) 0 (opens store tables s opening).ordered in-0 (rw is.header e) s b.command _ t m)
        (λ e. rw (outside_left tables 0 (sent 2) q r (λ _ code. (c : Cmd) → read_block tables.slots code ≡ ok c → c ≡ obeying) outside j is.inside e
        b.command is.code) (target_keeps (setting tables _ k j b) 0 _ own _ s 0 _ t m))

    kept : (i : ℕ) → Protected tables 0 i → part out (slot_width * i) slot_width ≡ slot_bytes (get_or s i empty_slot)
    kept =
        end_kept 1 store tables s opening q out x 0 (
        protected_kept (end_call 1 store tables s opening q out x) x.old (end_good 1 store tables s opening q out x) (λ t. Agree tables 0 t s) (agree_refl tables 0 s) block_keeps
        0 (λ t m i p. m.held i p.above))

  noninterference : Noninterference 1 tables 0 (sent 2)
  noninterference store store' s s' _ _ opening opening' agree q q' _ _ r r' out out' x x' i b =
      kept store s opening q out r x i b ∙ ap slot_bytes (agree i b) ∙ sym (kept store' s' opening' q' out' r' x' i b)

-- the adversary may send another block 0
other : within_reach tables 0 (sent 2) 0 ≡ true → within_reach tables 0 (sent 3) 0 ≡ true → Replacement tables 0 (sent 2) (sent 3)
unfolding number_at start_of
other own own' = record { count = refl; each = each }
  where
    each : (i : ℕ) → i < k_of (sent 2) → Replaced tables 0 (sent 2) (sent 3) i
    each zero h = exchanged own own'
    each (suc zero) h = unchanged refl refl
    each (suc (suc i)) h = absurd (omega arith)

abbrev old : List ℕ
old = replicate (slot_width * 4) 0

pub chosen_worked : ChosenWorked
unfolding run_programme run_opened run_under run answer_of output_of
    ◌and◌ ◌or◌ ◌implies◌ every some find bit in_range reflexive antisymmetric transitive is_meet has_meets is_top has_top good meet top
    ◌>>=◌ require refused_as in_turn number_at number_bytes entries filled well_formed value_at value_bytes opened assigned empty_slot slot_bytes
    order_of tables_of opening_of value_width_in value_good sizes_allowed slot_checked body_checked sheet_checked store_sheet slots_bytes
    read_value expr_sorted expr_byte read_literal expr_by read_expr sorted cmd_byte read_assign body_by read_body read_block
    floor_of header_of start_of header_good block_at blocks_from programme_sheet Post
    rules_of judges_views judges_region labels_judged all_above labels_suffice in_region admit fetch eval authorised reliable permit assignment
    counted written entry_of recorded performed step attempt exec exec_body run_blocks start
chosen_worked =
    record {
      opens = refl;
      principal = omega arith;
      inside = omega arith;
      own = refl;
      seven = refl;
      protected = record { inside = omega arith; above = refl };
      noninterference = noninterference refl refl refl (omega arith);
      other = other refl refl;
      first_run = record { budget = 10; entries = plenty; old = old; finishes = refl; ends = refl };
      second_run = record { budget = 10; entries = plenty; old = old; finishes = refl; ends = refl };
    }

-- Slot 1 ends with the write view that the adversary chose ..
controlled : NoControl 1 tables 0 sheet (sent 2) 1 (left 2) → ⊥
unfolding every ◌and◌
controlled c =
    let e : ◌≡◌ {A = ℕ} 2 3 =
    ap (λ (l : List ℕ). get_or l 1 0) (c (sent 3) _ (bytes_of (sent 3) refl) chosen_worked.other chosen_worked.second_run) in
    omega arith

-- the value whose bytes are those of the write view of slot 2
view_read : (m : ℕ) (v : Value) → m ≤ most_slots → well_formed m v ≡ true → writes 2 ≡ value_bytes v → (v.kind ≡ write_view) × (v.payload ≡ 2)
unfolding value_bytes number_bytes
view_read m v l f e =
    let k : 3 ≡ v.kind % 256 = ap (λ (l : List ℕ). get_or l 0 0) e in
    let i : 2 ≡ v.payload % 256 = ap (λ (l : List ℕ). get_or l 1 0) e in
    ⊎_elim (λ z. absurd (omega arith)) (λ x. let kind = x.0 in let payload = x.1 in (omega arith, omega arith)) (formed_cases m l v f)

-- .. which no block within its reach may hold
module _ (d : DirectWrite 1 tables 0 sheet 1 (left 2)) where
  abbrev rules : RuleSet
  rules = (end_good 1 sheet tables slots chosen_worked.opens d.programme d.end d.finished).rules

  abbrev ended : Value
  ended = contents (end_store 1 sheet tables slots chosen_worked.opens d.programme d.end d.finished) 1

  block_low : (k : Limits) (j : ℕ) (b : Block) → IsBlock tables.slots d.programme j b → Keeps (λ t. Low tables 0 (contents t 1)) tables capability k j b
  block_low k j b is =
      let o = (opens sheet tables slots chosen_worked.opens).ordered in
      let w = setting tables capability k j b in
      all_ends w (λ t. Low tables 0 (contents t 1)) (λ branch s t v m.
      post_map _ _ _ _ _
      (assignment_gives (Low tables 0) w branch s t v
      (gives_within tables 0 o chosen_worked.principal k j b (rw is.header (d.reached j is.inside)) s v))
      (λ y p. written_slot (Low tables 0) y s 1 p m) (λ _ _. tt)) b.command _

  ended_low : Low tables 0 ended
  unfolding rules_of
  ended_low =
      end_keeps 1 sheet tables slots chosen_worked.opens d.programme d.end d.finished (λ t. Low tables 0 (contents t 1))
      (λ e. absurd (false≢true (rw chosen_worked.seven at e)))
      (λ k j b is. keeps_under _ tables rules capability k j b
      (rules_one 1 capability rules refl (end_good 1 sheet tables slots chosen_worked.opens d.programme d.end d.finished).ruled)
      (block_low k j b is))

  not_direct : ⊥
  unfolding slot_bytes value_bytes number_bytes
  not_direct =
      let first = take-take value_width slot_width (drop slot_width d.end) (omega arith) in
      let view =
      view_read tables.slots ended (opens sheet tables slots chosen_worked.opens).small
      (end_formed 1 sheet tables slots chosen_worked.opens d.programme d.end d.finished 1)
      (d.alike ∙ sym first
      ∙ ap (take value_width) (end_part 1 sheet tables slots chosen_worked.opens d.programme d.end d.finished 1 chosen_worked.inside)) in
      let tainted = ended_low (eq-eqb ended.kind write_view view.0) in
      true≢false (sym (rw view.1 at tainted) ∙ chosen_worked.protected.above)

pub not_enough_under_capability : SufficesUnderCapability → ⊥
unfolding every ◌and◌
not_enough_under_capability h =
    let x = chosen_worked in
    let self = same_again tables 0 (sent 2) in
    ⊎_elim controlled not_direct
    (h 0 sheet (sent 2) tables slots x.principal (bytes_of sheet refl) x.opens x.noninterference
    (sent 2) _ (bytes_of (sent 2) refl) self x.first_run 1 x.inside)
