-- For `deputy_safety` and its like: one block of the adversary's own can write a slot that is not protected (`DirectWrite`). Assumes nothing.
use Prim.Native.Nat.{ℕ, zero, suc, ◌+◌, ◌*◌, ◌/◌, ◌%◌, ◌≤◌, ◌<◌}
use mathlib.Core.Path.{◌≡◌, refl, sym, ap, ◌∙◌}
use mathlib.Core.Logic.{⊎_elim}
use mathlib.Core.Bool.{true, false}
use mathlib.Core.List.{List, [], ◌∷◌, ◌++◌}
use native.Mathlib.Omega.{arith}
use lib.ListN.{get_or, length, set, take, drop, replicate, length-replicate}
use lib.Seq.{get_or-set_same, take-take, take_at}
use borrow.Author.Tests.{lt-ltb, le-leb, eqb-true, eq-eqb}
use Rattle.lattice.specs.Tests.{◌and◌, ◌or◌, ◌implies◌, every}
use Rattle.lattice.specs.declared.Table.{Table}
use Rattle.lattice.specs.Order.{Label, most_principals, below, top}
use Rattle.lattice.proofs.Tests.{and_l, and_r, or_l, imp_of}
use Rattle.lattice.specs.GoodTables.{Good}
use Rattle.lattice.proofs.Order.{good_at, below_top}
use Rattle.values.specs.declared.Answer.{Answer}
use Rattle.values.specs.Result.{Result, ok, ◌>>=◌, require, refused_as}
use Rattle.values.specs.Bytes.{Bytes, number_at, number_bytes, part}
use Rattle.values.specs.declared.Value.{Value}
use Rattle.values.specs.Value.{payload_width, value_width, integer, write_view, kinds, well_formed, value_at, value_bytes, Slot, assigned, empty_slot, slot_width, slot_bytes}
use Rattle.values.proofs.Bytes.{length_value, value_read, value_again}
use Rattle.store.specs.Sheet.{Tables, owner_of, most_slots, store_sheet}
use Rattle.store.proofs.SheetOpening.{Opens}
use Rattle.syntax.specs.Syntax.{literal, cmd, assign}
use Rattle.syntax.specs.Code.{up_to, read_value, read_literal, expr_by, read_expr, expr_at, sorted, cmd_byte, read_assign, body_by, read_body, read_block}
use Rattle.syntax.proofs.SheetHeaders.{header_bare}
use Rattle.syntax.specs.Sheet.{Block, k_of, endorsed_bit, header_of, start_of, header_good, block_at, blocks_from, programme_sheet}
use Rattle.syntax.proofs.CodeFirstByte.{expr_is_literal}
use Rattle.calculus.specs.Rules.{RuleSet, access_control, capability, explicit_provenance, full_provenance, rules_of, judges_views, labels_judged, all_above, labels_suffice}
use Rattle.calculus.specs.Calculus.{limits, Setting, Store, State, contents, in_region, may_hold, admit, eval, authorised, reliable, permit, assignment, counted, written, entry_of, recorded, performed, step, attempt, exec, exec_body}
use Rattle.calculus.specs.Blocks.{setting, run_blocks, start}
use Rattle.calculus.specs.Run.{Call, call, Finished, run_programme, run_opened, run_under, run, answer_of, output}
use Rattle.calculus.specs.Vectors.{lit, one}
use Rattle.isolation.specs.Isolation.{within_reach}
use Rattle.isolation.specs.ConfusedDeputy.{ValueAlike, DirectWrite}
use Rattle.isolation.proofs.Isolation.{output_part, opens}
use Rattle.calculus.proofs.ValueWellFormed.{formed_cases}
use Rattle.calculus.proofs.CalculusTaint.{Tainted}
use Rattle.isolation.proofs.CapabilitySafety.{Low}

-- Values

-- what is read back where v was written
abbrev again : Value → Value
again v = value_at (value_bytes v) 0

abbrev view : ℕ → Value
view i = record { kind = write_view; payload = i }

module _ (m : ℕ) (l : m ≤ most_slots) (v : Value) (h : well_formed m v ≡ true) where
  formed_kind : v.kind < kinds
  formed_kind = ⊎_elim (λ e. omega arith) (λ x. x.0) (formed_cases m l v h)

  integer_again : v.kind ≡ integer → well_formed m (again v) ≡ true
  unfolding well_formed value_at value_bytes
  integer_again e = or_l _ _ (or_l _ _ (eq-eqb (v.kind % 256) integer (omega arith)))

  again_integer : v.kind ≡ integer → (again v).kind ≡ integer
  unfolding value_at value_bytes
  again_integer e = omega arith

  -- what it may view when it is read back it may view already
  low_again : (w : Tables) (a : Label) → Low w a v → Low w a (again v)
  low_again w a low =
      ⊎_elim (λ e t. absurd (omega (arith, again_integer e, eqb-true (again v).kind write_view t)))
      (λ x. rw (value_read v (omega arith) (omega arith)) low) (formed_cases m l v h)

  -- so it is well-formed when it is read back
  formed_again : well_formed m (again v) ≡ true
  formed_again = ⊎_elim integer_again (λ x. rw (value_read v (omega arith) (omega arith)) h) (formed_cases m l v h)

-- in an output, a value's bytes are the first of its slot's
module _ (i : ℕ) (out : List ℕ) where
  value_first : take value_width (part out (slot_width * i) slot_width) ≡ part out (slot_width * i) value_width
  value_first = take-take value_width slot_width (drop (slot_width * i) out) (omega arith)

  pub value_part : (u : Slot) → part out (slot_width * i) slot_width ≡ slot_bytes u → part out (slot_width * i) value_width ≡ value_bytes u.value
  unfolding slot_bytes
  value_part u e = sym value_first ∙ ap (take value_width) e ∙ take_at (value_bytes u.value) _ value_width (length_value u.value)

-- two slots that are alike have the same value
pub value_alike : (i : ℕ) (out out' : List ℕ) → part out (slot_width * i) slot_width ≡ part out' (slot_width * i) slot_width → ValueAlike i out out'
value_alike i out out' e = sym (value_first i out) ∙ ap (take value_width) e ∙ value_first i out'

-- Reading

-- a literal where an expression is due
literal_read : (m : ℕ) (s : List ℕ) (at : ℕ) (v : Value) → m ≤ most_slots → get_or s at 0 ≡ 0x10 → at + 1 + value_width ≤ length s
    → value_at s (at + 1) ≡ v → well_formed m v ≡ true → expr_at m s at ≡ up_to (at + 1 + value_width) (literal v)
unfolding read_expr expr_by read_literal read_value require ◌>>=◌ value_at
literal_read m s at v l b fits e f =
    let k : get_or s (at + 1) 0 < kinds = omega (arith, ap (λ (x : Value). x.kind) e, formed_kind m l v f) in
    let x : at < length s = omega arith in
    let y : at + 1 < length s = omega arith in
    rw (expr_is_literal s at x b, lt-ltb _ _ y, lt-ltb _ _ k, le-leb _ _ fits, e, f)

-- the assignment of v to slot i
abbrev code : ℕ → Value → List ℕ
code i v = 0x21 ∷ (lit (value_bytes (view i)) ++ lit (value_bytes v))

abbrev size : ℕ
size = 1 + (1 + value_width) + (1 + value_width)

view_formed : (m i : ℕ) → i < m → well_formed m (view i) ≡ true
unfolding well_formed ◌and◌ ◌or◌
view_formed m i h = lt-ltb i m h

code_read : (m i : ℕ) (v : Value) → m ≤ most_slots → i < m → well_formed m v ≡ true
    → read_block m (code i v) ≡ ok (cmd 0 (assign (literal (view i)) (literal (again v))))
unfolding read_block read_body body_by read_assign sorted cmd_byte ◌>>=◌ require value_at value_bytes number_at number_bytes
code_read m i v l h f =
    let e = value_read (view i) (omega arith) (omega arith) in
    rw (
      literal_read m (code i v) 1 (view i) l refl (omega arith) e (view_formed m i h),
      literal_read m (code i v) (1 + 1 + value_width) (again v) l refl (omega arith) refl (formed_again m l v f),
    )

-- a principal's number leaves the endorsed bit clear
header_read : (a : Label) → a < endorsed_bit → header_of a 0 ≡ record { region = a; endorsed = false; floor = 0 }
header_read a h = sym (header_bare a 0 h) ∙ ap (λ (r : ℕ). record { region = r; endorsed = false; floor = 0 }) (omega arith)

-- the block, and the programme of this block alone
abbrev block : Label → ℕ → Value → Block
block a i v =
    record { header = record { region = a; endorsed = false; floor = 0 }; command = cmd 0 (assign (literal (view i)) (literal (again v))) }

abbrev programme : Label → ℕ → Value → List ℕ
programme a i v = one a (code i v)

programme_read : (n m : ℕ) (a : Label) (i : ℕ) (v : Value) → n ≤ most_principals → m ≤ most_slots → a < n → i < m → well_formed m v ≡ true
    → programme_sheet n m (programme a i v) ≡ ok (block a i v ∷ [])
unfolding programme_sheet header_good block_at blocks_from start_of every ◌and◌ ◌implies◌ ◌>>=◌ require refused_as number_at value_bytes number_bytes
programme_read n m a i v few l in-a h f = rw (header_read a (omega arith), lt-ltb a n in-a, code_read m i v l h f)

-- and it is a sheet: its numbers are bytes
unfoldable AllBytes : List ℕ → Type 0
AllBytes [] = Unit {0}
AllBytes (b ∷ s) = (b < 256) × AllBytes s

all_bytes : (s : List ℕ) → AllBytes s → Bytes s
unfolding AllBytes
all_bytes [] d i = omega arith
all_bytes (b ∷ s) d zero = d.0
all_bytes (b ∷ s) d (suc i) = all_bytes s d.1 i

number_bytes_law : (width x : ℕ) (s : List ℕ) → AllBytes s → AllBytes (number_bytes width x ++ s)
unfolding number_bytes AllBytes
number_bytes_law zero x s d = d
number_bytes_law (suc width) x s d = (omega arith, number_bytes_law width (x / 256) s d)

literal_bytes : (v : Value) (s : List ℕ) → AllBytes s → AllBytes (lit (value_bytes v) ++ s)
unfolding value_bytes AllBytes
literal_bytes v s d = (omega arith, (omega arith, number_bytes_law payload_width v.payload s d))

programme_bytes : (a : Label) (i : ℕ) (v : Value) → a < endorsed_bit → Bytes (programme a i v)
unfolding value_bytes number_bytes AllBytes
programme_bytes a i v h =
    let coded : AllBytes (code i v ++ []) = (omega arith, literal_bytes (view i) (lit (value_bytes v) ++ []) (literal_bytes v [] tt)) in
    let sized : AllBytes (size ∷ 0 ∷ 0 ∷ (code i v ++ [])) = (omega arith, (omega arith, (omega arith, coded))) in
    all_bytes (programme a i v) (omega arith, (omega arith, (omega arith, (omega arith, sized))))

-- The run

-- the state after the one step
abbrev after : ℕ → Value → Store → State
after i v s =
    record {
      store = set s i (assigned (again v) (get_or s i empty_slot));
      steps = 1;
      journal = record { block = 0; offset = 0; slot = i; old = contents s i; new = again v } ∷ [];
    }

-- whatever the rules judge of two literals at a block's start has the top label
judged_top : (rules : RuleSet) (t : Table) (o l : Label) → below t o l ≡ true → all_above t o (labels_judged rules l l l) ≡ true
unfolding labels_judged all_above ◌and◌
judged_top access_control t o l h = refl
judged_top capability t o l h = refl
judged_top explicit_provenance t o l h = rw h refl
judged_top full_provenance t o l h = rw h refl

module _ (rules : RuleSet) (w : Tables) (a : Label) (i : ℕ) (v : Value) (s : Store) (own : Tainted w a (owner_of w i))
    (high : below w.order (owner_of w i) (top w.order) ≡ true) (low : judges_views rules ≡ true → Low w a (again v)) where
  abbrev within : Setting
  within = setting w rules (limits 1 1) 0 (block a i v)

  holds_view : may_hold within (view i) ≡ true
  unfolding in_region
  holds_view = imp_of _ _ (λ _. own)

  holds_value : may_hold within (again v) ≡ true
  unfolding in_region
  holds_value = imp_of _ _ (λ e. low (and_l _ _ e) (and_r _ _ e))

  may_write : authorised within i ≡ true
  unfolding authorised in_region
  may_write = imp_of _ _ (λ _. own)

  -- the slot's owner is at or below the region, and at or below the top, the label of both literals and of the branch
  block_run : run_blocks w rules (limits 1 1) 0 (block a i v ∷ []) (start s) ≡ ok (after i v s)
  unfolding ◌>>=◌ require refused_as ◌or◌
      admit eval labels_suffice reliable permit assignment counted written entry_of recorded performed step attempt exec exec_body run_blocks start
  block_run = rw (holds_view, holds_value, may_write, judged_top rules w.order (owner_of w i) (top w.order) high)

module _ (rule : ℕ) (rules : RuleSet) (ruled : rules_of rule ≡ ok rules)
    (store : List ℕ) (w : Tables) (s : Store) (sheet : store_sheet store ≡ ok (record { tables = w; store = s }))
    (adversary : Label) (in-a : adversary < w.order.n)
    (i : ℕ) (in-i : i < w.slots) (own : Tainted w adversary (owner_of w i))
    (v : Value) (formed : well_formed w.slots v ≡ true) (low : judges_views rules ≡ true → Low w adversary v) where
  o : Opens store (record { tables = w; store = s })
  o = opens store w s sheet

  t : Good w.order
  t = good_at w.order o.ordered.table

  abbrev sent : List ℕ
  sent = programme adversary i v

  abbrev blank : List ℕ
  blank = replicate (slot_width * w.slots) 0

  abbrev ending : Finished
  ending = record { blocks = 1; slots = w.slots; state = after i v s }

  abbrev sent_call : Call
  sent_call = call store sent rule 1 (length blank) 1

  sent_run : run sent_call ≡ ok ending
  unfolding run_programme run_opened run_under run ◌>>=◌ require refused_as
  sent_run =
      let high = below_top w.order o.ordered.table (owner_of w i) (o.ordered.owners i) in
      rw (
        ruled,
        sheet,
        programme_read w.order.n w.slots adversary i v t.few o.small in-a in-i formed,
        eq-eqb (length blank) (slot_width * w.slots) (length-replicate _ _),
        block_run rules w adversary i v s own high (λ e. low_again w.slots o.small v formed w adversary (low e)),
      )

  -- what is read back has v's bytes
  sent_part : part (output sent_call blank) (slot_width * i) value_width ≡ value_bytes v
  unfolding assigned
  sent_part =
      value_part i (output sent_call blank) _ (
      output_part sent_call blank ending sent_run i in-i ∙ ap slot_bytes (get_or-set_same s i _ empty_slot (omega (arith, o.small, o.sized))))
      ∙ value_again v

  sent_reached : (j : ℕ) → j < k_of sent → within_reach w adversary sent j ≡ true
  unfolding number_at
  sent_reached zero h = rw (header_read adversary (omega (arith, t.few))) (t.self adversary in-a)
  sent_reached (suc j) h = absurd (omega arith)

  pub direct_write : (out : List ℕ) → part out (slot_width * i) value_width ≡ value_bytes v → DirectWrite rule w adversary store i out
  unfolding answer_of
  direct_write out e =
      record {
        programme = sent;
        end = output sent_call blank;
        sendable = programme_bytes adversary i v (omega (arith, t.few));
        reached = sent_reached;
        finished =
            record {
              budget = 1;
              entries = 1;
              old = blank;
              finishes = ap (λ (r : Result Answer Finished). (answer_of r).number) sent_run;
              ends = refl;
            };
        alike = e ∙ sym sent_part;
      }
