-- Laws of what is printed, part by part, with its first word and the bytes that are read. Serves `print_run` and its parts. Assumes nothing.
use Prim.Native.Nat.{ℕ, ◌+◌, ◌-◌, ◌*◌, ◌≤◌, ◌<◌, min}
use mathlib.Core.Path.{◌≡◌, refl, sym, ap, ◌∙◌}
use mathlib.Core.Bool.{Bool, true, false}
use mathlib.Core.List.{List}
use native.Mathlib.Nat.{min_comm}
use native.Mathlib.Omega.{arith}
use Rattle.std.proofs.lemmas.List.{take_min}
use lib.ListN.{length, get_or, take, drop, replicate, length-replicate, replicate-append-replicate}
use lib.Seq.{take_at, take-take}
use lib.Dec.{ltb}
use borrow.Author.Tests.{lt-ltb, le-ltb}
use Rattle.values.specs.Result.{unplaced}
use Rattle.values.specs.Bytes.{number_at}
use Rattle.values.specs.Value.{slot_width}
use Rattle.store.specs.Sheet.{most_slots}
use Rattle.lines.specs.Decimal.{ascii}
use Rattle.lines.specs.Lines.{answer_line}
use Rattle.lines.proofs.Lines.{starts_line, starts_lines}
use Rattle.calculus.specs.Run.{call}
use Rattle.printing.specs.PrintedText.{most_input, budget_width, head_width, slots_of, lent, most_entries, call_lines, printed_run, printed_sheets, printed_read, printed}
use Rattle.printing.specs.Requests.{Asked, run_of}
use Rattle.printing.specs.declared.Request.{Request}

take_replicate : (n k : ℕ) → n ≤ k → take {A = ℕ} n (replicate k 0) ≡ replicate n 0
take_replicate n k h =
    let e : n + (k - n) ≡ k = omega arith in
    ap (λ (l : List ℕ). take n l) (sym (replicate-append-replicate n (k - n) 0 ∙ ap (λ (i : ℕ). replicate i 0) e))
    ∙ take_at (replicate n 0) (replicate (k - n) 0) n (length-replicate n 0)

-- the output that a run is lent is a part of the room for any
pub part_lent : (m : ℕ) → m ≤ most_slots → take (slot_width * m) (lent most_slots) ≡ lent m
unfolding lent
part_lent m h = take_replicate (slot_width * m) (slot_width * most_slots) (omega arith)

pub length_lent : (m : ℕ) → length (lent m) ≡ slot_width * m
unfolding lent
length_lent m = length-replicate (slot_width * m) 0

pub run_lines : (rule budget : ℕ) (store programme old : List ℕ) (slots : ℕ) → slots ≡ slots_of store → old ≡ lent slots
    → call_lines (call store programme rule budget (length old) most_entries) slots old ≡ printed_run rule budget store programme
unfolding printed_run
run_lines rule budget store programme old slots p q = rw (q, length_lent slots, p) refl

module _ (s : List ℕ) where
  pub no_head : length s < head_width → answer_line (unplaced 1) ≡ printed_read s
  unfolding printed_read
  no_head h = rw (printed_read, lt-ltb (length s) head_width h)

  pub with_head : (r : Request) → Asked s r → run_of r ≡ printed_read s
  unfolding printed_read printed_sheets
  with_head r a = rw (printed_read, le-ltb (length s) head_width a.head, a.rule, a.budget, a.store, a.programme) refl

  -- the bytes that are read: all, or the first
  pub first_bytes : (n : ℕ) → n ≡ min (length s) most_input → printed_read (take n s) ≡ printed s
  unfolding printed
  first_bytes n p = ap printed_read (rw (p, min_comm) (take_min most_input s))

pub bytes_read : (s : List ℕ) → printed (take most_input s) ≡ printed s
unfolding printed
bytes_read s = ap printed_read (take-take most_input most_input s (omega arith))

-- the first word
pub first_word : (s : List ℕ) → take 4 (printed s) ≡ ascii "end "
unfolding printed printed_read printed_sheets printed_run
first_word s = either (ltb (length (take most_input s)) head_width)
  where
    either : (b : Bool)
        → take 4 (elim b [
          | true ↦ answer_line (unplaced 1)
          | false ↦ printed_sheets (get_or (take most_input s) 0 0) (number_at budget_width (take most_input s) 1) (drop head_width (take most_input s))
        ])
        ≡ ascii "end "
    either true = starts_line _
    either false = starts_lines _ _ _ _
