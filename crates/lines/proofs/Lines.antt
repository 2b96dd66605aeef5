-- Laws of the lines, as they are put into a text. Assumes nothing.
use Prim.Native.Nat.{ℕ, zero, suc, ◌+◌, ◌*◌, ◌%◌, ◌^◌, ◌<◌}
use mathlib.Core.Path.{◌≡◌, refl, sym, ap, subst, ◌∙◌}
use mathlib.Core.Bool.{Bool, true, false}
use mathlib.Core.List.{List, [], ◌++◌, append_assoc, append-nil}
use native.Mathlib.Nat.{add-zero, zero-add}
use native.Mathlib.Numerals.{add-one}
use native.Mathlib.Omega.{arith}
use lib.ListN.{take}
use lib.Dec.{eqb}
use Rattle.std.specs.List.{sum_by, range_with_len}
use Rattle.std.proofs.lemmas.List.{map-id}
use Rattle.std.proofs.lemmas.List.FromFn.{sum_by-map-range_with_len_more}
use borrow.Author.Tests.{eq-eqb, ne_eqb}
use Rattle.values.specs.declared.Answer.{Answer}
use Rattle.values.specs.declared.Value.{Value}
use Rattle.values.specs.Value.{slot_width, value_at}
use Rattle.values.specs.SignedIntegers.{negative, magnitude}
use Rattle.values.proofs.SignedIntegers.{plain, flipped, from_least}
use Rattle.store.specs.Sheet.{owner_at, order_of}
use Rattle.lines.specs.Decimal.{ascii}
use Rattle.lines.specs.PrincipalsAbove.{number_above}
use Rattle.values.specs.Bytes.{table}
use Rattle.store.specs.Counts.{total, count_at}
use Rattle.lines.specs.Lines.{field, line_end, answer_fields, answer_line, payload_field, slot_line, slot_lines, total_line, lines}
use Rattle.lines.specs.declared.putting.Writer.{Writer}
use Rattle.lines.specs.Written.{Written}
use Rattle.lines.specs.PutText.{field_room, fields_room, answer_room, slot_room, total_room}
use Rattle.lines.proofs.PutText.{written_none, written_then, written_as}

-- the fields of line 1; the fields and the end of a slot's line, and of the last line
module _ {w w₁ w₂ w₃ w₄ : Writer} where
  pub fields_put : (a : Answer)
      → Written w (field (ascii "end ") a.number) (field_room 4) w₁
      → Written w₁ (field (ascii " block ") a.block) (field_room 7) w₂
      → Written w₂ (field (ascii " at ") a.offset) (field_room 4) w₃
      → Written w₃ (field (ascii " steps ") a.steps) (field_room 7) w₄
      → Written w (answer_fields a) fields_room w₄
  unfolding answer_fields
  fields_put a p q r s = written_then (written_then (written_then p q) r) s

  pub slot_puts : {w₅ w₆ w₇ : Writer} (slot owner : ℕ) (v : Value) (writes above : ℕ)
      → Written w (field [] slot) (field_room 0) w₁
      → Written w₁ (field (ascii " ") owner) (field_room 1) w₂
      → Written w₂ (field (ascii " ") v.kind) (field_room 1) w₃
      → Written w₃ (payload_field v) (field_room 2) w₄
      → Written w₄ (field (ascii " ") writes) (field_room 1) w₅
      → Written w₅ (field (ascii " ") above) (field_room 1) w₆
      → Written w₆ line_end 1 w₇
      → Written w (slot_line slot owner v writes above) slot_room w₇
  unfolding slot_line
  slot_puts slot owner v writes above p q r s t x l =
      written_then (written_then (written_then (written_then (written_then (written_then p q) r) s) t) x) l

pub total_put : {u v w : Writer} (out : List ℕ) (m : ℕ) {all : ℕ} → all ≡ total (table m (count_at out))
    → Written u (field [] all) (field_room 0) v → Written v line_end 1 w → Written u (total_line out m) total_room w
unfolding total_line
total_put out m h p l = written_then (rw h at p) l

pub answer_put : {u v w : Writer} (a : Answer)
    → Written u (answer_fields a) fields_room v → Written v line_end 1 w → Written u (answer_line a) answer_room w
unfolding answer_line
answer_put a p l = written_then p l

module _ (v : Value) {u w : Writer} where
  -- a negative one's magnitude is its payload, wrapped round
  pub with_sign : (x : ℕ) → negative v ≡ true → (x + v.payload) % 2 ^ 64 ≡ 0 → x < 2 ^ 64 → v.payload < 2 ^ 64
      → Written u (field (ascii " -") x) (field_room 2) w → Written u (payload_field v) (field_room 2) w
  unfolding payload_field
  with_sign x h e l p put =
      let m : x ≡ magnitude v = omega (arith, from_least v h, flipped v h) in
      rw (payload_field, h) (rw m at put)

  pub without_sign : negative v ≡ false → Written u (field (ascii " ") v.payload) (field_room 1) w → Written u (payload_field v) (field_room 2) w
  unfolding payload_field
  without_sign h put = rw (payload_field, h) (written_as 22 (ap (field (ascii " ")) (plain v h)) (omega arith) put)

module _ (a : Answer) (sheet : List ℕ) (m : ℕ) (out : List ℕ) where
  pub refused : (a.number ≡ 0 → ⊥) → answer_line a ≡ lines a sheet m out
  unfolding lines
  refused h = rw (lines, ne_eqb a.number 0 h)

  pub finished : a.number ≡ 0 → answer_line a ++ slot_lines sheet out 0 m ++ total_line out m ≡ lines a sheet m out
  unfolding lines
  finished h = rw (lines, eq-eqb a.number 0 h)

pub same_lines : (sheet : List ℕ) (m : ℕ) {a a' : Answer} {out out' : List ℕ} → a ≡ a' → out ≡ out' → lines a sheet m out ≡ lines a' sheet m out'
same_lines sheet m p q = rw (p, q) refl

-- the first word
pub starts_line : (a : Answer) → take 4 (answer_line a) ≡ ascii "end "
unfolding answer_line answer_fields field
starts_line a = refl

pub starts_lines : (a : Answer) (sheet : List ℕ) (m : ℕ) (out : List ℕ) → take 4 (lines a sheet m out) ≡ ascii "end "
unfolding lines answer_line answer_fields field
starts_lines a sheet m out = either (eqb a.number 0)
  where
    either : (b : Bool)
        → take 4 (elim b [ true ↦ answer_line a ++ slot_lines sheet out 0 m ++ total_line out m | false ↦ answer_line a ]) ≡ ascii "end "
    either true = refl
    either false = refl

-- slot i's line in an output
abbrev line_of : List ℕ → List ℕ → ℕ → List ℕ
line_of sheet out i =
    slot_line i (owner_at sheet i) (value_at out (slot_width * i)) (count_at out i) (number_above (order_of sheet) (owner_at sheet i))

-- one line more, behind the others
slots_more : (sheet out : List ℕ) (i n : ℕ) → slot_lines sheet out i (suc n) ≡ slot_lines sheet out i n ++ line_of sheet out (i + n)
unfolding slot_lines
slots_more sheet out i zero = rw (add-zero i, append-nil) refl
slots_more sheet out i (suc n) =
    let e : i + 1 + n ≡ i + suc n = omega arith in
    ap (λ (l : List ℕ). line_of sheet out i ++ l) (slots_more sheet out (i + 1) n) ∙ rw e (sym (append_assoc (line_of sheet out i) _ _))

pub slot_next : (sheet out : List ℕ) (i : ℕ) {u v w : Writer} (owner : ℕ) (x : Value) (writes above : ℕ)
    → owner ≡ owner_at sheet i → x ≡ value_at out (slot_width * i) → writes ≡ count_at out i → above ≡ number_above (order_of sheet) owner
    → Written u (slot_lines sheet out 0 i) (slot_room * i) v → Written v (slot_line i owner x writes above) slot_room w
    → Written u (slot_lines sheet out 0 (i + 1)) (slot_room * (i + 1)) w
slot_next sheet out i owner x writes above p q r s before line =
    let more = slots_more sheet out 0 i ∙ ap (λ (k : ℕ). slot_lines sheet out 0 i ++ line_of sheet out k) (zero-add i) in
    written_as (slot_room * (i + 1)) (sym (rw (← add-one i) at more)) (omega arith) (written_then before (rw (s, p, q, r) at line))

pub slots_none : (sheet out : List ℕ) (w : Writer) (room : ℕ) → Written w (slot_lines sheet out 0 0) room w
unfolding slot_lines
slots_none sheet out w room = written_none w room
