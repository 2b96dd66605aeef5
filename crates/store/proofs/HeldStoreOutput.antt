-- Laws of the output as loops write it, row by row (`row_bytes`, `rows_bytes`, specs/HeldStore.antt). Assumes nothing.
use Rattle.std.proofs.Common.{◌≡◌, ℕ, zero, suc, ◌+◌, ◌*◌, ◌≤◌, List, ◌++◌, length, get_or, refl, sym, ap, ◌∙◌, append-nil, append_assoc, length-append, arith}
use Rattle.std.proofs.Math.Seq.{length-sets}
use borrow.Rule.Slice.PartMut.{put_mid}
use lib.Seq.{sets}
use Rattle.values.specs.Bytes.{number_bytes}
use Rattle.values.specs.Value.{payload_width, count_width, slot_width}
use Rattle.values.proofs.Bytes.{length_number}
use Rattle.values.proofs.BytesWritten.{put_sets, sets_append}
use Rattle.store.specs.declared.HeldSlot.{HeldSlot}
use Rattle.store.specs.HeldStore.{empty_row, row_bytes, rows_bytes, out_after}

pub length_row : (row : HeldSlot) → length (row_bytes row) ≡ slot_width
unfolding row_bytes
length_row row =
    ap suc (length-append (number_bytes payload_width row.payload) (number_bytes count_width row.writes))
    ∙ omega (arith, length_number payload_width row.payload, length_number count_width row.writes)

pub length_rows : (held : List HeldSlot) (i n : ℕ) → length (rows_bytes held i n) ≡ slot_width * n
unfolding rows_bytes
length_rows held i zero = refl
length_rows held i (suc n) =
    length-append (row_bytes (get_or held i empty_row)) (rows_bytes held (i + 1) n)
    ∙ omega (arith, length_row (get_or held i empty_row), length_rows held (i + 1) n)

-- one slot more, at the end
rows_more : (held : List HeldSlot) (i n k : ℕ) → k ≡ i + n → rows_bytes held i n ++ row_bytes (get_or held k empty_row) ≡ rows_bytes held i (suc n)
unfolding rows_bytes
rows_more held i zero k e =
    let start : k ≡ i = omega arith in
    rw start (sym (append-nil _))
rows_more held i (suc n) k e =
    let row = row_bytes (get_or held i empty_row) in
    append_assoc row (rows_bytes held (i + 1) n) _ ∙ ap (λ (l : List ℕ). row ++ l) (rows_more held (i + 1) n k (omega arith))

-- the loop over the slots: one is written after those that are
pub slot_written : (held : List HeldSlot) (old : List ℕ) (n k : ℕ) → k ≡ slot_width → slot_width * n + slot_width ≤ length old
    → put_mid (slot_width * n) k (out_after held n old) (row_bytes (get_or held n empty_row)) ≡ out_after held (n + 1) old
unfolding out_after
slot_written held old n k e h =
    let row = row_bytes (get_or held n empty_row) in
    let there = rows_bytes held 0 n in
    let at : slot_width * n ≡ 0 + length there = omega (arith, length_rows held 0 n) in
    put_sets (slot_width * n) k (sets old 0 there) row (length_row _ ∙ sym e) (omega (arith, length-sets old 0 there))
    ∙ ap (λ (j : ℕ). sets (sets old 0 there) j row) at ∙ sym (sets_append old 0 there row)
    ∙ ap (λ (l : List ℕ). sets old 0 l) (rows_more held 0 n n (omega arith))
    ∙ ap (λ (j : ℕ). sets old 0 (rows_bytes held 0 j)) (omega arith)
