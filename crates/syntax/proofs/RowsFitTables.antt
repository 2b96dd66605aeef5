-- Laws of `compiled` (specs/Rows.antt): a programme that is taken in fits the tables, its blocks' bytes bounding rows and operands. Assumes nothing.
use Prim.Native.Nat.{ℕ, zero, suc, ◌+◌, ◌*◌, ◌≤◌}
use mathlib.Core.Path.{◌≡◌}
use mathlib.Core.List.{List, ◌∷◌}
use native.Mathlib.Numerals.{add-one}
use native.Mathlib.Omega.{arith}
use lib.ListN.{length, drop, length-append, length-take}
use Rattle.values.specs.Result.{ok}
use Rattle.values.proofs.Result.{Post, Any, post_ok, post_bind, post_at, post_refused_as}
use Rattle.syntax.specs.Sheet.{Block, k_of, length_at, code_at, start_of, code_of, block_at, blocks_from, programme_sheet}
use Rattle.syntax.specs.Rows.{end_row, cmd_operands, size, rows_of, blocks_rows, blocks_operands, pair_width, most_rows, most_operands}
use Rattle.syntax.proofs.Rows.{rows_length}
use Rattle.syntax.proofs.RowsByteSpans.{block_spans}
use Rattle.syntax.proofs.RunningStarts.{programmed}

-- so many rows and operands of code from one byte up to another, with an end row for each block
pub record Fit (from to blocks r o : ℕ) : Type 0 where
  pub rows : pair_width * r + 2 * from ≤ 2 * to + pair_width * blocks
  pub operands : pair_width * o + 2 * from ≤ 2 * to

module _ (m : ℕ) (p : List ℕ) where
  start_suc : (i : ℕ) → start_of p (i + 1) ≡ start_of p i + length_at p i
  unfolding start_of
  start_suc i = rw add-one

  abbrev pub BlockFits : ℕ → Block → Type 0
  BlockFits i b = Fit (start_of p i) (start_of p (i + 1)) 0 (size b.command) (length (cmd_operands b.command))

  pub block_fits : (i : ℕ) → Post (BlockFits i) Any (block_at m p i)
  unfolding block_at
  block_fits i =
      let l = length-take (length_at p i) (drop (code_at (k_of p) + start_of p i) p) in
      post_bind _ _ _ _ _ (post_refused_as _ _ _ _ (block_spans m (code_of p i)))
      (λ c h. post_ok _ _ _ (record { rows = omega (arith, l, start_suc i, h.rows); operands = omega (arith, l, start_suc i, h.operands) }))

  -- n blocks from the i-th on, the first row and operand being any
  abbrev pub BlocksFit : ℕ → ℕ → ℕ → ℕ → List Block → Type 0
  BlocksFit n i r o bs = Fit (start_of p i) (start_of p (i + n)) n (length (blocks_rows bs r o)) (length (blocks_operands bs))

  pub blocks_fit : (n i r o : ℕ) → Post (BlocksFit n i r o) Any (blocks_from m p n i)
  unfolding blocks_from blocks_rows blocks_operands
  blocks_fit zero i r o =
      let e : i + 0 ≡ i = omega arith in
      post_ok _ _ _ (rw e (record { rows = omega arith; operands = omega arith }))
  blocks_fit (suc n) i r o =
      post_bind (BlockFits i) _ _ _ _ (block_fits i)
      (λ b h. post_bind _ _ _ _ _ (blocks_fit n (i + 1) (r + size b.command + 1) (o + length (cmd_operands b.command)))
      (λ bs g. post_ok _ _ _ (joined b bs h g)))
    where
      joined : (b : Block) (bs : List Block) → BlockFits i b → BlocksFit n (i + 1) (r + size b.command + 1) (o + length (cmd_operands b.command)) bs
          → BlocksFit (suc n) i r o (b ∷ bs)
      joined b bs h g =
          let c = b.command in
          let rs = blocks_rows bs (r + size c + 1) (o + length (cmd_operands c)) in
          let e : i + 1 + n ≡ i + suc n = omega arith in
          let k = rw e at g in
          let l = length-append (rows_of c 0 r o) (end_row ∷ rs) in
          let w = length-append (cmd_operands c) (blocks_operands bs) in
          record { rows = omega (arith, rows_length c 0 r o, l, h.rows, k.rows); operands = omega (arith, w, h.operands, k.operands) }

pub compiled_fits : (n m : ℕ) (p : List ℕ) (bs : List Block) → programme_sheet n m p ≡ ok bs
    → (length (blocks_rows bs 0 0) ≤ most_rows) × (length (blocks_operands bs) ≤ most_operands)
unfolding start_of
compiled_fits n m p bs h =
    let w = programmed n m p bs h in
    let k : 0 + k_of p ≡ k_of p = omega arith in
    let f = rw k at (post_at _ _ _ bs (blocks_fit m p (k_of p) 0 0 0) w.reads) in
    (omega (arith, f.rows, w.lengths.sum, w.lengths.few, w.lengths.small), omega (arith, f.operands, w.lengths.sum, w.lengths.small))
