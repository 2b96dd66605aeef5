-- Where a block's code lies in its programme sheet, and which row is its first. Serves `locate`. Assumes nothing.
use Prim.Native.Nat.{ℕ, zero, suc, ◌+◌, ◌≤◌, ◌<◌}
use mathlib.Core.Path.{◌≡◌, refl, ap, ◌∙◌}
use mathlib.Core.List.{List, ◌∷◌}
use native.Mathlib.Omega.{arith}
use lib.ListN.{length, drop}
use Rattle.values.specs.Result.{ok}
use Rattle.syntax.specs.Syntax.{Cmd}
use Rattle.syntax.specs.Code.{read_block}
use Rattle.syntax.specs.Sheet.{Block, most_code, k_of, length_at, code_at, code_of, lent, header_at, blocks_from}
use Rattle.syntax.specs.RunningStarts.{RunningStart}
use Rattle.syntax.specs.RunningStarts.{GoodLengths, Stands}
use Rattle.syntax.specs.Rows.{size}
use Rattle.syntax.proofs.RunningStarts.{running_first, stands_next, end_small, part_within, part_is, part_length}
use Rattle.paths.specs.CodeLayout.{SomeBlock}
use Rattle.machine.specs.CompiledRuns.{rows_before}
use Rattle.runner.specs.StretchRun.{Locates}
use Rattle.machine.proofs.BlockRuns.{before_next}
use Rattle.runner.proofs.WholeRunFinish.{next_block}
use Rattle.paths.proofs.CodeLayout.{lies_slim}
use Rattle.paths.proofs.CodeReadBlock.{block_lies}

-- the j-th of blocks that were read, the i-th of its programme
pub record Listed (slots : ℕ) (p : List ℕ) (i j : ℕ) (bs : List Block) : Type 0 where
  pub block : Block
  pub rest : List Block
  pub is : drop j bs ≡ block ∷ rest
  pub reads : read_block slots (code_of p i) ≡ ok block.command

pub listed : (slots : ℕ) (p : List ℕ) (n i j : ℕ) (bs : List Block) → blocks_from slots p n i ≡ ok bs → j < n → Listed slots p (i + j) j bs
listed slots p zero i j bs h l = absurd (omega arith)
listed slots p (suc n) i zero bs h l =
    let x = next_block slots p n i bs h in
    let e : i + 0 ≡ i = omega arith in
    rw e (record { block = record { header = header_at p i; command = x.command }; rest = x.rest; is = x.is; reads = x.reads })
listed slots p (suc n) i (suc j) bs h l =
    let x = next_block slots p n i bs h in
    let y = listed slots p n (i + 1) j x.rest x.after (omega arith) in
    let e : i + suc j ≡ i + 1 + j = omega arith in
    rw e (record { block = y.block; rest = y.rest; is = ap (drop (suc j)) x.is ∙ y.is; reads = y.reads })

-- the same of a whole programme
pub listed_in : (slots : ℕ) (p : List ℕ) (bs : List Block) → blocks_from slots p (k_of p) 0 ≡ ok bs → (i : ℕ) → i < k_of p → Listed slots p i i bs
listed_in slots p bs reads i l = let e : 0 + i ≡ i = omega arith in rw e at (listed slots p (k_of p) 0 i bs reads l)

-- a block that was read has fewer rows than bytes, since it lies in them
pub block_slim : (slots : ℕ) (s : List ℕ) (c : Cmd) → read_block slots s ≡ ok c → size c < length s
block_slim slots s c e = omega (arith, lies_slim s c 0 (length s) (block_lies slots s c e))

-- The blocks before the i-th were passed: where its code starts in the sheet, and its first row; there are no more rows than bytes.
pub record Passed (p : List ℕ) (i start row : ℕ) : Type 0 where
  pub offset : ℕ
  pub from : RunningStart p i offset
  pub start_is : start ≡ code_at (k_of p) + offset
  pub slim : row ≤ offset
  pub row_is : (slots : ℕ) (bs : List Block) → blocks_from slots p (k_of p) 0 ≡ ok bs → row ≡ rows_before bs i

-- none is before the first, whose code is where the code starts
pub passed_none : (p : List ℕ) (k start : ℕ) → k ≡ k_of p → start ≡ code_at k → Passed p 0 start 0
unfolding rows_before
passed_none p k start e h =
    record { offset = 0; from = running_first p; start_is = omega arith; slim = omega arith; row_is = λ slots bs r. refl }

-- The i-th block, of this length, is the next.
module _ {p : List ℕ} {i start row : ℕ} (w : Passed p i start row) (g : GoodLengths p (k_of p)) (h : i < k_of p) (l : ℕ) (e : l ≡ length_at p i) where
  stands : Stands p (k_of p) i w.offset (w.offset + l)
  stands = stands_next p (k_of p) i w.offset l g h w.from e

  -- its end in the code is within the most code, and so in the sheet a small number, within the sheet
  pub next_small : w.offset + l ≤ most_code
  next_small = end_small stands

  pub next_fits : start + l < 65536
  next_fits = omega (arith, next_small, w.start_is, g.few)

  pub next_within : start + l ≤ length p
  next_within = omega (arith, part_within stands, w.start_is)

  -- what stands there is its code ..
  pub next_is : lent p start (start + l) ≡ code_of p i
  next_is =
      let a : start + l ≡ code_at (k_of p) + (w.offset + l) = omega (arith, w.start_is) in
      rw (a, w.start_is) (part_is stands)

  -- .. which was read, as the programme was
  pub next_some : (slots : ℕ) (bs : List Block) → blocks_from slots p (k_of p) 0 ≡ ok bs → SomeBlock (lent p start (start + l))
  next_some slots bs reads =
      let x = listed_in slots p bs reads i h in
      record { slots = slots; command = x.block.command; was_read = rw next_is x.reads }

  -- It has so many rows.
  module _ (rows : ℕ) (f : (slots : ℕ) (c : Cmd) → read_block slots (lent p start (start + l)) ≡ ok c → rows ≡ size c) where
    rows_of : (slots : ℕ) (c : Cmd) → read_block slots (code_of p i) ≡ ok c → rows ≡ size c
    rows_of slots c r = f slots c (rw next_is r)

    -- with its end row, no more than bytes: so there are still no more rows than bytes
    pub next_slim : (slots : ℕ) (bs : List Block) → blocks_from slots p (k_of p) 0 ≡ ok bs → row + (rows + 1) ≤ w.offset + l
    next_slim slots bs reads =
        let x = listed_in slots p bs reads i h in
        omega (arith, w.slim, rows_of slots x.block.command x.reads, block_slim slots (code_of p i) x.block.command x.reads, part_length stands)

    -- then it is passed
    pub passed_next : (slots : ℕ) (bs : List Block) → blocks_from slots p (k_of p) 0 ≡ ok bs → Passed p (i + 1) (start + l) (row + (rows + 1))
    passed_next slots bs reads =
        record {
          offset = w.offset + l;
          from = stands.to;
          start_is = omega (arith, w.start_is);
          slim = next_slim slots bs reads;
          row_is = λ m cs r.
              let x = listed_in m p cs r i h in
              omega (arith, before_next i cs x.block x.rest x.is, rows_of m x.block.command x.reads, w.row_is m cs r);
        }

-- all blocks before it were passed: it is found
pub found_at : {p : List ℕ} {i start row : ℕ} → Passed p i start row → (l : ℕ) → l ≡ length_at p i
    → Locates p i (record { start = start; end = start + l; row = row })
found_at w l e slots bs g reads h =
    record { code = next_is w g h l e; ordered = omega arith; within = next_within w g h l e; row = w.row_is slots bs reads }
