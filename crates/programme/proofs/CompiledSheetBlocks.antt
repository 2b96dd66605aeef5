-- Laws of blocks compiled one after the other (`CompilesTo`, specs/CompiledSheet.antt): the invariant of the walk, and its cases. Assumes nothing.
use Prim.Native.Nat.{ℕ, zero, suc, ◌+◌, ◌-◌, ◌*◌, ◌<◌, ◌≤◌}
use mathlib.Core.Path.{◌≡◌, refl, ap}
use mathlib.Core.List.{List, [], ◌∷◌, ◌++◌, append_assoc}
use native.Mathlib.Omega.{arith}
use lib.ListN.{length, length-append}
use Rattle.std.specs.Prelude.{Ok, Err}
use Rattle.std.specs.Prelude as std
use Rattle.values.specs.declared.Answer.{Answer}
use Rattle.values.specs.declared.refusal.Refused.{Refused}
use Rattle.values.specs.Refusal.{placed, said_at}
use Rattle.values.specs.Result.{Result, ok, refuse, ◌>>=◌, refused_as}
use Rattle.values.proofs.Result.{Refuses, Post, post_at}
use Rattle.reader.specs.declared.Fault as reader
use Rattle.reader.specs.declared.Spot.{Spot}
use Rattle.syntax.specs.declared.Compiled.{Compiled}
use Rattle.syntax.specs.declared.Row.{Row}
use Rattle.syntax.specs.Syntax.{Cmd}
use Rattle.syntax.specs.Code.{Fault, Read, up_to, most_deep, read_block}
use Rattle.syntax.specs.Sheet.{Block, k_of, c_of, code_at, code_of, lent, header_at, in_block, block_at, blocks_from, check_answer}
use Rattle.syntax.specs.RunningStarts.{RunningStart, Stands}
use Rattle.syntax.specs.Rows.{end_row, cmd_operands, size, rows_of, blocks_rows, blocks_operands, filled, compiled, Kept, pair_width, rows_in, operands_in}
use Rattle.reader.specs.CodeReader.{block_read, block_emits, spot_at, limit_of, fault_of, Emitted, Ended, Turned, CanRead}
use Rattle.programme.specs.CompiledSheet.{Compiles, CompilesTo}
use Rattle.reader.proofs.CodeReaderTables.{emitted_on, emitted_kept, kept_on, kept_later}
use Rattle.syntax.proofs.Rows.{rows_length}
use Rattle.syntax.proofs.RowsByteSpans.{block_spans}
use Rattle.syntax.proofs.RunningStarts.{running_first, end_within, end_small, part_is, part_length}
use Rattle.syntax.proofs.SheetRefusals.{blocks_refuse}

-- n blocks from the i-th on, in the tables: their first row and operand are given
unfoldable pub BlocksFilled : List ℕ → ℕ → ℕ → Result Answer (List Block) → Compiled → Compiled → Type 0
BlocksFilled p row operand (ok bs) old new = new ≡ filled (blocks_rows bs row operand) (blocks_operands bs) row operand old
BlocksFilled p row operand (refuse a) old new = Kept (rows_in (c_of p) + k_of p) (operands_in (c_of p)) old new

-- the answer, and the tables
pub record BlocksLeave (p : List ℕ) (row operand : ℕ) (q : Result Answer (List Block)) (old new : Compiled) (r : std.Result (Unit {0}) Refused) : Type 0 where
  pub same : check_answer (said_at r) ≡ check_answer q
  pub filled : BlocksFilled p row operand q old new

-- Before block i: what the rest leaves, all leave.
pub record Compiling (m : ℕ) (p : List ℕ) (k : ℕ) (t₀ : Compiled) (i start row operand : ℕ) (t : Compiled) : Type 0 where
  pub running : RunningStart p i start
  pub rows : pair_width * row ≤ 2 * start + pair_width * i
  pub operands : pair_width * operand ≤ 2 * start
  pub rest : (r : std.Result (Unit {0}) Refused) (new : Compiled) → BlocksLeave p row operand (blocks_from m p (k - i) i) t new r
      → BlocksLeave p 0 0 (blocks_from m p k 0) t₀ new r

pub compiling_first : (m : ℕ) (p : List ℕ) (k : ℕ) (t : Compiled) → Compiling m p k t 0 0 0 0 t
compiling_first m p k t =
    let e : k - 0 ≡ k = omega arith in
    record { running = running_first p; rows = omega arith; operands = omega arith; rest = λ r new h. rw e at h }

-- A block's answer, from the reader's.
block_ok : (m : ℕ) (s : List ℕ) (at : ℕ) (c : Cmd) → block_read m s ≡ up_to at c → read_block m s ≡ ok c
unfolding block_read ◌>>=◌
block_ok m s at c h = go (read_block m s) h
  where
    go : (r : Result Fault Cmd) → (r >>= λ x. up_to (length s) x) ≡ up_to at c → r ≡ ok c
    go (ok x) e =
        let i : ◌≡◌ {A = Read Cmd} (record { tree = x; next = length s }) (record { tree = c; next = at }) = cc in
        ap (λ (y : Read Cmd). ok y.tree) i
    go (refuse f) e = absurd (cc)

block_refused : (m : ℕ) (s : List ℕ) (f : Fault) → block_read m s ≡ refuse f → read_block m s ≡ refuse f
unfolding block_read ◌>>=◌
block_refused m s f h = go (read_block m s) h
  where
    go : (r : Result Fault Cmd) → (r >>= λ x. up_to (length s) x) ≡ refuse f → r ≡ refuse f
    go (ok x) e = absurd (cc)
    go (refuse g) e = let i : g ≡ f = cc in rw i

-- The blocks from the i-th on, by the first of them.
module _ (m : ℕ) (p : List ℕ) where
  from_refused : (n i : ℕ) (f : Fault) → 0 < n → read_block m (code_of p i) ≡ refuse f → blocks_from m p n i ≡ refuse (in_block i f)
  unfolding blocks_from block_at refused_as ◌>>=◌
  from_refused zero i f l h = absurd (omega arith)
  from_refused (suc n) i f l h = rw h

  from_read : (n n' i : ℕ) (c : Cmd) → n ≡ suc n' → read_block m (code_of p i) ≡ ok c
      → blocks_from m p n i ≡ (blocks_from m p n' (i + 1) >>= λ bs. ok (record { header = header_at p i; command = c } ∷ bs))
  unfolding blocks_from block_at refused_as ◌>>=◌
  from_read n n' i c l h = rw (l, h)

-- A block's rows and operands, then those of the blocks after it.
module _ (b : Block) (bs : List Block) {row operand : ℕ} {to : Spot} {old mid new : Compiled}
    (w : Emitted (rows_of b.command 0 row operand ++ (end_row ∷ [])) (cmd_operands b.command) (spot_at 0 row operand) to old mid)
    (f : new ≡ filled (blocks_rows bs to.row to.operand) (blocks_operands bs) to.row to.operand mid) where
  abbrev own : List Row
  own = rows_of b.command 0 row operand

  block_filled : new ≡ filled (blocks_rows (b ∷ bs) row operand) (blocks_operands (b ∷ bs)) row operand old
  unfolding blocks_rows blocks_operands
  block_filled =
      let e : to.row ≡ row + size b.command + 1 = omega (arith, w.rows_on, length-append own (end_row ∷ []), rows_length b.command 0 row operand) in
      let rest : Emitted (blocks_rows bs to.row to.operand) (blocks_operands bs) to
      (spot_at 0 (to.row + length (blocks_rows bs to.row to.operand)) (to.operand + length (blocks_operands bs))) mid new =
      record { rows_on = refl; operands_on = refl; tables = f } in
      rw (append_assoc, e, w.operands_on) at (emitted_on w rest).tables

leaves_cons : (p : List ℕ) (b : Block) (q : Result Answer (List Block)) {row operand : ℕ} {to : Spot} {old mid new : Compiled} (r : std.Result (Unit {0}) Refused)
    → Emitted (rows_of b.command 0 row operand ++ (end_row ∷ [])) (cmd_operands b.command) (spot_at 0 row operand) to old mid
    → to.row ≤ rows_in (c_of p) + k_of p → to.operand ≤ operands_in (c_of p)
    → BlocksLeave p to.row to.operand q mid new r → BlocksLeave p row operand (q >>= λ bs. ok (b ∷ bs)) old new r
unfolding BlocksFilled check_answer ◌>>=◌
leaves_cons p b (ok bs) r w i j k = record { same = k.same; filled = block_filled b bs w k.filled }
leaves_cons p b (refuse a) r w i j k = record { same = k.same; filled = kept_on (emitted_kept _ _ i j w) k.filled }

-- what all blocks leave is what compiling them says
leaves_all : (m : ℕ) (p : List ℕ) (k : ℕ) (old new : Compiled) (r : std.Result (Unit {0}) Refused) → BlocksLeave p 0 0 (blocks_from m p k 0) old new r
    → CompilesTo p (blocks_from m p k 0) old new r
unfolding BlocksFilled Compiles compiled Post
leaves_all m p k old new r h = (h.same, go (blocks_from m p k 0) (blocks_refuse m p k 0) h.filled)
  where
    go : (q : Result Answer (List Block)) → Refuses (λ (a : Answer). 9 ≤ a.number) q → BlocksFilled p 0 0 q old new → Compiles p q old new
    go (ok bs) n f = f
    go (refuse a) n f = (λ l. absurd (omega arith), f)

-- Block i, whose code is lent from the sheet.
module _ {m : ℕ} {p : List ℕ} {k : ℕ} {t₀ : Compiled} {i start row operand : ℕ} {t : Compiled} (w : Compiling m p k t₀ i start row operand t) where
  -- none is left
  pub compiling_done : i ≡ k → CompilesTo p (blocks_from m p k 0) t₀ t (Ok tt)
  unfolding BlocksFilled check_answer said_at filled blocks_rows blocks_operands blocks_from
  compiling_done e =
      let z : k - i ≡ 0 = omega arith in
      leaves_all m p k t₀ t (Ok tt) (w.rest (Ok tt) t (rw z record { same = refl; filled = refl }))

  module _ {next : ℕ} (s : Stands p k i start next) where
    abbrev code : List ℕ
    code = lent p (code_at k + start) (code_at k + next)

    code_length : start + length code ≤ next
    code_length = rw (part_is s) (part_length s)

    pub can_compile : CanRead code (spot_at 0 row operand) most_deep
    can_compile =
        let l = code_length in
        let e = end_small s in
        let b = s.below in
        record {
          short = omega arith;
          inside = omega arith;
          rows = omega (arith, w.rows, s.good.few);
          operands = omega (arith, w.operands);
          level = omega arith;
        }

    -- it was refused, ..
    pub compiling_refused : (mid : Compiled) (f : reader.Fault) → Turned (block_read m code) (limit_of (length code) (spot_at 0 row operand)) t mid f
        → CompilesTo p (blocks_from m p k 0) t₀ mid (Err (placed f.refusal i f.spot.at 0))
    unfolding BlocksFilled check_answer said_at
    compiling_refused mid f y =
        let l = code_length in
        let e = end_within s in
        let b = s.below in
        let g = s.good.blocks in
        let z = from_refused m p (k - i) i (fault_of f) (omega arith) (rw (part_is s) at (block_refused m code (fault_of f) y.is)) in
        leaves_all m p k t₀ mid (Err (placed f.refusal i f.spot.at 0)) (w.rest (Err (placed f.refusal i f.spot.at 0)) mid
        (rw z record { same = refl; filled = kept_later _ _ (omega (arith, w.rows)) (omega (arith, w.operands)) y.kept }))

    -- .. or read.
    pub compiling_next : {mid : Compiled} {to : Spot} → Ended block_emits (block_read m code) (spot_at 0 row operand) to t mid
        → Compiling m p k t₀ (i + 1) next to.row to.operand mid
    compiling_next {mid} {to} y =
        let c = y.tree in
        let h = block_ok m code to.at c y.is in
        let v = post_at _ _ _ c (block_spans m code) h in
        let a = length-append (rows_of c 0 row operand) (end_row ∷ []) in
        let n = rows_length c 0 row operand in
        let l = code_length in
        let e = end_within s in
        let b = s.below in
        let g = s.good.blocks in
        let u : pair_width * to.row ≤ 2 * next + pair_width * (i + 1) = omega (arith, y.emitted.rows_on, v.rows, w.rows) in
        let o : pair_width * to.operand ≤ 2 * next = omega (arith, y.emitted.operands_on, v.operands, w.operands) in
        record {
          running = s.to;
          rows = u;
          operands = o;
          rest = λ r new f. w.rest r new
              (rw (from_read m p (k - i) (k - (i + 1)) i c (omega arith) (rw (part_is s) at h))
              (leaves_cons p (record { header = header_at p i; command = c }) (blocks_from m p (k - (i + 1)) (i + 1)) r y.emitted (omega arith) (omega arith) f));
        }
