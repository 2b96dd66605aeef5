-- Proves `running_starts`, `three_worked`: where each block's code starts. Laws of a block's length, and of a sheet that is taken in. Assumes nothing.
use Prim.Native.Nat.{ℕ, zero, suc, ◌+◌, ◌-◌, ◌*◌, ◌<◌, ◌≤◌}
use mathlib.Core.Path.{◌≡◌, refl, sym, ap, ap₂, ◌∙◌}
use mathlib.Core.List.{List, []}
use mathlib.Core.Logic.{⊎_elim}
use native.Mathlib.Nat.{eq-or-lt_of_le, le_of_suc-le-suc}
use native.Mathlib.Numerals.{add-one}
use native.Mathlib.Omega.{arith}
use lib.ListN.{get_or, length, take, drop, length-take, length-drop, drop_of_length-le}
use lib.Seq.{drop-drop}
use borrow.Author.Tests.{leb-true, ltb-true, eqb-true}
use Rattle.lattice.proofs.Tests.{and_l, and_r, every_at}
use Rattle.values.specs.Result.{ok}
use Rattle.values.proofs.ResultInTurn.{require_ok}
use Rattle.values.proofs.BytesNumbers.{number_lt}
use Rattle.values.specs.Bytes.{number_at, entries, sizes_width}
use Rattle.syntax.specs.Sheet.{Block, most_code, k_of, c_of, length_at, code_at, start_of, code_of, lent, header_at, header_good, blocks_from, programme_sheet}
use Rattle.syntax.specs.RunningStarts.{GoodLengths, Stands, code_in, left_after, RunningStart, RunningStarts, ThreeWorked}

-- the number of blocks has one byte, a block's length two
pub count_small : (p : List ℕ) (k : ℕ) → ((j : ℕ) → get_or p j 0 < 256) → k ≡ k_of p → k < 256
count_small p k b e = omega (arith, e, number_lt p b 1 0)

pub length_read : (p : List ℕ) (k i r : ℕ) → ((j : ℕ) → get_or p j 0 < 256) → k ≡ k_of p → r ≡ number_at 2 p (sizes_width + k + 2 * i)
    → (r ≡ length_at p i) × (r < 65536)
length_read p k i r b e h = (
  h ∙ ap (λ (x : ℕ). number_at 2 p (sizes_width + x + 2 * i)) e,
  omega (arith, h, number_lt p b 2 (sizes_width + k + 2 * i)),
)

-- a programme sheet that is taken in
pub record Programmed (n m : ℕ) (p : List ℕ) (bs : List Block) : Type 0 where
  pub lengths : GoodLengths p (k_of p)
  pub headers : (i : ℕ) → i < k_of p → (header_at p i).region < n
  pub reads : blocks_from m p (k_of p) 0 ≡ ok bs

pub programmed : (n m : ℕ) (p : List ℕ) (bs : List Block) → programme_sheet n m p ≡ ok bs → Programmed n m p bs
unfolding programme_sheet header_good
programmed n m p bs h =
    let a = (require_ok _ _ _ _ h).1 in
    let b = require_ok _ _ _ _ a in
    let c = require_ok _ _ _ _ b.1 in
    let d = require_ok _ _ _ _ c.1 in
    let e = require_ok _ _ _ _ d.1 in
    record {
      lengths = record {
        blocks = refl;
        few = leb-true _ _ (and_l _ _ b.0);
        small = leb-true _ _ (and_r _ _ b.0);
        size = eqb-true _ _ c.0;
        sum = eqb-true _ _ e.0;
      };
      headers = λ i l. ltb-true _ _ (and_l _ _ (every_at (k_of p) _ d.0 i l));
      reads = e.1;
    }

module _ (p : List ℕ) where
  -- what the first i blocks leave starts after the sum of their lengths
  left_at : (i : ℕ) → drop (start_of p i) (code_in p) ≡ left_after p i
  unfolding start_of left_after
  left_at zero = refl
  left_at (suc i) = sym (drop-drop (length_at p i) (start_of p i) (code_in p)) ∙ ap (drop (length_at p i)) (left_at i)

  -- the sum of the lengths is the running start
  running : (i start : ℕ) → start ≡ start_of p i → RunningStart p i start
  running i start e =
      rw e
      (record { sum = refl; left = left_at i; code = ap (take (length_at p i)) (sym (left_at i) ∙ drop-drop (start_of p i) (code_at (k_of p)) p) })

  pub running_first : RunningStart p 0 0
  unfolding start_of
  running_first = running 0 0 refl

  pub running_next : (i start l : ℕ) → RunningStart p i start → l ≡ length_at p i → RunningStart p (i + 1) (start + l)
  unfolding start_of
  running_next i start l r h = running (i + 1) (start + l) (rw add-one (ap₂ (λ (x y : ℕ). x + y) r.sum h))

  -- after the last block of a sheet whose lengths are good
  running_last : (k : ℕ) → GoodLengths p k → RunningStart p k (c_of p) × (left_after p k ≡ [])
  running_last k g =
      let r = running k (c_of p) (sym g.sum) in
      (r, sym r.left ∙ drop_of_length-le (code_in p) {i = c_of p} (omega (arith, length-drop (code_at (k_of p)) p, g.size, g.blocks)))

  pub running_starts : RunningStarts p
  running_starts = record {
    first = running_first;
    next = λ i start r. running_next i start (length_at p i) r refl;
    last = λ n m bs h. running_last (k_of p) (programmed n m p bs h).lengths;
  }

  -- every block ends within all of them
  start_within : (k i : ℕ) → i < k → start_of p i + length_at p i ≤ start_of p k
  unfolding start_of
  start_within zero i h = absurd (omega arith)
  start_within (suc k) i h =
      ⊎_elim (λ e. rw e (omega arith)) (λ l. omega (arith, start_within k i l)) (eq-or-lt_of_le (le_of_suc-le-suc h))

  -- a block stands between the running start and the one that its length makes
  pub stands_next : (k i start l : ℕ) → GoodLengths p k → i < k → RunningStart p i start → l ≡ length_at p i → Stands p k i start (start + l)
  stands_next k i start l g h r e = record { good = g; below = h; from = r; to = running_next i start l r e }

-- the worked example
pub three_worked : ThreeWorked
unfolding entries start_of left_after number_at
three_worked = record { starts = refl; codes = refl; leaves = refl }

module _ {p : List ℕ} {k i start next : ℕ} (w : Stands p k i start next) where
  -- the next block's start is this one's and its length
  starts_next : start + length_at p i ≡ next
  starts_next = (running_next p i start (length_at p i) w.from refl).sum ∙ sym w.to.sum

  pub stands_on : start ≤ next
  stands_on = omega (arith, starts_next)

  -- its end in the code ..
  pub end_within : next ≤ c_of p
  end_within = omega (arith, starts_next, start_within p k i w.below, w.from.sum, w.good.sum)

  pub end_small : next ≤ most_code
  end_small = omega (arith, end_within, w.good.small)

  -- .. and in the sheet
  pub part_within : code_at k + next ≤ length p
  part_within = omega (arith, starts_next, start_within p k i w.below, w.from.sum, w.good.size, w.good.sum)

  pub part_is : lent p (code_at k + start) (code_at k + next) ≡ code_of p i
  part_is =
      let n : code_at k + next - (code_at k + start) ≡ length_at p i = omega (arith, starts_next) in
      rw (n, w.good.blocks) (ap (take (length_at p i)) (sym (drop-drop start (code_at (k_of p)) p) ∙ w.from.left) ∙ w.from.code)

  pub part_length : start + length (code_of p i) ≤ next
  part_length = omega (arith, starts_next, length-take (length_at p i) (drop (code_at (k_of p) + start_of p i) p))
