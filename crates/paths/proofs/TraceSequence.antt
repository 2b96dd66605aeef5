-- Looking for a row in the commands of a sequence, one after the other. Serves `trace_all`. Assumes nothing.
use Prim.Native.Nat.{ℕ, ◌+◌, ◌-◌, ◌≤◌, ◌<◌}
use mathlib.Core.Path.{◌≡◌, sym, ◌∙◌}
use mathlib.Core.List.{List, ◌∷◌}
use native.Mathlib.Omega.{arith}
use lib.ListN.{get_or}
use borrow.Author.Tests.{lt-ltb, le-ltb}
use Rattle.lattice.specs.Order.{Label}
use Rattle.syntax.specs.Syntax.{Cmd, Cmds, nil, cons}
use Rattle.syntax.specs.Code.{most_deep}
use Rattle.syntax.specs.Rows.{size, size_body, size_all}
use Rattle.calculus.specs.Calculus.{choose}
use Rattle.pausing.specs.Paths.{Open}
use Rattle.pausing.specs.RowPaths.{entry, path_to, path_body, find_in}
use Rattle.paths.specs.CodeLayout.{count, LieAll, Levels, LevelsBody, LevelsAll, Left, Skips, Stepping, SteppingBody, SteppingAll}
use Rattle.paths.specs.SheetPaths.{Seeks}
use Rattle.paths.proofs.CodeLayout.{by_seq}
use Rattle.paths.proofs.CodeExtents.{left_on}
use Rattle.paths.proofs.TraceSearch.{Has}
use Rattle.paths.proofs.TraceBranches.{levels_on}

entry_one : (l : List Label) (a b d : ℕ) (p : List Open) → a ≡ b → ◌≡◌ {A = List Open} (entry l a d ∷ p) (entry l b d ∷ p)
entry_one l a b d p x = rw x

-- The commands from `here` on, the first of which is the k-th of n, and the row counted from their first.
pub record Rest (code : List ℕ) (c : Cmd) (i len here row k n : ℕ) : Type 0 where
  pub commands : Cmds
  pub end : ℕ
  pub lie : LieAll code commands here end
  pub counted : k + count commands ≡ n
  pub steps : row < size_all commands → SteppingAll commands row
  pub levels : LevelsAll commands (most_deep - len - 1)
  pub inside : row < size_all commands → i < size c
  pub found : (l : List Label) (d : ℕ) → row < size_all commands
      → path_to l c d i ≡ entry l (k + (find_in l commands d row).child) d ∷ (find_in l commands d row).rest
  pub past : size_all commands ≤ row → size c ≤ i

-- the first of them, and those after it
pub record Next (code : List ℕ) (c : Cmd) (i len here row k n : ℕ) : Type 0 where
  pub first : Cmd
  pub seeks : Seeks code first here row (len + 1)
  pub has : (d : ℕ) → row < size first → Has c i d first k row d
  pub on : (next rows : ℕ) → Skips code here next rows → size first ≤ row → Rest code c i len next (row - rows) (k + 1) n

module _ (code : List ℕ) where
  pub rest_all : (at i len n : ℕ) → get_or code at 0 ≡ 0x22 → n ≡ get_or code (at + 1) 0 → (c : Cmd) → Seeks code c at i len → Rest code c i len (at + 2) i 0 n
  unfolding size size_body Stepping SteppingBody path_to path_body Levels LevelsBody
  rest_all at i len n b e c h =
      by_seq code at h.sits.end (λ c. (i < size c → Stepping c i) → Levels c (most_deep - len) → Rest code c i len (at + 2) i 0 n) b
      (λ o cs q u x z t w. record {
        commands = cs;
        end = h.sits.end;
        lie = x;
        counted = omega arith;
        steps = t;
        levels = w.1;
        inside = λ k. k;
        found = λ l d k. entry_one l (find_in l cs d i).child (0 + (find_in l cs d i).child) d (find_in l cs d i).rest (omega arith);
        past = λ k. k;
      })
      c h.sits.lies h.steps h.levels

  module _ {c : Cmd} {i len here row k n : ℕ} where
    pub rest_next : k < n → Rest code c i len here row k n → Next code c i len here row k n
    unfolding LieAll count size_all SteppingAll LevelsAll find_in choose
    rest_next m r = go r.commands r.lie r.counted r.steps r.levels r.inside r.found r.past
      where
        go : (cs : Cmds) → LieAll code cs here r.end → k + count cs ≡ n → (row < size_all cs → SteppingAll cs row) → LevelsAll cs (most_deep - len - 1)
            → (row < size_all cs → i < size c)
            → ((l : List Label) (d : ℕ) → row < size_all cs → path_to l c d i ≡ entry l (k + (find_in l cs d row).child) d ∷ (find_in l cs d row).rest)
            → (size_all cs ≤ row → size c ≤ i)
            → Next code c i len here row k n
        go nil h e s v u f p = absurd (omega arith)
        go (cons x cs) h e s v u f p = record {
          first = x;
          seeks = record { sits = record { end = h.middle; lies = h.first }; steps = λ z. (s (omega arith)).0 z; levels = levels_on x len v.0 };
          has = λ d z. record {
            there = u (omega arith);
            path = λ l. f l d (omega arith) ∙ rw (lt-ltb row (size x) z) (entry_one l (k + 0) k d (path_to l x d row) (omega arith));
          };
          on = λ next rows g z. let y = g x h.middle h.first in
              rw (y.0, y.1)
              (record {
                commands = cs;
                end = r.end;
                lie = h.then;
                counted = omega arith;
                steps = λ q. (s (omega arith)).1 z;
                levels = v.1;
                inside = λ q. u (omega arith);
                found = λ l d q. f l d (omega arith)
                    ∙ rw (le-ltb row (size x) z) (entry_one l _ (k + 1 + (find_in l cs d (row - size x)).child) d (find_in l cs d (row - size x)).rest (omega arith));
                past = λ q. p (omega arith);
              });
        }

    pub rest_none : n ≤ k → Rest code c i len here row k n → size c ≤ i
    unfolding count size_all
    rest_none m r = go r.commands r.counted r.past
      where
        go : (cs : Cmds) → k + count cs ≡ n → (size_all cs ≤ row → size c ≤ i) → size c ≤ i
        go nil e p = p (omega arith)
        go (cons x cs) e p = absurd (omega arith)

-- The span of those passed: none of them at first, and then one more.
pub left_first : (code : List ℕ) (here n i end total : ℕ) → Left code here n 0 end total → Left code here (n - 0) (i - i) end total
left_first code here n i end total h =
    let a : n ≡ n - 0 = omega arith in
    let b : 0 ≡ i - i = omega arith in
    rw (sym a, sym b) h

pub left_next : (code : List ℕ) (here n k i row end total next rows : ℕ) → k < n → rows ≤ row → row ≤ i → Skips code here next rows
    → Left code here (n - k) (i - row) end total → Left code next (n - (k + 1)) (i - (row - rows)) end total
left_next code here n k i row end total next rows m h z f l =
    let b : i - row + rows ≡ i - (row - rows) = omega arith in
    rw b at (left_on code here (n - k) (i - row) end total next rows (n - (k + 1)) (omega arith) f l)
