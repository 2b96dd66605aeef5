-- Looking for a row and writing the path to it (`SearchAs`): what comes of it in a child comes of it in the command. Serves `trace`. Assumes nothing.
use Prim.Native.Nat.{ℕ, ◌+◌, ◌-◌, ◌≤◌, ◌<◌}
use mathlib.Core.Path.{◌≡◌, refl, ap, ◌∙◌}
use mathlib.Core.List.{List, [], ◌∷◌}
use native.Mathlib.Omega.{arith}
use lib.ListN.{set}
use Rattle.lattice.specs.Order.{Label}
use Rattle.syntax.specs.Syntax.{Cmd, cmd}
use Rattle.syntax.specs.Code.{most_deep}
use Rattle.syntax.specs.Rows.{size}
use Rattle.pausing.specs.Paths.{Open}
use Rattle.pausing.specs.Stretches.{children_at, labels_at}
use Rattle.pausing.specs.RowPaths.{entry, path_to}
use Rattle.paths.specs.CodeLayout.{Levels}
use Rattle.paths.specs.SheetPaths.{fills, Seeks, Past, There}
use Rattle.paths.specs.declared.walking.Extent.{Extent}

levels_one : (c : Cmd) (n : ℕ) → Levels c n → 1 ≤ n
unfolding Levels
levels_one (cmd o b) n h = h.0

-- there is room for the entries so far, and one more label
pub seeks_few : {code : List ℕ} {c : Cmd} {at i len : ℕ} → Seeks code c at i len → len < most_deep
seeks_few {c = c} {len = len} h = omega (arith, levels_one c (most_deep - len) h.levels)

-- the rows of a command that the row is past
pub rows_within : {code : List ℕ} {c : Cmd} {at i len : ℕ} {old new : List ℕ} {e : Extent} → Past code c at i old new e → Seeks code c at i len → e.rows ≤ i
rows_within {c = c} q h = omega (arith, q.past, (q.skips c h.sits.end h.sits.lies).1)

-- the row is the command's own
pub search_here : {code : List ℕ} {c : Cmd} {at i len : ℕ} (l : List Label) (d : ℕ) (sheet : List ℕ) → Seeks code c at i len → i < size c → path_to l c d i ≡ []
    → There c i len (path_to l c d i) sheet sheet len
unfolding fills
search_here l d sheet h k e =
    rw e (record { there = k; traced = record { size_is = omega arith; filled = refl; short = omega (arith, seeks_few h) } })

-- A child's entry is written before those of the path inside it.
module _ {c : Cmd} {i len : ℕ} {p : List Open} {old mid : List ℕ} where
  pub search_written : (all : ℕ) (o : Open) (new : List ℕ) → There c i (len + 1) p old mid all → new ≡ set (set mid (children_at + len) o.child) (labels_at all + len) o.label
      → There c i len (o ∷ p) old new all
  unfolding fills
  search_written all o new t e =
      let q = t.traced in
      record {
        there = t.there;
        traced = record {
          size_is = omega (arith, q.size_is);
          filled = e ∙ ap (λ (x : List ℕ). set (set x (children_at + len) o.child) (labels_at all + len) o.label) q.filled;
          short = q.short;
        };
      }

-- A row of a command is a row of its k-th child, inside e guards.
pub record Has (c : Cmd) (i d : ℕ) (y : Cmd) (k row e : ℕ) : Type 0 where
  pub there : i < size c
  pub path : (l : List Label) → path_to l c d i ≡ entry l k e ∷ path_to l y e row

pub search_has : {c y : Cmd} {i len d k row e : ℕ} {old mid new : List ℕ} (all : ℕ) (l : List Label)
    → mid ≡ old → There y row len (entry l k e ∷ path_to l y e row) mid new all → (row < size y → Has c i d y k row e)
    → There c i len (path_to l c d i) old new all
search_has all l q t f =
    let g = f t.there in
    rw (g.path l) (record { there = g.there; traced = rw q at t.traced })
