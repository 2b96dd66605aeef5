-- The parts of a command in its block's code: the child that an entry of a path names. Assumes nothing.
use Rattle.std.specs.Prelude.{ℕ, zero, suc, ◌+◌, ◌≤◌, ◌≡◌, List, ◌∷◌, get_or, Option, MatchOption}
use Rattle.lattice.specs.Order.{Label}
use Rattle.syntax.specs.Syntax.{Cmd}
use Rattle.pausing.specs.Paths.{Open, Child, nowhere, in_sequence, inside_guard, child}
use Rattle.pausing.specs.RowPaths.{row_to, Along}
use Rattle.paths.specs.CodeLayout.{Sits}
use Rattle.paths.specs.declared.walking.Part.{Part}

-- a child inside so many guards of its command: none in a sequence, one in an if or a while
unfoldable pub inside : ℕ → Cmd → Child
inside zero y = in_sequence y
inside (suc d) y = inside_guard y

-- The k-th child of a command: inside how many guards of it, and how many rows after its first row; and what leads through it
pub record Enters (c : Cmd) (k : ℕ) (y : Cmd) (deeper rows : ℕ) : Type 0 where
  pub is : child c k ≡ inside deeper y
  pub shallow : deeper ≤ 1
  pub row : (o : Open) (p : List Open) (r : ℕ) → o.child ≡ k → row_to c (o ∷ p) r ≡ row_to y p (r + rows)
  pub along : (l : List Label) (o : Open) (p : List Open) (d : ℕ) (b : Label) → o.child ≡ k → get_or l d 0 ≡ b → (deeper ≡ 0 → o.label ≡ b)
      → Along l y (d + deeper) o.label p → Along l c d b (o ∷ p)

-- the k-th child of the command at `at`, which is there
pub record PartIs (code : List ℕ) (at : ℕ) (c : Cmd) (k : ℕ) (q : Part) : Type 0 where
  pub tree : Cmd
  pub enters : Enters c k tree q.deeper q.rows
  pub sits : Sits code tree q.there
  pub slim : q.rows + at ≤ q.there

-- what is found of it
abbrev pub PartAs : (code : List ℕ) (at : ℕ) (c : Cmd) (k : ℕ) → Option Part → Type 0
PartAs code at c k r = MatchOption r (child c k ≡ nowhere) (λ q. PartIs code at c k q)
