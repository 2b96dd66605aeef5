-- Laws of `leads` (specs/Paths.antt): a path that leads is short, its children fit a byte and its labels are principals'. Assumes nothing.
use Prim.Native.Nat.{ℕ, zero, suc, ◌+◌, ◌<◌}
use mathlib.Core.Path.{◌≡◌}
use mathlib.Core.Bool.{true}
use mathlib.Core.List.{List, [], ◌∷◌}
use native.Mathlib.Omega.{arith}
use lib.ListN.{length}
use borrow.Author.Tests.{ltb-true}
use Rattle.lattice.specs.declared.Table.{Table}
use Rattle.lattice.specs.Order.{Label}
use Rattle.lattice.proofs.Tests.{and_l}
use Rattle.syntax.specs.Syntax.{Cmd, cmd, Body, skip, assign, seq, if, while, Cmds, nil, cons}
use Rattle.syntax.specs.Code.{most_deep}
use Rattle.pausing.specs.Paths.{Open, Child, nowhere, in_sequence, inside_guard, child_in, child_of, child, at_or_below, leads}
use Rattle.pausing.proofs.PathsNextStep.{Through, through}
use Rattle.pausing.proofs.WrittenGoodCommands.{count_cmds, Fine, FineBody, FineAll}

-- every entry of a path satisfies P
unfoldable pub Each : (Open → Type 0) → List Open → Type 0
Each P [] = Unit {0}
Each P (o ∷ p) = P o × Each P p

-- an entry that fits its bytes
pub record Small (n : ℕ) (o : Open) : Type 0 where
  pub child : o.child < 256
  pub label : o.label < n

-- what holds of a child that stands somewhere
unfoldable pub At : (Cmd → Type 0) → Child → Type 0
At P nowhere = Unit {0}
At P (in_sequence c) = P c
At P (inside_guard c) = P c

module _ (m depth : ℕ) where
  -- the children of a command that was read stand one deeper, and are numbered below 256
  abbrev Numbered : ℕ → Cmd → Type 0
  Numbered k c = (k < 256) × Fine m (depth + 1) c

  in_all : (cs : Cmds) (k i : ℕ) → k + count_cmds cs < 256 → FineAll m (depth + 1) cs → At (Numbered (k + i)) (child_in cs i)
  unfolding child_in count_cmds FineAll At
  in_all nil k i h f = tt
  in_all (cons c cs) k zero h f = (omega arith, f.0)
  in_all (cons c cs) k (suc i) h f = let z : k + 1 + i ≡ k + suc i = omega arith in rw z at (in_all cs (k + 1) i (omega arith) f.1)

  in_body : (b : Body) (k : ℕ) → FineBody m depth b → At (Numbered k) (child_of b k)
  unfolding child_of FineBody At
  in_body skip k f = tt
  in_body (assign x v) k f = tt
  in_body (seq cs) k f = let z : 0 + k ≡ k = omega arith in rw z at (in_all cs 0 k (omega (arith, f.0)) f.1)
  in_body (if g c d) zero f = (omega arith, f.1)
  in_body (if g c d) (suc zero) f = (omega arith, f.2)
  in_body (if g c d) (suc (suc k)) f = tt
  in_body (while g c) zero f = (omega arith, f.1)
  in_body (while g c) (suc k) f = tt

  child_fine : (c : Cmd) (k : ℕ) → Fine m depth c → At (Numbered k) (child c k)
  unfolding child Fine
  child_fine (cmd at b) k f = in_body b k f.1

module _ (t : Table) where
  -- the facts of a path, for a command inside `depth` others
  pub record Followed (depth : ℕ) (p : List Open) : Type 0 where
    pub short : depth + length p < most_deep
    pub small : Each (Small t.n) p

  module _ (m : ℕ) where
    -- along the first entry
    along : (depth : ℕ) (outer : Label) (o : Open) (p : List Open) → outer < t.n
        → ((d : Cmd) → Fine m (depth + 1) d → o.label < t.n → leads t d o.label p ≡ true → Followed (depth + 1) p)
        → (x : Child) → At (Numbered m depth o.child) x → Through t outer o.label p x → Followed depth (o ∷ p)
    unfolding At Through Each at_or_below
    along depth outer o p h f nowhere a z = absurd z
    along depth outer o p h f (in_sequence d) a z =
        let l : o.label < t.n = omega (arith, z.0) in
        let r = f d a.1 l z.1 in record { short = omega (arith, r.short); small = (record { child = a.0; label = l }, r.small) }
    along depth outer o p h f (inside_guard d) a z =
        let l : o.label < t.n = ltb-true _ _ (and_l _ _ z.0) in
        let r = f d a.1 l z.1 in record { short = omega (arith, r.short); small = (record { child = a.0; label = l }, r.small) }

    pub leads_followed : (p : List Open) (depth : ℕ) (c : Cmd) (outer : Label) → outer < t.n → Fine m depth c → leads t c outer p ≡ true → Followed depth p
    unfolding Fine Each
    leads_followed [] depth (cmd at b) outer h f e = record { short = omega (arith, f.0); small = tt }
    leads_followed (o ∷ p) depth c outer h f e =
        along depth outer o p h (λ d g l z. leads_followed p (depth + 1) d o.label l g z) (child c o.child) (child_fine m depth c o.child f)
        (through t c outer o p e)
