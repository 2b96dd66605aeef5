-- How the code goes between a block's rows and paths, with labels by depth held as masks. Nobody has to believe it. Assumes nothing.
use Rattle.std.specs.Prelude.{ℕ, zero, suc, ◌+◌, ◌-◌, ◌≤◌, ◌≡◌, true, false, List, [], ◌∷◌, length, get_or, eqb, ltb, leb}
use Rattle.lattice.specs.declared.Table.{Table}
use Rattle.lattice.specs.Order.{Label}
use Rattle.lattice.specs.HeldLabels.{LabelHeld}
use Rattle.syntax.specs.Syntax.{Cmd, cmd, Body, skip, assign, seq, if, while, Cmds, nil, cons}
use Rattle.syntax.specs.Code.{most_deep}
use Rattle.syntax.specs.Rows.{size, between}
use Rattle.calculus.specs.Calculus.{choose}
use Rattle.pausing.specs.Paths.{Open}

-- an entry of a path, and what follows it
pub record Found : Type 0 where
  pub child : ℕ
  pub rest : List Open

abbrev pub later : Found → Found
later f = record { child = suc f.child; rest = f.rest }

-- The path to the i-th row of a command inside d guards, with the branch labels by depth
module _ (l : List Label) where
  abbrev pub entry : ℕ → ℕ → Open
  entry i d = record { child = i; label = get_or l d 0 }

  unfoldable mutual
    pub path_to : Cmd → ℕ → ℕ → List Open
    path_to (cmd at b) d i = path_body b d i

    pub path_body : Body → ℕ → ℕ → List Open
    path_body skip d i = []
    path_body (assign x v) d i = []
    path_body (seq cs) d i = entry (find_in cs d i).child d ∷ (find_in cs d i).rest
    path_body (if g c e) d i =
        choose (eqb i 0) (λ _. []) (λ j.
        choose (leb i (size c)) (λ k. entry 0 (d + 1) ∷ path_to c (d + 1) (k - 1))
        (λ k. entry 1 (d + 1) ∷ path_to e (d + 1) (k - (1 + size c + between (size e)))) j) i
    path_body (while g c) d i = choose (eqb i 0) (λ _. []) (λ j. entry 0 (d + 1) ∷ path_to c (d + 1) (j - 1)) i

    pub find_in : Cmds → ℕ → ℕ → Found
    find_in nil d i = record { child = 0; rest = [] }
    find_in (cons c cs) d i =
        choose (ltb i (size c)) (λ j. record { child = 0; rest = path_to c d j }) (λ j. later (find_in cs d (j - size c))) i

-- the row where the command that a path leads to starts, in a command that starts at row r
unfoldable mutual
  pub row_to : Cmd → List Open → ℕ → ℕ
  row_to (cmd at b) p r = row_body b p r

  pub row_body : Body → List Open → ℕ → ℕ
  row_body skip p r = r
  row_body (assign x v) p r = r
  row_body (seq cs) [] r = r
  row_body (seq cs) (o ∷ p) r = row_in cs o.child p r
  row_body (if g c e) [] r = r
  row_body (if g c e) (o ∷ p) r = choose (eqb o.child 0) (λ n. row_to c p (n + 1)) (λ n. row_to e p (n + 1 + size c + between (size e))) r
  row_body (while g c) [] r = r
  row_body (while g c) (o ∷ p) r = row_to c p (r + 1)

  pub row_in : Cmds → ℕ → List Open → ℕ → ℕ
  row_in nil k p r = r
  row_in (cons c cs) zero p r = row_to c p r
  row_in (cons c cs) (suc k) p r = row_in cs k p (r + size c)

-- the labels by depth are the path's, inside d guards under the label b: a guard's inside is one deeper, a sequence's the same
module _ (l : List Label) where
  unfoldable mutual
    pub Along : Cmd → ℕ → Label → List Open → Type 0
    Along (cmd at x) d b p = AlongBody x d b p

    pub AlongBody : Body → ℕ → Label → List Open → Type 0
    AlongBody skip d b p = (get_or l d 0 ≡ b) × (p ≡ [])
    AlongBody (assign x v) d b p = (get_or l d 0 ≡ b) × (p ≡ [])
    AlongBody (seq cs) d b [] = get_or l d 0 ≡ b
    AlongBody (seq cs) d b (o ∷ p) = AlongIn cs o.child d b o.label p
    AlongBody (if g c e) d b [] = get_or l d 0 ≡ b
    AlongBody (if g c e) d b (o ∷ p) =
        (get_or l d 0 ≡ b) × (eqb o.child 0 ≡ true → Along c (d + 1) o.label p) × (eqb o.child 0 ≡ false → Along e (d + 1) o.label p)
    AlongBody (while g c) d b [] = get_or l d 0 ≡ b
    AlongBody (while g c) d b (o ∷ p) = (get_or l d 0 ≡ b) × Along c (d + 1) o.label p

    pub AlongIn : Cmds → ℕ → ℕ → Label → Label → List Open → Type 0
    AlongIn nil k d b x p = ⊥
    AlongIn (cons c cs) zero d b x p = (get_or l d 0 ≡ b) × (x ≡ b) × Along c d b p
    AlongIn (cons c cs) (suc k) d b x p = AlongIn cs k d b x p

-- the branch labels, one a depth, are held as masks
pub record LabelsHeld (t : Table) (l x : List ℕ) : Type 0 where
  pub room : length l ≡ most_deep + 1
  pub size : length x ≡ most_deep + 1
  pub same : (i : ℕ) → i ≤ most_deep → LabelHeld t (get_or l i 0) (get_or x i 0)
