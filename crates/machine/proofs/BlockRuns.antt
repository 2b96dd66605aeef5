-- Laws of a run of blocks: where a block stands, what it comes to, and what is left to play after it. Assumes nothing.
use Prim.Native.Nat.{ℕ, zero, suc, ◌+◌, ◌≤◌, ◌<◌}
use mathlib.Core.Path.{◌≡◌, refl, ap}
use mathlib.Core.List.{List, [], ◌∷◌}
use native.Mathlib.Omega.{arith}
use lib.ListN.{length, drop, replicate, length-drop, length-replicate, get_or-replicate}
use Rattle.lattice.specs.declared.Table.{Table}
use Rattle.lattice.specs.Order.{top}
use Rattle.values.specs.Result.{Result, ◌>>=◌, refused_as}
use Rattle.store.specs.declared.HeldSlot.{HeldSlot}
use Rattle.store.specs.Sheet.{Tables}
use Rattle.syntax.specs.Syntax.{Cmd}
use Rattle.syntax.specs.Code.{most_deep}
use Rattle.syntax.specs.Sheet.{Block, header_at}
use Rattle.syntax.specs.declared.Compiled.{Compiled}
use Rattle.syntax.specs.Rows.{size}
use Rattle.calculus.specs.Rules.{RuleSet}
use Rattle.calculus.specs.Calculus.{Limits, Setting, State}
use Rattle.calculus.specs.Blocks.{Halt, halt_in, setting, run_blocks}
use Rattle.pausing.specs.Paths.{bare, play}
use Rattle.pausing.proofs.PathsAside.{paths_aside}
use Rattle.machine.specs.declared.blocks.Place.{Place}
use Rattle.lattice.specs.HeldLabels.{LabelHeld}
use Rattle.machine.specs.MachineNumbers.{StateHeld}
use Rattle.machine.specs.CompiledRuns.{BlockAt, BlocksAt, span_of, rows_before}
use Rattle.machine.specs.Machine.{place, GoesOn}
use Rattle.pausing.specs.RowPaths.{LabelsHeld}
use Rattle.machine.specs.BlockRuns.{Played, HeadersAt, LeftToPlay}
use Rattle.machine.proofs.CompiledRuns.{block_runs}

-- a label at every depth
abbrev pub everywhere : ℕ → List ℕ
everywhere x = replicate (most_deep + 1) x

pub everywhere_held : {t : Table} {l x : ℕ} → LabelHeld t l x → LabelsHeld t (everywhere l) (everywhere x)
everywhere_held {t} {l} {x} h =
    record {
      room = length-replicate (most_deep + 1) l;
      size = length-replicate (most_deep + 1) x;
      same = λ i k. rw (get_or-replicate (most_deep + 1) i l 0 (omega arith), get_or-replicate (most_deep + 1) i x 0 (omega arith)) h;
    }

-- A block from its first row on: the top is its branch label at every depth
unfoldable pub block_goes : (w : Setting) (t : Compiled) (row steps free room x : ℕ) (held : List HeldSlot) → LabelHeld w.tables.order (top w.tables.order) x
    → (s : State) → StateHeld w room held steps free s → steps ≤ w.limits.budget → (o : ℕ) (c : Cmd) → BlockAt t row o c
    → GoesOn w t (span_of c row) room (place row steps free (everywhere x) held) (play w c (top w.tables.order) s)
block_goes w t row steps free room x held u s k le o c b =
    record {
      labels = everywhere (top w.tables.order);
      state = s;
      labels_held = everywhere_held u;
      state_held = k;
      runs = block_runs w t row o c b (everywhere (top w.tables.order)) s (length-replicate (most_deep + 1) (top w.tables.order)) (omega (arith, k.steps));
    }

-- Blocks that are played from their starts (for the second pass)

module _ (w : Tables) (rules : RuleSet) (m : Limits) (g : Played) (p : List ℕ) (k : ℕ) where
  pub record Next (from : Place) (held : List HeldSlot) (whole : Result Halt State) (l : LeftToPlay w rules m g p k from held whole) : Type 0 where
    pub block : Block
    pub rest : List Block
    pub is : l.rest ≡ block ∷ rest

  pub left_next : (from : Place) (held : List HeldSlot) (whole : Result Halt State) → from.block < k → (l : LeftToPlay w rules m g p k from held whole) → Next from held whole l
  left_next from held whole h l = go l.rest refl l.count
    where
      go : (rest : List Block) → l.rest ≡ rest → from.block + length rest ≡ k → Next from held whole l
      go [] q e = absurd (omega arith)
      go (b ∷ bs) q e = record { block = b; rest = bs; is = q }

  module _ (from : Place) (held : List HeldSlot) (whole : Result Halt State) (l : LeftToPlay w rules m g p k from held whole) (n : Next from held whole l) where
    pub headers : HeadersAt w.order.n p from.block (n.block ∷ n.rest)
    headers = rw n.is at l.headers

    pub stand : BlocksAt g.tables from.row l.operand (n.block ∷ n.rest)
    stand = rw n.is at l.stand

    abbrev v : Setting
    v = setting w rules m from.block n.block

    pub unrolled : (refused_as (halt_in from.block) (bare (play v n.block.command (top w.order) l.state)) >>= λ t. run_blocks w rules m (from.block + 1) n.rest t) ≡ whole
    unfolding run_blocks
    unrolled = rw (paths_aside v n.block.command (top w.order) l.state) (rw n.is at l.means)

-- Where the i-th block of a list stands

pub drop_inside : (bs : List Block) (i : ℕ) (b : Block) (rest : List Block) → drop i bs ≡ b ∷ rest → i < length bs
drop_inside bs i b rest e = omega (arith, ap length e, length-drop i bs)

pub drop_none : (bs : List Block) (i : ℕ) → drop i bs ≡ [] → length bs ≤ i
drop_none bs i e = omega (arith, ap length e, length-drop i bs)

pub drop_next : (bs : List Block) (i : ℕ) (b : Block) (rest : List Block) → drop i bs ≡ b ∷ rest → drop (i + 1) bs ≡ rest
drop_next bs zero b rest e = ap (drop 1) e
drop_next [] (suc i) b rest e = absurd (let z : ◌≡◌ {A = ℕ} 0 1 = cc in omega arith)
drop_next (c ∷ bs) (suc i) b rest e = let y : suc i + 1 ≡ suc (i + 1) = omega arith in rw y (drop_next bs i b rest e)

pub header_of_law : (n : ℕ) (p : List ℕ) (i j : ℕ) (bs : List Block) (b : Block) (rest : List Block) → HeadersAt n p i bs → drop j bs ≡ b ∷ rest
    → (b.header ≡ header_at p (i + j)) × (b.header.region < n)
unfolding HeadersAt
header_of_law n p i zero [] b rest h e = absurd (let z : ◌≡◌ {A = ℕ} 0 1 = cc in omega arith)
header_of_law n p i (suc j) [] b rest h e = absurd (let z : ◌≡◌ {A = ℕ} 0 1 = cc in omega arith)
header_of_law n p i zero (c ∷ bs) b rest h e =
    let q : c ≡ b = cc in
    let y : i + 0 ≡ i = omega arith in
    rw (← q, y) (h.0, h.1)
header_of_law n p i (suc j) (c ∷ bs) b rest h e = let y : i + suc j ≡ i + 1 + j = omega arith in rw y (header_of_law n p (i + 1) j bs b rest h.2 e)

pub record StandsOf (t : Compiled) (row : ℕ) (c : Cmd) : Type 0 where
  pub operand : ℕ
  pub stands : BlockAt t row operand c

pub block_of : (t : Compiled) (r o j : ℕ) (bs : List Block) (b : Block) (rest : List Block) → BlocksAt t r o bs → drop j bs ≡ b ∷ rest
    → StandsOf t (r + rows_before bs j) b.command
unfolding BlocksAt rows_before
block_of t r o zero [] b rest h e = absurd (let z : ◌≡◌ {A = ℕ} 0 1 = cc in omega arith)
block_of t r o (suc j) [] b rest h e = absurd (let z : ◌≡◌ {A = ℕ} 0 1 = cc in omega arith)
block_of t r o zero (c ∷ bs) b rest h e =
    let q : c ≡ b = cc in
    let y : r + 0 ≡ r = omega arith in
    rw (← q, y) (record { operand = o; stands = h.0 })
block_of t r o (suc j) (c ∷ bs) b rest h e =
    let y : r + (size c.command + 1 + rows_before bs j) ≡ r + size c.command + 1 + rows_before bs j = omega arith in
    rw y (block_of t (r + size c.command + 1) _ j bs b rest h.1 e)

pub before_next : (j : ℕ) (bs : List Block) (b : Block) (rest : List Block) → drop j bs ≡ b ∷ rest → rows_before bs (j + 1) ≡ rows_before bs j + size b.command + 1
unfolding rows_before
before_next zero [] b rest e = absurd (let z : ◌≡◌ {A = ℕ} 0 1 = cc in omega arith)
before_next (suc j) [] b rest e = absurd (let z : ◌≡◌ {A = ℕ} 0 1 = cc in omega arith)
before_next zero (c ∷ bs) b rest e = let q : c ≡ b = cc in rw (← q) (omega arith)
before_next (suc j) (c ∷ bs) b rest e = let y : suc j + 1 ≡ suc (j + 1) = omega arith in rw y (omega (arith, before_next j bs b rest e))
