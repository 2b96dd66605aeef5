-- What stands in the compiled tables, and what running from a row of them comes to. Assumes nothing.
use Rattle.std.specs.Prelude.{ℕ, zero, suc, ◌+◌, ◌-◌, ◌<◌, ◌≤◌, ◌≡◌, Bool, true, false, ◌⊎◌, List, [], ◌∷◌, ◌++◌, length, get_or, set}
use Rattle.lattice.specs.Order.{Label, meet}
use Rattle.values.specs.Result.{Result, ok, ◌>>=◌, refused_as}
use Rattle.values.specs.Value.{well_formed}
use Rattle.values.specs.declared.Value.{Value}
use Rattle.store.specs.Sheet.{most_slots}
use Rattle.syntax.specs.declared.Operand.{Operand}
use Rattle.syntax.specs.Syntax.{Expr, Cmd, LiteralsOf, Exprs}
use Rattle.syntax.specs.Code.{most_nested, most_deep}
use Rattle.syntax.specs.declared.Compiled.{Compiled}
use Rattle.syntax.specs.declared.Row.{Row}
use Rattle.syntax.specs.Rows.{kind_of, offset_of, assign_row, guard_row, jump_row, end_row, no_operand, guard_kind, operands_of, cmd_operands, rows_of, size, Nests, Shallow, most_rows, most_operands}
use Rattle.syntax.specs.Sheet.{Block}
use Rattle.calculus.specs.Calculus.{Setting, State, Judged, Write, judge, step, attempt, counted, performed}
use Rattle.pausing.specs.Paths.{Open, Pause, pause_at}
use Rattle.pausing.specs.RowPaths.{path_to}

abbrev pub row_at : Compiled → ℕ → Row
row_at t r = get_or t.rows r end_row

abbrev pub kind_at : Compiled → ℕ → ℕ
kind_at t r = kind_of (row_at t r)

-- the offset of a row's command
abbrev pub offset_at : Compiled → ℕ → ℕ
offset_at t r = offset_of (row_at t r)

-- A list stands in a table, from the i-th entry on
pub record StandsAt {A : Type 0} (none : A) (table : List A) (i : ℕ) (xs : List A) : Type 0 where
  pub at : (j : ℕ) → j < length xs → get_or table (i + j) none ≡ get_or xs j none

-- the table of operands
abbrev pub Operands : Type 0
Operands = List Operand

-- operands stand there, from operand o on
pub record OperandsAt (t : Operands) (o : ℕ) (xs : List Operand) : Type 0 where
  pub stands : StandsAt no_operand t o xs
  pub fits : o + length xs ≤ most_operands

-- a view names a slot that is held
abbrev pub Formed : Value → Type 0
Formed v = well_formed most_slots v ≡ true

-- what the reader made sure of an expression
pub record SoundExpr (e : Expr) : Type 0 where
  pub formed : LiteralsOf Formed e
  pub nests : Nests most_nested e

-- an expression stands as operands, from operand o on
pub record ExprAt (t : Operands) (o : ℕ) (e : Expr) : Type 0 where
  pub stands : OperandsAt t o (operands_of e)
  pub sound : SoundExpr e

-- what a row holds
pub record AssignAt (t : Compiled) (r depth at : ℕ) (x v : Expr) : Type 0 where
  pub target : ℕ
  pub value : ℕ
  pub holds : row_at t r ≡ assign_row depth at target value
  pub early : r < most_rows
  pub level : depth ≤ most_deep
  pub target_is : ExprAt t.operands target x
  pub value_is : ExprAt t.operands value v

pub record GuardAt (t : Compiled) (r depth at : ℕ) (g : Expr) (other : ℕ) : Type 0 where
  pub operand : ℕ
  pub holds : row_at t r ≡ guard_row depth at operand other
  pub early : r < most_rows
  pub level : depth < most_deep
  pub operand_is : ExprAt t.operands operand g

-- a jump leads on, or back to a guard, which takes a step
pub record JumpAt (t : Compiled) (r target : ℕ) : Type 0 where
  pub holds : row_at t r ≡ jump_row target
  pub early : r < most_rows
  pub falls : (r < target) ⊎ (kind_at t target ≡ guard_kind)

pub record EndAt (t : Compiled) (r : ℕ) : Type 0 where
  pub holds : row_at t r ≡ end_row
  pub early : r < most_rows

-- the row after a guard that passes, or fails
unfoldable pub next : Bool → ℕ → ℕ → ℕ
next true r other = r + 1
next false r other = other

-- a block's rows: its first row and its end row, and the path to the step at each row, with the branch labels by depth there
pub record Span : Type 0 where
  pub first : ℕ
  pub last : ℕ
  pub path : ℕ → List Label → List Open

-- a row of a block before its end row
pub record InSpan (span : Span) (r : ℕ) : Type 0 where
  pub from : span.first ≤ r
  pub before : r < span.last

-- Running on from row r of a block, with these branch labels by depth, comes to `whole`, in which a stop has the path to its row.
module _ (w : Setting) (t : Compiled) (span : Span) where
  pub data Runs : ℕ → List Label → State → Result Pause State → Type 0 where
    ends : {r : ℕ} {l : List Label} {s : State} {whole : Result Pause State} → r ≡ span.last → EndAt t r → whole ≡ ok s → Runs r l s whole
    assigns : {r : ℕ} {l : List Label} {s : State} {whole : Result Pause State} (depth at : ℕ) (x v : Expr) (k : Write → Result Pause State)
        → AssignAt t r depth at x v → InSpan span r
        → whole ≡ (refused_as (pause_at (span.path r l)) (step w at s (attempt w (get_or l depth 0) s x v)) >>= k)
        → ((y : Write) → step w at s (attempt w (get_or l depth 0) s x v) ≡ ok y → Runs (r + 1) l (performed w at y s) (k y))
        → Runs r l s whole
    guards : {r : ℕ} {l : List Label} {s : State} {whole : Result Pause State} (depth at : ℕ) (g : Expr) (other : ℕ) (k : Judged → Result Pause State)
        → GuardAt t r depth at g other → InSpan span r
        → whole ≡ (refused_as (pause_at (span.path r l)) (step w at s (judge w s.store g)) >>= k)
        → ((j : Judged) → step w at s (judge w s.store g) ≡ ok j
        → Runs (next j.passes r other) (set l (depth + 1) (meet w.tables.order (get_or l depth 0) j.label)) (counted s) (k j))
        → Runs r l s whole
    jumps : {r : ℕ} {l : List Label} {s : State} {whole : Result Pause State} (target : ℕ)
        → JumpAt t r target → Runs target l s whole → Runs r l s whole

-- what the reader made sure of: guards nest no deeper than there are branch labels, and of every expression
pub record Sound (c : Cmd) : Type 0 where
  pub shallow : Shallow 0 c
  pub exprs : Exprs SoundExpr c

-- a block stands in the tables, from row r and operand o on, closed by its end row
pub record BlockAt (t : Compiled) (r o : ℕ) (c : Cmd) : Type 0 where
  pub rows : StandsAt end_row t.rows r (rows_of c 0 r o ++ (end_row ∷ []))
  pub operands : OperandsAt t.operands o (cmd_operands c)
  pub fits : r + size c < most_rows
  pub sound : Sound c

-- its rows
abbrev pub span_of : Cmd → ℕ → Span
span_of c r = record { first = r; last = r + size c; path = λ i l. path_to l c 0 (i - r) }

-- blocks stand there one after the other
unfoldable pub BlocksAt : Compiled → ℕ → ℕ → List Block → Type 0
BlocksAt t r o [] = Unit {0}
BlocksAt t r o (b ∷ bs) = BlockAt t r o b.command × BlocksAt t (r + size b.command + 1) (o + length (cmd_operands b.command)) bs

-- the first row of the i-th of the blocks
unfoldable pub rows_before : List Block → ℕ → ℕ
rows_before bs zero = 0
rows_before [] (suc i) = 0
rows_before (b ∷ bs) (suc i) = size b.command + 1 + rows_before bs i

-- every block's command is one that the reader lets pass
unfoldable pub AllSound : List Block → Type 0
AllSound [] = Unit {0}
AllSound (b ∷ bs) = Sound b.command × AllSound bs
