-- What evaluating from an operand of the compiled tables comes to. Assumes nothing.
use Rattle.std.specs.Prelude.{ℕ, zero, suc, ◌+◌, ◌<◌, ◌≤◌, ◌≡◌, true, false, List, [], ◌∷◌, length, get_or}
use Rattle.values.specs.Result.{Result, ok, ◌>>=◌, require}
use Rattle.values.specs.declared.Value.{Value}
use Rattle.values.specs.Value.{is_write_view}
use Rattle.syntax.specs.declared.Operand.{Operand}
use Rattle.syntax.specs.Syntax.{Op, Expr, literal}
use Rattle.syntax.specs.Code.{most_nested}
use Rattle.syntax.specs.Rows.{more_come, operand, no_operand, byte_of, most_operands}
use Rattle.calculus.specs.Calculus.{Setting, Store, Labelled, takes, gives, fetch, operate, eval}
use Rattle.machine.specs.Answers.{Got}
use Rattle.machine.specs.CompiledRuns.{Operands, Formed}

-- operand o
pub record OperandAt (t : Operands) (o : ℕ) (x : Operand) : Type 0 where
  pub inside : o < most_operands
  pub same : get_or t o no_operand ≡ x

-- it is a literal, with this number of reads (or more operands come, and `more_come` is added to it)
pub record LiteralAt (t : Operands) (o : ℕ) (v : Value) (reads : ℕ) : Type 0 where
  pub is : OperandAt t o (operand v.kind reads v.payload)
  pub formed : Formed v

-- it is an operation
abbrev pub OperationAt : Operands → ℕ → Op → ℕ → Type 0
OperationAt t o op reads = OperandAt t o (operand (byte_of op) reads 0)

-- a value that was got
abbrev pub got_value : Value → ℕ → Got
got_value v label = Got.Value v.kind v.payload label

-- an operation on two values whose labels have been met: "then kinds are judged, by 13" (document 02, N5)
unfoldable pub got_operated : Op → Value → Value → ℕ → Got
got_operated o u v label =
    elim (takes o u v) [ true ↦ got_value (gives o u v) label | false ↦ Got.Refused 13 ]

-- an assignment's target: "evaluated first, must be a write view"
unfoldable pub aimed : Setting → Store → Expr → Result ℕ Labelled
aimed w s e = eval w s e >>= λ x. require (is_write_view x.value) 13 (ok x)

module _ (w : Setting) (s : Store) where
  -- So many reads, one after the other: "each worked from its literal outwards"
  unfoldable pub read_times : ℕ → Result ℕ Labelled → Result ℕ Labelled
  read_times zero r = r
  read_times (suc n) r = read_times n (r >>= fetch w s)

  -- Evaluating on from operand o comes to `whole`. Known are the value in hand, which comes first, and the left operands of operations to come: "The
  -- left one is evaluated first, then the right; then kinds are judged" (document 02, N5).
  module _ (t : Operands) where
    pub data Evals : ℕ → List Labelled → Result ℕ Labelled → Type 0 where
      literals : {o : ℕ} {xs : List Labelled} {whole : Result ℕ Labelled} (v : Value) (reads : ℕ) (k : Labelled → Result ℕ Labelled)
          → LiteralAt t o v (more_come + reads) → reads ≤ most_nested → length xs ≤ most_nested
          → whole ≡ (read_times reads (eval w s (literal v)) >>= k)
          → ((x : Labelled) → Evals (o + 1) (x ∷ xs) (k x)) → Evals o xs whole
      operations : {o : ℕ} {xs : List Labelled} {whole : Result ℕ Labelled} (op : Op) (reads : ℕ) (x y : Labelled) (k : Labelled → Result ℕ Labelled)
          → OperationAt t o op (more_come + reads) → reads ≤ most_nested
          → whole ≡ (read_times reads (operate w op x y) >>= k)
          → ((z : Labelled) → Evals (o + 1) (z ∷ xs) (k z)) → Evals o (y ∷ x ∷ xs) whole
      ends : {o : ℕ} {whole : Result ℕ Labelled} (op : Op) (reads : ℕ) (x y : Labelled) → OperationAt t o op reads → reads ≤ most_nested
          → whole ≡ read_times reads (operate w op x y) → Evals o (y ∷ x ∷ []) whole
