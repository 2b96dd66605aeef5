-- What the code reader answers, and what it leaves in the tables. Assumes nothing.
use Rattle.std.specs.Prelude.{ℕ, ◌+◌, ◌-◌, ◌<◌, ◌≤◌, ◌≡◌, List, [], ◌∷◌, ◌++◌, length, get_or, Ok, Err, MatchResult}
use Rattle.std.specs.Prelude as std
use Rattle.values.specs.declared.Value.{Value}
use Rattle.values.specs.Value.{value_width}
use Rattle.values.specs.Refusal.{number}
use Rattle.values.specs.Result.{Result, refuse, ◌>>=◌}
use Rattle.reader.specs.declared.Fault.{Fault}
use Rattle.reader.specs.declared.Spot.{Spot}
use Rattle.reader.specs.declared.code.Command.{Command}
use Rattle.reader.specs.declared.code.Command.TheVariants as commands
use Rattle.syntax.specs.declared.Compiled.{Compiled}
use Rattle.syntax.specs.declared.Operand.{Operand}
use Rattle.syntax.specs.declared.Row.{Row}
use Rattle.syntax.specs.Syntax.{Op, Expr, Cmd, Body, Cmds}
use Rattle.syntax.specs.Code as code
use Rattle.syntax.specs.Code.{Read, up_to, ends_early, CmdByte, skip_byte, assign_byte, seq_byte, if_byte, while_byte, cmd_byte, read_operation, read_expr, expr_at, read_body, read_cmd, read_block, most_deep}
use Rattle.syntax.specs.Rows.{byte_of, filled, Kept, postfix, operands_of, cmd_operands, body_operands, all_operands, rows_of, rows_body, rows_all, end_row, rows_in, operands_in, most_rows, most_operands}
use Rattle.syntax.specs.Sheet.{most_code}

-- the refusal, as the definitions say it
abbrev pub fault_of : Fault → code.Fault
fault_of f = record { number = number f.refusal; offset = f.spot.at }

-- the byte at `at`, or that the code ends before it
abbrev pub ByteAt : List ℕ → ℕ → std.Result ℕ Fault → Type 0
ByteAt s at r = MatchResult r (λ b. (at < length s) × (get_or s at 0 ≡ b)) (λ f. (length s ≤ at) × (fault_of f ≡ ends_early s))

-- the value at `at`, or the refusal
abbrev pub value_reading : ℕ → std.Result Value Fault → Result code.Fault (Read Value)
value_reading at (Ok v) = up_to (at + value_width) v
value_reading at (Err f) = refuse (fault_of f)

-- a command's first byte
abbrev pub first_byte : Command → CmdByte
first_byte commands.Skip = skip_byte
first_byte commands.Assign = assign_byte
first_byte commands.Sequence = seq_byte
first_byte commands.If = if_byte
first_byte commands.While = while_byte

-- which command stands at `at`, or how every command there is refused
abbrev pub CommandAt : List ℕ → ℕ → std.Result Command Fault → Type 0
CommandAt s at r =
    MatchResult r (λ c. (at < length s) × (cmd_byte s at ≡ first_byte c)) (λ f. (deep m : ℕ) → read_body deep m s at ≡ refuse (fault_of f))

-- What a thing that is read emits: its rows, for a first row and a first operand, and its operands.
pub record Emits (A : Type 0) : Type 0 where
  pub rows : A → ℕ → ℕ → List Row
  pub operands : A → List Operand

-- an expression inside so many reads, and a whole one
abbrev pub part_emits : ℕ → Emits Expr
part_emits reads = record { rows = λ e r o. []; operands = postfix reads }

abbrev pub expr_emits : Emits Expr
expr_emits = part_emits 0

-- commands inside `depth` if-parts and bodies; a body is that of the command at `at`
abbrev pub cmd_emits : ℕ → Emits Cmd
cmd_emits depth = record { rows = λ c r o. rows_of c depth r o; operands = cmd_operands }

abbrev pub body_emits : ℕ → ℕ → Emits Body
body_emits at depth = record { rows = λ b r o. rows_body b at depth r o; operands = body_operands }

abbrev pub all_emits : ℕ → Emits Cmds
all_emits depth = record { rows = λ cs r o. rows_all cs depth r o; operands = all_operands }

-- A guard and the first command inside it. The guard's own row is not among their rows.
pub record Guarded : Type 0 where
  pub guard : Expr
  pub inside : Cmd

unfoldable pub read_guarded : (ℕ → Result code.Fault (Read Cmd)) → ℕ → List ℕ → ℕ → Result code.Fault (Read Guarded)
read_guarded inner m s at =
    expr_at m s (at + 1) >>= λ g.
    inner g.next >>= λ c.
    up_to c.next (record { guard = g.tree; inside = c.tree })

abbrev pub guarded_emits : ℕ → Emits Guarded
guarded_emits depth = record {
  rows = λ g r o. rows_of g.inside (depth + 1) r (o + length (operands_of g.guard));
  operands = λ g. operands_of g.guard ++ cmd_operands g.inside;
}

-- a block's command, closed by its end row
unfoldable pub block_read : ℕ → List ℕ → Result code.Fault (Read Cmd)
block_read m s = read_block m s >>= λ c. up_to (length s) c

abbrev pub block_emits : Emits Cmd
block_emits = record { rows = λ c r o. rows_of c 0 r o ++ (end_row ∷ []); operands = cmd_operands }

-- where reading stands
abbrev pub spot_at : ℕ → ℕ → ℕ → Spot
spot_at at row operand = record { at = at; row = row; operand = operand }

-- past the next row
abbrev pub row_on : Spot → Spot
row_on s = spot_at s.at (s.row + 1) s.operand

-- where rows and operands end that the bytes left of `size` can come to
pub record Limit : Type 0 where
  pub rows : ℕ
  pub operands : ℕ

abbrev pub limit_of : ℕ → Spot → Limit
limit_of size s = record { rows = s.row + rows_in (size - s.at); operands = s.operand + operands_in (size - s.at) }

-- Rows and operands stand in the tables from one spot up to another, and all else is as it was.
pub record Emitted (rows : List Row) (operands : List Operand) (from to : Spot) (old new : Compiled) : Type 0 where
  pub rows_on : to.row ≡ from.row + length rows
  pub operands_on : to.operand ≡ from.operand + length operands
  pub tables : new ≡ filled rows operands from.row from.operand old

-- p was read, up to a spot, ..
pub record Ended {A : Type 0} (e : Emits A) (p : Result code.Fault (Read A)) (from to : Spot) (old new : Compiled) : Type 0 where
  pub tree : A
  pub is : p ≡ up_to to.at tree
  pub emitted : Emitted (e.rows tree from.row from.operand) (e.operands tree) from to old new

-- .. or was refused: from the limit on the tables are as they were.
pub record Turned {A : Type 0} (p : Result code.Fault (Read A)) (limit : Limit) (old new : Compiled) (f : Fault) : Type 0 where
  pub is : p ≡ refuse (fault_of f)
  pub kept : Kept limit.rows limit.operands old new

-- what was read, p, as the reader answers it and as it stands in the tables
abbrev pub Reads : {A : Type 0} → Emits A → Result code.Fault (Read A) → Limit → Spot → Compiled → Compiled → std.Result Spot Fault → Type 0
Reads e p limit from old new r = MatchResult r (λ to. Ended e p from to old new) (λ f. Turned p limit old new f)

-- The parts of a block's code s, read where reading stands.
abbrev pub PartReads : ℕ → List ℕ → Result code.Fault (Read Expr) → Spot → Compiled → Compiled → std.Result Spot Fault → Type 0
PartReads reads s p from old new r = Reads (part_emits reads) p (limit_of (length s) from) from old new r

-- a whole expression
abbrev pub ExprReads : ℕ → List ℕ → Spot → Compiled → Compiled → std.Result Spot Fault → Type 0
ExprReads m s from old new r = PartReads 0 s (expr_at m s from.at) from old new r

-- an operation of this first byte, from its operands on
abbrev pub OperationReads : ℕ → ℕ → ℕ → ℕ → List ℕ → Spot → Compiled → Compiled → std.Result Spot Fault → Type 0
OperationReads deep b reads m s from old new r =
    (o : Op) → byte_of o ≡ b → PartReads reads s (read_operation o (read_expr deep m s) from.at) from old new r

abbrev pub BodyReads : ℕ → List ℕ → Result code.Fault (Read Body) → Spot → Compiled → Compiled → std.Result Spot Fault → Type 0
BodyReads depth s p from old new r = Reads (body_emits from.at depth) p (limit_of (length s) from) from old new r

-- `deep`: how many levels of commands are still allowed
abbrev pub CmdReads : ℕ → ℕ → ℕ → List ℕ → Spot → Compiled → Compiled → std.Result Spot Fault → Type 0
CmdReads deep depth m s from old new r = Reads (cmd_emits depth) (read_cmd deep m s from.at) (limit_of (length s) from) from old new r

-- the guard's own row is taken
abbrev pub GuardedReads : ℕ → ℕ → ℕ → List ℕ → Spot → Compiled → Compiled → std.Result Spot Fault → Type 0
GuardedReads deep depth m s from old new r =
    Reads (guarded_emits depth) (read_guarded (read_cmd deep m s) m s from.at) (limit_of (length s) from) (row_on from) old new r

-- a whole block, from its first byte on
abbrev pub BlockReads : ℕ → List ℕ → ℕ → ℕ → Compiled → Compiled → std.Result Spot Fault → Type 0
BlockReads m s row operand old new r =
    Reads block_emits (block_read m s) (limit_of (length s) (spot_at 0 row operand)) (spot_at 0 row operand) old new r

-- so many bytes 11 stand in a row, from `at` on, and if fewer than `most`, no more
pub record ReadsAt (s : List ℕ) (at most n : ℕ) : Type 0 where
  pub few : n ≤ most
  pub inside : at + n ≤ length s
  pub each : (i : ℕ) → i < n → get_or s (at + i) 0 ≡ 0x11
  pub last : n < most → get_or s (at + n) 0 ≡ 0x11 → length s ≤ at + n

-- Reading can go on, `levels` deep at the most: the tables have room for what the bytes left can come to, and for an end row.
pub record CanRead (code : List ℕ) (from : Spot) (levels : ℕ) : Type 0 where
  pub short : length code ≤ most_code
  pub inside : from.at ≤ length code
  pub rows : (limit_of (length code) from).rows < most_rows
  pub operands : (limit_of (length code) from).operands ≤ most_operands
  pub level : levels ≤ most_deep

-- a number that two bytes hold
abbrev pub Short : ℕ → Type 0
Short n = n < 65536
