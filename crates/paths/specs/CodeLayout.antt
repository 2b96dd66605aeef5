-- Where expressions and commands lie in a block's code, from byte to byte; how deep commands nest; which rows take a step. Assumes nothing.
use Rattle.std.specs.Prelude.{ℕ, zero, suc, ◌+◌, ◌-◌, ◌≤◌, ◌<◌, ◌≡◌, List, length, get_or, Option, None, Some}
use Rattle.syntax.specs.Syntax.{Expr, literal, read, operation, Cmd, cmd, Body, skip, assign, seq, if, while, Cmds, nil, cons}
use Rattle.values.specs.Result.{ok}
use Rattle.syntax.specs.Code.{read_block}
use Rattle.syntax.specs.Rows.{byte_of, expr_width, between, size, size_all}

-- one part and then another, with the place where they meet
pub record Meet (P Q : ℕ → Type 0) : Type 0 where
  pub middle : ℕ
  pub first : P middle
  pub then : Q middle

-- how many commands a sequence has
unfoldable pub count : Cmds → ℕ
count nil = 0
count (cons c cs) = 1 + count cs

-- the first byte of a command
unfoldable pub opcode : Body → ℕ
opcode skip = 0x20
opcode (assign x v) = 0x21
opcode (seq cs) = 0x22
opcode (if g c d) = 0x23
opcode (while g c) = 0x24

module _ (code : List ℕ) where
  unfoldable pub ExprLies : Expr → ℕ → ℕ → Type 0
  ExprLies (literal v) at end = (get_or code at 0 ≡ 0x10) × (end ≡ at + expr_width) × (end ≤ length code)
  ExprLies (read e) at end = (get_or code at 0 ≡ 0x11) × ExprLies e (at + 1) end
  ExprLies (operation o l r) at end = (get_or code at 0 ≡ byte_of o) × Meet (λ m. ExprLies l (at + 1) m) (λ m. ExprLies r m end)

  unfoldable mutual
    pub Lies : Cmd → ℕ → ℕ → Type 0
    Lies (cmd o b) at end = (get_or code at 0 ≡ opcode b) × (at < end) × (end ≤ length code) × LiesBody b at end

    pub LiesBody : Body → ℕ → ℕ → Type 0
    LiesBody skip at end = end ≡ at + 1
    LiesBody (assign x v) at end = Meet (λ m. ExprLies x (at + 1) m) (λ m. ExprLies v m end)
    LiesBody (seq cs) at end = (get_or code (at + 1) 0 ≡ count cs) × (at + 1 < length code) × LieAll cs (at + 2) end
    LiesBody (if g c d) at end = Meet (λ m. ExprLies g (at + 1) m) (λ m. Meet (λ n. Lies c m n) (λ n. Lies d n end))
    LiesBody (while g c) at end = Meet (λ m. ExprLies g (at + 1) m) (λ m. Lies c m end)

    pub LieAll : Cmds → ℕ → ℕ → Type 0
    LieAll nil at end = at ≡ end
    LieAll (cons c cs) at end = Meet (λ m. Lies c at m) (λ m. LieAll cs m end)

-- commands nest at most n deep
unfoldable mutual
  pub Levels : Cmd → ℕ → Type 0
  Levels (cmd o b) n = (1 ≤ n) × LevelsBody b (n - 1)

  pub LevelsBody : Body → ℕ → Type 0
  LevelsBody skip n = Unit {0}
  LevelsBody (assign x v) n = Unit {0}
  LevelsBody (seq cs) n = LevelsAll cs n
  LevelsBody (if g c d) n = Levels c n × Levels d n
  LevelsBody (while g c) n = Levels c n

  pub LevelsAll : Cmds → ℕ → Type 0
  LevelsAll nil n = Unit {0}
  LevelsAll (cons c cs) n = Levels c n × LevelsAll cs n

-- an expression, a command lies at `at`
pub record SitsExpr (code : List ℕ) (e : Expr) (at : ℕ) : Type 0 where
  pub end : ℕ
  pub lies : ExprLies code e at end

pub record Sits (code : List ℕ) (c : Cmd) (at : ℕ) : Type 0 where
  pub end : ℕ
  pub lies : Lies code c at end

-- some expression, some command does
pub record SomeExpr (code : List ℕ) (at : ℕ) : Type 0 where
  pub expr : Expr
  pub sits : SitsExpr code expr at

pub record SomeCmd (code : List ℕ) (at : ℕ) : Type 0 where
  pub command : Cmd
  pub sits : Sits code command at

-- code that is a block's
pub record SomeBlock (code : List ℕ) : Type 0 where
  pub slots : ℕ
  pub command : Cmd
  pub was_read : read_block slots code ≡ ok command

-- `left` commands lie from `here` to `end`; with `rows` they have `total` rows
pub record Left (code : List ℕ) (here left rows end total : ℕ) : Type 0 where
  pub commands : Cmds
  pub lie : LieAll code commands here end
  pub counted : count commands ≡ left
  pub sized : rows + size_all commands ≡ total
  pub within : end ≤ length code
  pub slim : rows ≤ here

-- n commands lie from `at` on
pub record SomeCmds (code : List ℕ) (at n : ℕ) : Type 0 where
  pub end : ℕ
  pub total : ℕ
  pub left : Left code at n 0 end total

-- What skipping ensures: of an expression its end; of a command, and of n commands, their end and their rows
abbrev pub SkipsExpr : List ℕ → ℕ → ℕ → Type 0
SkipsExpr code at r = (e : Expr) (end : ℕ) → ExprLies code e at end → r ≡ end

abbrev pub Skips : (code : List ℕ) (at next rows : ℕ) → Type 0
Skips code at next rows = (c : Cmd) (end : ℕ) → Lies code c at end → (next ≡ end) × (rows ≡ size c)

abbrev pub SkipsAll : (code : List ℕ) (at n next rows : ℕ) → Type 0
SkipsAll code at n next rows = (end total : ℕ) → Left code at n 0 end total → (next ≡ end) × (rows ≡ total)

-- where commands that have so many rows end, if they have none
unfoldable pub blank_end : ℕ → ℕ → Option ℕ
blank_end zero end = Some end
blank_end (suc n) end = None

-- The i-th row of a command is an assignment's or a guard's, and no jump.
unfoldable mutual
  pub Stepping : Cmd → ℕ → Type 0
  Stepping (cmd o b) i = SteppingBody b i

  pub SteppingBody : Body → ℕ → Type 0
  SteppingBody skip i = ⊥
  SteppingBody (assign x v) i = i ≡ 0
  SteppingBody (seq cs) i = SteppingAll cs i
  SteppingBody (if g c d) i =
      (0 < i → i ≤ size c → Stepping c (i - 1))
      × (size c < i → (1 + size c + between (size d) ≤ i) × Stepping d (i - (1 + size c + between (size d))))
  SteppingBody (while g c) i = 0 < i → Stepping c (i - 1)

  pub SteppingAll : Cmds → ℕ → Type 0
  SteppingAll nil i = ⊥
  SteppingAll (cons c cs) i = (i < size c → Stepping c i) × (size c ≤ i → SteppingAll cs (i - size c))
