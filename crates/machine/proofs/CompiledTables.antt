-- Lists of rows and operands that stand in the compiled tables, taken apart; and where a compiled programme's blocks stand. Assumes nothing.
use Prim.Native.Nat.{ℕ, suc, ◌+◌, ◌<◌, ◌≤◌}
use mathlib.Core.Path.{◌≡◌, refl, ap, ◌∙◌}
use mathlib.Core.Logic.{◌⊎◌}
use mathlib.Core.List.{List, [], ◌∷◌, ◌++◌}
use native.Mathlib.Omega.{arith}
use lib.ListN.{length, get_or, take, drop, length-append, get_or-append}
use lib.Seq.{sets, sets-eq, append_snoc, get_or-append-add, length-take-le}
use Rattle.syntax.specs.declared.Operand.{Operand}
use Rattle.syntax.specs.Syntax.{Expr}
use Rattle.syntax.specs.Code.{most_deep}
use Rattle.syntax.specs.declared.Compiled.{Compiled}
use Rattle.syntax.specs.declared.Row.{Row}
use Rattle.syntax.specs.Rows.{kind_of, offset_of, end_kind, assign_kind, jump_kind, assign_row, guard_row, guard_kind, jump_row, end_row, operands_of, no_operand, cmd_operands, size, rows_of, blocks_rows, blocks_operands, filled, compiled, most_rows, most_operands}
use Rattle.syntax.specs.Sheet.{Block}
use Rattle.syntax.proofs.Rows.{rows_length}
use Rattle.machine.specs.CompiledRuns.{kind_at, Operands, OperandsAt, SoundExpr, AssignAt, GuardAt, JumpAt, EndAt, StandsAt, BlocksAt, AllSound}
use Rattle.machine.specs.CompiledExpressions.{OperandAt}

-- which row it is, and the offset of its command
module _ {x : Row} where
  pub kind_end : x ≡ end_row → kind_of x ≡ end_kind
  unfolding kind_of
  kind_end e = ap kind_of e

  pub kind_jump : {target : ℕ} → x ≡ jump_row target → kind_of x ≡ jump_kind
  unfolding kind_of
  kind_jump e = ap kind_of e

  module _ {depth at first second : ℕ} where
    pub kind_assign : x ≡ assign_row depth at first second → kind_of x ≡ assign_kind
    unfolding kind_of
    kind_assign e = ap kind_of e

    pub kind_guard : x ≡ guard_row depth at first second → kind_of x ≡ guard_kind
    unfolding kind_of
    kind_guard e = ap kind_of e

    pub offset_assign : x ≡ assign_row depth at first second → offset_of x ≡ at
    unfolding offset_of
    offset_assign e = ap offset_of e

    pub offset_guard : x ≡ guard_row depth at first second → offset_of x ≡ at
    unfolding offset_of
    offset_guard e = ap offset_of e

-- A list that stands in a table: its first entry, the rest, and both parts of two lists one after the other.
module _ {A : Type 0} (none : A) (table : List A) (i : ℕ) where
  pub stands_head : (x : A) (xs : List A) → StandsAt none table i (x ∷ xs) → get_or table i none ≡ x
  stands_head x xs h = let e : i ≡ i + 0 = omega arith in ap (λ (k : ℕ). get_or table k none) e ∙ h.at 0 (omega arith)

  pub stands_tail : (x : A) (xs : List A) → StandsAt none table i (x ∷ xs) → StandsAt none table (i + 1) xs
  stands_tail x xs h =
      record {
        at = λ j l.
            let e : i + 1 + j ≡ i + suc j = omega arith in
            ap (λ (k : ℕ). get_or table k none) e ∙ h.at (suc j) (omega arith);
      }

  pub stands_front : (xs ys : List A) → StandsAt none table i (xs ++ ys) → StandsAt none table i xs
  stands_front xs ys h =
      record { at = λ j l. h.at j (omega (arith, length-append xs ys)) ∙ get_or-append xs ys none j l }

  pub stands_rest : (xs ys : List A) (k : ℕ) → k ≡ i + length xs → StandsAt none table i (xs ++ ys) → StandsAt none table k ys
  stands_rest xs ys k p h =
      record {
        at = λ j l.
            let e : k + j ≡ i + (length xs + j) = omega arith in
            ap (λ (n : ℕ). get_or table n none) e
            ∙ h.at (length xs + j) (omega (arith, length-append xs ys))
            ∙ get_or-append-add xs ys j none;
      }

-- what is put into a table stands there
pub sets_stand : {A : Type 0} (none : A) (table : List A) (i : ℕ) (xs : List A) → i + length xs ≤ length table → StandsAt none (sets table i xs) i xs
sets_stand none table i xs h =
    let l : length (take i table) ≡ i = length-take-le i table (omega arith) in
    rw (sets-eq xs table i h)
    (stands_rest none _ 0 (take i table) xs i (omega arith)
    (stands_front none _ 0 (take i table ++ xs) (drop (i + length xs) table) (all_stands none _)))
  where
    all_stands : {A : Type 0} (none : A) (table : List A) → StandsAt none table 0 table
    all_stands none table = record { at = λ j l. let e : 0 + j ≡ j = omega arith in ap (λ (n : ℕ). get_or table n none) e }

-- The same of operands.
module _ (t : Operands) (o : ℕ) where
  pub operand_head : (x : Operand) (xs : List Operand) → OperandsAt t o (x ∷ xs) → OperandAt t o x
  operand_head x xs h =
      record {
        inside = omega (arith, h.fits);
        same = stands_head no_operand t o x xs h.stands;
      }

  pub operands_front : (xs ys : List Operand) → OperandsAt t o (xs ++ ys) → OperandsAt t o xs
  operands_front xs ys h =
      record {
        stands = stands_front no_operand t o xs ys h.stands;
        fits = omega (arith, h.fits, length-append xs ys);
      }

  pub operands_rest : (xs ys : List Operand) → OperandsAt t o (xs ++ ys) → OperandsAt t (o + length xs) ys
  operands_rest xs ys h =
      record {
        stands = stands_rest no_operand t o xs ys (o + length xs) refl h.stands;
        fits = omega (arith, h.fits, length-append xs ys);
      }

-- Rows and operands stand together.
pub record PartAt (t : Compiled) (r o : ℕ) (rows : List Row) (xs : List Operand) : Type 0 where
  pub rows_at : StandsAt end_row t.rows r rows
  pub operands_at : OperandsAt t.operands o xs
  pub fits : r + length rows ≤ most_rows

module _ (t : Compiled) (r o : ℕ) where
  -- the first rows with the first operands, and what follows them
  pub part_front : (rs ss : List Row) (xs ys : List Operand) → PartAt t r o (rs ++ ss) (xs ++ ys) → PartAt t r o rs xs
  part_front rs ss xs ys h =
      record {
        rows_at = stands_front end_row t.rows r rs ss h.rows_at;
        operands_at = operands_front t.operands o xs ys h.operands_at;
        fits = omega (arith, h.fits, length-append rs ss);
      }

  pub part_rest : (rs ss : List Row) (xs ys : List Operand) (n : ℕ) → n ≡ r + length rs → PartAt t r o (rs ++ ss) (xs ++ ys)
      → PartAt t n (o + length xs) ss ys
  part_rest rs ss xs ys n p h =
      record {
        rows_at = stands_rest end_row t.rows r rs ss n p h.rows_at;
        operands_at = operands_rest t.operands o xs ys h.operands_at;
        fits = omega (arith, h.fits, length-append rs ss);
      }

  -- without the first row, and with or without the first operands, where they are the row's
  pub part_tail : {row : Row} {rows : List Row} (xs ys : List Operand) → PartAt t r o (row ∷ rows) (xs ++ ys)
      → PartAt t (r + 1) (o + length xs) rows ys
  part_tail {row} {rows} xs ys h =
      record {
        rows_at = stands_tail end_row t.rows r row rows h.rows_at;
        operands_at = operands_rest t.operands o xs ys h.operands_at;
        fits = omega (arith, h.fits);
      }

  pub part_later : {row : Row} {rows : List Row} {xs : List Operand} → PartAt t r o (row ∷ rows) xs → PartAt t (r + 1) o rows xs
  part_later {row} {rows} h =
      record { rows_at = stands_tail end_row t.rows r row rows h.rows_at; operands_at = h.operands_at; fits = omega (arith, h.fits) }

  -- What the first row is, as the machine meets it.
  pub assign_at : {d at : ℕ} {x v : Expr} → PartAt t r o (assign_row d at o (o + length (operands_of x)) ∷ []) (operands_of x ++ operands_of v) → d ≤ most_deep
      → SoundExpr x → SoundExpr v → AssignAt t r d at x v
  assign_at {d} {at} {x} {v} h l f g =
      let second = o + length (operands_of x) in
      record {
        target = o;
        value = second;
        holds = stands_head end_row t.rows r (assign_row d at o second) [] h.rows_at;
        early = omega (arith, h.fits);
        level = l;
        target_is = record { stands = operands_front t.operands o (operands_of x) (operands_of v) h.operands_at; sound = f };
        value_is = record { stands = operands_rest t.operands o (operands_of x) (operands_of v) h.operands_at; sound = g };
      }

  pub guard_at : {d at other : ℕ} {rows : List Row} {g : Expr} (xs : List Operand) → PartAt t r o (guard_row d at o other ∷ rows) (operands_of g ++ xs)
      → d < most_deep → SoundExpr g → GuardAt t r d at g other
  guard_at {d} {at} {other} {rows} {g} xs h l f =
      record {
        operand = o;
        holds = stands_head end_row t.rows r (guard_row d at o other) rows h.rows_at;
        early = omega (arith, h.fits);
        level = l;
        operand_is = record { stands = operands_front t.operands o (operands_of g) xs h.operands_at; sound = f };
      }

  pub jump_at : {target : ℕ} {rows : List Row} {xs : List Operand} → PartAt t r o (jump_row target ∷ rows) xs
      → (r < target) ⊎ (kind_at t target ≡ guard_kind) → JumpAt t r target
  jump_at {target} {rows} h f =
      record { holds = stands_head end_row t.rows r (jump_row target) rows h.rows_at; early = omega (arith, h.fits); falls = f }

  pub end_at : {rows : List Row} {xs : List Operand} → PartAt t r o (end_row ∷ rows) xs → EndAt t r
  end_at {rows} h = record { holds = stands_head end_row t.rows r end_row rows h.rows_at; early = omega (arith, h.fits) }

-- A programme's blocks stand where their rows and operands do.
blocks_at : (t : Compiled) (bs : List Block) (r o : ℕ) → PartAt t r o (blocks_rows bs r o) (blocks_operands bs) → AllSound bs → BlocksAt t r o bs
unfolding blocks_rows blocks_operands AllSound BlocksAt
blocks_at t [] r o h s = tt
blocks_at t (b ∷ bs) r o h s =
    let c = b.command in
    let n = r + size c + 1 in
    let m = o + length (cmd_operands c) in
    let first = rows_of c 0 r o in
    let l : length first ≡ size c = rows_length c 0 r o in
    let l' : length (first ++ (end_row ∷ [])) ≡ length first + 1 = length-append first (end_row ∷ []) in
    let p : PartAt t r o (first ++ (end_row ∷ []) ++ blocks_rows bs n m) (cmd_operands c ++ blocks_operands bs) =
    rw (append_snoc first end_row (blocks_rows bs n m)) h in
    let q = part_front t r o (first ++ (end_row ∷ [])) (blocks_rows bs n m) (cmd_operands c) (blocks_operands bs) p in (
      record { rows = q.rows_at; operands = q.operands_at; fits = omega (arith, q.fits); sound = s.0 },
      blocks_at t bs n m (part_rest t r o (first ++ (end_row ∷ [])) (blocks_rows bs n m) (cmd_operands c) (blocks_operands bs) n (omega arith) p) s.1,
    )

-- the blocks of a programme that was compiled into tables with room for it stand there, from the first row and operand on
pub blocks_stand : (t old : Compiled) (bs : List Block) → t ≡ compiled bs old
    → length old.rows ≡ most_rows → length old.operands ≡ most_operands
    → length (blocks_rows bs 0 0) ≤ most_rows → length (blocks_operands bs) ≤ most_operands → AllSound bs → BlocksAt t 0 0 bs
unfolding compiled filled
blocks_stand t old bs e n m h k s = rw e (blocks_at (compiled bs old) bs 0 0 stood s)
  where
    stood : PartAt (compiled bs old) 0 0 (blocks_rows bs 0 0) (blocks_operands bs)
    stood = record {
      rows_at = sets_stand end_row old.rows 0 (blocks_rows bs 0 0) (omega arith);
      operands_at = record { stands = sets_stand no_operand old.operands 0 (blocks_operands bs) (omega arith); fits = omega arith };
      fits = omega arith;
    }
