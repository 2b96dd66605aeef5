-- A command that stands in the compiled tables: what its rows are, and where its parts stand. Assumes nothing.
use Prim.Native.Nat.{ℕ, zero, suc, ◌+◌, ◌≤◌}
use mathlib.Core.Path.{◌≡◌, refl}
use mathlib.Core.Logic.{◌⊎◌, inl, inr}
use mathlib.Core.List.{List, [], ◌∷◌, ◌++◌, append-nil}
use native.Mathlib.Omega.{arith}
use lib.ListN.{length, length-append}
use Rattle.syntax.specs.Syntax.{Expr, Cmd, cmd, assign, seq, if, while, Cmds, cons, Exprs, ExprsAll}
use Rattle.syntax.specs.declared.Operand.{Operand}
use Rattle.syntax.specs.declared.Compiled.{Compiled}
use Rattle.syntax.specs.declared.Row.{Row}
use Rattle.syntax.specs.Rows.{jump_row, end_row, operands_of, cmd_operands, all_operands, between, past, rows_of, rows_all, size, Shallow, ShallowAll, most_rows}
use Rattle.syntax.proofs.Rows.{rows_length}
use Rattle.machine.specs.CompiledRuns.{SoundExpr, AssignAt, GuardAt, JumpAt, EndAt, BlockAt}
use Rattle.machine.proofs.CompiledTables.{kind_guard, PartAt, part_front, part_rest, part_tail, part_later, assign_at, guard_at, jump_at, end_at}

module _ (t : Compiled) where
  -- a command inside d guards stands from row r and operand o on, and so do commands one after the other
  pub record Laid (c : Cmd) (d r o : ℕ) : Type 0 where
    pub part : PartAt t r o (rows_of c d r o) (cmd_operands c)
    pub shallow : Shallow d c
    pub exprs : Exprs SoundExpr c

  pub record LaidAll (cs : Cmds) (d r o : ℕ) : Type 0 where
    pub part : PartAt t r o (rows_all cs d r o) (all_operands cs)
    pub shallow : ShallowAll d cs
    pub exprs : ExprsAll SoundExpr cs

  pub laid_assign : {at : ℕ} {x v : Expr} {d r o : ℕ} → Laid (cmd at (assign x v)) d r o → AssignAt t r d at x v
  unfolding rows_of cmd_operands Shallow Exprs
  laid_assign {r = r} {o} h = assign_at t r o h.part h.shallow h.exprs.0 h.exprs.1

  pub laid_seq : {at : ℕ} {cs : Cmds} {d r o : ℕ} → Laid (cmd at (seq cs)) d r o → LaidAll cs d r o
  unfolding rows_of cmd_operands Shallow Exprs
  laid_seq h = record { part = h.part; shallow = h.shallow; exprs = h.exprs }

  module _ {c : Cmd} {cs : Cmds} {d r o : ℕ} (h : LaidAll (cons c cs) d r o) where
    pub laid_first : Laid c d r o
    unfolding rows_of cmd_operands Shallow Exprs
    laid_first =
        record {
          part = part_front t r o (rows_of c d r o) (rows_all cs d (r + size c) (o + length (cmd_operands c))) (cmd_operands c) (all_operands cs) h.part;
          shallow = h.shallow.0;
          exprs = h.exprs.0;
        }

    pub laid_rest : LaidAll cs d (r + size c) (o + length (cmd_operands c))
    unfolding rows_of cmd_operands Shallow Exprs
    laid_rest =
        record {
          part =
              part_rest t r o (rows_of c d r o) (rows_all cs d (r + size c) (o + length (cmd_operands c))) (cmd_operands c) (all_operands cs) (r + size c) (omega (arith, rows_length c d r o))
              h.part;
          shallow = h.shallow.1;
          exprs = h.exprs.1;
        }

  -- Where a part ends: at the row where control comes to, or at a jump there
  abbrev pub Way : ℕ → ℕ → Type 0
  Way r r' = (r ≡ r') ⊎ JumpAt t r r'

  -- After a then-part: the way from its end past the else-part, and the else-part. Where that has rows, the way is a jump; else it is empty.
  record Past (mid other after o : ℕ) (rows : List Row) (xs : List Operand) : Type 0 where
    way : Way mid after
    part : PartAt t other o rows xs

  past_then : (n mid other after o : ℕ) (rows : List Row) (xs : List Operand) → other ≡ mid + between n → after ≡ other + n
      → PartAt t mid o (past n after ++ rows) xs → Past mid other after o rows xs
  unfolding between past
  past_then zero mid other after o rows xs e f h =
      let e' : other ≡ mid = omega arith in
      record { way = inl (omega arith); part = rw e' h }
  past_then (suc n) mid other after o rows xs e f h =
      record { way = inr (jump_at t mid o h (inl (omega arith))); part = rw e (part_later t mid o h) }

  -- an if: its guard, its parts, and the way from the first past the second
  pub record LaidIf (g : Expr) (c e : Cmd) (d r at : ℕ) : Type 0 where
    pub guard : GuardAt t r d at g (r + 1 + size c + between (size e))
    pub first_operand : ℕ
    pub first : Laid c (d + 1) (r + 1) first_operand
    pub way : Way (r + 1 + size c) (r + 1 + size c + between (size e) + size e)
    pub second_operand : ℕ
    pub second : Laid e (d + 1) (r + 1 + size c + between (size e)) second_operand

  pub laid_if : {at : ℕ} {g : Expr} {c e : Cmd} {d r o : ℕ} → Laid (cmd at (if g c e)) d r o → LaidIf g c e d r at
  unfolding rows_of cmd_operands Shallow Exprs
  laid_if {at} {g} {c} {e} {d} {r} {o} h =
      let mid = r + 1 + size c in
      let other = mid + between (size e) in
      let after = other + size e in
      let inner = o + length (operands_of g) in
      let n = inner + length (cmd_operands c) in
      let first = rows_of c (d + 1) (r + 1) inner in
      let second = rows_of e (d + 1) other n in
      let rest = past (size e) after ++ second in
      let parts : PartAt t (r + 1) inner (first ++ rest) (cmd_operands c ++ cmd_operands e) = part_tail t r o (operands_of g) (cmd_operands c ++ cmd_operands e) h.part in
      let l : length first ≡ size c = rows_length c (d + 1) (r + 1) inner in
      let on = past_then (size e) mid other after n second (cmd_operands e) refl refl
      (part_rest t (r + 1) inner first rest (cmd_operands c) (cmd_operands e) mid (omega arith) parts) in
      record {
        guard = guard_at t r o (cmd_operands c ++ cmd_operands e) h.part h.shallow.0 h.exprs.0;
        first_operand = inner;
        first =
            record {
              part = part_front t (r + 1) inner first rest (cmd_operands c) (cmd_operands e) parts;
              shallow = h.shallow.1;
              exprs = h.exprs.1;
            };
        way = on.way;
        second_operand = n;
        second = record { part = on.part; shallow = h.shallow.2; exprs = h.exprs.2 };
      }

  -- a while: its guard, its body, and the jump back
  pub record LaidWhile (g : Expr) (c : Cmd) (d r at : ℕ) : Type 0 where
    pub guard : GuardAt t r d at g (r + 1 + size c + 1)
    pub operand : ℕ
    pub body : Laid c (d + 1) (r + 1) operand
    pub back : JumpAt t (r + 1 + size c) r

  pub laid_while : {at : ℕ} {g : Expr} {c : Cmd} {d r o : ℕ} → Laid (cmd at (while g c)) d r o → LaidWhile g c d r at
  unfolding rows_of cmd_operands Shallow Exprs
  laid_while {at} {g} {c} {d} {r} {o} h =
      let mid = r + 1 + size c in
      let inner = o + length (operands_of g) in
      let first = rows_of c (d + 1) (r + 1) inner in
      let a : GuardAt t r d at g (mid + 1) = guard_at t r o (cmd_operands c) h.part h.shallow.0 h.exprs.0 in
      let parts : PartAt t (r + 1) inner (first ++ (jump_row r ∷ [])) (cmd_operands c ++ []) =
      rw (append-nil (cmd_operands c)) (part_tail t r o (operands_of g) (cmd_operands c) h.part) in
      let l : length first ≡ size c = rows_length c (d + 1) (r + 1) inner in
      let second = part_rest t (r + 1) inner first (jump_row r ∷ []) (cmd_operands c) [] mid (omega arith) parts in
      record {
        guard = a;
        operand = inner;
        body = record { part = part_front t (r + 1) inner first (jump_row r ∷ []) (cmd_operands c) [] parts; shallow = h.shallow.1; exprs = h.exprs.1 };
        back = jump_at t mid _ second (inr (kind_guard a.holds));
      }

  -- a block: its command, and its end row
  pub block_laid : (r o : ℕ) (c : Cmd) → BlockAt t r o c → Laid c 0 r o × EndAt t (r + size c)
  block_laid r o c a =
      let first = rows_of c 0 r o in
      let e : length first ≡ size c = rows_length c 0 r o in
      let whole : r + length (first ++ (end_row ∷ [])) ≤ most_rows = omega (arith, a.fits, length-append first (end_row ∷ [])) in
      let block : PartAt t r o (first ++ (end_row ∷ [])) (cmd_operands c) = record { rows_at = a.rows; operands_at = a.operands; fits = whole } in
      let parts : PartAt t r o (first ++ (end_row ∷ [])) (cmd_operands c ++ []) = rw (append-nil (cmd_operands c)) block in (
        record { part = part_front t r o first (end_row ∷ []) (cmd_operands c) [] parts; shallow = a.sound.shallow; exprs = a.sound.exprs },
        end_at t _ _ (part_rest t r o first (end_row ∷ []) (cmd_operands c) [] (r + size c) (omega arith) parts),
      )
