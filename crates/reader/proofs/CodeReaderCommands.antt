-- Laws of the code reader (specs/CodeReader.antt): the cases of reading commands, what each answers and puts into the tables. Assumes nothing.
use Prim.Native.Nat.{ℕ, zero, suc, ◌+◌, ◌-◌, ◌<◌, ◌≤◌}
use mathlib.Core.Path.{◌≡◌, refl, sym}
use mathlib.Core.List.{List}
use native.Mathlib.Numerals.{sub-one}
use native.Mathlib.Omega.{arith}
use lib.ListN.{length, get_or}
use borrow.Author.Tests.{lt-ltb, le-leb}
use Rattle.std.specs.Prelude as std
use Rattle.values.specs.Result.{Result, ok, refuse, ◌>>=◌, require}
use Rattle.reader.specs.declared.Fault as reader
use Rattle.reader.specs.declared.Spot.{Spot}
use Rattle.reader.specs.declared.code.Command.{Command}
use Rattle.reader.specs.declared.code.Command.TheVariants as commands
use Rattle.syntax.specs.declared.Compiled.{Compiled}
use Rattle.syntax.specs.Syntax.{Cmd, cmd, seq, if, while, cons}
use Rattle.syntax.specs.Code.{Fault, Read, up_to, ill_formed, too_deep, CmdByte, sorted, cmd_byte, expr_at, read_cmds, read_seq, read_if, read_while, body_by, body_too_deep, read_body, read_cmd}
use Rattle.syntax.specs.Rows.{cmd_operands, body_operands, rows_of, rows_body}
use Rattle.reader.specs.CodeReader.{first_byte, cmd_emits, body_emits, all_emits, read_guarded, spot_at, Limit, limit_of, Ended, Reads}
use Rattle.syntax.proofs.CodeFirstByte.{cmd_stands, body_none, sorted_unknown}
use Rattle.reader.proofs.CodeReaderEmission.{cons_emitted}
use Rattle.reader.proofs.CodeReaderParts.{stopped, stopped_on, went, ended, reads_as, passed}
use Rattle.reader.proofs.CodeReaderRoom.{bytes_on}

-- A command that is refused at its first byte, ..
pub body_unknown : (deep m : ℕ) (s : List ℕ) (at : ℕ) → at < length s → (get_or s at 0 ≡ 0x20 → ⊥) → (get_or s at 0 ≡ 0x21 → ⊥) → (get_or s at 0 ≡ 0x22 → ⊥)
    → (get_or s at 0 ≡ 0x23 → ⊥) → (get_or s at 0 ≡ 0x24 → ⊥) → read_body deep m s at ≡ refuse (ill_formed at)
unfolding read_body body_by body_too_deep
body_unknown zero m s at h f g i j k = rw (cmd_stands s at h, sorted_unknown _ f g i j k)
body_unknown (suc deep) m s at h f g i j k = rw (cmd_stands s at h, sorted_unknown _ f g i j k)

-- .. and one that is known by it
pub byte_stands : (s : List ℕ) (at b : ℕ) → at < length s → get_or s at 0 ≡ b → cmd_byte s at ≡ sorted b
byte_stands s at b h e = rw (cmd_stands s at h, e)

pub ruleset command_cases = (body_none, body_unknown, byte_stands)

-- A command where none is allowed any more, ..
pub body_deep : (deep m : ℕ) (s : List ℕ) (at : ℕ) (c : Command) → deep ≡ 0 → cmd_byte s at ≡ first_byte c → read_body deep m s at ≡ refuse (too_deep at)
unfolding read_body body_too_deep
body_deep deep m s at commands.Skip z h = rw (z, h)
body_deep deep m s at commands.Assign z h = rw (z, h)
body_deep deep m s at commands.Sequence z h = rw (z, h)
body_deep deep m s at commands.If z h = rw (z, h)
body_deep deep m s at commands.While z h = rw (z, h)

-- .. and where one is.
pub body_is : (deep m : ℕ) (s : List ℕ) (at : ℕ) (b : CmdByte) → 0 < deep → cmd_byte s at ≡ b → read_body deep m s at ≡ body_by b (read_cmd (deep - 1) m s) m s at
unfolding read_body
body_is zero m s at b z h = absurd (omega arith)
body_is (suc deep) m s at b z h = rw (h, sub-one)

-- what is answered of a command's body is answered of the command
pub cmd_reads : (deep depth m : ℕ) (s : List ℕ) (limit : Limit) (from : Spot) (old new : Compiled) (b : CmdByte) (r : std.Result Spot reader.Fault)
    → 0 < deep → cmd_byte s from.at ≡ b
    → Reads (body_emits from.at depth) (body_by b (read_cmd (deep - 1) m s) m s from.at) limit from old new r
    → Reads (cmd_emits depth) (read_cmd deep m s from.at) limit from old new r
unfolding rows_of cmd_operands
cmd_reads deep depth m s limit from old new b r z h y =
    rw (body_is deep m s from.at b z h) (reads_as (λ to e. went _ e (ended (cmd from.at e.tree) e.emitted)) (λ f t. stopped _ t) r y)

-- what is made of two parts, and what is made of that
through : {A B C D : Type 0} (r : Result Fault A) (q : A → Result Fault B) (f : A → B → C) (k : C → Result Fault D)
    → (r >>= (λ a. q a >>= λ b. ok (f a b)) >>= k) ≡ (r >>= λ a. q a >>= λ b. k (f a b))
unfolding ◌>>=◌
through (refuse e) q f k = refl
through (ok a) q f k = go (q a)
  where
    go : (x : Result Fault _) → (x >>= (λ b. ok (f a b)) >>= k) ≡ (x >>= λ b. k (f a b))
    go (ok b) = refl
    go (refuse e) = refl

-- an if, or a while, by its guard and the first command inside it
module _ (inner : ℕ → Result Fault (Read Cmd)) (m : ℕ) (s : List ℕ) (at : ℕ) where
  pub while_guarded : read_while inner m s at ≡ (read_guarded inner m s at >>= λ g. up_to g.next (while g.tree.guard g.tree.inside))
  unfolding read_while read_guarded
  while_guarded = sym (through (expr_at m s (at + 1)) (λ g. inner g.next) _ _)

  pub if_guarded : read_if inner m s at
      ≡ (read_guarded inner m s at >>= λ g. inner g.next >>= λ d. up_to d.next (if g.tree.guard g.tree.inside d.tree))
  unfolding read_if read_guarded
  if_guarded = sym (through (expr_at m s (at + 1)) (λ g. inner g.next) _ _)

-- Commands one after the other: the first, and then the rest.
pub cmds_more : (f : ℕ → Result Fault (Read Cmd)) (n at : ℕ) → 0 < n
    → read_cmds f n at ≡ (f at >>= λ c. read_cmds f (n - 1) c.next >>= λ cs. up_to cs.next (cons c.tree cs.tree))
unfolding read_cmds
cmds_more f zero at h = absurd (omega arith)
cmds_more f (suc n) at h = rw sub-one

-- the first was read, and then the rest
pub cmds_went : (depth : ℕ) (f : ℕ → Result Fault (Read Cmd)) (limit : Limit) (n : ℕ) {from mid : Spot} {old now : Compiled} (new : Compiled)
    (r : std.Result Spot reader.Fault) → 0 < n → Ended (cmd_emits depth) (f from.at) from mid old now → mid.row ≤ limit.rows → mid.operand ≤ limit.operands
    → Reads (all_emits depth) (read_cmds f (n - 1) mid.at) limit mid now new r → Reads (all_emits depth) (read_cmds f n from.at) limit from old new r
cmds_went depth f limit n {from = from} new r l z i j y =
    rw (cmds_more f n from.at l)
    (reads_as (λ to e. went _ z (went _ e (ended (cons z.tree e.tree) (cons_emitted depth z.tree e.tree z.emitted e.emitted))))
    (λ g t. stopped_on _ z i j (stopped _ t)) r y)

-- a count, and then what is answered of the commands after it
pub seq_counted : (depth : ℕ) (f : ℕ → Result Fault (Read Cmd)) (s : List ℕ) (from : Spot) (old new : Compiled) (r : std.Result Spot reader.Fault) {n : ℕ}
    → from.at + 1 < length s → get_or s (from.at + 1) 0 ≡ n → 2 ≤ n
    → Reads (all_emits depth) (read_cmds f n (from.at + 2)) (limit_of (length s) (spot_at (from.at + 2) from.row from.operand))
    (spot_at (from.at + 2) from.row from.operand) old new r
    → Reads (body_emits from.at depth) (read_seq f s from.at) (limit_of (length s) from) from old new r
unfolding read_seq require rows_body body_operands
seq_counted depth f s from old new r h e w y =
    rw (lt-ltb _ _ h, e, le-leb _ _ w)
    (passed _ _ old new r (bytes_on (omega arith) (omega arith))
    (reads_as (λ to z. went _ z (ended (seq z.tree) z.emitted)) (λ g t. stopped _ t) r y))
