-- For `written_good`: a command read from bytes nests no deeper than it may, with short sequences and literals that fit. Assumes nothing.
use Prim.Native.Nat.{ℕ, zero, suc, ◌+◌, ◌≤◌, ◌<◌}
use mathlib.Core.Path.{◌≡◌, refl}
use mathlib.Core.List.{List}
use native.Mathlib.Omega.{arith}
use native.Mathlib.Decide.{dec_lt}
use lib.ListN.{get_or, drop, length-take, get_or-eq_default}
use lib.Seq.{get_or-take, get_or-drop}
use Rattle.values.specs.Result.{Result, ok}
use Rattle.values.specs.Bytes.{Bytes, part}
use Rattle.values.specs.Value.{payload_width, value_at}
use Rattle.values.proofs.Result.{Post, Any, post_ok, post_refuse, post_map, post_require, post_bind, post_at}
use Rattle.values.proofs.BytesNumbers.{number_lt}
use Rattle.syntax.specs.Syntax.{Cmd, cmd, Body, skip, assign, seq, if, while, Cmds, nil, cons, LiteralsOf}
use Rattle.syntax.specs.Code.{Fault, Read, read_value, read_literal, most_nested, expr_at, CmdByte, skip_byte, assign_byte, seq_byte, if_byte, while_byte, cmd_byte, read_cmds, read_assign, read_seq, read_if, read_while, body_by, placed, read_body, most_deep, read_block}
use Rattle.syntax.proofs.CodeFirstByte.{body_deep, expr_reads}
use Rattle.pausing.proofs.StretchesPositions.{Fits}

-- a part of a list of bytes
pub part_bytes : (s : List ℕ) (at n : ℕ) → Bytes s → Bytes (part s at n)
part_bytes s at n b i = go (dec_lt i n)
  where
    go : Dec (i < n) → get_or (part s at n) i 0 < 256
    go (yes h) = rw (get_or-take n (drop at s) i 0 h, get_or-drop at s i 0) (b (at + i))
    go (no h) = rw (get_or-eq_default (part s at n) 0 {n = i} (omega (arith, length-take n (drop at s)))) (omega arith)

-- how many commands a sequence has
unfoldable pub count_cmds : Cmds → ℕ
count_cmds nil = 0
count_cmds (cons c cs) = suc (count_cmds cs)

-- inside `depth` commands, where there are m slots
module _ (m : ℕ) where
  unfoldable mutual
    pub Fine : ℕ → Cmd → Type 0
    Fine depth (cmd at b) = (depth < most_deep) × FineBody depth b

    pub FineBody : ℕ → Body → Type 0
    FineBody depth skip = Unit {0}
    FineBody depth (assign x v) = LiteralsOf (Fits m) x × LiteralsOf (Fits m) v
    FineBody depth (seq cs) = (count_cmds cs < 256) × FineAll (depth + 1) cs
    FineBody depth (if g c d) = LiteralsOf (Fits m) g × Fine (depth + 1) c × Fine (depth + 1) d
    FineBody depth (while g c) = LiteralsOf (Fits m) g × Fine (depth + 1) c

    pub FineAll : ℕ → Cmds → Type 0
    FineAll depth nil = Unit {0}
    FineAll depth (cons c cs) = Fine depth c × FineAll depth cs

-- where something is read, P holds of its tree
abbrev Reads : {A : Type 0} → (A → Type 0) → Result Fault (Read A) → Type 0
Reads P r = Post (λ x. P x.tree) Any r

module _ (m : ℕ) (s : List ℕ) (bytes : Bytes s) where
  value : (at : ℕ) → Reads (Fits m) (read_value m s at)
  unfolding read_value value_at
  value at =
      post_require _ _ _ _ _ (λ _. post_require _ _ _ _ _ (λ _. post_require _ _ _ _ _ (λ _.
      post_require _ _ _ _ _ (λ g. post_ok _ _ _ (record { formed = g; small = number_lt s bytes payload_width (at + 1) }))
      (λ _. tt)) (λ _. tt)) (λ _. tt)) (λ _. tt)

  lit : (at : ℕ) → Reads (LiteralsOf (Fits m)) (read_literal m s at)
  unfolding read_literal LiteralsOf
  lit at = post_bind _ _ _ _ _ (value (at + 1)) (λ v g. post_ok _ _ _ g)

  expr : (at : ℕ) → Reads (LiteralsOf (Fits m)) (expr_at m s at)
  unfolding LiteralsOf
  expr at =
      expr_reads Any (λ _. tt) (λ _. tt) s (λ _ _ x. LiteralsOf (Fits m) x.tree) m (λ _. lit) (λ _ _ _ g. g) (λ _ _ _ _ _ g k. (g, k)) most_nested at

  module _ (inner : ℕ → Result Fault (Read Cmd)) (depth : ℕ) (h : (p : ℕ) → Reads (Fine m (depth + 1)) (inner p)) where
    cmds : (n at : ℕ) → Reads (λ cs. (count_cmds cs ≡ n) × FineAll m (depth + 1) cs) (read_cmds inner n at)
    unfolding read_cmds count_cmds FineAll
    cmds zero at = post_ok _ _ _ (refl, tt)
    cmds (suc n) at =
        post_bind (λ x. Fine m (depth + 1) x.tree) _ _ _ _ (h at) λ c g.
        post_bind _ _ _ _ _ (cmds n c.next) (λ cs gs. post_ok _ _ _ (omega (arith, gs.0), (g, gs.1)))

    body_by_law : (b : CmdByte) (at : ℕ) → Reads (FineBody m depth) (body_by b inner m s at)
    unfolding body_by read_assign read_seq read_if read_while FineBody
    body_by_law skip_byte at = post_ok _ _ _ tt
    body_by_law assign_byte at =
        post_bind _ _ _ _ _ (expr _) λ x g. post_bind _ _ _ _ _ (expr _) (λ v k. post_ok _ _ _ (g, k))
    body_by_law seq_byte at =
        post_require _ _ _ _ _ (λ _. post_require _ _ _ _ _ (λ _.
        post_bind _ _ _ _ _ (cmds _ _) (λ cs g. post_ok _ _ _ (omega (arith, g.0, bytes (at + 1)), g.1))) (λ _. tt)) (λ _. tt)
    body_by_law if_byte at =
        post_bind _ _ _ _ _ (expr _) λ x g.
        post_bind (λ x. Fine m (depth + 1) x.tree) _ _ _ _ (h _) λ c k.
        post_bind (λ x. Fine m (depth + 1) x.tree) _ _ _ _ (h _) (λ d l. post_ok _ _ _ (g, k, l))
    body_by_law while_byte at =
        post_bind _ _ _ _ _ (expr _) λ x g. post_bind (λ x. Fine m (depth + 1) x.tree) _ _ _ _ (h _) (λ c k. post_ok _ _ _ (g, k))
    body_by_law CmdByte.unknown_byte at = post_refuse _ _ _ tt
    body_by_law CmdByte.no_byte at = post_refuse _ _ _ tt

  placed_at : (depth at : ℕ) → (r : Result Fault (Read Body)) → Reads (λ b. (depth < most_deep) × FineBody m depth b) r → Reads (Fine m depth) (placed at r)
  unfolding Fine
  placed_at depth at r h = post_bind (λ x. (depth < most_deep) × FineBody m depth x.tree) _ _ _ _ h (λ b g. post_ok _ _ _ g)

  body : (deep depth : ℕ) (at : ℕ) → depth + deep ≤ most_deep → Reads (λ b. (depth < most_deep) × FineBody m depth b) (read_body deep m s at)
  unfolding read_body
  body zero depth at l = body_deep Any (λ _. tt) (λ _. tt) s _ at (cmd_byte s at)
  body (suc deep) depth at l =
      post_map _ _ _ _ _ (body_by_law (λ p. placed p (read_body deep m s p)) depth
      (λ p. placed_at (depth + 1) p (read_body deep m s p) (body deep (depth + 1) p (omega arith))) (cmd_byte s at) at) (λ x g. (omega arith, g)) (λ _ q. q)

  pub block_fine : (c : Cmd) → read_block m s ≡ ok c → Fine m 0 c
  unfolding read_block
  block_fine c e = post_at (Fine m 0) Any _ c whole e
    where
      whole : Post (Fine m 0) Any (read_block m s)
      whole =
          post_bind (λ x. Fine m 0 x.tree) _ _ _ _ (placed_at 0 0 _ (body most_deep 0 0 (omega arith))) λ x g.
          post_require _ _ _ _ _ (λ _. post_ok _ _ _ g) (λ _. tt)
