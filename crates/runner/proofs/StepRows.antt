-- Rows that take a step: an assignment's or a guard's row in the tables is one, and the path to such a row leads back to it. Assumes nothing.
use Prim.Native.Nat.{ℕ, zero, suc, ◌+◌, ◌-◌, ◌≤◌, ◌<◌}
use mathlib.Core.Path.{◌≡◌, refl, sym, ap, ◌∙◌}
use mathlib.Core.Bool.{Bool, true, false}
use mathlib.Core.Logic.{◌⊎◌, ⊎_elim}
use mathlib.Core.List.{List, [], ◌∷◌, ◌++◌}
use native.Mathlib.Omega.{arith}
use lib.ListN.{length, get_or, length-append, get_or-append}
use lib.Seq.{get_or-append-add}
use lib.Dec.{eqb, ltb, leb}
use borrow.Author.Tests.{eqb-true, eqb-false, ltb-true, ltb-false, leb-true, leb-false}
use Rattle.syntax.specs.declared.Row.{Row}
use Rattle.lattice.specs.Order.{Label}
use Rattle.syntax.specs.Syntax.{Expr, Cmd, cmd, Body, skip, assign, seq, if, while, Cmds, nil, cons}
use Rattle.syntax.specs.declared.Compiled.{Compiled}
use Rattle.syntax.specs.Rows.{kind_of, assign_kind, guard_kind, jump_kind, guard_row, jump_row, end_row, operands_of, cmd_operands, between, past, size, size_body, size_all, rows_of, rows_body, rows_all}
use Rattle.syntax.proofs.Rows.{rows_length}
use Rattle.calculus.specs.Calculus.{choose}
use Rattle.pausing.specs.Paths.{Open}
use Rattle.machine.specs.CompiledRuns.{kind_at, BlockAt}
use Rattle.pausing.specs.RowPaths.{Found, later, entry, path_to, path_body, find_in, row_to, row_body, row_in, Along, AlongBody, AlongIn}
use Rattle.paths.specs.CodeLayout.{Stepping, SteppingBody, SteppingAll}

-- The i-th of some rows is no jump.
abbrev NoJump : List Row → ℕ → Type 0
NoJump rows i = kind_of (get_or rows i end_row) ≡ jump_kind → ⊥

row_front : (xs ys : List Row) (i : ℕ) → i < length xs → NoJump (xs ++ ys) i → NoJump xs i
row_front xs ys i h f = rw (sym (get_or-append xs ys end_row i h)) f

row_rest : (xs ys : List Row) (i j : ℕ) → i ≡ length xs + j → NoJump (xs ++ ys) i → NoJump ys j
row_rest xs ys i j h f = rw (sym (get_or-append-add xs ys j end_row)) (rw h at f)

row_tail : (x : Row) (xs : List Row) (i : ℕ) → 0 < i → NoJump (x ∷ xs) i → NoJump xs (i - 1)
row_tail x xs zero h f = absurd (omega arith)
row_tail x xs (suc i) h f = let e : suc i - 1 ≡ i = omega arith in rw e f

-- past the jump between an if's parts, where there is one
row_past : (n after : ℕ) (ys : List Row) (j : ℕ) → j < between n + n → NoJump (past n after ++ ys) j → (between n ≤ j) × NoJump ys (j - between n)
unfolding between past kind_of
row_past zero after ys j h f = absurd (omega arith)
row_past (suc n) after ys zero h f = absurd (f refl)
row_past (suc n) after ys (suc j) h f = let e : suc j - 1 ≡ j = omega arith in (omega arith, rw e f)

mutual
  unfolding kind_of size size_body size_all rows_of rows_body rows_all Stepping SteppingBody SteppingAll

  rows_step : (c : Cmd) (depth r o i : ℕ) → i < size c → NoJump (rows_of c depth r o) i → Stepping c i
  rows_step (cmd at b) depth r o i h f = body_step b at depth r o i h f

  body_step : (b : Body) (at depth r o i : ℕ) → i < size_body b → NoJump (rows_body b at depth r o) i → SteppingBody b i
  body_step skip at depth r o i h f = absurd (omega arith)
  body_step (assign x v) at depth r o i h f = omega arith
  body_step (seq cs) at depth r o i h f = all_step cs depth r o i h f
  body_step (if g c d) at depth r o i h f =
      let other = r + 1 + size c + between (size d) in
      let inner = o + length (operands_of g) in
      let first = rows_of c (depth + 1) (r + 1) inner in
      let second = rows_of d (depth + 1) other (inner + length (cmd_operands c)) in
      let rest = past (size d) (other + size d) ++ second in
      let l : length first ≡ size c = rows_length c (depth + 1) (r + 1) inner in
      let tail : 0 < i → NoJump (first ++ rest) (i - 1) = λ z. row_tail (guard_row depth at o other) (first ++ rest) i z f in (
        λ z u. rows_step c (depth + 1) (r + 1) inner (i - 1) (omega arith) (row_front first rest (i - 1) (omega arith) (tail z)),
        λ z. let q = row_past (size d) (other + size d) second (i - 1 - size c) (omega arith) (row_rest first rest (i - 1) (i - 1 - size c) (omega arith) (tail (omega arith))) in
            let e : i - 1 - size c - between (size d) ≡ i - (1 + size c + between (size d)) = omega arith in
            (omega (arith, q.0), rows_step d (depth + 1) other (inner + length (cmd_operands c)) (i - (1 + size c + between (size d))) (omega (arith, q.0)) (rw e at q.1)),
      )
  body_step (while g c) at depth r o i h f =
      let inner = o + length (operands_of g) in
      let first = rows_of c (depth + 1) (r + 1) inner in
      let l : length first ≡ size c = rows_length c (depth + 1) (r + 1) inner in
      λ z. let tail = row_tail (guard_row depth at o (r + 1 + size c + 1)) (first ++ (jump_row r ∷ [])) i z f in
      let n : i ≡ 1 + size c → ⊥ = λ e. row_rest first (jump_row r ∷ []) (i - 1) 0 (omega arith) tail refl in
      rows_step c (depth + 1) (r + 1) inner (i - 1) (omega (arith, n)) (row_front first (jump_row r ∷ []) (i - 1) (omega (arith, n)) tail)

  all_step : (cs : Cmds) (depth r o i : ℕ) → i < size_all cs → NoJump (rows_all cs depth r o) i → SteppingAll cs i
  all_step nil depth r o i h f = absurd (omega arith)
  all_step (cons c cs) depth r o i h f =
      let first = rows_of c depth r o in
      let n = o + length (cmd_operands c) in
      let rest = rows_all cs depth (r + size c) n in
      let l : length first ≡ size c = rows_length c depth r o in (
        λ z. rows_step c depth r o i z (row_front first rest i (omega arith) f),
        λ z. all_step cs depth (r + size c) n (i - size c) (omega arith) (row_rest first rest i (i - size c) (omega arith) f),
      )

-- a row of a block that stands in the tables
pub block_steps : (t : Compiled) (r o : ℕ) (c : Cmd) (i : ℕ) → BlockAt t r o c → i < size c
    → (kind_at t (r + i) ≡ assign_kind) ⊎ (kind_at t (r + i) ≡ guard_kind) → Stepping c i
block_steps t r o c i b h k =
    let first = rows_of c 0 r o in
    let l : length first ≡ size c = rows_length c 0 r o in
    let m = length-append first (end_row ∷ []) in
    let e = b.rows.at i (omega (arith, m)) ∙ get_or-append first (end_row ∷ []) end_row i (omega arith) in
    rows_step c 0 r o i h (λ z. let y : kind_at t (r + i) ≡ jump_kind = ap kind_of e ∙ z in ⊎_elim (λ q. omega (arith, q, y)) (λ q. omega (arith, q, y)) k)

-- The path to a row that takes a step leads back to the row, and has the labels by depth.
module _ (l : List Label) where
  abbrev Back : Cmd → ℕ → ℕ → ℕ → List Open → Type 0
  Back c r d i p = (row_to c p r ≡ r + i) × Along l c d (get_or l d 0) p

  abbrev BackBody : Body → ℕ → ℕ → ℕ → List Open → Type 0
  BackBody b r d i p = (row_body b p r ≡ r + i) × AlongBody l b d (get_or l d 0) p

  abbrev BackIn : Cmds → ℕ → ℕ → ℕ → Found → Type 0
  BackIn cs r d i f = (row_in cs f.child f.rest r ≡ r + i) × AlongIn l cs f.child d (get_or l d 0) (get_or l d 0) f.rest

  module _ (g : Expr) (c e : Cmd) (r d i : ℕ) where
    -- which part of an if a row stands in
    if_back : (a b : Bool) → eqb i 0 ≡ a → leb i (size c) ≡ b
        → (0 < i → i ≤ size c → Back c (r + 1) (d + 1) (i - 1) (path_to l c (d + 1) (i - 1)))
        → (size c < i → (1 + size c + between (size e) ≤ i)
        × (Back e (r + 1 + size c + between (size e)) (d + 1) (i - (1 + size c + between (size e))) (path_to l e (d + 1) (i - (1 + size c + between (size e))))))
        → BackBody (if g c e) r d i (choose a (λ _. []) (λ j.
        choose b (λ k. entry l 0 (d + 1) ∷ path_to l c (d + 1) (k - 1)) (λ k. entry l 1 (d + 1) ∷ path_to l e (d + 1) (k - (1 + size c + between (size e)))) j) i)
    unfolding choose row_body AlongBody
    if_back true b p q f k = (omega (arith, eqb-true i 0 p), refl)
    if_back false true p q f k =
        let n = eqb-false i 0 p in
        let o = f (omega arith) (leb-true i (size c) q) in
        (omega (arith, o.0), (refl, λ _. o.1, λ x. absurd (let y : ◌≡◌ {A = ℕ} 0 1 = cc in omega arith)))
    if_back false false p q f k =
        let o = k (leb-false i (size c) q) in
        (omega (arith, o.0, o.1.0), (refl, λ x. absurd (let y : ◌≡◌ {A = ℕ} 0 1 = cc in omega arith), λ _. o.1.1))

    while_back : (a : Bool) → eqb i 0 ≡ a → (0 < i → Back c (r + 1) (d + 1) (i - 1) (path_to l c (d + 1) (i - 1)))
        → BackBody (while g c) r d i (choose a (λ _. []) (λ j. entry l 0 (d + 1) ∷ path_to l c (d + 1) (j - 1)) i)
    unfolding choose row_body AlongBody
    while_back true p f = (omega (arith, eqb-true i 0 p), refl)
    while_back false p f =
        let n = eqb-false i 0 p in
        let o = f (omega arith) in
        (omega (arith, o.0), (refl, o.1))

  in_back : (c : Cmd) (cs : Cmds) (r d i : ℕ) (a : Bool) → ltb i (size c) ≡ a → (i < size c → Back c r d i (path_to l c d i))
      → (size c ≤ i → BackIn cs (r + size c) d (i - size c) (find_in l cs d (i - size c)))
      → BackIn (cons c cs) r d i (choose a (λ j. record { child = 0; rest = path_to l c d j }) (λ j. later (find_in l cs d (j - size c))) i)
  unfolding choose row_in AlongIn
  in_back c cs r d i true p f k = let o = f (ltb-true i (size c) p) in (o.0, (refl, refl, o.1))
  in_back c cs r d i false p f k = let m = ltb-false i (size c) p in let o = k m in (omega (arith, o.0), o.1)

  mutual
    unfolding Stepping SteppingBody SteppingAll path_to path_body find_in row_to row_body row_in Along AlongBody AlongIn

    path_back : (c : Cmd) (r d i : ℕ) → Stepping c i → Back c r d i (path_to l c d i)
    path_back (cmd at b) r d i s = body_back b r d i s

    body_back : (b : Body) (r d i : ℕ) → SteppingBody b i → BackBody b r d i (path_body l b d i)
    body_back skip r d i s = absurd s
    body_back (assign x v) r d i s = (omega arith, (refl, refl))
    body_back (seq cs) r d i s = all_back cs r d i s
    body_back (if g c e) r d i s =
        if_back g c e r d i (eqb i 0) (leb i (size c)) refl refl (λ p q. path_back c (r + 1) (d + 1) (i - 1) (s.0 p q))
        (λ p. let k = s.1 p in
        (k.0, path_back e (r + 1 + size c + between (size e)) (d + 1) (i - (1 + size c + between (size e))) k.1))
    body_back (while g c) r d i s = while_back g c c r d i (eqb i 0) refl (λ p. path_back c (r + 1) (d + 1) (i - 1) (s p))

    all_back : (cs : Cmds) (r d i : ℕ) → SteppingAll cs i → BackIn cs r d i (find_in l cs d i)
    all_back nil r d i s = absurd s
    all_back (cons c cs) r d i s =
        in_back c cs r d i (ltb i (size c)) refl (λ p. path_back c r d i (s.0 p)) (λ p. all_back cs (r + size c) d (i - size c) (s.1 p))

  -- of a block's command: from its first row, outside every guard
  pub row_back : (c : Cmd) (i : ℕ) → Stepping c i → row_to c (path_to l c 0 i) 0 ≡ i
  row_back c i s = (path_back c 0 0 i s).0 ∙ omega arith

  pub along_back : (c : Cmd) (i : ℕ) → Stepping c i → Along l c 0 (get_or l 0 0) (path_to l c 0 i)
  along_back c i s = (path_back c 0 0 i s).1
