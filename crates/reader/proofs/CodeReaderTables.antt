-- Laws of the tables (`filled`, `Kept`, syntax/specs/Rows.antt; `Emitted`, specs/CodeReader.antt): rows and operands put in one after the other, and
-- what stays. Assumes nothing.
use Prim.Native.Nat.{ℕ, suc, ◌+◌, ◌<◌, ◌≤◌}
use mathlib.Core.Path.{◌≡◌, refl, ap, ◌∙◌}
use mathlib.Core.List.{List, [], ◌∷◌, ◌++◌, append-nil}
use native.Mathlib.Numerals.{add-one}
use native.Mathlib.Omega.{arith}
use lib.ListN.{length, get_or, set, length-append}
use lib.Seq.{sets, length-sets, get_or-set_other, set_comm}
use Rattle.values.proofs.BytesWritten.{sets_append}
use Rattle.reader.specs.declared.Spot.{Spot}
use Rattle.syntax.specs.declared.Compiled.{Compiled}
use Rattle.syntax.specs.declared.Operand.{Operand}
use Rattle.syntax.specs.declared.Row.{Row}
use Rattle.syntax.specs.Rows.{filled, end_row, no_operand, KeptFrom, Kept}
use Rattle.reader.specs.CodeReader.{spot_at, row_on, Emitted}

-- A run of entries.
module _ {A : Type 0} where
  set_under : (vs l : List A) (i j : ℕ) (a : A) → j < i → set (sets l i vs) j a ≡ sets (set l j a) i vs
  set_under [] l i j a h = refl
  set_under (b ∷ vs) l i j a h =
      set_under vs (set l i b) (suc i) j a (omega arith)
      ∙ ap (λ (t : List A). sets t (suc i) vs) (set_comm l i j b a (λ e. omega arith))

  -- an entry put in after those that follow it
  set_before : (vs l : List A) (i : ℕ) (a : A) → set (sets l (i + 1) vs) i a ≡ sets l i (a ∷ vs)
  set_before vs l i a = rw add-one (set_under vs l (suc i) i a (omega arith))

  sets_past : (vs l : List A) (i j : ℕ) (d : A) → i + length vs ≤ j → get_or (sets l i vs) j d ≡ get_or l j d
  sets_past [] l i j d h = refl
  sets_past (a ∷ vs) l i j d h =
      sets_past vs (set l i a) (suc i) j d (omega arith) ∙ get_or-set_other l i j a d (λ e. omega arith)

-- one row put in, and one operand
abbrev pub put : ℕ → Row → Compiled → Compiled
put r a t = record { rows = set t.rows r a; operands = t.operands }

abbrev pub put_operand : ℕ → Operand → Compiled → Compiled
put_operand o x t = record { rows = t.rows; operands = set t.operands o x }

abbrev pub operand_on : Spot → Spot
operand_on s = spot_at s.at s.row (s.operand + 1)

-- What is put in after what was put in.
pub emitted_on : {rs rs' : List Row} {xs xs' : List Operand} {a b c : Spot} {t u v : Compiled} → Emitted rs xs a b t u → Emitted rs' xs' b c u v
    → Emitted (rs ++ rs') (xs ++ xs') a c t v
unfolding filled
emitted_on {rs} {rs'} {xs} {xs'} {a} {b} {c} {t} {u} {v} p q = record {
  rows_on = omega (arith, p.rows_on, q.rows_on, length-append rs rs');
  operands_on = omega (arith, p.operands_on, q.operands_on, length-append xs xs');
  tables = rw (q.tables, p.tables, p.rows_on, p.operands_on, sets_append t.rows a.row rs rs', sets_append t.operands a.operand xs xs');
}

-- one row, ..
row_put : (a : Row) (b : Spot) (t : Compiled) → Emitted (a ∷ []) [] b (row_on b) t (put b.row a t)
unfolding filled
row_put a b t = record { rows_on = refl; operands_on = omega arith; tables = refl }

-- .. and one operand, put in after what stands there
pub own_put : (x : Operand) (b c : Spot) (t : Compiled) → c.row ≡ b.row → c.operand ≡ b.operand + 1 → Emitted [] (x ∷ []) b c t (put_operand b.operand x t)
unfolding filled
own_put x b c t h k = record { rows_on = omega arith; operands_on = omega arith; tables = refl }

pub emitted_last : {rs : List Row} {xs : List Operand} {a b : Spot} {t u : Compiled} (r : Row) → Emitted rs xs a b t u
    → Emitted (rs ++ (r ∷ [])) xs a (row_on b) t (put b.row r u)
emitted_last {xs = xs} {b = b} {u = u} r p = rw append-nil at (emitted_on p (row_put r b u))

-- a row put in before what was put in from the next row on
pub emitted_first : {rs : List Row} {xs : List Operand} {a b : Spot} {t u : Compiled} (r : Row) → Emitted rs xs (row_on a) b t u
    → Emitted (r ∷ rs) xs a b t (put a.row r u)
unfolding filled
emitted_first {rs = rs} {a = a} {t = t} r p =
    record { rows_on = omega (arith, p.rows_on); operands_on = p.operands_on; tables = rw (p.tables, set_before rs t.rows a.row r) }

-- a row put in before, while what is put in further on stands already
pub emitted_past : {rs : List Row} {xs : List Operand} {a b : Spot} {t u : Compiled} (j : ℕ) (r : Row) → j < a.row → Emitted rs xs a b t u
    → Emitted rs xs a b (put j r t) (put j r u)
unfolding filled
emitted_past {rs = rs} {a = a} {t = t} j r h p =
    record { rows_on = p.rows_on; operands_on = p.operands_on; tables = rw (p.tables, set_under rs t.rows a.row j r h) }

-- no rows stand anywhere
pub emitted_rowless : {rs : List Row} {xs : List Operand} {a b : Spot} {t u : Compiled} (row : ℕ) → rs ≡ [] → Emitted rs xs a b t u
    → Emitted [] xs (spot_at a.at row a.operand) (spot_at b.at row b.operand) t u
unfolding filled
emitted_rowless row e p = let q = rw e at p in record { rows_on = omega arith; operands_on = q.operands_on; tables = q.tables }

pub emitted_none : (a b : Spot) (t : Compiled) → b.row ≡ a.row → b.operand ≡ a.operand → Emitted [] [] a b t t
unfolding filled
emitted_none a b t h k = record { rows_on = omega arith; operands_on = omega arith; tables = refl }

-- the byte that a spot stands at does not count
pub emitted_from : {rs : List Row} {xs : List Operand} {a b : Spot} {t u : Compiled} (at : ℕ) → Emitted rs xs (spot_at at a.row a.operand) b t u → Emitted rs xs a b t u
emitted_from at p = record { rows_on = p.rows_on; operands_on = p.operands_on; tables = p.tables }

-- What stays.
module _ {A : Type 0} (none : A) where
  from_self : (i : ℕ) (l : List A) → KeptFrom none i l l
  from_self i l = record { room = refl; same = λ j h. refl }

  from_on : (i : ℕ) (a b c : List A) → KeptFrom none i a b → KeptFrom none i b c → KeptFrom none i a c
  from_on i a b c p q = record { room = q.room ∙ p.room; same = λ j h. q.same j h ∙ p.same j h }

  from_later : (i j : ℕ) (a b : List A) → i ≤ j → KeptFrom none i a b → KeptFrom none j a b
  from_later i j a b h p = record { room = p.room; same = λ n l. p.same n (omega arith) }

  from_sets : (i k : ℕ) (l vs : List A) → k + length vs ≤ i → KeptFrom none i l (sets l k vs)
  from_sets i k l vs h = record { room = length-sets l k vs; same = λ j w. sets_past vs l k j none (omega arith) }

pub kept_self : (i j : ℕ) (t : Compiled) → Kept i j t t
kept_self i j t = record { rows = from_self _ _ _; operands = from_self _ _ _ }

pub kept_on : {i j : ℕ} {a b c : Compiled} → Kept i j a b → Kept i j b c → Kept i j a c
kept_on p q = record { rows = from_on _ _ _ _ _ p.rows q.rows; operands = from_on _ _ _ _ _ p.operands q.operands }

pub kept_later : {i j : ℕ} {a b : Compiled} (i' j' : ℕ) → i ≤ i' → j ≤ j' → Kept i j a b → Kept i' j' a b
kept_later i' j' h k p = record { rows = from_later _ _ _ _ _ h p.rows; operands = from_later _ _ _ _ _ k p.operands }

pub emitted_kept : {rs : List Row} {xs : List Operand} {a b : Spot} {t u : Compiled} (i j : ℕ) → b.row ≤ i → b.operand ≤ j → Emitted rs xs a b t u → Kept i j t u
unfolding filled
emitted_kept {rs = rs} {xs = xs} {a = a} {t = t} i j h k p =
    rw p.tables
    record {
      rows = from_sets end_row i a.row t.rows rs (omega (arith, p.rows_on));
      operands = from_sets no_operand j a.operand t.operands xs (omega (arith, p.operands_on));
    }
