-- Laws of a part that was read, and of what is read after it (`Ended`, `Turned`, specs/CodeReader.antt). Assumes nothing.
use Prim.Native.Nat.{ℕ, ◌≤◌}
use mathlib.Core.Path.{◌≡◌, refl}
use Rattle.std.specs.Prelude.{Ok, Err, MatchResult}
use Rattle.std.specs.Prelude as std
use Rattle.std.specs.Result.{IsErr, IsErrAnd}
use Rattle.std.proofs.lemmas.Result.{err_from_is_err_and}
use Rattle.values.specs.Result.{Result, refuse, ◌>>=◌}
use Rattle.reader.specs.declared.Fault.{Fault}
use Rattle.reader.specs.declared.Spot.{Spot}
use Rattle.syntax.specs.Code as code
use Rattle.syntax.specs.Code.{Read, up_to}
use Rattle.syntax.specs.declared.Compiled.{Compiled}
use Rattle.reader.specs.CodeReader.{Emits, Limit, spot_at, limit_of, fault_of, Emitted, Ended, Turned, Reads}
use Rattle.reader.proofs.CodeReaderTables.{emitted_from, kept_self, kept_on, kept_later, emitted_kept}
use Rattle.reader.proofs.CodeReaderRoom.{Onwards}

-- nothing was put in
pub refused : {A : Type 0} {p : Result code.Fault (Read A)} {g : code.Fault} {limit : Limit} {t : Compiled} {f : Fault} → fault_of f ≡ g → p ≡ refuse g
    → Turned p limit t t f
refused h i = record { is = rw h i; kept = kept_self _ _ _ }

-- what a `?` hands on
pub handed_on : (P : Spot → Type 0) (Q : Fault → Type 0) (r : std.Result Spot Fault) {f : Fault} → IsErr r × IsErrAnd r (λ g. g ≡ f) → Q f → MatchResult r P Q
handed_on P Q r h t = let x = err_from_is_err_and r h.1 in rw (x.1, x.2) t

-- what stays from a limit on stays from a later one on
pub later : {A : Type 0} {p : Result code.Fault (Read A)} {all : ℕ} {from at : Spot} {old new : Compiled} {f : Fault} → Onwards all from at
    → Turned p (limit_of all at) old new f → Turned p (limit_of all from) old new f
later o t = record { is = t.is; kept = kept_later _ _ o.rows o.operands t.kept }

-- Two parts: the first is refused, ..
module _ {A B : Type 0} {p : Result code.Fault (Read A)} (k : Read A → Result code.Fault (Read B)) {old mid : Compiled} where
  pub stopped : {limit : Limit} {f : Fault} → Turned p limit old mid f → Turned (p >>= k) limit old mid f
  unfolding ◌>>=◌
  stopped t = record { is = rw t.is; kept = t.kept }

  module _ {e : Emits A} {start at : Spot} (z : Ended e p start at old mid) where
    -- .. or the rest is, ..
    pub stopped_on : {limit : Limit} {new : Compiled} {f : Fault} → at.row ≤ limit.rows → at.operand ≤ limit.operands
        → Turned (k (record { tree = z.tree; next = at.at })) limit mid new f → Turned (p >>= k) limit old new f
    unfolding ◌>>=◌
    stopped_on h i t = record { is = rw z.is t.is; kept = kept_on (emitted_kept _ _ h i z.emitted) t.kept }

    -- .. or both are read.
    pub went : {w : Emits B} {start' to : Spot} {old' new' : Compiled} → Ended w (k (record { tree = z.tree; next = at.at })) start' to old' new'
        → Ended w (p >>= k) start' to old' new'
    unfolding ◌>>=◌
    went y = record { tree = y.tree; is = rw z.is y.is; emitted = y.emitted }

-- a whole that was read
pub ended : {A : Type 0} {w : Emits A} (a : A) {from to : Spot} {old new : Compiled} → Emitted (w.rows a from.row from.operand) (w.operands a) from to old new
    → Ended w (up_to to.at a) from to old new
ended a p = record { tree = a; is = refl; emitted = p }

-- an answer that is one of another part too
pub reads_as : {A B : Type 0} {e : Emits A} {w : Emits B} {p : Result code.Fault (Read A)} {q : Result code.Fault (Read B)} {limit limit' : Limit}
    {from from' : Spot} {old mid new : Compiled}
    → ((to : Spot) → Ended e p from to mid new → Ended w q from' to old new)
    → ((f : Fault) → Turned p limit mid new f → Turned q limit' old new f)
    → (r : std.Result Spot Fault) → Reads e p limit from mid new r → Reads w q limit' from' old new r
reads_as f g (Ok to) y = f to y
reads_as f g (Err h) y = g h y

-- what is read once some bytes are passed
pub passed : {A : Type 0} (e : Emits A) (p : Result code.Fault (Read A)) {all : ℕ} {from : Spot} {at : ℕ} (old new : Compiled) (r : std.Result Spot Fault)
    → Onwards all from (spot_at at from.row from.operand)
    → Reads e p (limit_of all (spot_at at from.row from.operand)) (spot_at at from.row from.operand) old new r → Reads e p (limit_of all from) from old new r
passed e p old new (Ok to) o y = record { tree = y.tree; is = y.is; emitted = emitted_from _ y.emitted }
passed e p old new (Err f) o y = record { is = y.is; kept = kept_later _ _ o.rows o.operands y.kept }
