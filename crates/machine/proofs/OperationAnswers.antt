-- What an operation on two values answers by its byte and their kinds (`got_operated`) is the calculus's answer. Serves `operate`. Assumes nothing.
use Prim.Native.Nat.{ℕ}
use mathlib.Core.Path.{◌≡◌, refl, sym, ap, ◌∙◌}
use mathlib.Core.Bool.{Bool, true, false}
use native.Mathlib.Omega.{arith}
use lib.Bits.{bit_and}
use lib.Dec.{eqb}
use borrow.Author.Tests.{eq-eqb, ne_eqb}
use Rattle.lattice.specs.Tests.{◌and◌}
use Rattle.lattice.specs.Order.{good}
use Rattle.values.specs.Result.{ok, refuse, ◌>>=◌, require}
use Rattle.values.specs.declared.Value.{Value}
use Rattle.values.specs.Value.{integer, read_view, is_write_view}
use Rattle.values.specs.Integers.{sum_of, difference_of, less_of}
use Rattle.values.proofs.Result.{Post, Any, post_ok, post_require}
use Rattle.store.specs.Sheet.{most_slots}
use Rattle.syntax.specs.Syntax.{Op, sum, difference, less, equal}
use Rattle.syntax.specs.Code.{expr_sorted, operation_byte}
use Rattle.syntax.specs.Rows.{byte_of}
use Rattle.syntax.proofs.CodeFirstByte.{expr_operation}
use Rattle.calculus.specs.Calculus.{Setting, Store, Labelled, fetch, takes, integer_of, truth_of, gives, operate}
use Rattle.calculus.proofs.CalculusOperations.{gives_no_view, gives_formed, operated}
use Rattle.machine.specs.Answers.{Got}
use Rattle.machine.specs.MachineNumbers.{ValueHeld, EvaluatedAs}
use Rattle.machine.specs.CompiledExpressions.{got_value, got_operated}
use Rattle.lattice.proofs.HeldLabels.{meet_held}

-- an operation is known by its byte
one_byte : (o o' : Op) → byte_of o ≡ byte_of o' → o ≡ o'
one_byte o o' h = let e : operation_byte o ≡ operation_byte o' = sym (expr_operation o) ∙ ap expr_sorted h ∙ expr_operation o' in cc

is_less : (o : Op) → (byte_of o ≡ 0x15 → ⊥) → (byte_of o ≡ 0x12 → ⊥) → (byte_of o ≡ 0x13 → ⊥) → o ≡ less
unfolding byte_of
is_less sum e s d = absurd (s refl)
is_less difference e s d = absurd (d refl)
is_less less e s d = refl
is_less equal e s d = absurd (e refl)

module _ (left p right q label : ℕ) where
  abbrev u : Value
  u = record { kind = left; payload = p }

  abbrev v : Value
  v = record { kind = right; payload = q }

  -- all but `equal` take two integers
  integers : (o : Op) → (byte_of o ≡ 0x15 → ⊥) → takes o u v ≡ eqb left integer and eqb right integer
  unfolding byte_of takes
  integers sum n = refl
  integers difference n = refl
  integers less n = refl
  integers equal n = absurd (n refl)

  accepted : (o : Op) → takes o u v ≡ true → got_operated o u v label ≡ got_value (gives o u v) label
  unfolding got_operated
  accepted o h = rw (h, got_operated) refl

  refused : (o : Op) → takes o u v ≡ false → got_operated o u v label ≡ Got.Refused 13
  unfolding got_operated
  refused o h = rw (h, got_operated) refl

  pub left_refused : (o : Op) (byte : ℕ) → byte_of o ≡ byte → (byte ≡ 0x15 → ⊥) → (left ≡ integer → ⊥) → got_operated o u v label ≡ Got.Refused 13
  unfolding ◌and◌
  left_refused o byte e n h = refused o (integers o (λ k. n (sym e ∙ k)) ∙ rw (ne_eqb left integer h) refl)

  pub right_refused : (o : Op) (byte : ℕ) → byte_of o ≡ byte → (byte ≡ 0x15 → ⊥) → left ≡ integer → (right ≡ integer → ⊥)
      → got_operated o u v label ≡ Got.Refused 13
  unfolding ◌and◌
  right_refused o byte e n h k =
      refused o (integers o (λ i. n (sym e ∙ i)) ∙ rw (eq-eqb left integer h, ne_eqb right integer k) refl)

  -- kind and payload agree, or the kinds do not
  pub equals : (o : Op) (byte : ℕ) → byte_of o ≡ byte → byte ≡ 0x15 → left ≡ right → got_operated o u v label ≡ got_value (truth_of (eqb p q)) label
  unfolding byte_of got_operated takes gives ◌and◌
  equals o byte e b h = rw (one_byte o equal (e ∙ b), eq-eqb left right h) refl

  pub differs : (o : Op) (byte : ℕ) → byte_of o ≡ byte → byte ≡ 0x15 → (left ≡ right → ⊥) → got_operated o u v label ≡ got_value (truth_of false) label
  unfolding byte_of got_operated takes gives ◌and◌
  differs o byte e b h = rw (one_byte o equal (e ∙ b), ne_eqb left right h) refl

  -- two integers
  module _ (h : left ≡ integer) (k : right ≡ integer) where
    taken : (o : Op) → (byte_of o ≡ 0x15 → ⊥) → got_operated o u v label ≡ got_value (gives o u v) label
    unfolding ◌and◌
    taken o n = accepted o (integers o n ∙ rw (eq-eqb left integer h, eq-eqb right integer k) refl)

    pub sums : (o : Op) (byte : ℕ) → byte_of o ≡ byte → byte ≡ 0x12 → got_operated o u v label ≡ got_value (integer_of (sum_of p q)) label
    unfolding byte_of gives
    sums o byte e b = rw (one_byte o sum (e ∙ b)) (taken sum (λ i. omega arith))

    pub differences : (o : Op) (byte : ℕ) → byte_of o ≡ byte → byte ≡ 0x13 → got_operated o u v label ≡ got_value (integer_of (difference_of p q)) label
    unfolding byte_of gives
    differences o byte e b = rw (one_byte o difference (e ∙ b)) (taken difference (λ i. omega arith))

    pub compares : (o : Op) (byte : ℕ) → byte_of o ≡ byte → (byte ≡ 0x15 → ⊥) → (byte ≡ 0x12 → ⊥) → (byte ≡ 0x13 → ⊥)
        → got_operated o u v label ≡ got_value (truth_of (less_of p q)) label
    unfolding byte_of gives
    compares o byte e n s d = rw (is_less o (λ i. n (sym e ∙ i)) (λ i. s (sym e ∙ i)) (λ i. d (sym e ∙ i))) (taken less (λ i. omega arith))

-- Values with labels
module _ (w : Setting) (o : Op) (x y : Labelled) where
  operate_ok : takes o x.value y.value ≡ true → operate w o x y ≡ ok (operated w o x y)
  unfolding operate require
  operate_ok h = rw h refl

  operate_13 : takes o x.value y.value ≡ false → operate w o x y ≡ refuse 13
  unfolding operate require
  operate_13 h = rw h refl

  -- its result is no view, so a read of it is refused, as it is itself where the kinds are wrong
  pub no_read : (s : Store) → (operate w o x y >>= fetch w s) ≡ refuse 13
  unfolding fetch require ◌>>=◌
  no_read s = go (takes o x.value y.value) refl
    where
      go : (b : Bool) → takes o x.value y.value ≡ b → (operate w o x y >>= fetch w s) ≡ refuse 13
      go true h = rw (operate_ok h, gives_no_view {k = read_view} (omega arith) o x.value y.value) refl
      go false h = rw (operate_13 h) refl

  pub no_view : Post (λ z. is_write_view z.value ≡ false) Any (operate w o x y)
  unfolding operate
  no_view = post_require _ _ _ _ _ (λ _. post_ok _ _ _ (gives_no_view (omega arith) o x.value y.value)) (λ _. tt)

  -- what the code finds means it
  pub operated_as : {k p l k' p' l' : ℕ} → ValueHeld w.tables.order x k p l → ValueHeld w.tables.order y k' p' l' → good w.tables.order ≡ true
      → EvaluatedAs w.tables.order (got_operated o (record { kind = k; payload = p }) (record { kind = k'; payload = p' }) (bit_and l l')) (operate w o x y)
  operated_as {k} {p} {l} {k'} {p'} {l'} h i g = rw (← h.kind, ← h.payload, ← i.kind, ← i.payload) (go (takes o x.value y.value) refl)
    where
      go : (b : Bool) → takes o x.value y.value ≡ b → EvaluatedAs w.tables.order (got_operated o x.value y.value (bit_and l l')) (operate w o x y)
      go true e =
          rw (accepted _ _ _ _ (bit_and l l') o e, operate_ok e)
          (EvaluatedAs.gives (record {
            kind = refl;
            payload = refl;
            formed = gives_formed most_slots o x.value y.value;
            label = meet_held w.tables.order h.label i.label g;
          }))
      go false e = rw (refused _ _ _ _ (bit_and l l') o e, operate_13 e) EvaluatedAs.refuses
