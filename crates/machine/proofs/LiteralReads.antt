-- Laws of `read_times`, the reads around a literal from it outwards. Serves `read_through`. Assumes nothing.
use Prim.Native.Nat.{ℕ, zero, suc, ◌-◌, ◌%◌, ◌<◌}
use mathlib.Core.Path.{◌≡◌, refl, sym, ap, ◌∙◌}
use mathlib.Core.Bool.{Bool, true, false}
use native.Mathlib.Omega.{arith}
use lib.ListN.{get_or}
use lib.Bits.{bit_and}
use borrow.Author.Tests.{eq-eqb, ne_eqb}
use Rattle.lattice.specs.Order.{meet, top}
use Rattle.lattice.specs.declared.Table.{Table}
use Rattle.values.specs.Result.{Result, ok, refuse, ◌>>=◌, require}
use Rattle.values.specs.declared.Value.{Value}
use Rattle.values.specs.Value.{read_view, viewed, empty_slot}
use Rattle.store.specs.declared.HeldSlot.{HeldSlot}
use Rattle.store.specs.Sheet.{owner_of}
use Rattle.syntax.specs.Syntax.{literal}
use Rattle.syntax.specs.declared.Operand.{Operand}
use Rattle.syntax.specs.Rows.{more_come, no_operand}
use Rattle.calculus.specs.Calculus.{Setting, Store, Labelled, contents, may_hold, admit, fetch, eval}
use Rattle.machine.specs.Answers.{Got}
use Rattle.lattice.specs.HeldLabels.{LabelHeld}
use Rattle.machine.specs.MachineNumbers.{ValueHeld, EvaluatedAs}
use Rattle.machine.specs.MachineContracts.{Grounds, Behind, RowRead}
use Rattle.machine.specs.CompiledRuns.{Operands}
use Rattle.machine.specs.CompiledExpressions.{LiteralAt, read_times}
use Rattle.machine.proofs.SlotRows.{row_kind, row_payload, row_owner}
use Rattle.lattice.proofs.HeldLabels.{meet_held}
use Rattle.machine.proofs.OwnerLabels.{owner_held}

-- an answer that is a value, and one that is a refusal
pub record Gave (t : Table) (k p l : ℕ) (r : Result ℕ Labelled) : Type 0 where
  pub answer : Labelled
  pub same : r ≡ ok answer
  pub held : ValueHeld t answer k p l

pub gave : {t : Table} {k p l : ℕ} {r : Result ℕ Labelled} → EvaluatedAs t (Got.Value k p l) r → Gave t k p l r
gave (EvaluatedAs.gives {x = x} h) = record { answer = x; same = refl; held = h }

pub refused : {t : Table} {n : ℕ} {r : Result ℕ Labelled} → EvaluatedAs t (Got.Refused n) r → r ≡ refuse n
refused EvaluatedAs.refuses = refl

module _ (w : Setting) (s : Store) where
  -- reads that are done one by one
  pub times_none : (n : ℕ) (r : Result ℕ Labelled) → n ≡ 0 → read_times w s n r ≡ r
  unfolding read_times
  times_none n r h = rw h refl

  pub times_one : (n : ℕ) (r : Result ℕ Labelled) → 0 < n → read_times w s n r ≡ read_times w s (n - 1) (r >>= fetch w s)
  unfolding read_times
  times_one zero r h = absurd (omega arith)
  times_one (suc n) r h = ap (λ (m : ℕ). read_times w s m (r >>= fetch w s)) q
    where
      q : n ≡ suc n - 1
      q = omega arith

  pub times_refused : (n k : ℕ) → read_times w s n (refuse k) ≡ refuse k
  unfolding read_times ◌>>=◌
  times_refused zero k = refl
  times_refused (suc n) k = times_refused n k

  -- a value has turned up that is not judged yet, and `left` reads are still to be done: what that comes to
  pub record Ready (k p l left : ℕ) (whole : Result ℕ Labelled) : Type 0 where
    pub value : Labelled
    pub held : ValueHeld w.tables.order value k p l
    pub rest : read_times w s left (admit w value) ≡ whole

  -- a literal, with all reads to be done
  pub ready_all : {t : Operands} {o : ℕ} {v : Value} {reads : ℕ} → LiteralAt t o v reads → (k p l left : ℕ) → k ≡ (get_or t o no_operand).kind
      → p ≡ (get_or t o no_operand).payload → left ≡ (get_or t o no_operand).reads % more_come
      → LabelHeld w.tables.order (top w.tables.order) l → Ready k p l left (read_times w s (reads % more_come) (eval w s (literal v)))
  unfolding eval
  ready_all {v = v} {reads = n} x k p l left hk hp hl h =
      let is : left ≡ n % more_come = hl ∙ ap (λ (y : Operand). y.reads % more_come) x.is.same in
      record {
        value = record { value = v; label = top w.tables.order };
        held = record {
          kind = sym (hk ∙ ap (λ (y : Operand). y.kind) x.is.same);
          payload = sym (hp ∙ ap (λ (y : Operand). y.payload) x.is.same);
          formed = x.formed;
          label = h;
        };
        rest = rw is refl;
      }

  module _ {k p l left : ℕ} {whole : Result ℕ Labelled} (y : Ready k p l left whole) (b : Bool)
      (m : b ≡ may_hold w (record { kind = k; payload = p })) where
    may : may_hold w y.value.value ≡ b
    may = rw (y.held.kind, y.held.payload) (sym m)

    barred : b ≡ false → admit w y.value ≡ refuse 15
    unfolding admit require
    barred n = rw (may ∙ n) refl

    pub ready_barred : b ≡ false → EvaluatedAs w.tables.order (Got.Refused 15) whole
    ready_barred n = rw (← y.rest, barred n, times_refused left 15) EvaluatedAs.refuses

    admitted : b ≡ true → admit w y.value ≡ ok y.value
    unfolding admit require
    admitted h = rw (may ∙ h) refl

    pub ready_done : b ≡ true → left ≡ 0 → EvaluatedAs w.tables.order (Got.Value k p l) whole
    ready_done h z = rw (← y.rest, times_none left (admit w y.value) z, admitted h) (EvaluatedAs.gives y.held)

    -- one more read
    reads : b ≡ true → (left ≡ 0 → ⊥) → whole ≡ read_times w s (left - 1) (fetch w s y.value)
    unfolding ◌>>=◌
    reads h z =
        sym y.rest ∙ times_one left (admit w y.value) (omega (arith, z))
        ∙ ap (λ (r : Result ℕ Labelled). read_times w s (left - 1) (r >>= fetch w s)) (admitted h)

    unread : (k ≡ read_view → ⊥) → fetch w s y.value ≡ refuse 13
    unfolding fetch require
    unread n = rw (y.held.kind, ne_eqb k read_view n) refl

    pub ready_kind : b ≡ true → (left ≡ 0 → ⊥) → (k ≡ read_view → ⊥) → EvaluatedAs w.tables.order (Got.Refused 13) whole
    ready_kind h z n = rw (reads h z, unread n, times_refused (left - 1) 13) EvaluatedAs.refuses

    module _ (i : ℕ) (e : i ≡ viewed (record { kind = k; payload = p })) where
      fetched : k ≡ read_view
          → fetch w s y.value ≡ admit w (record { value = contents s i; label = meet w.tables.order y.value.label (owner_of w.tables i) })
      unfolding fetch require
      fetched q = rw (e, y.held.kind, eq-eqb k read_view q, y.held.payload) refl

      pub ready_next : {g : Grounds} → Behind g w s → (row : HeldSlot) → RowRead g.store i row → b ≡ true → (left ≡ 0 → ⊥) → k ≡ read_view
          → Ready row.kind row.payload (bit_and l (get_or g.masks row.owner 0)) (left - 1) whole
      ready_next u row f h z n =
          let x = get_or s i empty_slot in
          let o = owner_of w.tables i in
          let v = u.serves in
          let r = f w.tables s u.held in
          record {
            value = record { value = contents s i; label = meet w.tables.order y.value.label o };
            held = record {
              kind = sym (row_kind x o row r);
              payload = sym (row_payload x o row r);
              formed = u.held.formed i;
              label =
                  rw (row_owner x o row r, ← v.masks)
                  (meet_held w.tables.order y.held.label (owner_held w.tables v.grounds i) v.grounds.table);
            };
            rest = sym (reads h z ∙ ap (λ (r : Result ℕ Labelled). read_times w s (left - 1) r) (fetched n));
          }
