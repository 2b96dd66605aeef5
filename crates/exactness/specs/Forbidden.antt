-- The steps that the rules forbid, and those that a spent budget or a full journal forbids: "13 wrong kind for a guard, read or target; 14 region lacks authority;
-- 15 write view not allowed to this region; 16 provenance too low; 17 budget spent"; 18. Source 003 has no rule for them: it leaves such a run stuck. In
-- a rule's name a number is what forbids, and `in` is a fault of a part. Assumes nothing.
use Rattle.std.specs.Prelude.{ℕ, ◌≡◌, true, false, List, ◌∷◌, length}
use Rattle.lattice.specs.Order.{Label}
use Rattle.values.specs.declared.Value.{Value}
use Rattle.values.specs.Value.{truth, read_view, is, is_write_view, viewed}
use Rattle.syntax.specs.declared.Header.{Header}
use Rattle.syntax.specs.Syntax.{Op, Expr, literal, read, operation, Cmd, cmd, assign, if, while}
use Rattle.syntax.specs.Sheet.{Block}
use Rattle.calculus.specs.Calculus.{Limits, Store, contents, takes, Memory, state_at, stop_at}
use Rattle.calculus.specs.Blocks.{Halt, halt_in}
use Rattle.exactness.specs.Reduction.{Region, asks, ◌⊢⟨◌∣◌⟩⇓◌^◌, Code, ◌⨾◌, ⟨◌∣◌∣◌⟩, Stage, during}
use Rattle.calculus.specs.Tasks.{Task, judging, assigning}

infix 10 ◌⊢⟨◌∣◌⟩⇑◌ ◌⊢⟨◌∣◌⟩✗◌
-- Of an expression: "each worked from its literal outwards (15 before 13 at each stage)"
pub data ◌⊢⟨◌∣◌⟩⇑◌ (ρ : Region) (H : Store) : Expr → ℕ → Type 0 where
  Val_15 : {v : Value} → ((asks ρ).value v → ⊥) → ρ ⊢⟨ H ∣ literal v ⟩⇑ 15
  Deref_in : {e : Expr} {n : ℕ} → ρ ⊢⟨ H ∣ e ⟩⇑ n → ρ ⊢⟨ H ∣ read e ⟩⇑ n
  Deref_13 : {e : Expr} {view : Value} {l : Label} → ρ ⊢⟨ H ∣ e ⟩⇓ view ^ l → is read_view view ≡ false → ρ ⊢⟨ H ∣ read e ⟩⇑ 13
  Deref_15 : {e : Expr} {view : Value} {l : Label} → ρ ⊢⟨ H ∣ e ⟩⇓ view ^ l → is read_view view ≡ true → ((asks ρ).value (contents H (viewed view)) → ⊥)
      → ρ ⊢⟨ H ∣ read e ⟩⇑ 15
  -- "The left one is evaluated first, then the right; then kinds are judged, by 13." (document 02, N5)
  Left_in : {o : Op} {e e' : Expr} {n : ℕ} → ρ ⊢⟨ H ∣ e ⟩⇑ n → ρ ⊢⟨ H ∣ operation o e e' ⟩⇑ n
  Right_in : {o : Op} {e e' : Expr} {v : Value} {l : Label} {n : ℕ} → ρ ⊢⟨ H ∣ e ⟩⇓ v ^ l → ρ ⊢⟨ H ∣ e' ⟩⇑ n → ρ ⊢⟨ H ∣ operation o e e' ⟩⇑ n
  Operate_13 : {o : Op} {e e' : Expr} {v v' : Value} {l l' : Label} → ρ ⊢⟨ H ∣ e ⟩⇓ v ^ l → ρ ⊢⟨ H ∣ e' ⟩⇓ v' ^ l' → takes o v v' ≡ false
      → ρ ⊢⟨ H ∣ operation o e e' ⟩⇑ 13

-- Of a step: "the guard, or the target and then the value, .. then 14, then 16"
pub data ◌⊢⟨◌∣◌⟩✗◌ (ρ : Region) (H : Store) : Task → ℕ → Type 0 where
  Guard_in : {g : Expr} {n : ℕ} → ρ ⊢⟨ H ∣ g ⟩⇑ n → ρ ⊢⟨ H ∣ judging g ⟩✗ n
  Guard_13 : {g : Expr} {v : Value} {l : Label} → ρ ⊢⟨ H ∣ g ⟩⇓ v ^ l → is truth v ≡ false → ρ ⊢⟨ H ∣ judging g ⟩✗ 13
  Target_in : {pc : Label} {x y : Expr} {n : ℕ} → ρ ⊢⟨ H ∣ x ⟩⇑ n → ρ ⊢⟨ H ∣ assigning pc x y ⟩✗ n
  Target_13 : {pc l : Label} {x y : Expr} {view : Value} → ρ ⊢⟨ H ∣ x ⟩⇓ view ^ l → is_write_view view ≡ false → ρ ⊢⟨ H ∣ assigning pc x y ⟩✗ 13
  Value_in : {pc l : Label} {x y : Expr} {view : Value} {n : ℕ}
      → ρ ⊢⟨ H ∣ x ⟩⇓ view ^ l → is_write_view view ≡ true → ρ ⊢⟨ H ∣ y ⟩⇑ n → ρ ⊢⟨ H ∣ assigning pc x y ⟩✗ n
  Assign_14 : {pc l l' : Label} {x y : Expr} {view v : Value}
      → ρ ⊢⟨ H ∣ x ⟩⇓ view ^ l → is_write_view view ≡ true → ρ ⊢⟨ H ∣ y ⟩⇓ v ^ l'
      → ((asks ρ).slot (viewed view) → ⊥) → ρ ⊢⟨ H ∣ assigning pc x y ⟩✗ 14
  Assign_16 : {pc l l' : Label} {x y : Expr} {view v : Value}
      → ρ ⊢⟨ H ∣ x ⟩⇓ view ^ l → is_write_view view ≡ true → ρ ⊢⟨ H ∣ y ⟩⇓ v ^ l'
      → (asks ρ).slot (viewed view) → ((asks ρ).labels (viewed view) l l' pc → ⊥) → ρ ⊢⟨ H ∣ assigning pc x y ⟩✗ 16

-- the step that code comes to under its stack of branch labels: "offset of the command's first byte in its block", and the task
pub data Tries : List Label → Code → ℕ → Task → Type 0 where
  Tries_if : {pc : Label} {PC : List Label} {at : ℕ} {g : Expr} {c d : Cmd} {k : Code} → Tries (pc ∷ PC) (cmd at (if g c d) ⨾ k) at (judging g)
  Tries_while : {pc : Label} {PC : List Label} {at : ℕ} {g : Expr} {c : Cmd} {k : Code} → Tries (pc ∷ PC) (cmd at (while g c) ⨾ k) at (judging g)
  Tries_assign : {pc : Label} {PC : List Label} {at : ℕ} {x y : Expr} {k : Code} → Tries (pc ∷ PC) (cmd at (assign x y) ⨾ k) at (assigning pc x y)

-- By the rules: a run that may not go on, and how it is stopped. "A forbidden step is not counted."
pub data Forbidden (ρ : ℕ → Header → Region) : Stage → Halt → Type 0 where
  Forbid : {i n at number : ℕ} {h : Header} {H : Memory} {PC : List Label} {k : Code} {t : Task} {bs : List Block}
      → Tries PC k at t → ρ i h ⊢⟨ H.store ∣ t ⟩✗ number
      → Forbidden ρ (during i n h ⟨ H ∣ PC ∣ k ⟩ bs) (halt_in i (stop_at at (state_at n H) number))

-- By its limits: a run that comes to a step, and how it is stopped there, before anything of it is judged
pub data Due (l : Limits) : Stage → Halt → Type 0 where
  -- "Before each step, if steps done equal the budget, the run is spent."
  Due_17 : {i n at : ℕ} {h : Header} {H : Memory} {PC : List Label} {k : Code} {t : Task} {bs : List Block}
      → Tries PC k at t → n ≡ l.budget → Due l (during i n h ⟨ H ∣ PC ∣ k ⟩ bs) (halt_in i (stop_at at (state_at n H) 17))
  -- "18 when an assignment comes and no entry is free, judged after 17 and before the target is evaluated." (document 02, N7)
  Due_18 : {i n at : ℕ} {h : Header} {H : Memory} {PC : List Label} {k : Code} {pc : Label} {x y : Expr} {bs : List Block}
      → Tries PC k at (assigning pc x y) → (n ≡ l.budget → ⊥) → length H.journal ≡ l.entries
      → Due l (during i n h ⟨ H ∣ PC ∣ k ⟩ bs) (halt_in i (stop_at at (state_at n H) 18))
