-- For `exactness`: the rules (specs/Reduction.antt, specs/Forbidden.antt) leave no choice, with and without limits. Assumes nothing.
use Prim.Native.Nat.{ℕ, ◌+◌, ◌≤◌, ◌<◌}
use mathlib.Core.Path.{◌≡◌, refl, ap, ◌∙◌}
use mathlib.Core.Logic.{◌⊎◌, inl, inr, ⊎_elim}
use mathlib.Core.Bool.{true≢false}
use mathlib.Core.List.{List, [], ◌∷◌}
use native.Mathlib.Omega.{arith}
use lib.ListN.{length, length-append}
use Rattle.lattice.specs.Order.{Label}
use Rattle.values.specs.Result.{Result, ok, refuse}
use Rattle.syntax.specs.declared.Header.{Header}
use Rattle.syntax.specs.Syntax.{Expr, Cmd, cmd, assign, if, while}
use Rattle.syntax.specs.Sheet.{Block}
use Rattle.calculus.specs.Calculus.{Limits, State, Memory, state_at, Write, recorded}
use Rattle.calculus.specs.Blocks.{Halt}
use Rattle.exactness.specs.Reduction.{Region, Code, done, ◌⨾◌, Config, ⟨◌∣◌∣◌⟩, ◌⊢◌⇝◌, Seq, Seq_2, End, ◌⊢◌⟶◌, If, Else, While_1, While_2, Assign, Stage, before, during, ◌⊩◌⟹◌, Start, Prg_1, Prg_1_silent, Comp_2}
use Rattle.calculus.specs.Tasks.{Task, judging, assigning}
use Rattle.exactness.specs.Forbidden.{Tries, Tries_if, Tries_while, Tries_assign, Forbidden, Forbid, Due, Due_17, Due_18}
use Rattle.exactness.specs.Exactness.{◌⊩◌⟹*◌, here, after, held, Within}
use Rattle.exactness.proofs.ReductionSteps.{one_eval, one_judged, one_number, not_forbidden}

-- where a run within its limits stands still, and what it comes to
pub data Rests (ρ : ℕ → Header → Region) (l : Limits) : Stage → Result Halt State → Type 0 where
  finished : {i n : ℕ} {H : Memory} → Within l (state_at n H) → Rests ρ l (before i n H []) (ok (state_at n H))
  forbidden : {P : Stage} {h : Halt} → Within l (held P) → Forbidden ρ P h → ((h' : Halt) → Due l P h' → ⊥) → Rests ρ l P (refuse h)
  out_of_limits : {P : Stage} {h : Halt} → Within l (held P) → Due l P h → Rests ρ l P (refuse h)

-- what a run from P comes to within its limits
abbrev pub Ends : (ℕ → Header → Region) → Limits → Stage → Result Halt State → Type 0
Ends ρ l P r = (Q : Stage) × (ρ ⊩ P ⟹* Q) × Rests ρ l Q r

-- Commands

one_silent : {ρ : Region} {C D D' : Config} → ρ ⊢ C ⇝ D → ρ ⊢ C ⇝ D' → D ≡ D'
one_silent Seq Seq = refl
one_silent Seq_2 Seq_2 = refl
one_silent End End = refl

one_counted : {ρ : Region} {C D D' : Config} → ρ ⊢ C ⟶ D → ρ ⊢ C ⟶ D' → D ≡ D'
one_counted (If x) (If y) = rw (one_judged x y).1
one_counted (If x) (Else y) = absurd (true≢false (one_judged x y).0)
one_counted (Else x) (If y) = absurd (true≢false (one_judged y x).0)
one_counted (Else x) (Else y) = rw (one_judged x y).1
one_counted (While_1 x) (While_1 y) = rw (one_judged x y).1
one_counted (While_1 x) (While_2 y) = absurd (true≢false (one_judged x y).0)
one_counted (While_2 x) (While_1 y) = absurd (true≢false (one_judged y x).0)
one_counted (While_2 x) (While_2 y) = refl
one_counted (Assign p t q a b) (Assign p' t' q' a' b') = rw (one_eval p p', one_eval q q')

-- silent rules move no guard and no assignment
not_silent : {ρ : Region} {H : Memory} {PC : List Label} {k : Code} {at : ℕ} {t : Task} {D : Config} → Tries PC k at t → ρ ⊢ ⟨ H ∣ PC ∣ k ⟩ ⇝ D → ⊥
not_silent Tries_if = elim [ ]
not_silent Tries_while = elim [ ]
not_silent Tries_assign = elim [ ]

counts : {ρ : Region} {H : Memory} {PC : List Label} {k : Code} {D : Config} → ρ ⊢ ⟨ H ∣ PC ∣ k ⟩ ⟶ D → (at : ℕ) × (t : Task) × Tries PC k at t
counts (If x) = (_, _, Tries_if)
counts (Else x) = (_, _, Tries_if)
counts (While_1 x) = (_, _, Tries_while)
counts (While_2 x) = (_, _, Tries_while)
counts (Assign p t q a b) = (_, _, Tries_assign)

silent_alone : {ρ : Region} {C D D' : Config} → ρ ⊢ C ⇝ D → ρ ⊢ C ⟶ D' → ⊥
silent_alone {C = ⟨ H ∣ PC ∣ k ⟩} x y = not_silent (counts y).2 x

-- a silent step leaves the store and the journal
silent_keeps : {ρ : Region} {H H' : Memory} {PC PC' : List Label} {k k' : Code} → ρ ⊢ ⟨ H ∣ PC ∣ k ⟩ ⇝ ⟨ H' ∣ PC' ∣ k' ⟩ → H ≡ H'
silent_keeps Seq = refl
silent_keeps Seq_2 = refl
silent_keeps End = refl

-- a write adds an entry; so an assignment adds one, and a counted step one or none
pub one_more : (block at : ℕ) (x : Write) (H : Memory) → length (recorded block at x H).journal ≡ length H.journal + 1
unfolding recorded
one_more block at x H = length-append H.journal _

adds_one : {ρ : Region} {H H' : Memory} {PC PC' : List Label} {k k' : Code} {at : ℕ} {pc : Label} {x y : Expr}
    → Tries PC k at (assigning pc x y) → ρ ⊢ ⟨ H ∣ PC ∣ k ⟩ ⟶ ⟨ H' ∣ PC' ∣ k' ⟩ → length H'.journal ≡ length H.journal + 1
adds_one Tries_assign s = assigned s
  where
    assigned : {ρ : Region} {PC : List Label} {k : Code} {at : ℕ} {pc : Label} {x y : Expr} {H H' : Memory} {PC' : List Label} {k' : Code}
        → ρ ⊢ ⟨ H ∣ pc ∷ PC ∣ cmd at (assign x y) ⨾ k ⟩ ⟶ ⟨ H' ∣ PC' ∣ k' ⟩ → length H'.journal ≡ length H.journal + 1
    assigned (Assign p t q a b) = one_more _ _ _ _

adds_few : {ρ : Region} {H H' : Memory} {PC PC' : List Label} {k k' : Code} → ρ ⊢ ⟨ H ∣ PC ∣ k ⟩ ⟶ ⟨ H' ∣ PC' ∣ k' ⟩
    → (length H'.journal ≡ length H.journal) ⊎ (length H'.journal ≡ length H.journal + 1)
adds_few (If x) = inl refl
adds_few (Else x) = inl refl
adds_few (While_1 x) = inl refl
adds_few (While_2 x) = inl refl
adds_few (Assign p t q a b) = inr (one_more _ _ _ _)

pub done_silent : {ρ : Region} {H : Memory} {PC : List Label} {D : Config} → ρ ⊢ ⟨ H ∣ PC ∣ done ⟩ ⇝ D → ⊥
done_silent = elim [ ]

pub done_rests : {ρ : Region} {H : Memory} {PC : List Label} {D : Config} → ρ ⊢ ⟨ H ∣ PC ∣ done ⟩ ⟶ D → ⊥
done_rests = elim [ ]

pub not_done : {PC : List Label} {at : ℕ} {t : Task} → Tries PC done at t → ⊥
not_done = elim [ ]

pub one_try : {PC : List Label} {k : Code} {at at' : ℕ} {t t' : Task} → Tries PC k at t → Tries PC k at' t' → (at ≡ at') × (t ≡ t')
one_try Tries_if Tries_if = (refl, refl)
one_try Tries_while Tries_while = (refl, refl)
one_try Tries_assign Tries_assign = (refl, refl)

-- a guard is no assignment
pub not_assigning : {PC : List Label} {k : Code} {at at' : ℕ} {g x y : Expr} {pc : Label} → Tries PC k at (judging g) → Tries PC k at' (assigning pc x y) → ⊥
not_assigning Tries_if x = guard x
  where
    guard : {PC : List Label} {at at' : ℕ} {g x y : Expr} {c d : Cmd} {k : Code} {pc : Label} → Tries PC (cmd at (if g c d) ⨾ k) at' (assigning pc x y) → ⊥
    guard = elim [ ]
not_assigning Tries_while x = guard x
  where
    guard : {PC : List Label} {at at' : ℕ} {g x y : Expr} {c : Cmd} {k : Code} {pc : Label} → Tries PC (cmd at (while g c) ⨾ k) at' (assigning pc x y) → ⊥
    guard = elim [ ]

-- Programmes

abbrev pub steps_at_law : Stage → ℕ
steps_at_law P = (held P).steps

abbrev pub entries_at : Stage → ℕ
entries_at P = length (held P).journal

-- more steps, and no more new entries than new steps
pub record Grown (s t : State) : Type 0 where
  pub later : s.steps < t.steps
  pub longer : length s.journal ≤ length t.journal
  pub few : length t.journal + s.steps ≤ length s.journal + t.steps

module _ {ρ : ℕ → Header → Region} where
  pub deterministic : {P Q Q' : Stage} → ρ ⊩ P ⟹ Q → ρ ⊩ P ⟹ Q' → Q ≡ Q'
  deterministic Start Start = refl
  deterministic (Prg_1_silent p) (Prg_1_silent q) = rw (one_silent p q)
  deterministic (Prg_1_silent p) (Prg_1 q) = absurd (silent_alone p q)
  deterministic (Prg_1_silent p) (Comp_2 e) = absurd (done_silent p)
  deterministic (Prg_1 p) (Prg_1_silent q) = absurd (silent_alone q p)
  deterministic (Prg_1 p) (Prg_1 q) = rw (one_counted p q)
  deterministic (Prg_1 p) (Comp_2 e) = absurd (done_rests p)
  deterministic (Comp_2 e) (Prg_1_silent q) = absurd (done_silent q)
  deterministic (Comp_2 e) (Prg_1 q) = absurd (done_rests q)
  deterministic (Comp_2 e) (Comp_2 e') = refl

  -- a step leaves the state, or adds one to the count
  keeps : {P Q : Stage} → ρ ⊩ P ⟹ Q → (held P ≡ held Q) ⊎ Grown (held P) (held Q)
  keeps Start = inl refl
  keeps (Prg_1_silent {n = n} {C = ⟨ H ∣ PC ∣ k ⟩} {D = ⟨ H' ∣ PC' ∣ k' ⟩} p) = inl (rw (silent_keeps p))
  keeps (Prg_1 {C = ⟨ H ∣ PC ∣ k ⟩} {D = ⟨ H' ∣ PC' ∣ k' ⟩} p) = inr (⊎_elim (λ e. omega arith) (λ e. omega arith) (adds_few p))
  keeps (Comp_2 e) = inl refl

  pub all_keep : {P Q : Stage} → ρ ⊩ P ⟹* Q → (held P ≡ held Q) ⊎ Grown (held P) (held Q)
  all_keep here = inl refl
  all_keep (after p ps) = joined (keeps p) (all_keep ps)
    where
      joined : {s t u : State} → (s ≡ t) ⊎ Grown s t → (t ≡ u) ⊎ Grown t u → (s ≡ u) ⊎ Grown s u
      joined (inl p) (inl q) = inl (p ∙ q)
      joined (inl p) (inr q) = inr (rw p q)
      joined (inr p) (inl q) = inr (rw (← q) p)
      joined (inr p) (inr q) = inr (omega arith)

  -- nothing shrinks, and no more entries come than steps
  pub all_add : {P Q : Stage} → ρ ⊩ P ⟹* Q
      → (steps_at_law P ≤ steps_at_law Q) × (entries_at P ≤ entries_at Q) × (entries_at Q + steps_at_law P ≤ entries_at P + steps_at_law Q)
  all_add ps = either (all_keep ps)
    where
      either : {s t : State} → (s ≡ t) ⊎ Grown s t
          → (s.steps ≤ t.steps) × (length s.journal ≤ length t.journal) × (length t.journal + s.steps ≤ length s.journal + t.steps)
      either (inl e) = rw e (omega arith)
      either (inr g) = omega arith

  -- of two ways one goes on from the other
  pub fork : {P Q R : Stage} → ρ ⊩ P ⟹* Q → ρ ⊩ P ⟹* R → (ρ ⊩ Q ⟹* R) ⊎ (ρ ⊩ R ⟹* Q)
  fork here qs = inl qs
  fork (after p ps) here = inr (after p ps)
  fork (after p ps) (after q qs) = fork ps (rw (deterministic q p) at qs)

-- the number of blocks stays what it was
abbrev blocks_of : Stage → ℕ
blocks_of (before i n H bs) = i + length bs
blocks_of (during i n h C bs) = i + 1 + length bs

module _ {ρ : ℕ → Header → Region} where
  numbered : {P Q : Stage} → ρ ⊩ P ⟹ Q → blocks_of P ≡ blocks_of Q
  numbered Start = omega arith
  numbered (Prg_1_silent p) = refl
  numbered (Prg_1 p) = refl
  numbered (Comp_2 e) = refl

  pub all_numbered : {P Q : Stage} → ρ ⊩ P ⟹* Q → blocks_of P ≡ blocks_of Q
  all_numbered here = refl
  all_numbered (after p ps) = numbered p ∙ all_numbered ps

  pub forbidden_rests : {P Q : Stage} {h : Halt} → Forbidden ρ P h → ρ ⊩ P ⟹ Q → ⊥
  forbidden_rests (Forbid x n) (Prg_1_silent q) = not_silent x q
  forbidden_rests (Forbid x n) (Prg_1 q) = not_forbidden q x n
  forbidden_rests (Forbid x n) (Comp_2 e) = not_done x

  pub tried_adds : {i n at : ℕ} {h : Header} {H : Memory} {PC : List Label} {k : Code} {t : Task} {bs : List Block} {Q : Stage}
      → Tries PC k at t → ρ ⊩ during i n h ⟨ H ∣ PC ∣ k ⟩ bs ⟹ Q → steps_at_law Q ≡ n + 1
  tried_adds x (Prg_1_silent q) = absurd (not_silent x q)
  tried_adds x (Prg_1 {D = ⟨ H ∣ PC ∣ k ⟩} q) = refl
  tried_adds x (Comp_2 e) = absurd (not_done x)

  assigned_adds : {i n at : ℕ} {h : Header} {H : Memory} {PC : List Label} {k : Code} {pc : Label} {x y : Expr} {bs : List Block} {Q : Stage}
      → Tries PC k at (assigning pc x y) → ρ ⊩ during i n h ⟨ H ∣ PC ∣ k ⟩ bs ⟹ Q → entries_at Q ≡ length H.journal + 1
  assigned_adds x (Prg_1_silent q) = absurd (not_silent x q)
  assigned_adds x (Prg_1 {D = ⟨ H ∣ PC ∣ k ⟩} q) = adds_one x q
  assigned_adds x (Comp_2 e) = absurd (not_done x)

  pub one_forbidden : {P : Stage} {h h' : Halt} → Forbidden ρ P h → Forbidden ρ P h' → h ≡ h'
  one_forbidden (Forbid x n) (Forbid x' n') = let e = one_try x x' in rw (e.0, one_number (rw e.1 at n) n')

-- Where a run stops is the state that it has

pub forbidden_at : {ρ : ℕ → Header → Region} {P : Stage} {h : Halt} → Forbidden ρ P h → h.stop.state ≡ held P
forbidden_at (Forbid x n) = refl

pub due_at : {l : Limits} {P : Stage} {h : Halt} → Due l P h → h.stop.state ≡ held P
due_at (Due_17 x e) = refl
due_at (Due_18 x d e) = refl

-- one step comes due, by one number
one_due : {l : Limits} {P : Stage} {h h' : Halt} → Due l P h → Due l P h' → h ≡ h'
one_due (Due_17 x e) (Due_17 x' e') = rw (one_try x x').0
one_due (Due_17 x e) (Due_18 x' d e') = absurd (d e)
one_due (Due_18 x d e) (Due_17 x' e') = absurd (d e')
one_due (Due_18 x d e) (Due_18 x' d' e') = rw (one_try x x').0

-- Within limits

module _ {ρ : ℕ → Header → Region} (l : Limits) where
  pub rest_within : {P : Stage} {r : Result Halt State} → Rests ρ l P r → Within l (held P)
  rest_within (finished m) = m
  rest_within (forbidden m x d) = m
  rest_within (out_of_limits m x) = m

  -- what comes before is within them too
  pub within_before : {P Q : Stage} → ρ ⊩ P ⟹* Q → Within l (held Q) → Within l (held P)
  within_before ps m = let g = all_add ps in omega arith

  -- a step from there would pass them
  due_passes : {P Q : Stage} {h : Halt} → Due l P h → ρ ⊩ P ⟹ Q → Within l (held Q) → ⊥
  due_passes (Due_17 x e) q m = omega (arith, tried_adds x q)
  due_passes (Due_18 x d e) q m = omega (arith, assigned_adds x q)

  pub rest_stays : {P Q R : Stage} {r : Result Halt State} → Rests ρ l P r → ρ ⊩ P ⟹ Q → ρ ⊩ Q ⟹* R → Within l (held R) → ⊥
  rest_stays {Q = Q} {R = R} (finished {i = i} {n = n} {H = H} _) q ps m = elim q [ ]
  rest_stays (forbidden _ x _) q ps m = forbidden_rests x q
  rest_stays (out_of_limits _ x) q ps m = due_passes x q (within_before ps m)

  rest_once : {P : Stage} {r r' : Result Halt State} → Rests ρ l P r → Rests ρ l P r' → r ≡ r'
  rest_once (finished _) (finished _) = refl
  rest_once (finished _) (forbidden _ x' d) = elim x' [ ]
  rest_once (finished _) (out_of_limits _ x') = elim x' [ ]
  rest_once (forbidden _ x d) (finished _) = elim x [ ]
  rest_once (out_of_limits _ x) (finished _) = elim x [ ]
  rest_once (forbidden _ x _) (forbidden _ x' _) = ap refuse (one_forbidden x x')
  rest_once (forbidden _ x d) (out_of_limits _ x') = absurd (d _ x')
  rest_once (out_of_limits _ x) (forbidden _ x' d) = absurd (d _ x)
  rest_once (out_of_limits _ x) (out_of_limits _ x') = ap refuse (one_due x x')

  -- a run comes to one stage where it stands still, and to one end
  pub meets : {P Q Q' : Stage} {r r' : Result Halt State} → ρ ⊩ P ⟹* Q → ρ ⊩ P ⟹* Q'
      → Rests ρ l Q r → Rests ρ l Q' r' → Q ≡ Q'
  meets here here x y = refl
  meets here (after p ps) x y = absurd (rest_stays x p ps (rest_within y))
  meets (after p ps) here x y = absurd (rest_stays y p ps (rest_within x))
  meets (after p ps) (after q qs) x y = meets ps (rw (deterministic q p) at qs) x y

  pub one_end : {P : Stage} {r r' : Result Halt State} → Ends ρ l P r → Ends ρ l P r' → r ≡ r'
  one_end x y = rest_once x.2 (rw (meets y.1 x.1 y.2 x.2) at y.2)
