-- What stands at the row at hand, what a step there comes to, and that each move lessens the machine's weight. Assumes nothing.
use Prim.Native.Nat.{ℕ, ◌+◌, ◌-◌, ◌≤◌, ◌<◌}
use mathlib.Core.Path.{◌≡◌, refl, ◌∙◌}
use mathlib.Core.Bool.{Bool, true, false}
use mathlib.Core.Logic.{◌⊎◌, inl, inr, ⊎_elim}
use mathlib.Core.List.{List}
use native.Mathlib.Omega.{arith}
use borrow.Author.Tests.{eq-eqb, ne_eqb, eqb-true, eqb-false, lt-ltb, le-ltb}
use lib.ListN.{length, get_or, set, length-set}
use lib.Seq.{get_or-set_same, get_or-set_other}
use lib.Dec.{eqb}
use lib.Bits.{bit_and}
use Rattle.lattice.specs.declared.Table.{Table}
use Rattle.lattice.specs.Order.{Label, good, meet}
use Rattle.values.specs.Result.{Result, ok, refuse, ◌>>=◌, require, refused_as}
use Rattle.values.proofs.Result.{post_refused}
use Rattle.syntax.specs.Syntax.{Expr}
use Rattle.syntax.specs.Code.{most_deep}
use Rattle.syntax.specs.declared.Compiled.{Compiled}
use Rattle.syntax.specs.Rows.{assign_row, guard_row, jump_row, end_kind, assign_kind, guard_kind, jump_kind, most_rows}
use Rattle.calculus.specs.Calculus.{Setting, Store, State, Stop, Judged, Write, judge, assignment, step, attempt, counted, performed, stop_at}
use Rattle.pausing.specs.Paths.{Pause, pause_at}
use Rattle.calculus.proofs.CalculusRefusals as refusals
use Rattle.machine.specs.Answers.{Control}
use Rattle.lattice.specs.HeldLabels.{LabelHeld}
use Rattle.machine.specs.CompiledRuns.{kind_at, AssignAt, GuardAt, JumpAt, next, Span, InSpan, Runs, ends, assigns, guards, jumps}
use Rattle.machine.specs.Machine.{Given, rank, weight}
use Rattle.pausing.specs.RowPaths.{LabelsHeld}
use Rattle.lattice.proofs.HeldLabels.{meet_held}
use Rattle.machine.proofs.CompiledTables.{kind_assign, kind_guard, kind_jump, kind_end}

-- Steps

module _ {A : Type 0} (w : Setting) (at : ℕ) (s : State) (r : Result ℕ A) where
  -- one is left: the step is made, or refused by the rules
  pub step_made : (a : A) → (s.steps ≡ w.limits.budget → ⊥) → r ≡ ok a → step w at s r ≡ ok a
  unfolding step refused_as require
  step_made a h e = rw (ne_eqb s.steps w.limits.budget h, e)

  pub step_refused : (n : ℕ) → (s.steps ≡ w.limits.budget → ⊥) → r ≡ refuse n → step w at s r ≡ refuse (stop_at at s n)
  unfolding step refused_as require
  step_refused n h e = rw (ne_eqb s.steps w.limits.budget h, e)

  -- none is left
  pub step_spent : s.steps ≡ w.limits.budget → step w at s r ≡ refuse (stop_at at s 17)
  unfolding step refused_as require
  step_spent e = rw (eq-eqb s.steps w.limits.budget e)

-- what follows a step, whose refusal is said in other terms
module _ {E F A B : Type 0} (f : E → F) (r : Result E A) (k : A → Result F B) where
  ok_then : (a : A) → r ≡ ok a → (refused_as f r >>= k) ≡ k a
  unfolding ◌>>=◌ refused_as
  ok_then a e = rw e

  refuse_then : (x : E) → r ≡ refuse x → (refused_as f r >>= k) ≡ refuse (f x)
  unfolding ◌>>=◌ refused_as
  refuse_then x e = rw e

-- an entry is free for an assignment, or none is
module _ (w : Setting) (branch : Label) (s : State) (x v : Expr) where
  pub attempt_free : length s.journal < w.limits.entries → attempt w branch s x v ≡ assignment w branch s.store x v
  unfolding attempt require
  attempt_free h = rw (lt-ltb (length s.journal) w.limits.entries h)

  pub attempt_full : w.limits.entries ≤ length s.journal → attempt w branch s x v ≡ refuse 18
  unfolding attempt require
  attempt_full h = rw (le-ltb (length s.journal) w.limits.entries h)

-- the rules refuse no step by 17 or 18
abbrev pub ByRules : ℕ → Type 0
ByRules n = (n ≡ 17 → ⊥) × (n ≡ 18 → ⊥)

module _ (w : Setting) (s : Store) where
  by_rules : refusals.Refusing ByRules w
  by_rules =
      record {
        kind = (λ e. omega arith, λ e. omega arith);
        region = λ i f. (λ e. omega arith, λ e. omega arith);
        view = λ v f. (λ e. omega arith, λ e. omega arith);
        labels = λ i x y branch f. (λ e. omega arith, λ e. omega arith);
      }

  pub assign_by_rules : (branch : Label) (x v : Expr) {n : ℕ} → assignment w branch s x v ≡ refuse n → ByRules n
  assign_by_rules branch x v {n} e = post_refused _ _ (assignment w branch s x v) n (refusals.assigns _ w by_rules branch s x v) e

  pub judge_by_rules : (g : Expr) {n : ℕ} → judge w s g ≡ refuse n → ByRules n
  judge_by_rules g {n} e = post_refused _ _ (judge w s g) n (refusals.judges _ w by_rules s g) e

-- The row at hand

module _ (w : Setting) (t : Compiled) (span : Span) (row : ℕ) (l : List Label) (s : State) (whole : Result Pause State) where
  pub record TakesAssign : Type 0 where
    pub depth : ℕ
    pub at : ℕ
    pub x : Expr
    pub v : Expr
    pub k : Write → Result Pause State
    pub stands : AssignAt t row depth at x v
    pub means : whole ≡ (refused_as (pause_at (span.path row l)) (step w at s (attempt w (get_or l depth 0) s x v)) >>= k)
    pub then : (y : Write) → step w at s (attempt w (get_or l depth 0) s x v) ≡ ok y → Runs w t span (row + 1) l (performed w at y s) (k y)

  pub record TakesGuard : Type 0 where
    pub depth : ℕ
    pub at : ℕ
    pub g : Expr
    pub other : ℕ
    pub k : Judged → Result Pause State
    pub stands : GuardAt t row depth at g other
    pub means : whole ≡ (refused_as (pause_at (span.path row l)) (step w at s (judge w s.store g)) >>= k)
    pub then : (j : Judged) → step w at s (judge w s.store g) ≡ ok j
        → Runs w t span (next j.passes row other) (set l (depth + 1) (meet w.tables.order (get_or l depth 0) j.label)) (counted s) (k j)

  pub record TakesJump : Type 0 where
    pub target : ℕ
    pub stands : JumpAt t row target
    pub then : Runs w t span target l s whole

-- a step that is made goes on, and one that is refused is the end
module _ {w : Setting} {t : Compiled} {span : Span} {row : ℕ} {l : List Label} {s : State} {whole : Result Pause State} where
  module _ (a : TakesAssign w t span row l s whole) where
    pub assign_goes : (y : Write) → step w a.at s (attempt w (get_or l a.depth 0) s a.x a.v) ≡ ok y
        → Runs w t span (row + 1) l (performed w a.at y s) whole
    assign_goes y e = rw (a.means ∙ ok_then _ _ a.k y e) (a.then y e)

    pub assign_ends : (x : Stop) → step w a.at s (attempt w (get_or l a.depth 0) s a.x a.v) ≡ refuse x → whole ≡ refuse (pause_at (span.path row l) x)
    assign_ends x e = a.means ∙ refuse_then _ _ a.k x e

  module _ (a : TakesGuard w t span row l s whole) where
    pub guard_goes : (j : Judged) (b : Bool) (to : ℕ) → step w a.at s (judge w s.store a.g) ≡ ok j → j.passes ≡ b → to ≡ next b row a.other
        → Runs w t span to (set l (a.depth + 1) (meet w.tables.order (get_or l a.depth 0) j.label)) (counted s) whole
    guard_goes j b to e p q = rw (a.means ∙ ok_then _ _ a.k j e, q, ← p) (a.then j e)

    pub guard_ends : (x : Stop) → step w a.at s (judge w s.store a.g) ≡ refuse x → whole ≡ refuse (pause_at (span.path row l) x)
    guard_ends x e = a.means ∙ refuse_then _ _ a.k x e

-- two rows that are one hold the same places
pub same_assign : {d at x v d' at' x' v' : ℕ} → assign_row d at x v ≡ assign_row d' at' x' v' → (d ≡ d') × (x ≡ x') × (v ≡ v')
same_assign e = (cc, cc, cc)

pub same_guard : {d at x o d' at' x' o' : ℕ} → guard_row d at x o ≡ guard_row d' at' x' o' → (d ≡ d') × (x ≡ x') × (o ≡ o')
same_guard e = (cc, cc, cc)

pub same_jump : {x x' : ℕ} → jump_row x ≡ jump_row x' → x ≡ x'
same_jump e = cc

module _ {w : Setting} {t : Compiled} {span : Span} {row : ℕ} {l : List Label} {s : State} {whole : Result Pause State} where
  pub takes_assign : Runs w t span row l s whole → kind_at t row ≡ assign_kind → TakesAssign w t span row l s whole
  takes_assign (ends e a q) z = absurd (omega (arith, kind_end a.holds))
  takes_assign (assigns depth at x v k a i e f) z =
      record { depth = depth; at = at; x = x; v = v; k = k; stands = a; means = e; then = f }
  takes_assign (guards depth at g other k a i e f) z = absurd (omega (arith, kind_guard a.holds))
  takes_assign (jumps target a f) z = absurd (omega (arith, kind_jump a.holds))

  pub takes_guard : Runs w t span row l s whole → kind_at t row ≡ guard_kind → TakesGuard w t span row l s whole
  takes_guard (ends e a q) z = absurd (omega (arith, kind_end a.holds))
  takes_guard (assigns depth at x v k a i e f) z = absurd (omega (arith, kind_assign a.holds))
  takes_guard (guards depth at g other k a i e f) z =
      record { depth = depth; at = at; g = g; other = other; k = k; stands = a; means = e; then = f }
  takes_guard (jumps target a f) z = absurd (omega (arith, kind_jump a.holds))

  pub takes_jump : Runs w t span row l s whole → kind_at t row ≡ jump_kind → TakesJump w t span row l s whole
  takes_jump (ends e a q) z = absurd (omega (arith, kind_end a.holds))
  takes_jump (assigns depth at x v k a i e f) z = absurd (omega (arith, kind_assign a.holds))
  takes_jump (guards depth at g other k a i e f) z = absurd (omega (arith, kind_guard a.holds))
  takes_jump (jumps target a f) z = record { target = target; stands = a; then = f }

  -- the block's end
  pub run_ends : Runs w t span row l s whole → kind_at t row ≡ end_kind → (row ≡ span.last) × (whole ≡ ok s)
  run_ends (ends e a q) z = (e, q)
  run_ends (assigns depth at x v k a i e f) z = absurd (omega (arith, kind_assign a.holds))
  run_ends (guards depth at g other k a i e f) z = absurd (omega (arith, kind_guard a.holds))
  run_ends (jumps target a f) z = absurd (omega (arith, kind_jump a.holds))

  -- a row that is no end and no jump is a step's
  pub step_due : Runs w t span row l s whole → (kind_at t row ≡ end_kind → ⊥) → (kind_at t row ≡ jump_kind → ⊥)
      → (kind_at t row ≡ assign_kind) ⊎ (kind_at t row ≡ guard_kind)
  step_due (ends e a q) y z = absurd (y (kind_end a.holds))
  step_due (assigns depth at x v k a i e f) y z = inl (kind_assign a.holds)
  step_due (guards depth at g other k a i e f) y z = inr (kind_guard a.holds)
  step_due (jumps target a f) y z = absurd (z (kind_jump a.holds))

  -- and stands before the block's end
  pub step_inside : Runs w t span row l s whole → (kind_at t row ≡ assign_kind) ⊎ (kind_at t row ≡ guard_kind) → InSpan span row
  step_inside (ends e a q) z = absurd (⊎_elim (λ k. omega (arith, kind_end a.holds)) (λ k. omega (arith, kind_end a.holds)) z)
  step_inside (assigns depth at x v k a i e f) z = i
  step_inside (guards depth at g other k a i e f) z = i
  step_inside (jumps target a f) z = absurd (⊎_elim (λ k. omega (arith, kind_jump a.holds)) (λ k. omega (arith, kind_jump a.holds)) z)

  pub run_inside : Runs w t span row l s whole → row < most_rows
  run_inside (ends e a q) = a.early
  run_inside (assigns depth at x v k a i e f) = a.early
  run_inside (guards depth at g other k a i e f) = a.early
  run_inside (jumps target a f) = a.early

-- Labels: one that is set inside a guard is held
labels_set : {t : Table} {l held : List ℕ} (d x y : ℕ) → good t ≡ true → LabelsHeld t l held → d < most_deep → LabelHeld t x y
    → LabelsHeld t (set l (d + 1) (meet t (get_or l d 0) x)) (set held (d + 1) (bit_and (get_or held d 0) y))
labels_set {t} {l} {held} d x y g e k q =
    record {
      room = length-set l (d + 1) (meet t (get_or l d 0) x) ∙ e.room;
      size = length-set held (d + 1) (bit_and (get_or held d 0) y) ∙ e.size;
      same = λ i v. go i v (eqb i (d + 1)) refl;
    }
  where
    go : (i : ℕ) → i ≤ most_deep → (b : Bool) → eqb i (d + 1) ≡ b
        → LabelHeld t (get_or (set l (d + 1) (meet t (get_or l d 0) x)) i 0) (get_or (set held (d + 1) (bit_and (get_or held d 0) y)) i 0)
    go i v true u =
        rw (
          eqb-true i (d + 1) u,
          get_or-set_same held (d + 1) (bit_and (get_or held d 0) y) 0 (omega (arith, e.size)),
          get_or-set_same l (d + 1) (meet t (get_or l d 0) x) 0 (omega (arith, e.room)),
        )
        (meet_held t (e.same d (omega arith)) q g)
    go i v false u =
        let n = eqb-false i (d + 1) u in
        rw (get_or-set_other held (d + 1) i (bit_and (get_or held d 0) y) 0 n, get_or-set_other l (d + 1) i (meet t (get_or l d 0) x) 0 n) (e.same i v)

pub labels_inside : {t : Table} {l held : List ℕ} (d d' x y : ℕ) → d' ≡ d → good t ≡ true → LabelsHeld t l held → d < most_deep → LabelHeld t x y
    → LabelsHeld t (set l (d + 1) (meet t (get_or l d 0) x)) (set held (d' + 1) (bit_and (get_or held d' 0) y))
labels_inside d d' x y u g e k q = rw u (labels_set d x y g e k q)

-- Weights

module _ (t : Compiled) where
  rank_most : (row : ℕ) → rank t row ≤ most_rows - row
  unfolding rank
  rank_most row = go (eqb (kind_at t row) jump_kind)
    where
      go : (b : Bool) → elim b [ true ↦ most_rows - row | false ↦ 0 ] ≤ most_rows - row
      go true = omega arith
      go false = omega arith

  rank_jump : (row : ℕ) → kind_at t row ≡ jump_kind → rank t row ≡ most_rows - row
  unfolding rank
  rank_jump row e = rw (e, rank)

  rank_guard : (row : ℕ) → kind_at t row ≡ guard_kind → rank t row ≡ 0
  unfolding rank
  rank_guard row e = rw (e, rank)

module _ (g : Given) (row steps free : ℕ) where
  -- a step, a jump and a stop lessen the weight
  pub less_step : (row' free' : ℕ) → steps < g.budget → weight g (Control.On row' (steps + 1) free') < weight g (Control.On row steps free)
  unfolding weight
  less_step row' free' h = omega (arith, rank_most g.tables row')

  pub less_jump : (row' : ℕ) → kind_at g.tables row ≡ jump_kind → row < most_rows → (row < row') ⊎ (kind_at g.tables row' ≡ guard_kind)
      → weight g (Control.On row' steps free) < weight g (Control.On row steps free)
  unfolding weight
  less_jump row' k s h =
      ⊎_elim (λ q. omega (arith, rank_most g.tables row', rank_jump g.tables row k))
      (λ q. omega (arith, rank_guard g.tables row' q, rank_jump g.tables row k)) h

  pub less_stop : (number : ℕ) → weight g (Control.Stopped number row steps free) < weight g (Control.On row steps free)
  unfolding weight
  less_stop number = omega arith
