-- Runs from a row of the compiled tables (`Runs`) only append to the journal, and stay within the budget. Assumes nothing.
use Prim.Native.Nat.{ℕ, ◌≤◌, ◌<◌}
use mathlib.Core.Path.{◌≡◌, refl}
use mathlib.Core.List.{List}
use native.Mathlib.Omega.{arith}
use Rattle.values.specs.Result.{Result, ok}
use Rattle.values.proofs.Result.{Post, Any, post_ok, post_self, post_map, post_both, post_bind, post_refused_as}
use Rattle.syntax.specs.declared.Compiled.{Compiled}
use Rattle.calculus.specs.Calculus.{Setting, State, step, recorded, counted, performed}
use Rattle.pausing.specs.Paths.{Pause}
use Rattle.calculus.proofs.CalculusJournal.{Extends, extends_refl, extends_trans}
use Rattle.calculus.proofs.Steps.{made}
use Rattle.machine.specs.CompiledRuns.{Span, Runs, ends, assigns, guards, jumps}

module _ (w : Setting) (t : Compiled) (span : Span) where
  made_self : {A : Type 0} (at : ℕ) (s : State) (r : Result ℕ A) → s.steps ≤ w.limits.budget
      → Post (λ a. (step w at s r ≡ ok a) × (s.steps < w.limits.budget)) Any (step w at s r)
  made_self at s r h =
      post_map _ _ _ _ _ (post_both _ _ _ _ _ (post_self (step w at s r)) (made w s.steps at s r (record { grown = omega arith; kept = h })))
      (λ a q. q) (λ _ _. tt)

  pub runs_extend : {r : ℕ} {l : List ℕ} {s : State} {whole : Result Pause State} → Runs w t span r l s whole → s.steps ≤ w.limits.budget
      → Post (λ u. Extends s.journal u.journal × (u.steps ≤ w.limits.budget)) Any whole
  unfolding performed recorded counted
  runs_extend {s = s} (ends e a q) h = rw q (post_ok _ _ _ (extends_refl s.journal, h))
  runs_extend {s = s} (assigns depth at x v k a i e f) h =
      rw e (post_bind _ _ _ _ _ (post_refused_as _ _ _ _ (made_self at s _ h)) λ y q.
      post_map _ _ _ _ _ (runs_extend (f y q.0) (omega (arith, q.1)))
      (λ u z. (extends_trans s.journal _ u.journal (record { more = _; is = refl }) z.0, z.1)) (λ _ _. tt))
  runs_extend {s = s} (guards depth at g other k a i e f) h =
      rw e (post_bind _ _ _ _ _ (post_refused_as _ _ _ _ (made_self at s _ h)) λ j q. runs_extend (f j q.0) (omega (arith, q.1)))
  runs_extend (jumps target a f) h = runs_extend f h
