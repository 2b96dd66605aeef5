-- For `descent` and `further`: two runs, of which the second answers as the first unless that is refused in some way, and gets as far. Assumes nothing.
use Prim.Native.Nat.{ℕ}
use mathlib.Core.Path.{◌≡◌}
use Rattle.values.specs.Result.{Result, ok, refuse, ◌>>=◌, refused_as}
use Rattle.values.proofs.Result.{Post, Any, post_ok, post_bind, post_refused_as}
use Rattle.calculus.specs.Calculus.{State, Stop}
use Rattle.calculus.specs.Blocks.{Halt, halt_in}
use Rattle.calculus.proofs.Steps.{Counted}
use Rattle.calculus.proofs.StepsBounded.{stopped, halted}
use Rattle.calculus.proofs.ResultUnless.{Unless, unless_same, unless_bind, unless_refused_as}

-- r ends, or is stopped at `place`, with no fewer than n steps done
abbrev pub Gets : {E : Type 0} → (E → State) → ℕ → ℕ → Result E State → Type 0
Gets place budget n r = Post (Counted budget n) (λ e. Counted budget n (place e)) r

-- where r is stopped, r' gets as far
abbrev pub Beyond : {E : Type 0} → (E → State) → ℕ → Result E State → Result E State → Type 0
Beyond place budget r r' = Post Any (λ e. Gets place budget (place e).steps r') r

pub record Eased {E : Type 0} (Q : E → Type 0) (place : E → State) (budget : ℕ) (r r' : Result E State) : Type 0 where
  pub alike : Unless Q r r'
  pub further : Beyond place budget r r'

module _ {E : Type 0} {Q : E → Type 0} {place : E → State} {budget : ℕ} where
  pub eased_end : (s : State) → Eased Q place budget (ok s) (ok s)
  eased_end s = record { alike = unless_same; further = post_ok _ _ _ tt }

  beyond_bind : (P : State → Type 0) (R : E → Type 0) (r r' : Result E State) (k k' : State → Result E State)
      → Eased Q place budget r r' → Post P R r → ((s : State) → P s → Beyond place budget (k s) (k' s))
      → ((n : ℕ) (t : State) → Counted budget n t → Gets place budget n (k' t)) → Beyond place budget (r >>= k) (r' >>= k')
  unfolding Post ◌>>=◌
  beyond_bind P R (ok s) r' k k' u p h counts = rw (u.alike.else tt) (h s p)
  beyond_bind P R (refuse e) r' k k' u p h counts = post_bind _ _ _ r' k' u.further (counts (place e).steps)

  -- one after the other: what comes second adds steps only
  pub eased_bind : (P : State → Type 0) (R : E → Type 0) (r r' : Result E State) (k k' : State → Result E State)
      → Eased Q place budget r r' → Post P R r → ((s : State) → P s → Eased Q place budget (k s) (k' s))
      → ((n : ℕ) (t : State) → Counted budget n t → Gets place budget n (k' t)) → Eased Q place budget (r >>= k) (r' >>= k')
  eased_bind P R r r' k k' u p h counts =
      record {
        alike = unless_bind P R u.alike p (λ s q. (h s q).alike);
        further = beyond_bind P R r r' k k' u p (λ s q. (h s q).further) counts;
      }

module _ {A : Type 0} {Q : Stop → Type 0} (P : A → Type 0) (s : State) where
  beyond_step : (budget : ℕ) (r r' : Result Stop A) (k k' : A → Result Stop State) → Unless Q r r' → Post P (λ e. e.state ≡ s) r
      → Gets stopped budget s.steps (r' >>= k') → ((a : A) → P a → Beyond stopped budget (k a) (k' a))
      → Beyond stopped budget (r >>= k) (r' >>= k')
  unfolding Post ◌>>=◌
  beyond_step budget (ok a) r' k k' u p b h = rw (u.else tt) (h a p)
  beyond_step budget (refuse e) r' k k' u p b h = rw p b

  -- a step that is refused is refused at s, where it was tried
  pub eased_step : {budget : ℕ} (r r' : Result Stop A) (k k' : A → Result Stop State) → Unless Q r r' → Post P (λ e. e.state ≡ s) r
      → Gets stopped budget s.steps (r' >>= k') → ((a : A) → P a → Eased Q stopped budget (k a) (k' a))
      → Eased Q stopped budget (r >>= k) (r' >>= k')
  eased_step {budget} r r' k k' u p b h =
      record { alike = unless_bind P _ u p (λ a q. (h a q).alike); further = beyond_step budget r r' k k' u p b (λ a q. (h a q).further) }

beyond_halted : (budget i : ℕ) (r r' : Result Stop State) → Beyond stopped budget r r'
    → Beyond halted budget (refused_as (halt_in i) r) (refused_as (halt_in i) r')
unfolding Post refused_as
beyond_halted budget i (ok s) r' b = tt
beyond_halted budget i (refuse e) r' b = post_refused_as _ _ _ r' b

pub eased_halted : {Q : Halt → Type 0} (budget i : ℕ) (r r' : Result Stop State) → Eased (λ e. Q (halt_in i e)) stopped budget r r'
    → Eased Q halted budget (refused_as (halt_in i) r) (refused_as (halt_in i) r')
eased_halted budget i r r' u = record { alike = unless_refused_as _ u.alike; further = beyond_halted budget i r r' u.further }
