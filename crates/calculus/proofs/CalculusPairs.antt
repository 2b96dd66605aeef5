-- Laws of two runs side by side (`step`, `loop`, specs/Calculus.antt): what holds of both where neither is stopped. Assumes nothing.
use Prim.Native.Nat.{ℕ, zero, suc}
use mathlib.Core.Path.{◌≡◌}
use Rattle.lattice.specs.Order.{Label}
use Rattle.values.specs.Result.{Result}
use Rattle.values.proofs.ResultPairs.{Post₂, post₂_ok, post₂_refuse_l, post₂_refuse_r, post₂_require, post₂_refused_as, post₂_bind}
use Rattle.calculus.specs.Calculus.{Setting, State, Stop, Judged, counted, step, loop}
use Rattle.calculus.proofs.Steps.{choose_both}

module _ {A B : Type 0} where
  pub post₂_step : (R : A → B → Type 0) (w w' : Setting) (at : ℕ) (s s' : State) (r : Result ℕ A) (r' : Result ℕ B)
      → Post₂ R r r' → Post₂ R (step w at s r) (step w' at s' r')
  unfolding step
  post₂_step R w w' at s s' r r' p = post₂_refused_as _ _ _ _ _ (post₂_require _ _ _ _ _ _ _ p)

-- two loops: at related states either the guards agree, or what both loops come to is related in any case
module _ (R : State → State → Type 0) (J : Judged → Type 0) (at : ℕ)
    (guard guard' : State → Result Stop Judged) (body body' : Label → State → Result Stop State)
    (counts : (s t : State) → R s t → R (counted s) (counted t))
    (bodies : (j : Judged) → J j → (s t : State) → R s t → Post₂ R (body j.label s) (body' j.label t)) where
  pub data Together (s t : State) : Type 0 where
    agree : Post₂ (λ (j k : Judged). (j ≡ k) × J j) (guard s) (guard' t) → Together s t
    apart : ((n m : ℕ) → Post₂ R (loop guard body at n s) (loop guard' body' at m t)) → Together s t

  pub post₂_loop : ((s t : State) → R s t → Together s t)
      → (n m : ℕ) (s t : State) → R s t → Post₂ R (loop guard body at n s) (loop guard' body' at m t)
  unfolding loop
  post₂_loop h zero m s t r = post₂_refuse_l R _ _
  post₂_loop h (suc n) zero s t r = post₂_refuse_r R _ _
  post₂_loop h (suc n) (suc m) s t r = go (λ s t r. post₂_loop h n m s t r) (h s t r)
    where
      go : ((s t : State) → R s t → Post₂ R (loop guard body at n s) (loop guard' body' at m t))
          → Together s t → Post₂ R (loop guard body at (suc n) s) (loop guard' body' at (suc m) t)
      go ih (apart k) = k (suc n) (suc m)
      go ih (agree k) =
          post₂_bind _ _ _ _ _ _ k λ j j' q.
          rw (← q.0) (
          choose_both (Post₂ R) j.passes _ _ _ _ _ _
          (post₂_bind R _ _ _ _ _ (bodies j q.1 (counted s) (counted t) (counts s t r)) (λ u v k. ih u v k))
          (post₂_ok _ _ _ _ (counts s t r)))
