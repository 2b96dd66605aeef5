-- For `never_paused`: two runs, the second with the larger budget; where the first is out of budget it goes on, else they are one. Assumes nothing.
use Prim.Native.Nat.{ℕ, ◌≤◌, ◌<◌}
use mathlib.Core.Path.{◌≡◌, refl, sym}
use mathlib.Core.Bool.{Bool, true, false}
use mathlib.Core.List.{[]}
use native.Mathlib.Omega.{arith}
use lib.Dec.{eqb}
use borrow.Author.Tests.{eqb-false, eq-eqb, ne_eqb}
use Rattle.values.specs.Result.{Result, ok, refuse, ◌>>=◌, require, refused_as}
use Rattle.values.proofs.Result.{Post, Refuses}
use Rattle.calculus.specs.Calculus.{Setting, State, Stop, stop_at, step, choose}
use Rattle.pausing.specs.Paths.{Pause, pause_at}

-- where a run is out of budget, k goes on
unfoldable pub onward : {E : Type 0} → (E → Stop) → (E → Result E State) → Result E State → Result E State
onward stop k (ok s) = ok s
onward stop k (refuse e) = choose (eqb (stop e).number 17) k refuse e

module _ {E : Type 0} (stop : E → Stop) (k : E → Result E State) where
  pub onward_ok : (s : State) → ok s ≡ onward stop k (ok s)
  unfolding onward
  onward_ok s = refl

  -- out of budget
  pub onward_17 : (e : E) → (stop e).number ≡ 17 → onward stop k (refuse e) ≡ k e
  unfolding onward choose
  onward_17 e h = rw (eq-eqb (stop e).number 17 h)

  -- refused otherwise
  pub onward_else : (e : E) → ((stop e).number ≡ 17 → ⊥) → onward stop k (refuse e) ≡ refuse e
  unfolding onward choose
  onward_else e h = rw (ne_eqb (stop e).number 17 h)

  pub onward_choose : {A : Type 0} (b : Bool) (f g f₁ g₁ : A → Result E State) (a : A)
      → f₁ a ≡ onward stop k (f a) → g₁ a ≡ onward stop k (g a) → choose b f₁ g₁ a ≡ onward stop k (choose b f g a)
  unfolding choose
  onward_choose true f g f₁ g₁ a p q = p
  onward_choose false f g f₁ g₁ a p q = q

-- a part whose refusals are said in terms of the whole, and what follows it
module _ {E F : Type 0} (part : E → Stop) (whole : F → Stop) (f : E → F) (same : (e : E) → whole (f e) ≡ part e)
    (j : E → Result E State) (k : F → Result F State) where
  -- one refusal: out of budget, or not
  refusal_onward : (b : Bool) (e : E) (m₁ : State → Result F State) → k (f e) ≡ (refused_as f (j e) >>= m₁)
      → (refused_as f (choose b j refuse e) >>= m₁) ≡ choose b k refuse (f e)
  unfolding choose refused_as ◌>>=◌
  refusal_onward true e m₁ h = sym h
  refusal_onward false e m₁ h = refl

  pub onward_bind : (P : State → Type 0) (Q : E → Type 0) (m₁ m : State → Result F State) (r₁ r : Result E State)
      → r₁ ≡ onward part j r → ((e : E) → k (f e) ≡ (refused_as f (j e) >>= m₁)) → Post P Q r → ((s : State) → P s → m₁ s ≡ onward whole k (m s))
      → (refused_as f r₁ >>= m₁) ≡ onward whole k (refused_as f r >>= m)
  unfolding onward refused_as ◌>>=◌ Post
  onward_bind P Q m₁ m r₁ (ok s) e h p q = rw e (q s p)
  onward_bind P Q m₁ m r₁ (refuse x) e h p q = rw (e, same x) (refusal_onward (eqb (part x).number 17) x m₁ (h x))

  pub onward_as : (r₁ r : Result E State) → r₁ ≡ onward part j r → ((e : E) → k (f e) ≡ refused_as f (j e))
      → refused_as f r₁ ≡ onward whole k (refused_as f r)
  unfolding onward refused_as choose
  onward_as r₁ (ok s) e h = rw e
  onward_as r₁ (refuse x) e h = rw (e, same x) (go (eqb (part x).number 17) (h x))
    where
      go : (b : Bool) → k (f x) ≡ refused_as f (j x) → refused_as f (choose b j refuse x) ≡ choose b k refuse (f x)
      go true h = sym h
      go false h = refl

-- a step: it is out of budget, or it is the same step under both budgets
pub onward_step : {A : Type 0} (w w' : Setting) → w.limits.budget ≤ w'.limits.budget → (at : ℕ) (s : State) → s.steps ≤ w.limits.budget
    → (r₁ r : Result ℕ A) → r₁ ≡ r → Refuses (λ n. n ≡ 17 → ⊥) r → (m₁ m : A → Result Pause State) (k : Pause → Result Pause State)
    → k (pause_at [] (stop_at at s 17)) ≡ (refused_as (pause_at []) (step w' at s r₁) >>= m₁)
    → (s.steps < w.limits.budget → (a : A) → m₁ a ≡ onward (λ x. x.stop) k (m a))
    → (refused_as (pause_at []) (step w' at s r₁) >>= m₁) ≡ onward (λ x. x.stop) k (refused_as (pause_at []) (step w at s r) >>= m)
unfolding step require refused_as ◌>>=◌ onward Post choose
onward_step {A} w w' more at s h r₁ r e n m₁ m k out on = go (eqb s.steps w.limits.budget) refl
  where
    same : (r : Result ℕ A) → Refuses (λ n. n ≡ 17 → ⊥) r → s.steps < w.limits.budget
        → (refused_as (pause_at []) (refused_as (stop_at at s) r) >>= m₁) ≡ onward (λ x. x.stop) k (refused_as (pause_at []) (refused_as (stop_at at s) r) >>= m)
    same (ok a) n l = on l a
    same (refuse x) n l = rw (ne_eqb x 17 n)

    go : (b : Bool) → eqb s.steps w.limits.budget ≡ b
        → (refused_as (pause_at []) (step w' at s r₁) >>= m₁) ≡ onward (λ x. x.stop) k (refused_as (pause_at []) (step w at s r) >>= m)
    go true q = rw q (sym out)
    go false q =
        let l : s.steps < w.limits.budget = omega (arith, eqb-false s.steps w.limits.budget q) in
        rw (q, ne_eqb s.steps w'.limits.budget (λ z. omega arith), e) (same r n l)
