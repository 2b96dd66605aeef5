-- Laws of checks in turn (`in_turn`, specs/Result.antt), as a loop makes them, and of the numbers of their refusals. Assumes nothing.
use Rattle.std.proofs.Common.{◌≡◌, ℕ, zero, suc, ◌+◌, ◌<◌, Bool, true, false, refl, subst, ⊎_elim, le_of_suc-le-suc, not-suc-le-zero, eq-or-lt_of_le, add-one, arith}
use Rattle.values.specs.Result.{Result, ok, refuse, ◌>>=◌, require, in_turn}

module _ {E : Type 0} where
  pub in_turn_more : (n : ℕ) (f : ℕ → Result E (Unit {0})) → in_turn n f ≡ ok tt → f n ≡ ok tt → in_turn (n + 1) f ≡ ok tt
  unfolding in_turn ◌>>=◌
  in_turn_more n f p q = rw (add-one, p) q

module _ {E A : Type 0} where
  pub require_ok : (b : Bool) (e : E) (r : Result E A) (a : A) → require b e r ≡ ok a → (b ≡ true) × (r ≡ ok a)
  unfolding require
  require_ok true e r a p = (refl, p)
  require_ok false e r a p = absurd (let z : ◌≡◌ {A = ℕ} 0 1 = cc in omega arith)

module _ {E : Type 0} where
  -- the first check that refuses is the answer
  pub in_turn_refuses : (n : ℕ) (f : ℕ → Result E (Unit {0})) (k : ℕ) (e : E) → k < n → in_turn k f ≡ ok tt → f k ≡ refuse e → in_turn n f ≡ refuse e
  unfolding in_turn ◌>>=◌
  in_turn_refuses zero f k e h p q = absurd (not-suc-le-zero h)
  in_turn_refuses (suc n) f k e h p q =
      ⊎_elim (λ i. subst (λ (m : ℕ). (in_turn m f >>= λ _. f m) ≡ refuse e) i (rw p q)) (λ l. rw (in_turn_refuses n f k e l p q) refl)
      (eq-or-lt_of_le (le_of_suc-le-suc h))
