-- For `descent`, `budgets`, `journals`: two answers, of which the second is the first unless that is a refusal that Q holds of. Assumes nothing.
use mathlib.Core.Path.{◌≡◌, refl}
use mathlib.Core.Bool.{Bool, true, false}
use Rattle.values.specs.Result.{Result, ok, refuse, ◌>>=◌, require, refused_as}
use Rattle.values.proofs.Result.{Post, Any, Refuses, post_all}

pub record Unless {E A : Type 0} (Q : E → Type 0) (r r' : Result E A) : Type 0 where
  pub else : Refuses (λ e. Q e → ⊥) r → r' ≡ r

-- the second test passes where the first does, and is the first, unless X
pub record Follows (X : Type 0) (b b' : Bool) : Type 0 where
  pub passes : b ≡ true → b' ≡ true
  pub else : (X → ⊥) → b' ≡ b

pub same_test : {X : Type 0} {b : Bool} → Follows X b b
same_test = record { passes = λ e. e; else = λ _. refl }

module _ {E A : Type 0} {Q : E → Type 0} where
  pub unless_same : {r : Result E A} → Unless Q r r
  unless_same = record { else = λ _. refl }

  pub unless_require : {b b' : Bool} (e : E) {r r' : Result E A}
      → Follows (Q e) b b' → (b ≡ true → Unless Q r r') → Unless Q (require b e r) (require b' e r')
  unfolding Post require
  unless_require {b = true} e f u = record { else = λ q. rw (f.passes refl) ((u refl).else q) }
  unless_require {b = false} e f u = record { else = λ q. rw (f.else q) }

  -- P is what holds of the first answer's value
  pub unless_bind : {B : Type 0} (P : A → Type 0) (P' : E → Type 0) {r r' : Result E A} {k k' : A → Result E B}
      → Unless Q r r' → Post P P' r → ((a : A) → P a → Unless Q (k a) (k' a)) → Unless Q (r >>= k) (r' >>= k')
  unfolding Post ◌>>=◌
  unless_bind P P' {r = ok a} u p h = record { else = λ q. rw (u.else tt) ((h a p).else q) }
  unless_bind P P' {r = refuse e} u p h = record { else = λ q. rw (u.else q) }

  pub unless_then : {B : Type 0} {r r' : Result E A} {k k' : A → Result E B}
      → Unless Q r r' → ((a : A) → Unless Q (k a) (k' a)) → Unless Q (r >>= k) (r' >>= k')
  unless_then u h = unless_bind Any Any u (post_all _ _ _ (λ _. tt) (λ _. tt)) (λ a _. h a)

pub unless_refused_as : {E F A : Type 0} {Q : F → Type 0} (f : E → F) {r r' : Result E A}
    → Unless (λ e. Q (f e)) r r' → Unless Q (refused_as f r) (refused_as f r')
unfolding Post refused_as
unless_refused_as f {r = ok a} u = record { else = λ q. rw (u.else tt) }
unless_refused_as f {r = refuse e} u = record { else = λ q. rw (u.else q) }
