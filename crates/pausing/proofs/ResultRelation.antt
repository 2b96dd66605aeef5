-- For `starts_as_run`, `none_full`, `never_paused`: two answers that are alike, with related values or related refusals. Assumes nothing.
use mathlib.Core.Path.{◌≡◌, refl}
use Rattle.values.specs.Result.{Result, ok, refuse, ◌>>=◌, refused_as}

unfoldable pub Alike : {E F A B : Type 0} → (A → B → Type 0) → (E → F → Type 0) → Result E A → Result F B → Type 0
Alike P Q (ok a) (ok b) = P a b
Alike P Q (ok a) (refuse y) = ⊥
Alike P Q (refuse x) (ok b) = ⊥
Alike P Q (refuse x) (refuse y) = Q x y

module _ {E F A B : Type 0} (P : A → B → Type 0) (Q : E → F → Type 0) where
  pub alike_ok : (a : A) (b : B) → P a b → Alike P Q (ok a) (ok b)
  unfolding Alike
  alike_ok a b p = p

  pub alike_refuse : (x : E) (y : F) → Q x y → Alike P Q (refuse x) (refuse y)
  unfolding Alike
  alike_refuse x y q = q

-- refusals said in other terms
pub alike_as : {E F E' F' A B : Type 0} (P : A → B → Type 0) (Q : E → F → Type 0) (Q' : E' → F' → Type 0) (f : E → E') (f' : F → F')
    → ((x : E) (y : F) → Q x y → Q' (f x) (f' y)) → (r : Result E A) (r' : Result F B) → Alike P Q r r' → Alike P Q' (refused_as f r) (refused_as f' r')
unfolding Alike refused_as
alike_as P Q Q' f f' h (ok a) (ok b) p = p
alike_as P Q Q' f f' h (ok a) (refuse y) p = elim p [ ]
alike_as P Q Q' f f' h (refuse x) (ok b) p = elim p [ ]
alike_as P Q Q' f f' h (refuse x) (refuse y) p = h x y p

module _ {E F A B A' B' : Type 0} (P : A → B → Type 0) (P' : A' → B' → Type 0) (Q : E → F → Type 0) where
  pub alike_bind : (r : Result E A) (r' : Result F B) (k : A → Result E A') (k' : B → Result F B')
      → Alike P Q r r' → ((a : A) (b : B) → P a b → Alike P' Q (k a) (k' b)) → Alike P' Q (r >>= k) (r' >>= k')
  unfolding Alike ◌>>=◌
  alike_bind (ok a) (ok b) k k' p h = h a b p
  alike_bind (ok a) (refuse y) k k' p h = elim p [ ]
  alike_bind (refuse x) (ok b) k k' p h = elim p [ ]
  alike_bind (refuse x) (refuse y) k k' p h = p

-- where the second is refused, so is the first
pub alike_refused : {E F A B : Type 0} (P : A → B → Type 0) (Q : E → F → Type 0) (r : Result E A) (r' : Result F B) (y : F)
    → Alike P Q r r' → r' ≡ refuse y → (x : E) × (r ≡ refuse x) × Q x y
unfolding Alike
alike_refused P Q (ok a) r' y p e = absurd (rw e at p)
alike_refused P Q (refuse x) r' y p e = (x, refl, rw e at p)
