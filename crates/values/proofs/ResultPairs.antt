-- Laws of two answers side by side (`Post₂`, of specs/Result.antt): what holds of the two values where there are two. Assumes nothing.
use Rattle.std.proofs.Common.{◌≡◌, Bool, true, false, List, [], ◌∷◌, refl}
use Rattle.values.specs.Result.{Result, ok, refuse, ◌>>=◌, require, refused_as}
use Rattle.values.proofs.Result.{Post, Any}

unfoldable pub Post₂ : {E A B : Type 0} → (A → B → Type 0) → Result E A → Result E B → Type 0
Post₂ R (ok a) (ok b) = R a b
Post₂ R (ok a) (refuse e) = Unit {0}
Post₂ R (refuse e) y = Unit {0}

-- two lists whose entries are related one by one
pub data Each {A B : Type 0} (R : A → B → Type 0) : List A → List B → Type 0 where
  none : Each R [] []
  more : {a : A} {b : B} {xs : List A} {ys : List B} → R a b → Each R xs ys → Each R (a ∷ xs) (b ∷ ys)

module _ (E : Type 0) {A B : Type 0} where
  pub post₂_ok : (R : A → B → Type 0) (a : A) (b : B) → R a b → Post₂ {E = E} R (ok a) (ok b)
  unfolding Post₂
  post₂_ok R a b p = p

module _ {E A B : Type 0} where
  pub post₂_refuse_l : (R : A → B → Type 0) (e : E) (y : Result E B) → Post₂ R (refuse e) y
  unfolding Post₂
  post₂_refuse_l R e y = tt

  pub post₂_refuse_r : (R : A → B → Type 0) (x : Result E A) (e : E) → Post₂ R x (refuse e)
  unfolding Post₂
  post₂_refuse_r R (ok a) e = tt
  post₂_refuse_r R (refuse d) e = tt

  pub post₂_map : (R S : A → B → Type 0) (x : Result E A) (y : Result E B)
      → Post₂ R x y → ((a : A) (b : B) → R a b → S a b) → Post₂ S x y
  unfolding Post₂
  post₂_map R S (ok a) (ok b) p h = h a b p
  post₂_map R S (ok a) (refuse e) p h = tt
  post₂_map R S (refuse e) y p h = tt

  -- two answers of which each has its own law
  pub post₂_join : (P : A → Type 0) (Q : B → Type 0) (R : A → B → Type 0) (x : Result E A) (y : Result E B)
      → Post P Any x → Post Q Any y → ((a : A) (b : B) → P a → Q b → R a b) → Post₂ R x y
  unfolding Post Post₂
  post₂_join P Q R (ok a) (ok b) p q h = h a b p q
  post₂_join P Q R (ok a) (refuse e) p q h = tt
  post₂_join P Q R (refuse e) y p q h = tt

  pub post₂_require : (R : A → B → Type 0) (b b' : Bool) (e e' : E) (x : Result E A) (y : Result E B)
      → Post₂ R x y → Post₂ R (require b e x) (require b' e' y)
  unfolding Post₂ require
  post₂_require R true true e e' x y h = h
  post₂_require R true false e e' x y h = post₂_refuse_r R x e'
  post₂_require R false b' e e' x y h = tt

  -- what two values satisfy
  pub post₂_at : (R : A → B → Type 0) (x : Result E A) (y : Result E B) (a : A) (b : B)
      → Post₂ R x y → x ≡ ok a → y ≡ ok b → R a b
  unfolding Post₂
  post₂_at R x y a b h p q = rw (p, q) at h

module _ {E A : Type 0} where
  diagonal : (P : A → Type 0) (x : Result E A) → Post P Any x → Post₂ (λ (a b : A). (a ≡ b) × P a) x x
  unfolding Post Post₂
  diagonal P (ok a) p = (refl, p)
  diagonal P (refuse e) p = tt

  -- equal answers
  pub post₂_equal : (P : A → Type 0) (x y : Result E A) → x ≡ y → Post P Any x → Post₂ (λ (a b : A). (a ≡ b) × P a) x y
  post₂_equal P x y e p = rw e (diagonal P y (rw e at p))

module _ {E F A B : Type 0} where
  pub post₂_refused_as : (R : A → B → Type 0) (f g : E → F) (x : Result E A) (y : Result E B)
      → Post₂ R x y → Post₂ R (refused_as f x) (refused_as g y)
  unfolding Post₂ refused_as
  post₂_refused_as R f g (ok a) (ok b) h = h
  post₂_refused_as R f g (ok a) (refuse e) h = tt
  post₂_refused_as R f g (refuse e) y h = tt

module _ {E A A' B B' : Type 0} where
  pub post₂_bind : (R : A → A' → Type 0) (S : B → B' → Type 0) (x : Result E A) (x' : Result E A')
      (k : A → Result E B) (k' : A' → Result E B')
      → Post₂ R x x' → ((a : A) (a' : A') → R a a' → Post₂ S (k a) (k' a')) → Post₂ S (x >>= k) (x' >>= k')
  unfolding Post₂ ◌>>=◌
  post₂_bind R S (ok a) (ok a') k k' p h = h a a' p
  post₂_bind R S (ok a) (refuse e) k k' p h = post₂_refuse_r S (k a) e
  post₂_bind R S (refuse e) x' k k' p h = tt
