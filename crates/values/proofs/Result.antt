-- Laws of answers (specs/Result.antt): what holds of the value where there is one, and of the refusal where there is one. Assumes nothing.
use Rattle.std.proofs.Common.{◌≡◌, ℕ, ◌<◌, Bool, true, false, refl}
use Rattle.values.specs.Result.{Result, ok, refuse, ◌>>=◌, require, refused_as}

unfoldable pub Post : {E A : Type 0} → (A → Type 0) → (E → Type 0) → Result E A → Type 0
Post P Q (ok a) = P a
Post P Q (refuse e) = Q e

-- said of refusals that no one asks about
abbrev pub Any : {E : Type 0} → E → Type 0
Any e = Unit {0}

module _ {E A : Type 0} where
  pub post_ok : (P : A → Type 0) (Q : E → Type 0) (a : A) → P a → Post P Q (ok a)
  unfolding Post
  post_ok P Q a p = p

  pub post_refuse : (P : A → Type 0) (Q : E → Type 0) (e : E) → Q e → Post P Q (refuse e)
  unfolding Post
  post_refuse P Q e q = q

  -- an answer is what it is
  pub post_self : (r : Result E A) → Post (λ a. r ≡ ok a) Any r
  unfolding Post
  post_self (ok a) = refl
  post_self (refuse e) = tt

  pub post_all : (P : A → Type 0) (Q : E → Type 0) (r : Result E A) → ((a : A) → P a) → ((e : E) → Q e) → Post P Q r
  unfolding Post
  post_all P Q (ok a) p q = p a
  post_all P Q (refuse e) p q = q e

  pub post_map : (P P' : A → Type 0) (Q Q' : E → Type 0) (r : Result E A)
      → Post P Q r → ((a : A) → P a → P' a) → ((e : E) → Q e → Q' e) → Post P' Q' r
  unfolding Post
  post_map P P' Q Q' (ok a) h p q = p a h
  post_map P P' Q Q' (refuse e) h p q = q e h

  pub post_require : (P : A → Type 0) (Q : E → Type 0) (b : Bool) (e : E) (r : Result E A)
      → (b ≡ true → Post P Q r) → (b ≡ false → Q e) → Post P Q (require b e r)
  unfolding Post require
  post_require P Q true e r h q = h refl
  post_require P Q false e r h q = q refl

  -- what the value satisfies
  pub post_at : (P : A → Type 0) (Q : E → Type 0) (r : Result E A) (a : A) → Post P Q r → r ≡ ok a → P a
  unfolding Post
  post_at P Q r a h e = rw e at h

  -- what the refusal satisfies
  pub post_refused : (P : A → Type 0) (Q : E → Type 0) (r : Result E A) (x : E) → Post P Q r → r ≡ refuse x → Q x
  unfolding Post
  post_refused P Q r x h e = rw e at h

  -- two things that hold of one answer
  pub post_both : (P P' : A → Type 0) (Q Q' : E → Type 0) (r : Result E A)
      → Post P Q r → Post P' Q' r → Post (λ a. P a × P' a) (λ e. Q e × Q' e) r
  unfolding Post
  post_both P P' Q Q' (ok a) p q = (p, q)
  post_both P P' Q Q' (refuse e) p q = (p, q)

  -- what holds of the value under a condition
  pub post_when : {L : Type 0} (P : A → Type 0) (r : Result E A) → (L → Post P Any r) → Post (λ a. L → P a) Any r
  unfolding Post
  post_when P (ok a) h = h
  post_when P (refuse e) h = tt

  -- what holds of an answer, whichever it is
  pub post_join : (R : Result E A → Type 0) (r : Result E A) → Post (λ a. R (ok a)) (λ e. R (refuse e)) r → R r
  unfolding Post
  post_join R (ok a) p = p
  post_join R (refuse e) p = p

  pub bind_ok : (r : Result E A) → (r >>= λ a. ok a) ≡ r
  unfolding ◌>>=◌
  bind_ok (ok a) = refl
  bind_ok (refuse e) = refl

  -- an answer is one value or one refusal, and not both
  pub one_value : (r : Result E A) (a b : A) → r ≡ ok a → r ≡ ok b → a ≡ b
  one_value r a b p q = post_at (λ x. a ≡ x) Any r b (rw p (post_ok _ _ _ refl)) q

  pub one_refusal : (r : Result E A) (x y : E) → r ≡ refuse x → r ≡ refuse y → x ≡ y
  one_refusal r x y p q = post_refused Any (λ e. x ≡ e) r y (rw p (post_refuse _ _ _ refl)) q

  pub not_both : (r : Result E A) (a : A) (x : E) → r ≡ ok a → r ≡ refuse x → ⊥
  not_both r a x p q = post_refused Any (λ _. ⊥) r x (rw p (post_ok _ _ _ tt)) q

module _ {E F A : Type 0} where
  pub post_refused_as : (P : A → Type 0) (Q : F → Type 0) (f : E → F) (r : Result E A)
      → Post P (λ e. Q (f e)) r → Post P Q (refused_as f r)
  unfolding Post refused_as
  post_refused_as P Q f (ok a) h = h
  post_refused_as P Q f (refuse e) h = h

module _ {E A B : Type 0} where
  pub post_bind : (P : A → Type 0) (P' : B → Type 0) (Q : E → Type 0) (r : Result E A) (k : A → Result E B)
      → Post P Q r → ((a : A) → P a → Post P' Q (k a)) → Post P' Q (r >>= k)
  unfolding Post ◌>>=◌
  post_bind P P' Q (ok a) k p h = h a p
  post_bind P P' Q (refuse e) k p h = p

  -- two continuations that are related on what the first answer can be
  pub bind_with : (R : Result E B → Result E B → Type 0) (P : A → Type 0) (Q : E → Type 0) (r : Result E A) (k k' : A → Result E B)
      → Post P Q r → ((a : A) → P a → R (k a) (k' a)) → ((e : E) → R (refuse e) (refuse e)) → R (r >>= k) (r >>= k')
  unfolding Post ◌>>=◌
  bind_with R P Q (ok a) k k' p h l = h a p
  bind_with R P Q (refuse e) k k' p h l = l e

  pub bind_same : (P : A → Type 0) (Q : E → Type 0) (r : Result E A) (k k' : A → Result E B)
      → Post P Q r → ((a : A) → P a → k a ≡ k' a) → (r >>= k) ≡ (r >>= k')
  bind_same P Q r k k' p h = bind_with ◌≡◌ P Q r k k' p h (λ e. refl)

module _ {E A B C : Type 0} where
  pub bind_assoc : (r : Result E A) (k : A → Result E B) (l : B → Result E C)
      → (r >>= k >>= l) ≡ (r >>= λ a. k a >>= l)
  unfolding ◌>>=◌
  bind_assoc (ok a) k l = refl
  bind_assoc (refuse e) k l = refl

-- What holds of every refusal

-- Refusals have numbers from 1 on.
abbrev pub Positive : ℕ → Type 0
Positive e = 0 < e

abbrev pub Refuses : {E A : Type 0} → (E → Type 0) → Result E A → Type 0
Refuses Q r = Post Any Q r

module _ {E A : Type 0} (Q : E → Type 0) where
  pub refuses_ok : (a : A) → Refuses Q (ok a)
  refuses_ok a = post_ok Any Q a tt

  pub refuses_require : (b : Bool) (e : E) (r : Result E A) → Q e → Refuses Q r → Refuses Q (require b e r)
  refuses_require b e r q h = post_require Any Q b e r (λ _. h) (λ _. q)

  pub refuses_bind : {B : Type 0} (r : Result E A) (k : A → Result E B)
      → Refuses Q r → ((a : A) → Refuses Q (k a)) → Refuses Q (r >>= k)
  refuses_bind r k h l = post_bind Any Any Q r k h (λ a _. l a)
