-- Laws of the tests and searches of specs/Tests.antt: from a test to what it says, and back. Assumes nothing.
use Prim.Native.Nat.{ℕ, zero, suc, ◌+◌, ◌≤◌, ◌<◌}
use mathlib.Core.Path.{◌≡◌, refl, sym, ap, ap₂, subst, ◌∙◌}
use mathlib.Core.Logic.{◌⊎◌, inl, inr, ⊎_elim}
use mathlib.Core.Bool.{Bool, true, false, ◌&&◌, ◌||◌, and-true, true≢false, false≢true}
use mathlib.Core.List.{List, map}
use lib.ListN.{length, take, get_or}
use native.Mathlib.Nat.{le_of_suc-le-suc, not-suc-le-zero, eq-or-lt_of_le, le_refl, le_antisymm}
use native.Mathlib.Numerals.{add-one}
use native.Mathlib.Omega.{arith}
use denote.Param.Members.{Mut}
use Rattle.std.specs.declared.ops.Range.{Range}
use Rattle.std.specs.Fn.{Called}
use Rattle.std.specs.Iterator.{ChecksAll}
use Rattle.std.proofs.iter.Yields.{nat_range_steps}
use Rattle.std.proofs.lemmas.Iterator.{YieldsList-from_range}
use Rattle.std.proofs.lemmas.Iterator.Search.{all_from_yields_List}
use Rattle.std.specs.List.{list_all, list_any, range_with_len}
use Rattle.std.proofs.lemmas.List.Folds.{list_all-append, list_all-map, list_any_more}
use Rattle.std.proofs.lemmas.List.FromFn.{map-range_with_len_more}
use Rattle.lattice.specs.Tests.{◌and◌, ◌or◌, ◌implies◌, every, some, find}

pub and_l : (a b : Bool) → a and b ≡ true → a ≡ true
unfolding ◌and◌
and_l true b e = refl
and_l false b e = e

pub and_r : (a b : Bool) → a and b ≡ true → b ≡ true
unfolding ◌and◌
and_r true b e = e
and_r false b e = absurd (false≢true e)

pub and_of : (a b : Bool) → a ≡ true → b ≡ true → a and b ≡ true
unfolding ◌and◌
and_of true b p q = q
and_of false b p q = p

pub or_at : (a b : Bool) → a or b ≡ true → (a ≡ true) ⊎ (b ≡ true)
unfolding ◌or◌
or_at true b e = inl refl
or_at false b e = inr e

pub or_l : (a b : Bool) → a ≡ true → a or b ≡ true
unfolding ◌or◌
or_l true b e = refl
or_l false b e = absurd (false≢true e)

pub or_r : (a b : Bool) → b ≡ true → a or b ≡ true
unfolding ◌or◌
or_r true b e = refl
or_r false b e = e

pub imp_at : (a b : Bool) → a implies b ≡ true → a ≡ true → b ≡ true
unfolding ◌implies◌
imp_at true b e p = e
imp_at false b e p = absurd (false≢true p)

pub imp_of : (a b : Bool) → (a ≡ true → b ≡ true) → a implies b ≡ true
unfolding ◌implies◌
imp_of true b f = f refl
imp_of false b f = refl

pub is_false : (b : Bool) → (b ≡ true → ⊥) → b ≡ false
is_false true h = absurd (h refl)
is_false false h = refl

-- what is left of a test once its first part is known
pub and_known : (a b : Bool) → a ≡ true → a and b ≡ b
unfolding ◌and◌
and_known a b e = rw e

pub and_fails : (a b : Bool) → a ≡ false → a and b ≡ false
unfolding ◌and◌
and_fails a b e = rw e

pub or_known : (a b : Bool) → a ≡ true → a or b ≡ true
unfolding ◌or◌
or_known a b e = rw e

pub or_left : (a b : Bool) → a ≡ false → a or b ≡ b
unfolding ◌or◌
or_left a b e = rw e

pub imp_known : (a b : Bool) → a ≡ true → a implies b ≡ b
unfolding ◌implies◌
imp_known a b e = rw e

pub imp_void : (a b : Bool) → a ≡ false → a implies b ≡ true
unfolding ◌implies◌
imp_void a b e = rw e

pub ruleset branches = (and_known, and_fails, or_known, or_left, imp_known, imp_void)

-- two tests are equal where each follows from the other
pub iff : (a b : Bool) → (a ≡ true → b ≡ true) → (b ≡ true → a ≡ true) → a ≡ b
iff true b f g = sym (f refl)
iff false true f g = g refl
iff false false f g = refl

pub every_at : (n : ℕ) (f : ℕ → Bool) → every n f ≡ true → (k : ℕ) → k < n → f k ≡ true
unfolding every
every_at zero f e k h = absurd (not-suc-le-zero h)
every_at (suc n) f e k h =
    ⊎_elim (λ q. subst (λ (m : ℕ). f m ≡ true) (sym q) (and_r (every n f) (f n) e))
    (λ l. every_at n f (and_l (every n f) (f n) e) k l) (eq-or-lt_of_le (le_of_suc-le-suc h))

pub every_of : (n : ℕ) (f : ℕ → Bool) → ((k : ℕ) → k < n → f k ≡ true) → every n f ≡ true
unfolding every
every_of zero f h = refl
every_of (suc n) f h = and_of (every n f) (f n) (every_of n f (λ k l. h k (omega arith))) (h n (omega arith))

-- two tests that are equal at every number below n
pub every_same : (n : ℕ) (f g : ℕ → Bool) → ((i : ℕ) → i < n → f i ≡ g i) → every n f ≡ every n g
unfolding every
every_same zero f g h = refl
every_same (suc n) f g h = ap₂ ◌and◌ (every_same n f g (λ i l. h i (omega arith))) (h n (omega arith))

pub some_at : (n : ℕ) (f : ℕ → Bool) → some n f ≡ true → (k : ℕ) × (k < n) × (f k ≡ true)
unfolding some
some_at zero f e = absurd (false≢true e)
some_at (suc n) f e =
    ⊎_elim (λ p. let r = some_at n f p in (r.0, omega (arith, r.1), r.2)) (λ p. (n, le_refl (suc n), p)) (or_at (some n f) (f n) e)

pub some_of : (n : ℕ) (f : ℕ → Bool) (k : ℕ) → k < n → f k ≡ true → some n f ≡ true
unfolding some
some_of zero f k h e = absurd (not-suc-le-zero h)
some_of (suc n) f k h e =
    ⊎_elim (λ q. or_r (some n f) (f n) (subst (λ (m : ℕ). f m ≡ true) q e)) (λ l. or_l (some n f) (f n) (some_of n f k l e))
    (eq-or-lt_of_le (le_of_suc-le-suc h))

pub every_out : (n : ℕ) (f : ℕ → Bool) (k : ℕ) → k < n → f k ≡ false → every n f ≡ false
every_out n f k h e = is_false (every n f) (λ t. true≢false (sym (every_at n f t k h) ∙ e))

-- a loop's next turn
pub every_more : (n : ℕ) (f : ℕ → Bool) → every n f ≡ true → f n ≡ true → every (n + 1) f ≡ true
unfolding every
every_more n f p q = rw add-one (and_of (every n f) (f n) p q)

pub some_more : (n : ℕ) (f : ℕ → Bool) → some n f ≡ false → f n ≡ false → some (n + 1) f ≡ false
unfolding some ◌or◌
some_more n f p q = rw (add-one, p, q) refl

-- a loop's end
pub some_done : (n k : ℕ) (f : ℕ → Bool) → k ≤ n → n ≤ k → some k f ≡ false → false ≡ some n f
some_done n k f p q e = sym e ∙ ap (λ (m : ℕ). some m f) (le_antisymm p q)

pub every_done : (n k : ℕ) (f : ℕ → Bool) → k ≤ n → n ≤ k → every k f ≡ true → true ≡ every n f
every_done n k f p q e = sym e ∙ ap (λ (m : ℕ). every m f) (le_antisymm p q)

-- the library's tests are these
and_same : (a b : Bool) → a && b ≡ a and b
unfolding ◌and◌
and_same true b = refl
and_same false b = refl

or_same : (a b : Bool) → a || b ≡ a or b
unfolding ◌or◌
or_same true b = refl
or_same false b = refl

range_more : (n : ℕ) (f : ℕ → Bool) → list_all f (range_with_len 0 (n + 1)) ≡ list_all f (range_with_len 0 n) && f n
range_more n f =
    let id : ℕ → ℕ = λ k. k in
    sym (list_all-map f id _) ∙ ap (list_all f) (map-range_with_len_more id 0 n n (omega arith))
    ∙ list_all-append f (map id (range_with_len 0 n)) _ ∙ rw (list_all-map f id, and-true)

-- `all` over 0..n
pub every_range : (n : ℕ) (f : ℕ → Bool) → list_all f (range_with_len 0 n) ≡ every n f
unfolding every
every_range zero f = refl
every_range (suc n) f =
    subst (λ (m : ℕ). list_all f (range_with_len 0 m) ≡ every m f) (add-one n)
    (range_more n f ∙ rw (every_range n f, add-one) (and_same _ _))

-- what `all` answers over 0..n, where the closure computes the test
pub every_from_all : {F : Type 0} {g : Mut F (ℕ × Unit {0}) Bool} {s u : Range ℕ} {f : F} {r : Bool} (n : ℕ) (test : ℕ → Bool)
    → ChecksAll nat_range_steps g s f r u → s ≡ record { start = 0; end = n }
    → ((x : ℕ) (b : Bool) (q : F) → Called g f (x, tt) b q → (q ≡ f) × (b ≡ test x)) → r ≡ every n test
every_from_all n test ran e called =
    all_from_yields_List test _ _ _ ran (YieldsList-from_range 0 n n e (omega arith)) called ∙ every_range n test

-- `any` over the first n of a list
pub some_front : (n : ℕ) (f : ℕ → Bool) (xs : List ℕ) → n ≤ length xs → list_any f (take n xs) ≡ some n (λ k. f (get_or xs k 0))
unfolding some
some_front zero f xs h = refl
some_front (suc n) f xs h = rw (← add-one n, list_any_more f xs n 0 (omega arith), some_front n f xs (omega arith)) (or_same _ _)

-- a search that can succeed does
pub find_at : (n : ℕ) (f : ℕ → Bool) (k : ℕ) → k < n → f k ≡ true → (find n f < n) × (f (find n f) ≡ true)
unfolding find
find_at zero f k h e = absurd (not-suc-le-zero h)
find_at (suc n) f k h e = go (λ l. find_at n f k l e) (f n) refl
  where
    Ok : ℕ → Type 0
    Ok m = (m < suc n) × (f m ≡ true)

    go : (k < n → (find n f < n) × (f (find n f) ≡ true)) → (b : Bool) → f n ≡ b → Ok (elim b [ true ↦ n | false ↦ find n f ])
    go ih true p = (le_refl (suc n), p)
    go ih false p =
        ⊎_elim (λ q. absurd (true≢false (sym e ∙ ap f q ∙ p)))
        (λ l. let r = ih l in (omega (arith, r.0), r.1)) (eq-or-lt_of_le (le_of_suc-le-suc h))
