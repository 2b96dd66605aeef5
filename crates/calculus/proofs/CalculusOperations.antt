-- Laws of operations (`gives`, `operate`, specs/Calculus.antt): they give no view; what holds of one follows from its operands. Assumes nothing.
use Prim.Native.Nat.{ℕ, ◌<◌}
use mathlib.Core.Path.{◌≡◌, refl}
use mathlib.Core.Bool.{Bool, true, false}
use native.Mathlib.Omega.{arith}
use borrow.Author.Tests.{ne_eqb}
use Rattle.lattice.specs.Tests.{◌and◌, ◌or◌}
use Rattle.lattice.specs.Order.{meet}
use Rattle.values.specs.declared.Value.{Value}
use Rattle.values.specs.Value.{integer, truth, is, well_formed}
use Rattle.values.proofs.Result.{Post, Any, post_ok, post_require, post_bind}
use Rattle.syntax.specs.Syntax.{Op, sum, difference, less, equal, Expr, operation}
use Rattle.calculus.specs.Calculus.{Setting, Store, Labelled, integer_of, truth_of, gives, operate, eval}

-- an operation's value is an integer or a truth value
gives_plain : (F : Value → Type 0) → ((p : ℕ) → F (integer_of p)) → ((b : Bool) → F (truth_of b)) → (o : Op) (u v : Value) → F (gives o u v)
unfolding gives
gives_plain F i t sum u v = i _
gives_plain F i t difference u v = i _
gives_plain F i t less u v = t _
gives_plain F i t equal u v = t _

-- so it is no view: the kinds from 2 on are those of views
pub gives_no_view : {k : ℕ} → truth < k → (o : Op) (u v : Value) → is k (gives o u v) ≡ false
unfolding truth_of
gives_no_view {k} h = gives_plain (λ z. is k z ≡ false) (λ p. ne_eqb integer k (λ e. omega arith)) (λ b. ne_eqb truth k (λ e. omega arith))

-- and well-formed, however many slots there are
pub gives_formed : (m : ℕ) (o : Op) (u v : Value) → well_formed m (gives o u v) ≡ true
unfolding truth_of well_formed ◌and◌ ◌or◌
gives_formed m = gives_plain (λ z. well_formed m z ≡ true) (λ p. refl) formed
  where
    formed : (b : Bool) → well_formed m (truth_of b) ≡ true
    formed true = refl
    formed false = refl

-- what an operation comes to where kinds are not in its way: "The label is the meet of both labels." (document 02, N5)
abbrev pub operated : Setting → Op → Labelled → Labelled → Labelled
operated w o x y = record { value = gives o x.value y.value; label = meet w.tables.order x.label y.label }

-- what follows of it from what holds of its operands
pub post_operation : (P P' R : Labelled → Type 0) (w : Setting) (s : Store) (o : Op) (l r : Expr)
    → Post P Any (eval w s l) → Post P' Any (eval w s r) → ((x y : Labelled) → P x → P' y → R (operated w o x y))
    → Post R Any (eval w s (operation o l r))
unfolding eval operate
post_operation P P' R w s o l r p q h =
    post_bind _ _ _ _ _ p λ x a.
    post_bind _ _ _ _ _ q λ y b.
    post_require _ _ _ _ _ (λ _. post_ok _ _ _ (h x y a b)) (λ _. tt)
