-- For `isolated`: labels at or below the adversary (tainted), through meets and `eval`; stores that agree on all other owners' slots. Assumes nothing.
use Prim.Native.Nat.{ℕ, zero, suc, ◌/◌, ◌%◌, ◌^◌, ◌≤◌, ◌<◌}
use mathlib.Core.Path.{◌≡◌, refl, sym, ap, ◌∙◌}
use mathlib.Core.Bool.{true, false}
use mathlib.Core.List.{List, [], ◌∷◌}
use native.Mathlib.Omega.{arith}
use native.Mathlib.Decide.{dec_lt}
use native.Mathlib.Nat.{pow-le-pow_right, div-eq_of_lt}
use lib.ListN.{length, get_or, set, length-set}
use lib.Seq.{get_or-set_other}
use borrow.Author.Tests.{eqb-true}
use Rattle.lattice.specs.Order.{Label, mask, bit, below, meet}
use Rattle.lattice.proofs.Order.{good_at, top_lt, below_trans, meet_lt, meet_meets}
use Rattle.values.specs.Value.{assigned, empty_slot}
use Rattle.values.proofs.Result.{Post, Any, post_ok, post_require, post_bind}
use Rattle.store.specs.Sheet.{Tables, owner_of}
use Rattle.store.specs.HeldStore.{Ordered}
use Rattle.syntax.specs.Syntax.{Expr, literal, read, operation}
use Rattle.calculus.specs.Calculus.{Setting, Store, Write, admit, fetch, eval, written}
use Rattle.calculus.proofs.CalculusOperations.{post_operation}

-- at or below the adversary a: said of labels, owners and regions
abbrev pub Tainted : Tables → Label → Label → Type 0
Tainted w a x = below w.order x a ≡ true

abbrev pub Principal : Tables → Label → Type 0
Principal w x = x < w.order.n

-- equal in every slot whose owner is not tainted
pub record Agree (w : Tables) (a : Label) (s t : Store) : Type 0 where
  pub sized : length s ≡ length t
  pub held : (i : ℕ) → below w.order (owner_of w i) a ≡ false → get_or s i empty_slot ≡ get_or t i empty_slot

set_agree : {A : Type 0} (s t : List A) (i j : ℕ) (u v d : A)
    → length s ≡ length t → get_or s j d ≡ get_or t j d → (j ≡ i → u ≡ v) → get_or (set s i u) j d ≡ get_or (set t i v) j d
set_agree [] [] i j u v d e h k = refl
set_agree [] (y ∷ t) i j u v d e h k = absurd (omega arith)
set_agree (x ∷ s) [] i j u v d e h k = absurd (omega arith)
set_agree (x ∷ s) (y ∷ t) zero zero u v d e h k = k refl
set_agree (x ∷ s) (y ∷ t) zero (suc j) u v d e h k = h
set_agree (x ∷ s) (y ∷ t) (suc i) zero u v d e h k = h
set_agree (x ∷ s) (y ∷ t) (suc i) (suc j) u v d e h k = set_agree s t i j u v d (omega arith) h (λ q. k (ap suc q))

module _ (w : Tables) (a : Label) where
  pub agree_refl : (s : Store) → Agree w a s s
  agree_refl s = record { sized = refl; held = λ i p. refl }

  -- two stores that each agree with a third
  pub agree_join : (s t u : Store) → Agree w a s u → Agree w a t u → Agree w a s t
  agree_join s t u h k = record { sized = h.sized ∙ sym k.sized; held = λ i p. h.held i p ∙ sym (k.held i p) }

  -- one write to both
  pub agree_both : (x : Write) (s t : Store) → Agree w a s t → Agree w a (written x s) (written x t)
  unfolding written
  agree_both x s t h =
      record {
        sized = simp length-set h.sized;
        held = λ j p. set_agree s t x.slot j _ _ empty_slot h.sized (h.held j p) (λ e. rw (← e) (ap (assigned x.value) (h.held j p)));
      }

  -- a write to a slot of a tainted owner
  pub agree_tainted : (x : Write) (s t : Store) → Tainted w a (owner_of w x.slot) → Agree w a s t → Agree w a (written x s) t
  unfolding written
  agree_tainted x s t l h =
      record {
        sized = simp length-set h.sized;
        held = λ j p. get_or-set_other s x.slot j _ empty_slot (λ e. clash j p e) ∙ h.held j p;
      }
    where
      clash : (j : ℕ) → below w.order (owner_of w j) a ≡ false → j ≡ x.slot → ⊥
      clash j p e = let z : ◌≡◌ {A = ℕ} 0 1 = cc (ap (λ (k : ℕ). below w.order (owner_of w k) a) e) in omega arith

  module _ (o : Ordered w) (in-a : Principal w a) where
    -- no bit n or higher is set
    inside : (x y : Label) → Principal w y → below w.order x y ≡ true → Principal w x
    unfolding bit
    inside x y h b = go (dec_lt x w.order.n)
      where
        go : Dec (x < w.order.n) → x < w.order.n
        go (yes l) = l
        go (no l) =
            let p : 2 ^ w.order.n ≤ 2 ^ x = pow-le-pow_right (omega arith) (omega arith) in
            let q : mask w.order y / 2 ^ x ≡ 0 = div-eq_of_lt (omega (arith, (good_at w.order o.table).small y h)) in
            let z : 0 % 2 ≡ 1 = rw q at (eqb-true (mask w.order y / 2 ^ x % 2) 1 b) in absurd (omega arith)

    -- what stands at or below a tainted label is tainted
    pub tainted_down : (x y : Label) → below w.order x y ≡ true → Tainted w a y → Tainted w a x
    tainted_down x y h l =
        let hy = inside y a in-a l in below_trans w.order o.table a y x in-a hy (inside x y hy h) h l

    pub principal_meet : (x y : Label) → Principal w x → Principal w y → Principal w (meet w.order x y)
    principal_meet = meet_lt w.order o.table

    -- a meet is tainted where a part of it is
    pub tainted_left : (x y : Label) → Tainted w a x → Principal w y → Tainted w a (meet w.order x y)
    tainted_left x y l h = tainted_down _ x (meet_meets w.order o.table x y (inside x a in-a l) h).lower_l l

    pub tainted_right : (x y : Label) → Principal w x → Tainted w a y → Tainted w a (meet w.order x y)
    tainted_right x y h l = tainted_down _ y (meet_meets w.order o.table x y h (inside y a in-a l)).lower_r l

-- labels are principals
module _ (w : Setting) (o : Ordered w.tables) where
  pub eval_principal : (s : Store) (e : Expr) → Post (λ x. Principal w.tables x.label) Any (eval w s e)
  unfolding eval fetch admit
  eval_principal s (literal v) = post_require _ _ _ _ _ (λ _. post_ok _ _ _ (top_lt w.tables.order o.table)) (λ _. tt)
  eval_principal s (read e) =
      post_bind _ _ _ _ _ (eval_principal s e) λ x p.
      post_require _ _ _ _ _
      (λ _. post_require _ _ _ _ _ (λ _. post_ok _ _ _ (meet_lt w.tables.order o.table _ _ p (o.owners _))) (λ _. tt)) (λ _. tt)
  eval_principal s (operation f l r) =
      post_operation _ _ _ w s f l r (eval_principal s l) (eval_principal s r) (λ x y p q. meet_lt w.tables.order o.table _ _ p q)
