-- Laws of `assignment` (specs/Calculus.antt), under every rule set: the slot written is owned at or below the block's region. Assumes nothing.
use mathlib.Core.Path.{◌≡◌, sym, ◌∙◌}
use mathlib.Core.Bool.{Bool, true, true≢false}
use native.Mathlib.Omega.{arith}
use Rattle.lattice.specs.Tests.{◌and◌, ◌implies◌}
use Rattle.lattice.specs.Order.{Label}
use Rattle.lattice.proofs.Tests.{and_r, imp_at, imp_of}
use Rattle.values.proofs.Result.{Post, Any, post_ok, post_map, post_require, post_bind}
use Rattle.store.specs.HeldStore.{Ordered}
use Rattle.syntax.specs.Syntax.{Expr, literal, read, operation, Cmd}
use Rattle.calculus.specs.Rules.{RuleSet, access_control, capability, explicit_provenance, full_provenance, judges_views, judges_region}
use Rattle.calculus.specs.Calculus.{Setting, Store, State, in_region, may_hold, admit, fetch, eval, authorised, permit, assignment, exec}
use Rattle.calculus.proofs.CalculusTaint.{Tainted, Principal, Agree, agree_tainted, tainted_down}
use Rattle.calculus.proofs.CalculusOperations.{gives_no_view, post_operation}
use Rattle.calculus.proofs.CalculusInvariant.{Ends, all_ends}

-- every rule set judges the region: at the assignment by 14, or at each write view by 15
judged : (rules : RuleSet) (view region : Bool) → view ≡ true
    → judges_views rules and view implies region ≡ true → judges_region rules implies region ≡ true → region ≡ true
unfolding judges_views judges_region ◌and◌ ◌implies◌
judged access_control view region e p q = q
judged capability view region e p q = imp_at view region p e
judged explicit_provenance view region e p q = q
judged full_provenance view region e p q = q

module _ (w : Setting) where
  -- what an expression gives was admitted
  pub eval_held : (s : Store) (e : Expr) → Post (λ x. may_hold w x.value ≡ true) Any (eval w s e)
  unfolding eval fetch admit
  eval_held s (literal v) = post_require _ _ _ _ _ (λ p. post_ok _ _ _ p) (λ _. tt)
  eval_held s (read e) =
      post_bind _ _ _ _ _ (eval_held s e) λ x _.
      post_require _ _ _ _ _ (λ _. post_require _ _ _ _ _ (λ p. post_ok _ _ _ p) (λ _. tt)) (λ _. tt)
  -- an operation's value need not be: it is no view
  eval_held s (operation o l r) =
      post_operation _ _ _ w s o l r (eval_held s l) (eval_held s r)
      (λ x y _ _. imp_of _ _ (λ e. absurd (true≢false (sym (and_r _ _ e) ∙ gives_no_view (omega arith) o _ _))))

  pub assigned_in_region : (branch : Label) (s : Store) (t v : Expr)
      → Post (λ x. in_region w x.slot ≡ true) Any (assignment w branch s t v)
  unfolding assignment permit authorised
  assigned_in_region branch s t v =
      post_bind _ _ _ _ _ (eval_held s t) λ x p.
      post_require _ _ _ _ _
      (λ e. post_bind (λ _. Unit {0}) _ _ _ _ (post_map _ _ _ _ _ (eval_held s v) (λ _ _. tt) (λ _ _. tt)) λ y _.
      post_require _ _ _ _ _ (λ q. post_require _ _ _ _ _ (λ _. post_ok _ _ _ (judged w.rules _ _ e p q)) (λ _. tt)) (λ _. tt))
      (λ _. tt)

-- in a region at or below the adversary, endorsed or not, no protected slot is written
module _ (w : Setting) (a : Label) (o : Ordered w.tables) (in-a : Principal w.tables a)
    (l : Tainted w.tables a w.header.region) (u : Store) where
  pub reach_keeps : (c : Cmd) (branch : Label) (s : State) → Agree w.tables a s.store u
      → Ends (λ t. Agree w.tables a t u) (exec w c branch s)
  unfolding in_region
  reach_keeps =
      all_ends w (λ t. Agree w.tables a t u)
      (λ branch s t v m. post_map _ _ _ _ _ (assigned_in_region w branch s t v)
      (λ x p. agree_tainted w.tables a x s u (tainted_down w.tables a o in-a _ _ p l) m) (λ _ _. tt))
