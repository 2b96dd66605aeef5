-- Proves `provenance_safety` and `provenance_safety_down_to_floors`: under rule 2 protected slots are not written. Assumes nothing.
use Prim.Native.Nat.{ℕ}
use mathlib.Core.Path.{◌≡◌, ap}
use mathlib.Core.Logic.{◌⊎◌, inl, inr, ⊎_elim}
use mathlib.Core.Bool.{true, false}
use mathlib.Core.List.{List}
use borrow.Table.Steps.{cases}
use Rattle.lattice.specs.Order.{Label, below}
use Rattle.lattice.proofs.Tests.{and_l}
use Rattle.values.specs.Value.{viewed}
use Rattle.values.proofs.Result.{Post, Any, post_ok, post_all, post_at, post_map, post_require, post_bind}
use Rattle.store.specs.Sheet.{Tables, owner_of}
use Rattle.store.specs.HeldStore.{Ordered}
use Rattle.store.proofs.SheetOpening.{store_opens}
use Rattle.syntax.specs.Syntax.{Expr, literal, read, operation, LiteralsOf}
use Rattle.syntax.specs.Sheet.{Block}
use Rattle.syntax.proofs.SheetBlocks.{IsBlock}
use Rattle.calculus.specs.Rules.{explicit_provenance, rules_of, labels_judged, all_above}
use Rattle.calculus.specs.Calculus.{Limits, Store, Labelled, contents, admit, fetch, eval, reliable, permit, assignment}
use Rattle.calculus.specs.Blocks.{setting}
use Rattle.isolation.specs.Isolation.{within_reach, FloorOutOfReach, FloorsOutOfReach}
use Rattle.isolation.specs.SlotsAtEveryStep.{BlocksSpare}
use Rattle.isolation.specs.ConfusedDeputy.{BareOutside, SpareDownToFloors, ProvenanceSafety, ProvenanceSafetyDownToFloors}
use Rattle.calculus.proofs.Rules.{rules_one}
use Rattle.calculus.proofs.CalculusTaint.{Tainted, Principal, Agree, agree_refl, agree_tainted, tainted_right, eval_principal}
use Rattle.isolation.proofs.IsolationTaintedOwner.{tainted_owner}
use Rattle.calculus.proofs.CalculusOperations.{post_operation}
use Rattle.isolation.proofs.Isolation.{no_floors}
use Rattle.calculus.proofs.CalculusInvariant.{exec_ends}
use Rattle.calculus.proofs.CalculusAuthority.{reach_keeps}
use Rattle.exactness.proofs.StepByStepInvariant.{Keeps, keeps_under}
use Rattle.isolation.proofs.SlotsAtEveryStep.{protected_kept}
use Rattle.isolation.proofs.CapabilitySafety.{Low, gives_low, low_literals, low_at}

module _ (w : Tables) (a : Label) (o : Ordered w) (in-a : Principal w a) (u : Store)
    (high : (i : ℕ) → below w.order (owner_of w i) a ≡ false → Low w a (contents u i)) where
  -- what an expression gives is no write view of a protected slot, or its label is tainted
  abbrev Shown : Labelled → Type 0
  Shown x = Low w a x.value ⊎ Tainted w a x.label

  -- a read from a slot of a tainted owner has a tainted label; any other slot is as it was in u
  read_shown : (s : Store) → Agree w a s u → (j : ℕ) (m : Label) → (Tainted w a (owner_of w j) → Tainted w a m)
      → Shown (record { value = contents s j; label = m })
  read_shown s agree j m taints =
      cases (below w.order (owner_of w j) a) (λ e. inr (taints e)) (λ e. inl (rw (contents, agree.held j e) (high j e)))

  module _ (k : Limits) (j : ℕ) (b : Block) (clear : FloorOutOfReach w a b.header) where
    shown : (s : Store) → Agree w a s u → (e : Expr) → LiteralsOf (Low w a) e → Post Shown Any (eval (setting w explicit_provenance k j b) s e)
    unfolding eval fetch admit LiteralsOf
    shown s m (literal v) l = post_require _ _ _ _ _ (λ _. post_ok _ _ _ (inl l)) (λ _. tt)
    shown s m (read e) l =
        post_bind _ _ _ _ _ (eval_principal (setting w explicit_provenance k j b) o s e) λ x h.
        post_require _ _ _ _ _
        (λ _. post_require _ _ _ _ _
        (λ _. post_ok _ _ _ (read_shown s m (viewed x.value) _ (λ t. tainted_right w a o in-a _ _ h t))) (λ _. tt)) (λ _. tt)
    shown s m (operation f x y) l =
        post_operation _ _ _ (setting w explicit_provenance k j b) s f x y (shown s m x l.0) (shown s m y l.1)
        (λ x y _ _. inl (gives_low w a f _ _))

    -- a tainted target shuts protected slots out
    by_target : (i : ℕ) (x y branch : Label) → reliable (setting w explicit_provenance k j b) i (labels_judged explicit_provenance x y branch) ≡ true
        → Tainted w a x → Tainted w a (owner_of w i)
    unfolding reliable labels_judged all_above
    by_target i x y branch e = tainted_owner w a o in-a b.header clear _ _ x (λ z q. and_l _ _ q) e

    unprotected : (branch : Label) (s : Store) (t v : Expr) → LiteralsOf (Low w a) t → Agree w a s u
        → Post (λ x. Tainted w a (owner_of w x.slot)) Any (assignment (setting w explicit_provenance k j b) branch s t v)
    unfolding assignment permit
    unprotected branch s t v l m =
        post_bind _ _ _ _ _ (shown s m t l) λ x p.
        post_require _ _ _ _ _
        (λ view. post_bind (λ _. Unit {0}) _ _ _ _ (post_all _ _ _ (λ _. tt) (λ _. tt)) λ y _.
        post_require _ _ _ _ _
        (λ _. post_require _ _ _ _ _
        (λ e. post_ok _ _ _ (⊎_elim (λ low. low view) (λ t. by_target _ _ _ _ e t) p)) (λ _. tt)) (λ _. tt))
        (λ _. tt)

  module _ (p : List ℕ) (spare : BlocksSpare w a p) (clear : FloorsOutOfReach w a p) where
    block_agrees : (k : Limits) (j : ℕ) (b : Block) → IsBlock w.slots p j b → Keeps (λ t. Agree w a t u) w explicit_provenance k j b
    block_agrees k j b is s m =
        cases (within_reach w a p j)
        (λ e. reach_keeps (setting w explicit_provenance k j b) a o in-a (rw is.header e) u b.command _ s m)
        (λ e.
        exec_ends (setting w explicit_provenance k j b) (λ t. Agree w a t u) (Low w a)
        (λ branch s t v l _ m. post_map _ _ _ _ _ (unprotected k j b (rw is.header (clear j is.inside e)) branch s t v l m)
        (λ x q. agree_tainted w a x s u q m) (λ _ _. tt))
        b.command (low_literals w a p j b is (spare j is.inside e b.command is.code)) _ s m)

pub provenance_safety_down_to_floors : ProvenanceSafetyDownToFloors
unfolding rules_of
provenance_safety_down_to_floors a c old g is-2 in-a slots blocks =
    let opens = post_at _ _ _ _ (store_opens c.store) g.opens in
    let w = g.opening.tables in
    let u = g.opening.store in
    protected_kept c old g (λ t. Agree w a t u) (agree_refl w a u)
    (λ k j b is. keeps_under _ w g.rules explicit_provenance k j b (rules_one c.rule explicit_provenance g.rules (ap rules_of is-2) g.ruled)
    (block_agrees w a opens.ordered in-a u
    (λ i e. low_at c.store g.opening opens a i (λ h. slots i (record { inside = h; above = e }))) c.programme blocks.0 blocks.1 k j b is))
    a (λ s m i p. m.held i p.above)

-- where no block outside reach is endorsed, definition 4 holds of all of them
pub bare_spare : (w : Tables) (a : Label) (p : List ℕ) → BareOutside w a p → SpareDownToFloors w a p
bare_spare w a p h = (λ i l out. h.0 i l out (h.1 i l out), no_floors w a p h.1)

pub provenance_safety : ProvenanceSafety
provenance_safety a c old g is-2 in-a slots blocks =
    provenance_safety_down_to_floors a c old g is-2 in-a slots (bare_spare g.opening.tables a c.programme blocks)
