-- For `isolated`: confinement under full provenance; where the region or the branch is tainted, no protected slot is written. Assumes nothing.
use Prim.Native.Nat.{ℕ}
use mathlib.Core.Path.{◌≡◌}
use mathlib.Core.Bool.{true}
use Rattle.lattice.specs.Order.{Label, meet}
use Rattle.lattice.proofs.Tests.{and_l, and_r}
use Rattle.values.proofs.Result.{Post, Any, post_ok, post_all, post_map, post_require, post_bind}
use Rattle.store.specs.Sheet.{Tables, owner_of}
use Rattle.store.specs.HeldStore.{Ordered}
use Rattle.syntax.specs.declared.Header.{Header}
use Rattle.syntax.specs.Syntax.{Expr, Cmd}
use Rattle.syntax.proofs.SyntaxLiterals.{literals_all}
use Rattle.calculus.specs.Rules.{full_provenance, labels_judged, all_above}
use Rattle.calculus.specs.Calculus.{Limits, Setting, Store, Labelled, Write, State, Memory, memory, in_region, eval, judge, reliable, permit, assignment, exec}
use Rattle.calculus.proofs.CalculusInvariant.{exec_records}
use Rattle.isolation.specs.Isolation.{FloorOutOfReach}
use Rattle.calculus.proofs.CalculusTaint.{Tainted, Principal, tainted_down, tainted_left, eval_principal}
use Rattle.isolation.proofs.IsolationAgreement.{Akin, akin_tainted}
use Rattle.isolation.proofs.IsolationTaintedOwner.{tainted_owner}
use Rattle.calculus.proofs.CalculusAuthority.{assigned_in_region}

-- a block of header h, with its number, under full provenance
abbrev pub under : Tables → Header → ℕ → Limits → Setting
under w h block k = record { tables = w; rules = full_provenance; header = h; block = block; limits = k }

-- an assignment whose labels shut protected slots out
abbrev pub Shut : Tables → Label → Header → ℕ → Limits → Label → Label → Label → Type 0
Shut w a h block k x y branch =
    (i : ℕ) → reliable (under w h block k) i (labels_judged full_provenance x y branch) ≡ true → Tainted w a (owner_of w i)

-- a write to a slot that is not protected
abbrev pub Harmless : Tables → Label → Write → Type 0
Harmless w a x = Tainted w a (owner_of w x.slot)

-- a state that is akin to a memory
abbrev pub Like : Tables → Label → Memory → State → Type 0
Like w a u s = Akin w a (memory s) u

-- in a block that is not endorsed, or down to a floor out of reach, a tainted label of target, value or branch shuts protected slots out
module _ (w : Tables) (a : Label) (o : Ordered w) (in-a : Principal w a) (h : Header) (clear : FloorOutOfReach w a h)
    (block : ℕ) (k : Limits) (x y branch : Label) where
  pub shut_by_target : Tainted w a x → Shut w a h block k x y branch
  unfolding reliable labels_judged all_above
  shut_by_target l i e = tainted_owner w a o in-a h clear _ _ x (λ z q. and_l _ _ q) e l

  pub shut_by_value : Tainted w a y → Shut w a h block k x y branch
  unfolding reliable labels_judged all_above
  shut_by_value l i e = tainted_owner w a o in-a h clear _ _ y (λ z q. and_l _ _ (and_r _ _ q)) e l

  pub shut_by_branch : Tainted w a branch → Shut w a h block k x y branch
  unfolding reliable labels_judged all_above
  shut_by_branch l i e = tainted_owner w a o in-a h clear _ _ branch (λ z q. and_l _ _ (and_r _ _ (and_r _ _ q))) e l

module _ (w : Tables) (a : Label) (o : Ordered w) (in-a : Principal w a) (h : Header) (block : ℕ) where
  -- a guard's label is its expression's
  pub judge_label : (L : Label → Type 0) (k : Limits) (s : Store) (g : Expr)
      → Post (λ x. L x.label) Any (eval (under w h block k) s g) → Post (λ j. L j.label) Any (judge (under w h block k) s g)
  unfolding judge
  judge_label L k s g p = post_bind _ _ _ _ _ p (λ x l. post_require _ _ _ _ _ (λ _. post_ok _ _ _ l) (λ _. tt))

  pub judge_principal : (k : Limits) (s : Store) (g : Expr) → Post (λ j. Principal w j.label) Any (judge (under w h block k) s g)
  judge_principal k s g = judge_label (Principal w) k s g (eval_principal (under w h block k) o s g)

  permit_shut : (k : Limits) (branch : Label) (x y : Labelled) → Shut w a h block k x.label y.label branch
      → Post (Harmless w a) Any (permit (under w h block k) branch x y)
  unfolding permit
  permit_shut k branch x y c =
      post_require _ _ _ _ _ (λ _. post_require _ _ _ _ _ (λ q. post_ok _ _ _ (c _ q)) (λ _. tt)) (λ _. tt)

  pub assignment_shut : (X Y : Label → Type 0) (k : Limits) (branch : Label) (s : Store) (t v : Expr)
      → Post (λ x. X x.label) Any (eval (under w h block k) s t) → Post (λ x. Y x.label) Any (eval (under w h block k) s v)
      → ((x y : Label) → X x → Y y → Shut w a h block k x y branch)
      → Post (Harmless w a) Any (assignment (under w h block k) branch s t v)
  unfolding assignment
  assignment_shut X Y k branch s t v p q c =
      post_bind _ _ _ _ _ p λ x l.
      post_require _ _ _ _ _ (λ _. post_bind _ _ _ _ _ q (λ y m. permit_shut k branch x y (c _ _ l m))) (λ _. tt)

  -- where every assignment under a branch label that satisfies C is harmless, and inside an if or a while the label satisfies C again
  confined : (k : Limits) (u : Memory) (C : Label → Type 0)
      → ((branch : Label) (s : Store) (g : Expr) → C branch → Post (λ j. C (meet w.order branch j.label)) Any (judge (under w h block k) s g))
      → ((branch : Label) (s : Store) (t v : Expr) → C branch → Post (Harmless w a) Any (assignment (under w h block k) branch s t v))
      → (c : Cmd) (branch : Label) → C branch → (s : State) → Like w a u s → Post (Like w a u) Any (exec (under w h block k) c branch s)
  confined k u C inside writes c branch l s m =
      post_map _ _ _ _ _
      (exec_records (under w h block k) (λ _. Unit {0}) (λ n. Akin w a n u) C inside
      (λ at branch n t v l _ _ q. post_map _ _ _ _ _ (writes branch n.store t v l) (λ x p. akin_tainted w a block at x n u p q) (λ _ _. tt))
      c (literals_all _ (λ _. tt) c) branch l s m)
      (λ _ q. q) (λ _ _. tt)

  harmless : FloorOutOfReach w a h → (k : Limits) (branch : Label) → Tainted w a branch → (s : Store) (t v : Expr)
      → Post (Harmless w a) Any (assignment (under w h block k) branch s t v)
  harmless clear k branch l s t v =
      assignment_shut (Principal w) (Principal w) k branch s t v
      (eval_principal (under w h block k) o s t) (eval_principal (under w h block k) o s v)
      (λ x y _ _. shut_by_branch w a o in-a h clear block k x y branch l)

  -- in a region at or below the adversary, endorsed or not
  pub reach_confined : Tainted w a h.region → (k : Limits) (u : Memory) (c : Cmd) (branch : Label) (s : State)
      → Like w a u s → Post (Like w a u) Any (exec (under w h block k) c branch s)
  unfolding in_region
  reach_confined l k u c branch s m =
      confined k u (λ _. Unit {0}) (λ branch s g _. post_all _ _ _ (λ _. tt) (λ _. tt))
      (λ branch s t v _. post_map _ _ _ _ _ (assigned_in_region (under w h block k) branch s t v)
      (λ x p. tainted_down w a o in-a _ _ p l) (λ _ _. tt)) c branch tt s m

  -- under a tainted branch, not endorsed or down to a floor out of reach
  pub branch_confined : FloorOutOfReach w a h → (k : Limits) (u : Memory) (c : Cmd) (branch : Label) → Tainted w a branch
      → (s : State) → Like w a u s → Post (Like w a u) Any (exec (under w h block k) c branch s)
  branch_confined clear k u =
      confined k u (Tainted w a)
      (λ branch s g l. post_map _ _ _ _ _ (judge_principal k s g) (λ j p. tainted_left w a o in-a _ _ l p) (λ _ _. tt))
      (λ branch s t v l. harmless clear k branch l s t v)
