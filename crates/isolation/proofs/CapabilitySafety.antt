-- Proves `capability_safety`: under rule 1, where no write view of a protected slot is at hand, none comes up. Assumes nothing.
use Prim.Native.Nat.{ℕ, ◌≤◌, ◌<◌}
use mathlib.Core.Path.{◌≡◌, sym, ap, ◌∙◌}
use mathlib.Core.Bool.{true, true≢false, false≢true}
use mathlib.Core.List.{List}
use native.Mathlib.Decide.{dec_lt}
use native.Mathlib.Omega.{arith}
use borrow.Author.Tests.{ltb-true, eqb-true}
use borrow.Table.Steps.{cases}
use Rattle.lattice.specs.Tests.{◌and◌, ◌or◌}
use Rattle.lattice.specs.Order.{Label, below}
use Rattle.lattice.proofs.Tests.{imp_at}
use Rattle.values.specs.declared.Value.{Value}
use Rattle.values.specs.Value.{write_view, is_write_view, viewed, well_formed, opened, empty_slot}
use Rattle.values.proofs.Result.{Post, Any, post_ok, post_at, post_map, post_require, post_bind}
use Rattle.store.specs.Sheet.{Tables, Opening, owner_of}
use Rattle.store.specs.HeldStore.{Ordered}
use Rattle.store.proofs.SheetOpening.{Opens, store_opens}
use Rattle.syntax.specs.Syntax.{Op, Expr, Cmd, LiteralsOf, Literals}
use Rattle.syntax.specs.Sheet.{Block}
use Rattle.syntax.proofs.SyntaxLiterals.{literals_all, literals_join}
use Rattle.syntax.proofs.CodeWellFormed.{block_literals}
use Rattle.syntax.proofs.SheetBlocks.{IsBlock}
use Rattle.calculus.specs.Rules.{capability, rules_of, judges_views}
use Rattle.calculus.specs.Calculus.{Limits, Setting, Store, State, contents, in_region, gives, eval, permit, assignment, written, exec}
use Rattle.calculus.specs.Blocks.{setting}
use Rattle.isolation.specs.Isolation.{within_reach}
use Rattle.calculus.specs.Run.{Call}
use Rattle.calculus.specs.Faithfulness.{Good}
use Rattle.isolation.specs.SlotsAtEveryStep.{Spares, SlotsSpare, BlocksSpare, CapabilitySafety}
use Rattle.calculus.proofs.Rules.{rules_one}
use Rattle.calculus.proofs.CalculusTaint.{Tainted, Principal, Agree, agree_refl, agree_tainted, tainted_down}
use Rattle.calculus.proofs.CalculusOperations.{gives_no_view}
use Rattle.calculus.proofs.CalculusInvariant.{Ends, exec_ends, Slots, written_slots, eval_gives}
use Rattle.calculus.proofs.CalculusAuthority.{eval_held}
use Rattle.exactness.proofs.StepByStepInvariant.{Keeps, keeps_under}
use Rattle.isolation.proofs.SlotsAtEveryStep.{protected_kept}

-- a write view of a slot that the adversary may write, or no write view
abbrev pub Low : Tables → Label → Value → Type 0
Low w a v = is_write_view v ≡ true → Tainted w a (owner_of w (viewed v))

module _ (w : Tables) (a : Label) where
  -- a well-formed write view is one of a slot of the store
  pub view_inside : (v : Value) → well_formed w.slots v ≡ true → is_write_view v ≡ true → viewed v < w.slots
  unfolding well_formed ◌and◌ ◌or◌
  view_inside v f e = ltb-true _ _ (rw (eqb-true v.kind write_view e) at f)

  pub spares_low : (v : Value) → well_formed w.slots v ≡ true → Spares w a v → Low w a v
  spares_low v f spares e =
      cases (below w.order (owner_of w (viewed v)) a) (λ p. p) (λ p. absurd (spares e (record { inside = view_inside v f e; above = p })))

  -- what an operation gives is no write view
  pub gives_low : (o : Op) (u v : Value) → Low w a (gives o u v)
  gives_low o u v e = absurd (true≢false (sym e ∙ gives_no_view (omega arith) o u v))

-- protected slots are as in u, and no slot holds a write view of one
pub record Safe (w : Tables) (a : Label) (u s : Store) : Type 0 where
  pub agree : Agree w a s u
  pub low : Slots (Low w a) s

-- where no expression gives a write view of a protected slot, all stays safe
module _ (w : Setting) (a : Label) (u : Store) (P : Value → Type 0)
    (shows : (s : Store) (e : Expr) → LiteralsOf P e → Safe w.tables a u s → Post (λ x. Low w.tables a x.value) Any (eval w s e)) where
  assigns : (branch : Label) (s : Store) (t v : Expr) → LiteralsOf P t → LiteralsOf P v → Safe w.tables a u s
      → Post (λ x. Safe w.tables a u (written x s)) Any (assignment w branch s t v)
  unfolding assignment permit
  assigns branch s t v l k m =
      post_bind _ _ _ _ _ (shows s t l m) λ x p.
      post_require _ _ _ _ _
      (λ e. post_bind _ _ _ _ _ (shows s v k m) λ y q.
      post_require _ _ _ _ _
      (λ _. post_require _ _ _ _ _
      (λ _. post_ok _ _ _
      (record { agree = agree_tainted w.tables a _ s u (p e) m.agree; low = written_slots (Low w.tables a) _ s q m.low }))
      (λ _. tt)) (λ _. tt)) (λ _. tt)

  safe_keeps : (c : Cmd) → Literals P c → (branch : Label) (s : State) → Safe w.tables a u s.store
      → Ends (Safe w.tables a u) (exec w c branch s)
  safe_keeps = exec_ends w (Safe w.tables a u) P assigns

module _ (w : Tables) (a : Label) (o : Ordered w) (in-a : Principal w a) (k : Limits) (j : ℕ) (b : Block) where
  -- within reach, the region has no authority over a protected slot
  pub gives_within : Tainted w a b.header.region → (s : Store) (e : Expr)
      → Post (λ x. Low w a x.value) Any (eval (setting w capability k j b) s e)
  unfolding judges_views in_region ◌and◌
  gives_within l s e =
      post_map _ _ _ _ _ (eval_held (setting w capability k j b) s e)
      (λ x p view. tainted_down w a o in-a _ _ (imp_at (is_write_view x.value) _ p view) l) (λ _ _. tt)

-- blocks that are read have well-formed literals, so those outside reach have low ones
pub low_literals : (w : Tables) (a : Label) (p : List ℕ) (j : ℕ) (b : Block) → IsBlock w.slots p j b
    → Literals (Spares w a) b.command → Literals (Low w a) b.command
low_literals w a p j b is spare =
    literals_join _ _ _ (λ v f q. spares_low w a v f q) b.command (post_at _ _ _ _ (block_literals _ _) is.code) spare

module _ (w : Tables) (a : Label) (o : Ordered w) (in-a : Principal w a) (u : Store) (p : List ℕ) (spare : BlocksSpare w a p) where
  block_safe : (k : Limits) (j : ℕ) (b : Block) → IsBlock w.slots p j b → Keeps (Safe w a u) w capability k j b
  block_safe k j b is s m =
      cases (within_reach w a p j)
      (λ e. safe_keeps (setting w capability k j b) a u (λ _. Unit {0})
      (λ s x _ _. gives_within w a o in-a k j b (rw is.header e) s x) b.command (literals_all _ (λ _. tt) b.command) _ s m)
      -- outside, neither a literal nor a slot gives one
      (λ e. safe_keeps (setting w capability k j b) a u (Low w a)
      (λ s x l m. eval_gives (Low w a) (setting w capability k j b) (gives_low w a) s x l m.low) b.command
      (low_literals w a p j b is (spare j is.inside e b.command is.code)) _ s m)

-- an opening store
module _ (store : List ℕ) (o : Opening) (opens : Opens store o) (a : Label) where
  -- past the last slot there are no views
  past_low : (j : ℕ) → o.tables.slots ≤ j → Low o.tables a (contents o.store j)
  unfolding empty_slot opened
  past_low j h e = absurd (false≢true (rw (contents, opens.outside j h) at e))

  pub low_at : (j : ℕ) → (j < o.tables.slots → Spares o.tables a (contents o.store j)) → Low o.tables a (contents o.store j)
  low_at j spares = go (dec_lt j o.tables.slots)
    where
      go : Dec (j < o.tables.slots) → Low o.tables a (contents o.store j)
      go (yes h) = spares_low o.tables a _ (opens.formed j) (spares h)
      go (no h) = past_low j (omega arith)

module _ (a : Label) (c : Call) (g : Good c) (is-1 : c.rule ≡ 1)
    (in-a : a < g.opening.tables.order.n) (slots : SlotsSpare g.opening.tables a g.opening.store)
    (blocks : BlocksSpare g.opening.tables a c.programme) where
  abbrev w : Tables
  w = g.opening.tables

  abbrev u : Store
  u = g.opening.store

  opens : Opens c.store g.opening
  opens = post_at _ _ _ _ (store_opens c.store) g.opens

  pub opening_safe : Safe w a u u
  opening_safe = record { agree = agree_refl w a u; low = λ j. low_at c.store g.opening opens a j (λ h. slots j h) }

  pub blocks_safe : (k : Limits) (j : ℕ) (b : Block) → IsBlock w.slots c.programme j b → Keeps (Safe w a u) w g.rules k j b
  unfolding rules_of
  blocks_safe k j b is =
      keeps_under _ w g.rules capability k j b (rules_one c.rule capability g.rules (ap rules_of is-1) g.ruled)
      (block_safe w a opens.ordered in-a u c.programme blocks k j b is)

pub capability_safety : CapabilitySafety
capability_safety a c old g is-1 in-a slots blocks =
    protected_kept c old g (Safe g.opening.tables a g.opening.store)
    (opening_safe a c g is-1 in-a slots blocks) (blocks_safe a c g is-1 in-a slots blocks)
    a (λ s m i p. m.agree.held i p.above)
