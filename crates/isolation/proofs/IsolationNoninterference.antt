-- For `isolated`: noninterference of two runs of blocks under full provenance, from stores that agree on the protected slots. Assumes nothing.
use Prim.Native.Nat.{ℕ, ◌+◌, ◌-◌}
use mathlib.Core.Path.{◌≡◌, refl, sym, ap, ◌∙◌}
use mathlib.Core.Bool.{Bool, true, false}
use mathlib.Core.List.{List}
use lib.ListN.{get_or}
use Rattle.lattice.specs.Order.{Label, below, meet, top}
use Rattle.lattice.proofs.Order.{top_lt}
use Rattle.values.specs.Result.{Result, ok, refuse, ◌>>=◌, require}
use Rattle.values.specs.Value.{read_view, is, viewed, Slot, empty_slot}
use Rattle.values.proofs.Result.{Post, Any, post_ok, post_all, post_require, post_bind}
use Rattle.values.proofs.ResultPairs.{Post₂, Each, none, more, post₂_ok, post₂_map, post₂_join, post₂_equal, post₂_require, post₂_refused_as, post₂_bind}
use Rattle.store.specs.Sheet.{Tables, owner_of}
use Rattle.store.specs.HeldStore.{Ordered}
use Rattle.syntax.specs.declared.Header.{Header}
use Rattle.syntax.specs.Sheet.{Block}
use Rattle.syntax.specs.Syntax.{Op, Expr, literal, read, operation, Cmd, cmd, Body, skip, assign, seq, if, while, Cmds, nil, cons}
use Rattle.calculus.specs.Rules.{full_provenance}
use Rattle.calculus.specs.Calculus.{Limits, limits, Store, Labelled, Judged, Write, State, Memory, memory, Stop, in_region, admit, fetch, operate, eval, judge, authorised, reliable, permit, assignment, counted, recorded, performed, step, attempt, loop, exec, exec_body, execs}
use Rattle.calculus.specs.Blocks.{setting, run_blocks}
use Rattle.isolation.specs.Isolation.{FloorOutOfReach}
use Rattle.calculus.proofs.Steps.{choose_both, post_choose, post_tried, post_loop}
use Rattle.calculus.proofs.CalculusOperations.{post_operation}
use Rattle.calculus.proofs.CalculusPairs.{post₂_step, post₂_loop, agree, apart}
use Rattle.calculus.proofs.CalculusTaint.{Tainted, Principal, Agree, agree_refl, principal_meet, tainted_left, tainted_right, eval_principal}
use Rattle.isolation.proofs.IsolationAgreement.{Akin, akin_refl, akin_join, akin_both, akin_tainted}
use Rattle.isolation.proofs.IsolationConfinement.{under, shut_by_target, shut_by_value, judge_label, judge_principal, Harmless, assignment_shut, Like, reach_confined, branch_confined}

-- two states that are akin, whatever their steps
abbrev pub Alike : Tables → Label → State → State → Type 0
Alike w a s t = Akin w a (memory s) (memory t)

-- two writes: the same one, or none to a protected slot
pub data Writes (w : Tables) (a : Label) (x y : Write) : Type 0 where
  same : x ≡ y → Writes w a x y
  harmless : Harmless w a x → Harmless w a y → Writes w a x y

module _ (w : Tables) (a : Label) where
  akin_writes : (block at : ℕ) (x y : Write) (m n : Memory) → Writes w a x y → Akin w a m n
      → Akin w a (recorded block at x m) (recorded block at y n)
  akin_writes block at x y m n (same e) h = rw e (akin_both w a block at y m n h)
  akin_writes block at x y m n (harmless l k) h =
      akin_join w a _ _ n (akin_tainted w a block at x m n l h) (akin_tainted w a block at y n n k (akin_refl w a n))

  -- two answers that are both akin to one memory
  join : (u : Memory) (x y : Result Stop State) → Post (Like w a u) Any x → Post (Like w a u) Any y
      → Post₂ (Alike w a) x y
  join u x y p q = post₂_join _ _ _ _ _ p q (λ s t h k. akin_join w a _ _ u h k)

module _ (w : Tables) (a : Label) (o : Ordered w) (in-a : Principal w a) (h : Header) (block : ℕ) where
  -- An expression at a store, for every store that agrees with it and whatever the limits: it answers the same, or its label is tainted.
  data Reads (s : Store) (e : Expr) : Type 0 where
    steady : (r : Result ℕ Labelled) → ((bound : Limits) (t : Store) → Agree w a t s → eval (under w h block bound) t e ≡ r) → Reads s e
    tainted : ((bound : Limits) (t : Store) → Agree w a t s → Post (λ x. Tainted w a x.label) Any (eval (under w h block bound) t e)) → Reads s e

  fetch_tainted : (bound : Limits) (s : Store) (x : Labelled) → Tainted w a (meet w.order x.label (owner_of w (viewed x.value)))
      → Post (λ y. Tainted w a y.label) Any (fetch (under w h block bound) s x)
  unfolding fetch admit
  fetch_tainted bound s x l =
      post_require _ _ _ _ _ (λ _. post_require _ _ _ _ _ (λ _. post_ok _ _ _ l) (λ _. tt)) (λ _. tt)

  fetch_same : (b b' : Limits) (s t : Store) (x : Labelled)
      → get_or t (viewed x.value) empty_slot ≡ get_or s (viewed x.value) empty_slot
      → fetch (under w h block b) t x ≡ fetch (under w h block b') s x
  unfolding fetch admit in_region
  fetch_same b b' s t x e =
      ap (λ (y : Slot). require (is read_view x.value) 13 (
      admit (under w h block b) (record { value = y.value; label = meet w.order x.label (owner_of w (viewed x.value)) }))) e

  -- two operands that both answer the same, or one of them has a tainted label, and then the meet is tainted
  reads_both : (s : Store) (f : Op) (e e' : Expr) → Reads s e → Reads s e' → Reads s (operation f e e')
  unfolding eval operate
  reads_both s f e e' (tainted k) d =
      tainted (λ bound t m. post_operation _ _ _ (under w h block bound) t f e e' (k bound t m) (eval_principal (under w h block bound) o t e')
      (λ x y l p. tainted_left w a o in-a _ _ l p))
  reads_both s f e e' (steady r k) (tainted d) =
      tainted (λ bound t m. post_operation _ _ _ (under w h block bound) t f e e' (eval_principal (under w h block bound) o t e) (d bound t m)
      (λ x y p l. tainted_right w a o in-a _ _ p l))
  reads_both s f e e' (steady r k) (steady r' d) =
      steady (r >>= λ x. r' >>= operate (under w h block (limits 0 0)) f x) (λ bound t m. rw (k bound t m, d bound t m))

  reads : (s : Store) (e : Expr) → Reads s e
  unfolding eval ◌>>=◌ admit in_region Post
  reads s (literal v) = steady (eval (under w h block (limits 0 0)) s (literal v)) (λ bound t m. refl)
  reads s (operation f e e') = reads_both s f e e' (reads s e) (reads s e')
  reads s (read e) = go (reads s e)
    where
      -- the view is x in every such store: its slot is protected or not
      via : (x : Labelled) → ((bound : Limits) (t : Store) → Agree w a t s → eval (under w h block bound) t e ≡ ok x) → Principal w x.label
          → (b : Bool) → below w.order (owner_of w (viewed x.value)) a ≡ b → Reads s (read e)
      via x k p false q = steady (fetch (under w h block (limits 0 0)) s x) (λ bound t m. rw (k bound t m) (fetch_same bound (limits 0 0) s t x (m.held _ q)))
      via x k p true q =
          tainted (λ bound t m. rw (k bound t m) (fetch_tainted bound t x (tainted_right w a o in-a _ _ p q)))

      at : (r : Result ℕ Labelled) → ((bound : Limits) (t : Store) → Agree w a t s → eval (under w h block bound) t e ≡ r)
          → Post (λ x. Principal w x.label) Any r → Reads s (read e)
      at (ok x) k p = via x k p _ refl
      at (refuse n) k p = steady (refuse n) (λ bound t m. rw (k bound t m))

      go : Reads s e → Reads s (read e)
      go (tainted k) =
          tainted (λ bound t m. post_bind (λ x. Tainted w a x.label) _ _ (eval (under w h block bound) t e) _ (k bound t m)
          (λ x l. fetch_tainted bound t x (tainted_left w a o in-a _ _ l (o.owners _))))
      go (steady r k) = at r k (rw (k (limits 0 0) s (agree_refl w a s)) at (eval_principal (under w h block (limits 0 0)) o s e))

  judge_same : (b b' : Limits) (s t : Store) (g : Expr) → eval (under w h block b) s g ≡ eval (under w h block b') t g
      → Post₂ (λ (i j : Judged). (i ≡ j) × Principal w i.label) (judge (under w h block b) s g) (judge (under w h block b') t g)
  unfolding judge
  judge_same b b' s t g e = post₂_equal _ _ _ (rw e) (judge_principal w a o in-a h block b s g)

  -- in a block that is not endorsed, or down to a floor out of reach
  module _ (clear : FloorOutOfReach w a h) where
    target_tainted : (bound : Limits) (branch : Label) (s : Store) (t v : Expr)
        → Post (λ x. Tainted w a x.label) Any (eval (under w h block bound) s t)
        → Post (Harmless w a) Any (assignment (under w h block bound) branch s t v)
    target_tainted bound branch s t v p =
        assignment_shut w a o in-a h block (Tainted w a) (Principal w) bound branch s t v p (eval_principal (under w h block bound) o s v)
        (λ x y l _. shut_by_target w a o in-a h clear block bound x y branch l)

    value_tainted : (bound : Limits) (branch : Label) (s : Store) (t v : Expr)
        → Post (λ x. Tainted w a x.label) Any (eval (under w h block bound) s v)
        → Post (Harmless w a) Any (assignment (under w h block bound) branch s t v)
    value_tainted bound branch s t v p =
        assignment_shut w a o in-a h block (Principal w) (Tainted w a) bound branch s t v (eval_principal (under w h block bound) o s t) p
        (λ x y _ l. shut_by_value w a o in-a h clear block bound x y branch l)

    module _ (b b' : Limits) where
      assignment_same : (branch : Label) (s u : Store) (t v : Expr)
          → eval (under w h block b) s t ≡ eval (under w h block b') u t → eval (under w h block b) s v ≡ eval (under w h block b') u v
          → assignment (under w h block b) branch s t v ≡ assignment (under w h block b') branch u t v
      unfolding assignment permit authorised reliable in_region
      assignment_same branch s u t v p q = rw (p, q)

      assignment₂ : (branch : Label) (s u : Store) (t v : Expr) → Agree w a s u
          → Post₂ (Writes w a) (assignment (under w h block b) branch s t v) (assignment (under w h block b') branch u t v)
      assignment₂ branch s u t v m = go (reads u t) (reads u v)
        where
          self : Agree w a u u
          self = agree_refl w a u

          go : Reads u t → Reads u v → Post₂ (Writes w a) (assignment (under w h block b) branch s t v) (assignment (under w h block b') branch u t v)
          go (tainted k) d =
              post₂_join _ _ _ _ _ (target_tainted b branch s t v (k b s m)) (target_tainted b' branch u t v (k b' u self))
              (λ x y p q. harmless p q)
          go (steady r k) (tainted d) =
              post₂_join _ _ _ _ _ (value_tainted b branch s t v (d b s m)) (value_tainted b' branch u t v (d b' u self))
              (λ x y p q. harmless p q)
          go (steady r k) (steady r' d) =
              post₂_map _ _ _ _
              (post₂_equal Any _ _ (assignment_same branch s u t v (k b s m ∙ sym (k b' u self)) (d b s m ∙ sym (d b' u self)))
              (post_all _ _ _ (λ _. tt) (λ _. tt)))
              (λ x y q. same q.0)

      attempt₂ : (branch : Label) (s u : State) (t v : Expr) → Alike w a s u
          → Post₂ (Writes w a) (attempt (under w h block b) branch s t v) (attempt (under w h block b') branch u t v)
      unfolding attempt
      attempt₂ branch s u t v m = post₂_require _ _ _ _ _ _ _ (assignment₂ branch s.store u.store t v m.stores)

    -- under a tainted guard nothing protected changes
    if_tainted : (bound : Limits) (at : ℕ) (branch : Label) (g : Expr) (c d : Cmd) → Principal w branch → (u : Memory) (s : State)
        → Post (λ x. Tainted w a x.label) Any (eval (under w h block bound) s.store g)
        → Like w a u s → Post (Like w a u) Any (exec_body (under w h block bound) (if g c d) at branch s)
    unfolding exec_body counted
    if_tainted bound at branch g c d p u s e m =
        post_bind _ _ _ _ _ (post_tried _ _ _ _ _ _ (judge_label w a o in-a h block (Tainted w a) bound s.store g e) tt) λ j l.
        post_choose _ _ _ _ _ _
        (λ _. branch_confined w a o in-a h block clear bound u c _ (tainted_right w a o in-a _ _ p l) (counted s) m)
        (λ _. branch_confined w a o in-a h block clear bound u d _ (tainted_right w a o in-a _ _ p l) (counted s) m)

    while_tainted : (bound : Limits) (at : ℕ) (branch : Label) (g : Expr) (c : Cmd) → Principal w branch → (u : Memory)
        → ((t : Store) → Agree w a t u.store → Post (λ x. Tainted w a x.label) Any (eval (under w h block bound) t g))
        → (n : ℕ) (s : State) → Like w a u s
        → Post (Like w a u) Any
        (loop (λ t. step (under w h block bound) at t (judge (under w h block bound) t.store g))
        (λ l t. exec (under w h block bound) c (meet w.order branch l) t) at n s)
    unfolding counted
    while_tainted bound at branch g c p u e n s m =
        post_loop (Like w a u) Any (λ _ j. Tainted w a j.label) _ _ at (λ _ _. tt)
        (λ t q. post_tried _ _ _ _ _ _ (judge_label w a o in-a h block (Tainted w a) bound t.store g (e t.store q.stores)) tt) (λ t j l q. q)
        (λ _ j l t q. branch_confined w a o in-a h block clear bound u c _ (tainted_right w a o in-a _ _ p l) t q) n s m

    -- two runs of one command
    module _ (b b' : Limits) where
      abbrev Twice : Cmd → Type 0
      Twice c =
          (branch : Label) → Principal w branch → (s t : State) → Alike w a s t
          → Post₂ (Alike w a) (exec (under w h block b) c branch s) (exec (under w h block b') c branch t)

      abbrev TwiceBody : Body → Type 0
      TwiceBody c =
          (at : ℕ) (branch : Label) → Principal w branch → (s t : State) → Alike w a s t
          → Post₂ (Alike w a) (exec_body (under w h block b) c at branch s) (exec_body (under w h block b') c at branch t)

      if₂ : (g : Expr) (c d : Cmd) → Twice c → Twice d → TwiceBody (if g c d)
      unfolding exec_body counted
      if₂ g c d ihc ihd at branch p s t m = go (reads t.store g)
        where
          go : Reads t.store g → Post₂ (Alike w a) (exec_body (under w h block b) (if g c d) at branch s) (exec_body (under w h block b') (if g c d) at branch t)
          go (tainted e) =
              join w a (memory t) _ _ (if_tainted b at branch g c d p _ s (e b _ m.stores) m)
              (if_tainted b' at branch g c d p _ t (e b' _ (agree_refl w a _)) (akin_refl w a _))
          go (steady r e) =
              post₂_bind _ _ _ _ _ _ (post₂_step _ _ _ _ _ _ _ _ (judge_same b b' _ _ g (e b _ m.stores ∙ sym (e b' _ (agree_refl w a _))))) λ j j' q.
              rw (← q.0) (
              choose_both (Post₂ (Alike w a)) j.passes _ _ _ _ _ _
              (ihc _ (principal_meet w a o in-a _ _ p q.1) (counted s) (counted t) m)
              (ihd _ (principal_meet w a o in-a _ _ p q.1) (counted s) (counted t) m))

      while₂ : (g : Expr) (c : Cmd) → Twice c → TwiceBody (while g c)
      unfolding exec_body counted
      while₂ g c ih at branch p s t m =
          post₂_loop (Alike w a) (λ j. Principal w j.label) at _ _ _ _ (λ s t q. q)
          (λ j q s t m. ih _ (principal_meet w a o in-a _ _ p q) s t m)
          (λ s t m. elim (reads t.store g) [
            | steady r e ↦ agree (post₂_step _ _ _ _ _ _ _ _ (judge_same b b' _ _ g (e b _ m.stores ∙ sym (e b' _ (agree_refl w a _)))))
            | tainted e ↦ apart (λ n n'.
                join w a (memory t) _ _ (while_tainted b at branch g c p _ (e b) n s m)
                (while_tainted b' at branch g c p _ (e b') n' t (akin_refl w a _)))
          ])
          (b.budget - s.steps) (b'.budget - t.steps) s t m

      mutual
        unfolding exec exec_body execs performed counted

        twice : (c : Cmd) → Twice c
        twice (cmd at c) branch p s t m = twice_body c at branch p s t m

        twice_body : (c : Body) → TwiceBody c
        twice_body skip at branch p s t m = post₂_ok _ _ _ _ m
        twice_body (assign x v) at branch p s t m =
            post₂_bind _ _ _ _ _ _ (post₂_step _ _ _ _ _ _ _ _ (attempt₂ b b' branch s t x v m))
            (λ y y' q. post₂_ok _ _ _ _ (akin_writes w a block at y y' _ _ q m))
        twice_body (seq cs) at branch p s t m = twice_all cs branch p s t m
        twice_body (if g c d) at branch p s t m =
            if₂ g c d (λ l p s t m. twice c l p s t m) (λ l p s t m. twice d l p s t m) at branch p s t m
        twice_body (while g c) at branch p s t m = while₂ g c (λ l p s t m. twice c l p s t m) at branch p s t m

        twice_all : (cs : Cmds) (branch : Label) → Principal w branch → (s t : State) → Alike w a s t
            → Post₂ (Alike w a) (execs (under w h block b) cs branch s) (execs (under w h block b') cs branch t)
        twice_all nil branch p s t m = post₂_ok _ _ _ _ m
        twice_all (cons c cs) branch p s t m = post₂_bind _ _ _ _ _ _ (twice c branch p s t m) (λ x y q. twice_all cs branch p x y q)

-- two blocks in the same place of two programmes
pub data Opposite (w : Tables) (a : Label) (b c : Block) : Type 0 where
  alike : b ≡ c → FloorOutOfReach w a b.header → Opposite w a b c
  reached : Tainted w a b.header.region → Tainted w a c.header.region → Opposite w a b c

module _ (w : Tables) (a : Label) (o : Ordered w) (in-a : Principal w a) (l l' : Limits) where
  block₂ : (i : ℕ) (b c : Block) → Opposite w a b c → (s t : State) → Alike w a s t
      → Post₂ (Alike w a) (exec (setting w full_provenance l i b) b.command (top w.order) s)
      (exec (setting w full_provenance l' i c) c.command (top w.order) t)
  block₂ i b c (alike e clear) s t m =
      rw (← e) (twice w a o in-a b.header i clear l l' b.command _ (top_lt w.order o.table) s t m)
  block₂ i b c (reached h k) s t m =
      join w a (memory t) _ _ (reach_confined w a o in-a b.header i h l _ b.command _ s m)
      (reach_confined w a o in-a c.header i k l' _ c.command _ t (akin_refl w a _))

  -- the law on lists of blocks, whatever the limits
  pub blocks_isolated : (bs cs : List Block) → Each (Opposite w a) bs cs → (i : ℕ) (s t : State) → Alike w a s t
      → Post₂ (Alike w a) (run_blocks w full_provenance l i bs s) (run_blocks w full_provenance l' i cs t)
  unfolding run_blocks
  blocks_isolated bs cs none i s t m = post₂_ok _ _ _ _ m
  blocks_isolated bs cs (more {a = b} {b = c} {xs = bs'} {ys = cs'} r rs) i s t m =
      post₂_bind _ _ _ _ _ _ (post₂_refused_as _ _ _ _ _ (block₂ i b c r s t m)) (λ u v q. blocks_isolated bs' cs' rs (i + 1) u v q)
