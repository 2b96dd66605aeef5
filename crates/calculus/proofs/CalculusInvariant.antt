-- Laws of `exec` (specs/Calculus.antt): what every assignment keeps, a run keeps, at its end and where it is stopped. Assumes nothing.
use Prim.Native.Nat.{ℕ, zero, suc, ◌-◌}
use mathlib.Core.List.{List, [], ◌∷◌}
use lib.ListN.{get_or, set}
use Rattle.lattice.specs.Order.{Label, meet}
use Rattle.values.specs.Result.{Result}
use Rattle.values.specs.declared.Value.{Value}
use Rattle.values.specs.Value.{Slot, assigned, empty_slot}
use Rattle.values.proofs.Result.{Post, Any, post_ok, post_all, post_map, post_require, post_bind}
use Rattle.syntax.specs.Syntax.{Op, Expr, literal, read, operation, Cmd, cmd, Body, skip, assign, seq, if, while, Cmds, nil, cons, LiteralsOf, Exprs, ExprsBody, ExprsAll, Literals}
use Rattle.syntax.proofs.SyntaxLiterals.{literals_all}
use Rattle.calculus.specs.Calculus.{Setting, Store, Write, State, Memory, memory, Stop, contents, admit, fetch, gives, eval, judge, permit, assignment, counted, written, recorded, performed, step, exec, exec_body, execs}
use Rattle.calculus.proofs.CalculusOperations.{post_operation}
use Rattle.calculus.proofs.Steps.{post_choose, post_tried, post_attempt, post_loop}

-- I holds of the store where a command ends, or is stopped
abbrev pub Ends : (Store → Type 0) → Result Stop State → Type 0
Ends I r = Post (λ s. I s.store) (λ e. I e.state.store) r

-- I holds of the store and the journal there
abbrev pub MemoryEnds : (Memory → Type 0) → Result Stop State → Type 0
MemoryEnds I r = Post (λ s. I (memory s)) (λ e. I (memory e.state)) r

-- I is kept by every assignment whose literals satisfy P, under every branch label that satisfies C; and inside an if or a while the
-- branch label satisfies C again
module _ (w : Setting) (P : Value → Type 0) (I : Memory → Type 0) (C : Label → Type 0)
    (inside : (branch : Label) (s : Store) (g : Expr) → C branch → Post (λ j. C (meet w.tables.order branch j.label)) Any (judge w s g))
    (keeps : (at : ℕ) (branch : Label) (m : Memory) (t v : Expr) → C branch → LiteralsOf P t → LiteralsOf P v → I m
    → Post (λ x. I (recorded w.block at x m)) Any (assignment w branch m.store t v)) where
  guarded : (at : ℕ) (branch : Label) (s : State) (g : Expr) → C branch → I (memory s)
      → Post (λ j. C (meet w.tables.order branch j.label)) (λ e. I (memory e.state)) (step w at s (judge w s.store g))
  guarded at branch s g k m = post_tried w at s _ _ _ (post_map _ _ _ _ _ (inside branch s.store g k) (λ j c. c) (λ _ _. m)) m

  mutual
    unfolding exec exec_body execs performed counted Exprs ExprsBody ExprsAll

    pub exec_records : (c : Cmd) → Literals P c → (branch : Label) → C branch → (s : State) → I (memory s)
        → MemoryEnds I (exec w c branch s)
    exec_records (cmd at b) l branch k s m = body_records b l at branch k s m

    body_records : (b : Body) → ExprsBody (LiteralsOf P) b → (at : ℕ) (branch : Label) → C branch → (s : State) → I (memory s)
        → MemoryEnds I (exec_body w b at branch s)
    body_records skip l at branch k s m = post_ok _ _ _ m
    body_records (assign t v) l at branch k s m =
        post_bind (λ x. I (recorded w.block at x (memory s))) _ _ _ _
        (post_tried w at s _ _ _
        (post_attempt _ _ w branch s t v (post_map _ _ _ _ _ (keeps at branch (memory s) t v k l.0 l.1 m) (λ x q. q) (λ _ _. m)) m) m)
        (λ x q. post_ok _ _ _ q)
    body_records (seq cs) l at branch k s m = execs_record cs l branch k s m
    body_records (if g c d) l at branch k s m =
        post_bind _ _ _ _ _ (guarded at branch s g k m) λ j q.
        post_choose _ _ _ _ _ _ (λ _. exec_records c l.1 _ q (counted s) m) (λ _. exec_records d l.2 _ q (counted s) m)
    body_records (while g c) l at branch k s m =
        post_loop (λ t. I (memory t)) (λ e. I (memory e.state)) (λ _ j. C (meet w.tables.order branch j.label)) _ _ at (λ _ q. q)
        (λ t q. guarded at branch t g k q) (λ t j _ q. q) (λ _ j q t m. exec_records c l.1 _ q t m) (w.limits.budget - s.steps) s m

    execs_record : (cs : Cmds) → ExprsAll (LiteralsOf P) cs → (branch : Label) → C branch → (s : State) → I (memory s)
        → MemoryEnds I (execs w cs branch s)
    execs_record nil l branch k s m = post_ok _ _ _ m
    execs_record (cons c cs) l branch k s m = post_bind _ _ _ _ _ (exec_records c l.0 branch k s m) (λ t q. execs_record cs l.1 branch k t q)

-- of the store alone, and where the branch label does not matter
module _ (w : Setting) (I : Store → Type 0) where
  pub exec_ends : (P : Value → Type 0)
      → ((branch : Label) (s : Store) (t v : Expr) → LiteralsOf P t → LiteralsOf P v → I s
      → Post (λ x. I (written x s)) Any (assignment w branch s t v))
      → (c : Cmd) → Literals P c → (branch : Label) (s : State) → I s.store → Ends I (exec w c branch s)
  unfolding recorded
  exec_ends P keeps c l branch s m =
      exec_records w P (λ m. I m.store) (λ _. Unit {0}) (λ _ s g _. post_all _ _ _ (λ _. tt) (λ _. tt))
      (λ at branch m t v _ p q k. keeps branch m.store t v p q k) c l branch tt s m

  -- nor the literals
  pub all_ends : ((branch : Label) (s : Store) (t v : Expr) → I s → Post (λ x. I (written x s)) Any (assignment w branch s t v))
      → (c : Cmd) (branch : Label) (s : State) → I s.store → Ends I (exec w c branch s)
  all_ends keeps c branch s m =
      exec_ends (λ _. Unit {0}) (λ branch s t v _ _ m. keeps branch s t v m) c (literals_all _ (λ _. tt) c) branch s m

-- what holds of both holds of an entry after a set
pub set_either : {A : Type 0} (Q : A → Type 0) (s : List A) (i j : ℕ) (u d : A) → Q u → Q (get_or s j d) → Q (get_or (set s i u) j d)
set_either Q [] i j u d p q = q
set_either Q (x ∷ s) zero zero u d p q = p
set_either Q (x ∷ s) zero (suc j) u d p q = q
set_either Q (x ∷ s) (suc i) zero u d p q = q
set_either Q (x ∷ s) (suc i) (suc j) u d p q = set_either Q s i j u d p q

-- what holds of every literal, of every slot's value and of what operations give
module _ (F : Value → Type 0) where
  abbrev pub Slots : Store → Type 0
  Slots s = (j : ℕ) → F (contents s j)

  pub written_slot : (x : Write) (s : Store) (j : ℕ) → F x.value → F (contents s j) → F (contents (written x s) j)
  unfolding written assigned
  written_slot x s j p q = set_either (λ (t : Slot). F t.value) s x.slot j _ empty_slot p q

  pub written_slots : (x : Write) (s : Store) → F x.value → Slots s → Slots (written x s)
  written_slots x s p q j = written_slot x s j p (q j)

  module _ (w : Setting) where
    -- holds of the value that is assigned where it holds of the expression's
    pub assignment_gives : (branch : Label) (s : Store) (t v : Expr) → Post (λ x. F x.value) Any (eval w s v)
        → Post (λ x. F x.value) Any (assignment w branch s t v)
    unfolding assignment permit
    assignment_gives branch s t v given =
        post_bind (λ _. Unit {0}) _ _ _ _ (post_all _ _ _ (λ _. tt) (λ _. tt)) λ x _.
        post_require _ _ _ _ _
        (λ _. post_bind _ _ _ _ _ given λ y p.
        post_require _ _ _ _ _ (λ _. post_require _ _ _ _ _ (λ _. post_ok _ _ _ p) (λ _. tt)) (λ _. tt)) (λ _. tt)

    module _ (operations : (o : Op) (u v : Value) → F (gives o u v)) where
      -- holds of every expression's value ..
      pub eval_gives : (s : Store) (e : Expr) → LiteralsOf F e → Slots s → Post (λ x. F x.value) Any (eval w s e)
      unfolding eval fetch admit LiteralsOf
      eval_gives s (literal v) l m = post_require _ _ _ _ _ (λ _. post_ok _ _ _ l) (λ _. tt)
      eval_gives s (read e) l m =
          post_bind _ _ _ _ _ (eval_gives s e l m) λ x _.
          post_require _ _ _ _ _ (λ _. post_require _ _ _ _ _ (λ _. post_ok _ _ _ (m _)) (λ _. tt)) (λ _. tt)
      eval_gives s (operation o e e') l m =
          post_operation _ _ _ w s o e e' (eval_gives s e l.0 m) (eval_gives s e' l.1 m) (λ x y _ _. operations o _ _)

      -- .. and of every slot's value, as long as the run goes
      pub slots_keep : (c : Cmd) → Literals F c → (branch : Label) (s : State) → Slots s.store → Ends Slots (exec w c branch s)
      slots_keep =
          exec_ends w Slots F
          (λ branch s t v _ l m. post_map _ _ _ _ _ (assignment_gives branch s t v (eval_gives s v l m)) (λ x p. written_slots x s p m) (λ _ _. tt))
