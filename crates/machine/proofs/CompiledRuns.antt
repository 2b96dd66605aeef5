-- Rows that stand for a command run as the command does, and stop with its paths. By continuations: if running on from the row after it comes to `k`,
-- running from its first row comes to the command and then `k`. Assumes nothing.
use Prim.Native.Nat.{ℕ, zero, suc, ◌+◌, ◌-◌, ◌≤◌, ◌<◌}
use mathlib.Core.Path.{◌≡◌, refl, sym, ap, ◌∙◌}
use mathlib.Core.Bool.{Bool, true, false}
use mathlib.Core.Logic.{inl, inr}
use mathlib.Core.List.{List, [], ◌∷◌, ◌++◌, append-nil}
use native.Mathlib.Omega.{arith}
use lib.ListN.{length, get_or, set, length-set}
use lib.Seq.{get_or-set_same}
use Rattle.lattice.specs.Order.{Label, meet}
use Rattle.values.specs.Result.{Result, ok, refuse, ◌>>=◌, refused_as}
use Rattle.values.proofs.Result.{post_at, bind_ok, bind_assoc}
use Rattle.syntax.specs.Syntax.{Expr, Cmd, cmd, Body, skip, assign, seq, if, while, Cmds, nil, cons}
use Rattle.syntax.specs.Code.{most_deep}
use Rattle.syntax.specs.declared.Compiled.{Compiled}
use Rattle.syntax.specs.Rows.{between, size, size_body, size_all}
use Rattle.calculus.specs.Calculus.{Setting, State, Stop, Judged, Write, judge, attempt, step, counted, recorded, performed, stop_at, choose}
use Rattle.pausing.specs.Paths.{Open, Pause, pause_at, within, rounds, play, play_body, play_all}
use Rattle.calculus.proofs.Steps.{Counted, made}
use Rattle.machine.specs.CompiledRuns.{AssignAt, GuardAt, JumpAt, next, Span, InSpan, Runs, ends, assigns, guards, jumps, BlockAt, span_of}
use Rattle.pausing.specs.RowPaths.{path_to, path_body, find_in}
use Rattle.machine.proofs.CompiledPaths.{under, ok_bind, refuse_bind, as_ok, as_refuse, as_bind, as_within, as_none, step_own, Same, same_refl, same_trans, same_less, same_set, among, Prefixed, prefixed_same, own_path, if_own, then_in, else_in, while_own, body_in, child_in_law, rest_in, all_in}
use Rattle.machine.proofs.MachineRows.{step_spent}
use Rattle.machine.proofs.CompiledCommands.{Laid, LaidAll, laid_assign, laid_seq, laid_first, laid_rest, Way, laid_if, laid_while, block_laid}

abbrev met : Setting → Label → Label → Label
met w = meet w.tables.order

-- a step that is made was within the budget
step_early : {A : Type 0} (w : Setting) (at : ℕ) (s : State) (r : Result ℕ A) (a : A) → s.steps ≤ w.limits.budget → step w at s r ≡ ok a
    → s.steps < w.limits.budget
step_early w at s r a h e = post_at (λ _. s.steps < w.limits.budget) _ _ a (made w s.steps at s r (record { grown = omega arith; kept = h })) e

ticked : (w : Setting) (at : ℕ) (y : Write) (s : State) → s.steps < w.limits.budget → Counted w.limits.budget s.steps (performed w at y s)
unfolding performed recorded counted
ticked w at y s h = record { grown = omega arith; kept = omega arith }

-- an else-part with rows has a jump before it
pub between_some : (n : ℕ) → 0 < n → between n ≡ 1
unfolding between
between_some zero h = absurd (omega arith)
between_some (suc n) h = refl

-- a while that is out of fuel is out of budget
spent_out : (q q' : List Open) (s : State) (at : ℕ) (k : State → Result Pause State) → q' ≡ q → (r : Result Stop Judged) → r ≡ refuse (stop_at at s 17)
    → (refused_as (under q) (refuse (pause_at [] (stop_at at s 17))) >>= k) ≡ (refused_as (pause_at q') r >>= λ j. refuse (pause_at [] (stop_at at s 17)))
spent_out q q' s at k y r v =
    rw (v, y, as_refuse {A = State} (under q) (pause_at [] (stop_at at s 17)), as_refuse {A = Judged} (pause_at q) (stop_at at s 17), append-nil q)
    (refuse_bind _ k ∙ sym (refuse_bind _ (λ (j : Judged). refuse (pause_at [] (stop_at at s 17)))))

module _ (w : Setting) (t : Compiled) (span : Span) where
  -- running on from row r, inside d guards, from any state that can come up, comes to k
  abbrev pub Reaches : ℕ → ℕ → List Label → State → (State → Result Pause State) → Type 0
  Reaches r d l s k =
      (u : State) (m : List Label) → Counted w.limits.budget s.steps u → Same d l m → Runs w t span r m u (k u)

  -- the n rows from r on, up to r', do what f does, inside d guards; a stop at one of them has its path p inside whatever is around it
  pub record Does (f : Label → State → Result Pause State) (p : List Label → ℕ → List Open) (r n r' d : ℕ) : Type 0 where
    pub does : (b : Label) (q : List Open) (l : List Label) (s : State) (k : State → Result Pause State) → length l ≡ most_deep + 1 → s.steps ≤ w.limits.budget
        → get_or l d 0 ≡ b → Prefixed span p r n d q l → Reaches r' d l s k → Runs w t span r l s (refused_as (under q) (f b s) >>= k)

  moved : {f : Label → State → Result Pause State} {p : List Label → ℕ → List Open} {r n to to' d : ℕ} → to ≡ to' → Does f p r n to d → Does f p r n to' d
  moved e h = rw e at h

  does_skip : (p : List Label → ℕ → List Open) (r n d : ℕ) → Does (λ b s. ok s) p r n r d
  does_skip p r n d =
      record { does = λ b q l s k n h e i z. rw (as_ok (under q) s, ok_bind s k) (z s l (record { grown = omega arith; kept = h }) same_refl) }

  does_assign : (r d at : ℕ) (x v : Expr) → AssignAt t r d at x v
      → Does (λ b s. refused_as (pause_at []) (step w at s (attempt w b s x v)) >>= λ y. ok (performed w at y s)) (λ m i. []) r 1 (r + 1) d
  does_assign r d at x v a =
      record {
        does = λ b q l s k n h e i z.
            rw (sym e)
            (assigns {l = l} {s = s} d at x v (λ y. refused_as (under q) (ok (performed w at y s)) >>= k) a (record { from = i.from; before = omega (arith, i.upto) })
            (step_own q (span.path r l) (own_path span r d q l (omega arith) refl i) (step w at s (attempt w (get_or l d 0) s x v)) (λ y. ok (performed w at y s)) k)
            (λ y j. rw (as_ok (under q) (performed w at y s), ok_bind (performed w at y s) k)
            (z (performed w at y s) l (ticked w at y s (step_early w at s _ y h j)) same_refl)));
      }

  -- a guard: each part is shown from its first row, under the guard's label, where the step is within the budget
  module _ {r d at : ℕ} {g : Expr} {other : ℕ} (a : GuardAt t r d at g other) (l : List Label) (s : State) (h : s.steps ≤ w.limits.budget)
      (q : List Open) (own : span.path r l ≡ q) (here : InSpan span r) where
    abbrev inner : Label → List Label
    inner y = set l (d + 1) (met w (get_or l d 0) y)

    guarded : (F G : Label → State → Result Pause State) (k : State → Result Pause State)
        → ((y : Label) → s.steps < w.limits.budget → Runs w t span (r + 1) (inner y) (counted s) (refused_as (under q) (F y (counted s)) >>= k))
        → ((y : Label) → s.steps < w.limits.budget → Runs w t span other (inner y) (counted s) (refused_as (under q) (G y (counted s)) >>= k))
        → Runs w t span r l s (refused_as (under q) (refused_as (pause_at []) (step w at s (judge w s.store g)) >>= λ j. choose j.passes (F j.label) (G j.label) (counted s)) >>= k)
    unfolding next choose
    guarded F G k p z =
        guards {s = s} d at g other (λ j. refused_as (under q) (choose j.passes (F j.label) (G j.label) (counted s)) >>= k) a here
        (step_own q (span.path r l) own (step w at s (judge w s.store g)) (λ j. choose j.passes (F j.label) (G j.label) (counted s)) k)
        (λ j i. go j.label (step_early w at s _ j h i) j.passes)
      where
        go : (y : Label) → s.steps < w.limits.budget → (c : Bool)
            → Runs w t span (next c r other) (inner y) (counted s) (refused_as (under q) (choose c (F y) (G y) (counted s)) >>= k)
        go y i true = p y i
        go y i false = z y i

    -- a part inside the guard, its path one entry longer: f, and then control comes to where the part ends
    inside : (f : Label → State → Result Pause State) (p : List Label → ℕ → List Open) (from n to : ℕ) (b : Label) (c : ℕ) (k : State → Result Pause State)
        → Does f p from n to (d + 1) → length l ≡ most_deep + 1 → get_or l d 0 ≡ b
        → ((v : Label) → Prefixed span p from n (d + 1) (q ++ (record { child = c; label = v } ∷ [])) (set l (d + 1) v))
        → ((u : State) (m : List Label) → Counted w.limits.budget (s.steps + 1) u → Same d l m → Runs w t span to m u (k u))
        → (y : Label) → s.steps < w.limits.budget
        → Runs w t span from (inner y) (counted s) (refused_as (under q) (refused_as (within c (met w b y)) (f (met w b y) (counted s))) >>= k)
    unfolding counted
    inside f p from n to b c k z o e i u y j =
        let v = a.level in
        rw (as_within q c (met w b y) (f (met w b y) (counted s)), sym e)
        (z.does (met w (get_or l d 0) y) (q ++ (record { child = c; label = met w (get_or l d 0) y } ∷ [])) (inner y) (counted s) k
        (length-set l (d + 1) (met w (get_or l d 0) y) ∙ o) (omega arith)
        (get_or-set_same l (d + 1) (met w (get_or l d 0) y) 0 (omega arith)) (i (met w (get_or l d 0) y))
        (λ u' m c' z'. u u' m (record { grown = c'.grown; kept = c'.kept }) (same_trans (same_set _) (same_less (omega arith) z'))))

  -- running on from row r is running on from row r'
  abbrev pub Leads : ℕ → ℕ → Type 0
  Leads r r' = (l : List Label) (s : State) (whole : Result Pause State) → Runs w t span r' l s whole → Runs w t span r l s whole

  -- the then-part's rows end before row `mid`, the else-part's begin at row `other`
  does_if : (c e : Cmd) (r mid other r' d at : ℕ) (x : Expr) → other ≡ r + 1 + size c + between (size e)
      → GuardAt t r d at x other → Leads mid r' → Does (play w c) (λ m i. path_to m c (d + 1) i) (r + 1) (size c) mid (d + 1)
      → Does (play w e) (λ m i. path_to m e (d + 1) i) other (size e) r' (d + 1)
      → Does (play_body w (if x c e) at) (λ m i. path_body m (if x c e) d i) r (1 + size c + between (size e) + size e) r' d
  unfolding play_body
  does_if c e r mid other r' d at x o a z p q =
      record {
        does = λ b v l s k n h y i u.
            let own = if_own span r d v l x c e i in
            let here : InSpan span r = record { from = i.from; before = omega (arith, i.upto) } in
            let deep : d + 1 < length l = omega (arith, a.level) in
            guarded a l s h v own here (λ y' u'. refused_as (within 0 (met w b y')) (play w c (met w b y') u')) (λ y' u'. refused_as (within 1 (met w b y')) (play w e (met w b y') u')) k
            (inside a l s h v own here (play w c) (λ m j. path_to m c (d + 1) j) (r + 1) (size c) mid b 0 k p n y (then_in span r d v l x c e i deep)
            (λ u' m c' j. z m u' (k u') (u u' m (record { grown = omega (arith, c'.grown); kept = c'.kept }) j)))
            (inside a l s h v own here (play w e) (λ m j. path_to m e (d + 1) j) other (size e) r' b 1 k q n y (else_in span r d v l x c e i other o (between_some (size e)) deep)
            (λ u' m c' j. u u' m (record { grown = omega (arith, c'.grown); kept = c'.kept }) j));
      }

  does_both : (c : Cmd) (cs : Cmds) (k r mid r' d : ℕ) → mid ≡ r + size c
      → Does (play w c) (λ m i. path_to m c d i) r (size c) mid d → Does (play_all w cs (k + 1)) (among d cs (k + 1)) mid (size_all cs) r' d
      → Does (play_all w (cons c cs) k) (among d (cons c cs) k) r (size c + size_all cs) r' d
  unfolding play_all
  does_both c cs j r mid r' d y p q =
      record {
        does = λ b o l s k n h e i z.
            rw (
              as_bind (under o) (refused_as (within j b) (play w c b s)) (λ u. play_all w cs (j + 1) b u),
              bind_assoc (refused_as (under o) (refused_as (within j b) (play w c b s))) (λ u. refused_as (under o) (play_all w cs (j + 1) b u)) k,
              as_within o j b (play w c b s),
            )
            (p.does b (o ++ (record { child = j; label = b } ∷ [])) l s (λ u. refused_as (under o) (play_all w cs (j + 1) b u) >>= k) n h e
            (child_in_law span r d o l c cs j i b e)
            (λ u m c' v. q.does b o m u k (v.room ∙ n) c'.kept (v.same d (omega arith) ∙ e) (prefixed_same span v (rw y (rest_in span r d o l c cs j i)))
            (λ u' m' c'' v'. z u' m' (record { grown = omega (arith, c'.grown, c''.grown); kept = c''.kept }) (same_trans v v'))));
      }

  -- the rounds of a while, with any fuel that covers the steps left
  module _ (c : Cmd) (r mid d at : ℕ) (x : Expr)
      (a : GuardAt t r d at x (mid + 1)) (z : JumpAt t mid r) (p : Does (play w c) (λ m i. path_to m c (d + 1) i) (r + 1) (size c) mid (d + 1)) where
    abbrev again : Label → ℕ → State → Result Pause State
    again b n s =
        rounds (λ u. refused_as (pause_at []) (step w at u (judge w u.store x))) (λ y u. refused_as (within 0 (met w b y)) (play w c (met w b y) u)) at n s

    turns : (n : ℕ) (b : Label) (q : List Open) (l : List Label) (s : State) (k : State → Result Pause State) → length l ≡ most_deep + 1 → s.steps ≤ w.limits.budget
        → w.limits.budget ≤ n + s.steps → get_or l d 0 ≡ b → Prefixed span (λ m i. path_body m (while x c) d i) r (1 + size c + 1) d q l
        → Reaches (mid + 1) d l s k → Runs w t span r l s (refused_as (under q) (again b n s) >>= k)
    unfolding rounds counted
    turns zero b q l s k full h left e i u =
        guards {l = l} {s = s} d at x (mid + 1) (λ j. refuse (pause_at [] (stop_at at s 17))) a (record { from = i.from; before = omega (arith, i.upto) })
        (spent_out q (span.path r l) s at k (while_own span r d q l x c i) _ (step_spent w at s (judge w s.store x) (omega arith)))
        (λ j y. absurd (omega (arith, step_early w at s _ j h y)))
    turns (suc n) b q l s k full h left e i u =
        let own = while_own span r d q l x c i in
        let here : InSpan span r = record { from = i.from; before = omega (arith, i.upto) } in
        guarded a l s h q own here (λ y v. refused_as (within 0 (met w b y)) (play w c (met w b y) v) >>= again b n) (λ y. ok) k
        (λ y v. rw (
          as_bind (under q) (refused_as (within 0 (met w b y)) (play w c (met w b y) (counted s))) (again b n),
          bind_assoc (refused_as (under q) (refused_as (within 0 (met w b y)) (play w c (met w b y) (counted s)))) (λ u'. refused_as (under q) (again b n u')) k,
        )
        (inside a l s h q own here (play w c) (λ m j. path_to m c (d + 1) j) (r + 1) (size c) mid b 0 (λ u'. refused_as (under q) (again b n u') >>= k) p full e
        (body_in span r d q l x c i (omega (arith, a.level)))
        (λ u' m c' j. jumps r z (turns n b q m u' k (j.room ∙ full) c'.kept (omega (arith, c'.grown)) (j.same d (omega arith) ∙ e) (prefixed_same span j i)
        (λ u'' m'' c'' j'. u u'' m'' (record { grown = omega (arith, c'.grown, c''.grown); kept = c''.kept }) (same_trans j j')))) y v))
        (λ y v. rw (as_ok (under q) (counted s), ok_bind (counted s) k)
        (u (counted s) _ (record { grown = omega arith; kept = omega arith }) (same_set _)))

    does_while : Does (play_body w (while x c) at) (λ m i. path_body m (while x c) d i) r (1 + size c + 1) (mid + 1) d
    unfolding play_body
    does_while = record { does = λ b q l s k n h e i u. turns (w.limits.budget - s.steps) b q l s k n h (omega arith) e i u }

  -- a part's end leads on
  pub ways : {r r' : ℕ} → Way t r r' → Leads r r'
  ways (inl e) l s whole q = rw e q
  ways (inr j) l s whole q = jumps _ j q

  -- the rows of a command do what the command does, and stop with its paths
  mutual
    unfolding size play path_to path_body find_in

    pub does_cmd : (c : Cmd) (d r o : ℕ) → Laid t c d r o → Does (play w c) (λ m i. path_to m c d i) r (size c) (r + size c) d
    does_cmd (cmd at b) d r o h = does_body b at d r o h

    pub does_body : (b : Body) (at d r o : ℕ) → Laid t (cmd at b) d r o → Does (play_body w b at) (λ m i. path_body m b d i) r (size_body b) (r + size_body b) d
    does_body skip at d r o h = moved (omega arith) (does_skip _ r _ d)
    does_body (assign x v) at d r o h = does_assign r d at x v (laid_assign t h)
    does_body (seq cs) at d r o h =
        let all = does_all cs 0 d r o (laid_seq t h) in
        record { does = λ b q l u k n h' e i z. all.does b q l u k n h' e (all_in span r d q l cs (size_all cs) i) z }
    does_body (if g c e) at d r o h =
        let p = laid_if t h in
        moved (omega arith)
        (does_if c e r _ _ _ d at g refl p.guard (ways p.way) (does_cmd c (d + 1) (r + 1) _ p.first) (does_cmd e (d + 1) _ _ p.second))
    does_body (while g c) at d r o h =
        let p = laid_while t h in
        moved (omega arith) (does_while c r _ d at g p.guard p.back (does_cmd c (d + 1) (r + 1) _ p.body))

    pub does_all : (cs : Cmds) (k d r o : ℕ) → LaidAll t cs d r o → Does (play_all w cs k) (among d cs k) r (size_all cs) (r + size_all cs) d
    does_all nil k d r o h = moved (omega arith) (does_skip _ r _ d)
    does_all (cons c cs) k d r o h =
        moved (omega arith) (does_both c cs k r _ _ d refl (does_cmd c d r o (laid_first t h)) (does_all cs (k + 1) d _ _ (laid_rest t h)))

-- the paths to a block's rows are those in its command
pub block_prefixed : (c : Cmd) (r : ℕ) (l : List Label) → Prefixed (span_of c r) (λ m i. path_to m c 0 i) r (size c) 0 [] l
block_prefixed c r l =
    record { from = omega arith; upto = omega arith; at = λ i m _ _. let y : r + i - r ≡ i = omega arith in ap (λ (j : ℕ). path_to m c 0 j) y }

-- A block that stands in the tables runs as its command does, from its first row to its end row.
pub block_runs : (w : Setting) (t : Compiled) (r o : ℕ) (c : Cmd) → BlockAt t r o c → (l : List Label) (s : State) → length l ≡ most_deep + 1
    → s.steps ≤ w.limits.budget → Runs w t (span_of c r) r l s (play w c (get_or l 0 0) s)
block_runs w t r o c a l s n h =
    let b = block_laid t r o c a in
    rw (sym (bind_ok (play w c (get_or l 0 0) s)), sym (as_none (play w c (get_or l 0 0) s)))
    ((does_cmd w t (span_of c r) c 0 r o b.0).does (get_or l 0 0) [] l s (λ u. ok u) n h refl (block_prefixed c r l) (λ u m _ _. ends refl b.1 refl))
