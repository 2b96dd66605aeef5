-- Running on from the row that a path leads to, with the labels of the path, does what `take_up` says is left to do there. Assumes nothing.
use Prim.Native.Nat.{ℕ, zero, suc, ◌+◌, ◌≤◌}
use mathlib.Core.Path.{◌≡◌, refl, sym, ◌∙◌}
use mathlib.Core.Bool.{Bool, true, false}
use mathlib.Core.List.{List, [], ◌∷◌, ◌++◌}
use native.Mathlib.Omega.{arith}
use lib.ListN.{length, get_or, set}
use lib.Dec.{eqb}
use Rattle.lattice.specs.Order.{Label}
use Rattle.values.specs.Result.{Result, ok, ◌>>=◌, refused_as}
use Rattle.values.proofs.Result.{bind_ok, bind_assoc}
use Rattle.syntax.specs.Syntax.{Cmd, cmd, Body, skip, assign, seq, if, while, Cmds, nil, cons}
use Rattle.syntax.specs.Code.{most_deep}
use Rattle.syntax.specs.declared.Compiled.{Compiled}
use Rattle.syntax.specs.Rows.{between, size, size_body, size_all}
use Rattle.calculus.specs.Calculus.{Setting, State, choose}
use Rattle.pausing.specs.Paths.{Open, Pause, within, play, take_up, take_up_body, take_up_all}
use Rattle.machine.specs.CompiledRuns.{Span, Runs, ends, jumps, BlockAt, span_of}
use Rattle.pausing.specs.RowPaths.{path_to, path_body, find_in, row_to, row_body, row_in, Along, AlongBody, AlongIn}
use Rattle.machine.proofs.CompiledPaths.{under, as_bind, as_within, as_none, same_trans, same_less, among, Prefixed, prefixed_same, then_in, else_in, body_in, child_in_law, rest_in, all_in}
use Rattle.machine.proofs.CompiledCommands.{Laid, LaidAll, laid_seq, laid_first, laid_rest, laid_if, laid_while, block_laid}
use Rattle.machine.proofs.CompiledRuns.{Reaches, Does, Leads, ways, does_body, does_all, between_some, block_prefixed}

-- a label that is there already is no change
set_there : (l : List Label) (i : ℕ) (x : Label) → get_or l i 0 ≡ x → set l i x ≡ l
set_there [] i x e = refl
set_there (y ∷ l) zero x e = rw (← e)
set_there (y ∷ l) (suc i) x e = rw (set_there l i x e)

-- the label that a path begins under
in_label : (l : List Label) (cs : Cmds) (k d : ℕ) (b x : Label) (p : List Open) → AlongIn l cs k d b x p → get_or l d 0 ≡ b
unfolding AlongIn
in_label l nil k d b x p h = absurd h
in_label l (cons c cs) zero d b x p h = h.0
in_label l (cons c cs) (suc k) d b x p h = in_label l cs k d b x p h

along_label : (l : List Label) (c : Cmd) (d : ℕ) (b : Label) (p : List Open) → Along l c d b p → get_or l d 0 ≡ b
unfolding Along AlongBody
along_label l (cmd at skip) d b p h = h.0
along_label l (cmd at (assign x v)) d b p h = h.0
along_label l (cmd at (seq cs)) d b [] h = h
along_label l (cmd at (seq cs)) d b (o ∷ p) h = in_label l cs o.child d b o.label p h
along_label l (cmd at (if g c e)) d b [] h = h
along_label l (cmd at (if g c e)) d b (o ∷ p) h = h.0
along_label l (cmd at (while g c)) d b [] h = h
along_label l (cmd at (while g c)) d b (o ∷ p) h = h.0

module _ (w : Setting) (t : Compiled) (span : Span) (l : List Label) (n : length l ≡ most_deep + 1) where
  -- from row r on, with the labels l, the rows do what f does, inside the commands of q, and come to row `to`, inside d guards
  record From (f : State → Result Pause State) (q : List Open) (r to d : ℕ) : Type 0 where
    does : (s : State) (k : State → Result Pause State) → s.steps ≤ w.limits.budget → Reaches w t span to d l s k
        → Runs w t span r l s (refused_as (under q) (f s) >>= k)

  here : {f : Label → State → Result Pause State} {p : List Label → ℕ → List Open} {b : Label} {q : List Open} {r m to d : ℕ} → Does w t span f p r m to d
      → Prefixed span p r m d q l → get_or l d 0 ≡ b → From (λ s. f b s) q r to d
  here {b = b} {q} p i e = record { does = λ s k h z. p.does b q l s k n h e i z }

  -- a part ends in a jump, or where the whole does
  out : {f : State → Result Pause State} {q : List Open} {r to d : ℕ} → From f q r to (d + 1) → From f q r to d
  out p = record { does = λ s k h z. p.does s k h (λ u m c y. z u m c (same_less (omega arith) y)) }

  over : {f : State → Result Pause State} {q : List Open} {r mid to d : ℕ} → From f q r mid d → Leads w t span mid to → From f q r to d
  over p j = record { does = λ s k h z. p.does s k h (λ u m c y. j m u (k u) (z u m c y)) }

  -- a part's stops have the entry of its command
  entered : {f : State → Result Pause State} {q : List Open} {r to d : ℕ} (i : ℕ) (x : Label) → From f (q ++ (record { child = i; label = x } ∷ [])) r to d
      → From (λ s. refused_as (within i x) (f s)) q r to d
  entered {f} {q} i x p = record { does = λ s k h z. rw (as_within q i x (f s)) (p.does s k h z) }

  -- and then the rest
  then : {f : State → Result Pause State} {g : Label → State → Result Pause State} {p : List Label → ℕ → List Open} {b : Label} {q : List Open} {r mid m to d : ℕ}
      → From f q r mid d → Does w t span g p mid m to d → Prefixed span p mid m d q l → get_or l d 0 ≡ b → From (λ s. f s >>= λ u. g b u) q r to d
  then {f} {g} {b = b} {q} x y i e =
      record {
        does = λ s k h z.
            rw (as_bind (under q) (f s) (λ u. g b u), bind_assoc (refused_as (under q) (f s)) (λ u. refused_as (under q) (g b u)) k)
            (x.does s (λ u. refused_as (under q) (g b u) >>= k) h
            (λ u m c v. y.does b q m u k (v.room ∙ n) c.kept (v.same _ (omega arith) ∙ e) (prefixed_same span v i)
            (λ u' m' c' v'. z u' m' (record { grown = omega (arith, c.grown, c'.grown); kept = c'.kept }) (same_trans v v'))));
      }

  to_same : {f : State → Result Pause State} {q : List Open} {r to to' d : ℕ} → to ≡ to' → From f q r to d → From f q r to' d
  to_same e h = rw e at h

  -- the labels of the path are there
  there : {p : List Label → ℕ → List Open} {r m d : ℕ} {q : List Open} (i : ℕ) (x : Label) → get_or l i 0 ≡ x → Prefixed span p r m d q (set l i x) → Prefixed span p r m d q l
  there i x e h = rw (set_there l i x e) at h

  mutual
    unfolding size take_up take_up_body row_to row_body Along AlongBody path_to path_body find_in choose play

    resumed : (c : Cmd) (b : Label) (p : List Open) (d r o : ℕ) (q : List Open) → Laid t c d r o → Along l c d b p → Prefixed span (λ m i. path_to m c d i) r (size c) d q l
        → From (take_up w c b p) q (row_to c p r) (r + size c) d
    resumed (cmd at x) b p d r o q h a i = body_resumed x at b p d r o q h a i

    body_resumed : (x : Body) (at : ℕ) (b : Label) (p : List Open) (d r o : ℕ) (q : List Open) → Laid t (cmd at x) d r o → AlongBody l x d b p
        → Prefixed span (λ m i. path_body m x d i) r (size_body x) d q l → From (take_up_body w x at b p) q (row_body x p r) (r + size_body x) d
    body_resumed skip at b p d r o q h a i = here (does_body w t span skip at d r o h) i a.0
    body_resumed (assign x v) at b p d r o q h a i = here (does_body w t span (assign x v) at d r o h) i a.0
    body_resumed (seq cs) at b [] d r o q h a i = here (does_body w t span (seq cs) at d r o h) i a
    body_resumed (seq cs) at b (x ∷ p) d r o q h a i = all_resumed cs 0 x.child b x.label p d r o q (laid_seq t h) a (all_in span r d q l cs (size_all cs) i)
    body_resumed (if g c e) at b [] d r o q h a i = here (does_body w t span (if g c e) at d r o h) i a
    body_resumed (if g c e) at b (x ∷ p) d r o q h a i =
        let y = laid_if t h in
        part (eqb x.child 0)
        (λ z. resumed c x.label p (d + 1) (r + 1) _ _ y.first (a.1 z)
        (there (d + 1) x.label (along_label l c (d + 1) x.label p (a.1 z)) (then_in span r d q l g c e i (omega (arith, y.guard.level)) x.label)))
        (λ z. resumed e x.label p (d + 1) (r + 1 + size c + between (size e)) _ _ y.second (a.2 z)
        (there (d + 1) x.label (along_label l e (d + 1) x.label p (a.2 z))
        (else_in span r d q l g c e i _ refl (between_some (size e)) (omega (arith, y.guard.level)) x.label)))
        (ways w t span y.way) refl
      where
        part : (z : Bool) → (eqb x.child 0 ≡ true → From (take_up w c x.label p) (q ++ (record { child = 0; label = x.label } ∷ [])) (row_to c p (r + 1)) (r + 1 + size c) (d + 1))
            → (eqb x.child 0 ≡ false
            → From (take_up w e x.label p) (q ++ (record { child = 1; label = x.label } ∷ [])) (row_to e p (r + 1 + size c + between (size e))) (r + 1 + size c + between (size e) + size e) (d + 1))
            → Leads w t span (r + 1 + size c) (r + 1 + size c + between (size e) + size e) → eqb x.child 0 ≡ z
            → From (λ s. choose z (λ u. refused_as (within 0 x.label) (take_up w c x.label p u)) (λ u. refused_as (within 1 x.label) (take_up w e x.label p u)) s) q
            (choose z (λ m. row_to c p (m + 1)) (λ m. row_to e p (m + 1 + size c + between (size e))) r) (r + (1 + size c + between (size e) + size e)) d
        part true f g j z = to_same (omega arith) (over (out (entered 0 x.label (f z))) j)
        part false f g j z = to_same (omega arith) (out (entered 1 x.label (g z)))
    body_resumed (while g c) at b [] d r o q h a i = here (does_body w t span (while g c) at d r o h) i a
    body_resumed (while g c) at b (x ∷ p) d r o q h a i =
        let y = laid_while t h in
        then (over (out (entered 0 x.label (resumed c x.label p (d + 1) (r + 1) _ _ y.body a.1
        (there (d + 1) x.label (along_label l c (d + 1) x.label p a.1) (body_in span r d q l g c i (omega (arith, y.guard.level)) x.label)))))
        (λ m u whole z. jumps r y.back z)) (does_body w t span (while g c) at d r o h) i a.0

    all_resumed : (cs : Cmds) (k j : ℕ) (b x : Label) (p : List Open) (d r o : ℕ) (q : List Open) → LaidAll t cs d r o → AlongIn l cs j d b x p
        → Prefixed span (among d cs k) r (size_all cs) d q l → From (take_up_all w cs k j b p) q (row_in cs j p r) (r + size_all cs) d
    all_resumed nil k j b x p d r o q h a i = absurd a
    all_resumed (cons c cs) k zero b x p d r o q h a i =
        to_same (omega arith)
        (then (entered k b (resumed c b p d r o _ (laid_first t h) a.2 (child_in_law span r d q l c cs k i b a.0))) (does_all w t span cs (k + 1) d _ _ (laid_rest t h))
        (rest_in span r d q l c cs k i) a.0)
    all_resumed (cons c cs) k (suc j) b x p d r o q h a i =
        to_same (omega arith) (all_resumed cs (k + 1) j b x p d _ _ q (laid_rest t h) a (rest_in span r d q l c cs k i))

-- A block, taken up along a path
pub block_resumes : (w : Setting) (t : Compiled) (r o : ℕ) (c : Cmd) → BlockAt t r o c → (l : List Label) (b : Label) (p : List Open) (s : State) → length l ≡ most_deep + 1
    → Along l c 0 b p → s.steps ≤ w.limits.budget → Runs w t (span_of c r) (row_to c p r) l s (take_up w c b p s)
block_resumes w t r o c a l b p s n h k =
    let x = block_laid t r o c a in
    rw (sym (bind_ok (take_up w c b p s)), sym (as_none (take_up w c b p s)))
    ((resumed w t (span_of c r) l n c b p 0 r o [] x.0 h (block_prefixed c r l)).does s (λ u. ok u) k (λ u m _ _. ends refl x.1 refl))
