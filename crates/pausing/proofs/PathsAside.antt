-- Proves `paths_aside`: without the paths of its stops, playing a command (`play`, specs/Paths.antt) is what `exec` says. Assumes nothing.
use Prim.Native.Nat.{ℕ, zero, suc, ◌+◌, ◌-◌}
use mathlib.Core.Path.{◌≡◌, refl, ◌∙◌}
use mathlib.Core.Bool.{Bool, true, false}
use mathlib.Core.List.{[]}
use Rattle.lattice.specs.Order.{Label, meet}
use Rattle.values.specs.Result.{Result, ok, refuse, ◌>>=◌, refused_as}
use Rattle.values.proofs.Result.{Post}
use Rattle.syntax.specs.Syntax.{Expr, Cmd, cmd, Body, skip, assign, seq, if, while, Cmds, nil, cons}
use Rattle.calculus.specs.Calculus.{Setting, State, Stop, counted, step, attempt, judge, choose, loop, exec, exec_body, execs}
use Rattle.pausing.specs.Paths.{Pause, bare, pause_at, within, rounds, play, play_body, play_all}
use Rattle.pausing.specs.StretchesPromises.{PathsAside}

module _ {A : Type 0} where
  -- an end has no path; a stop loses its own
  bare_ok : (a : A) → bare (ok a) ≡ ok a
  unfolding refused_as
  bare_ok a = refl

  bare_refuse : (x : Pause) → bare {A = A} (refuse x) ≡ refuse x.stop
  unfolding refused_as
  bare_refuse x = refl

  -- an entry that is added is gone again
  bare_within : (i : ℕ) (l : Label) (r : Result Pause A) → bare (refused_as (within i l) r) ≡ bare r
  unfolding refused_as
  bare_within i l (ok a) = refl
  bare_within i l (refuse x) = refl

  -- what holds of the stop without its path
  pub post_bare : (P : A → Type 0) (Q : Stop → Type 0) (r : Result Pause A) → Post P Q (bare r) → Post P (λ x. Q x.stop) r
  unfolding Post refused_as
  post_bare P Q (ok a) h = h
  post_bare P Q (refuse x) h = h

-- P holds where a command ends, Q of the stop where it is stopped
abbrev pub PostStop : (State → Type 0) → (Stop → Type 0) → Result Pause State → Type 0
PostStop P Q r = Post P (λ (x : Pause). Q x.stop) r

-- a step and what follows it
bare_step : {A : Type 0} (r : Result Stop A) (k : A → Result Pause State) (k' : A → Result Stop State)
    → ((a : A) → bare (k a) ≡ k' a) → bare (refused_as (pause_at []) r >>= k) ≡ (r >>= k')
unfolding refused_as ◌>>=◌
bare_step (ok a) k k' h = h a
bare_step (refuse e) k k' h = refl

-- a command and what follows it
bare_bind : (r : Result Pause State) (r' : Result Stop State) (k : State → Result Pause State) (k' : State → Result Stop State)
    → bare r ≡ r' → ((s : State) → bare (k s) ≡ k' s) → bare (r >>= k) ≡ (r' >>= k')
unfolding refused_as ◌>>=◌
bare_bind (ok s) r' k k' e h = rw (← e) (h s)
bare_bind (refuse x) r' k k' e h = rw (← e)

-- the part chosen
bare_choose : (b : Bool) (f g : State → Result Pause State) (f' g' : State → Result Stop State) (s : State)
    → bare (f s) ≡ f' s → bare (g s) ≡ g' s → bare (choose b f g s) ≡ choose b f' g' s
unfolding choose
bare_choose true f g f' g' s p q = p
bare_choose false f g f' g' s p q = q

module _ (w : Setting) where
  -- the rounds of a while, with any fuel
  bare_rounds : (g : Expr) (at : ℕ) (body : Label → State → Result Pause State) (body' : Label → State → Result Stop State)
      → ((l : Label) (s : State) → bare (body l s) ≡ body' l s) → (n : ℕ) (s : State)
      → bare (rounds (λ t. refused_as (pause_at []) (step w at t (judge w t.store g))) body at n s)
      ≡ loop (λ t. step w at t (judge w t.store g)) body' at n s
  unfolding rounds loop
  bare_rounds g at body body' h zero s = bare_refuse _
  bare_rounds g at body body' h (suc n) s =
      bare_step (step w at s (judge w s.store g)) _ _ λ j.
      bare_choose j.passes _ _ _ _ (counted s)
      (bare_bind (body j.label (counted s)) _ _ _ (h j.label (counted s)) (λ t. bare_rounds g at body body' h n t)) (bare_ok _)

  -- commands, by their structure
  mutual
    unfolding play play_body play_all exec exec_body execs

    bare_play : (c : Cmd) (branch : Label) (s : State) → bare (play w c branch s) ≡ exec w c branch s
    bare_play (cmd at b) branch s = bare_body b at branch s

    bare_body : (b : Body) (at : ℕ) (branch : Label) (s : State) → bare (play_body w b at branch s) ≡ exec_body w b at branch s
    bare_body skip at branch s = bare_ok s
    bare_body (assign x v) at branch s = bare_step (step w at s (attempt w branch s x v)) _ _ (λ y. bare_ok _)
    bare_body (seq cs) at branch s = bare_all cs _ branch s
    bare_body (if g c d) at branch s =
        bare_step (step w at s (judge w s.store g)) _ _ λ j.
        bare_choose j.passes _ _ _ _ (counted s)
        (bare_within 0 _ (play w c _ (counted s)) ∙ bare_play c _ (counted s)) (bare_within 1 _ (play w d _ (counted s)) ∙ bare_play d _ (counted s))
    bare_body (while g c) at branch s =
        bare_rounds g at _ _ (λ l t. bare_within 0 _ (play w c _ t) ∙ bare_play c (meet w.tables.order branch l) t) (w.limits.budget - s.steps) s

    bare_all : (cs : Cmds) (i : ℕ) (branch : Label) (s : State) → bare (play_all w cs i branch s) ≡ execs w cs branch s
    bare_all nil i branch s = bare_ok s
    bare_all (cons c cs) i branch s =
        bare_bind (refused_as (within i branch) (play w c branch s)) _ _ _ (bare_within i branch (play w c branch s) ∙ bare_play c branch s)
        (λ t. bare_all cs (i + 1) branch t)

pub paths_aside : PathsAside
paths_aside w c branch s = bare_play w c branch s
