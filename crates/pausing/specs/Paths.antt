-- Document 02, N8: the path to a step, and taking a command up along a path. Assumes nothing.
use Rattle.std.specs.Prelude.{ℕ, zero, suc, ◌+◌, ◌-◌, Bool, true, false, List, [], ◌∷◌, eqb, ltb}
use Rattle.lattice.specs.Tests.{◌and◌}
use Rattle.lattice.specs.declared.Table.{Table}
use Rattle.lattice.specs.Order.{Label, below, meet}
use Rattle.values.specs.Result.{Result, ok, refuse, ◌>>=◌, refused_as}
use Rattle.syntax.specs.Syntax.{Cmd, cmd, Body, skip, assign, seq, if, while, Cmds, nil, cons}
use Rattle.calculus.specs.Calculus.{Setting, State, Stop, Judged, stop_at, counted, performed, step, attempt, judge, choose}

-- An entry of a path, for a command that is open: "the child taken (from 0; then-part 0, else-part 1, body 0) and the branch label inside it"
pub record Open : Type 0 where
  pub child : ℕ
  pub label : Label

-- a stop, and the path to it: "from the block's command to the command whose step is next"
pub record Pause : Type 0 where
  pub path : List Open
  pub stop : Stop

abbrev pub pause_at : List Open → Stop → Pause
pause_at p x = record { path = p; stop = x }

-- a result whose stops have no paths
abbrev pub bare : {A : Type 0} → Result Pause A → Result Stop A
bare r = refused_as (λ (x : Pause). x.stop) r

-- as a stop passes out of a command, the command adds its entry
abbrev pub within : ℕ → Label → Pause → Pause
within child label x = pause_at (record { child = child; label = label } ∷ x.path) x.stop

-- Commands as `exec` has them, each stop with its path (`PathsAside`, StretchesPromises.antt: without the paths this is `exec`)

unfoldable pub rounds : (State → Result Pause Judged) → (Label → State → Result Pause State) → ℕ → ℕ → State → Result Pause State
rounds guard body at zero s = refuse (pause_at [] (stop_at at s 17))
rounds guard body at (suc n) s =
    guard s >>= λ j.
    choose j.passes (λ t. body j.label t >>= rounds guard body at n) ok (counted s)

module _ (w : Setting) where
  unfoldable mutual
    pub play : Cmd → Label → State → Result Pause State
    play (cmd at b) branch s = play_body b at branch s

    pub play_body : Body → ℕ → Label → State → Result Pause State
    play_body skip at branch s = ok s
    play_body (assign target value) at branch s =
        refused_as (pause_at []) (step w at s (attempt w branch s target value)) >>= λ x. ok (performed w at x s)
    play_body (seq cs) at branch s = play_all cs 0 branch s
    play_body (if g c d) at branch s =
        refused_as (pause_at []) (step w at s (judge w s.store g)) >>= λ j.
        let inside = meet w.tables.order branch j.label in
        choose j.passes (λ t. refused_as (within 0 inside) (play c inside t)) (λ t. refused_as (within 1 inside) (play d inside t)) (counted s)
    play_body (while g c) at branch s =
        rounds (λ t. refused_as (pause_at []) (step w at t (judge w t.store g)))
        (λ l t. refused_as (within 0 (meet w.tables.order branch l)) (play c (meet w.tables.order branch l) t))
        at (w.limits.budget - s.steps) s

    -- the commands of a sequence from its i-th on; inside it the branch label is the sequence's own
    pub play_all : Cmds → ℕ → Label → State → Result Pause State
    play_all nil i branch s = ok s
    play_all (cons c cs) i branch s = refused_as (within i branch) (play c branch s) >>= λ t. play_all cs (i + 1) branch t

-- Taking a command up along a path: at its end the command is played; in a sequence the child is taken up, and then the rest is played; in an if the
-- part; in a while the body, and then the while again. Where a path leads nowhere (19, below) nothing depends on what stands here.
module _ (w : Setting) where
  unfoldable mutual
    pub take_up : Cmd → Label → List Open → State → Result Pause State
    take_up (cmd at b) branch p s = take_up_body b at branch p s

    pub take_up_body : Body → ℕ → Label → List Open → State → Result Pause State
    take_up_body skip at branch p s = play_body w skip at branch s
    take_up_body (assign target value) at branch p s = play_body w (assign target value) at branch s
    take_up_body (seq cs) at branch [] s = play_body w (seq cs) at branch s
    take_up_body (seq cs) at branch (o ∷ p) s = take_up_all cs 0 o.child branch p s
    take_up_body (if g c d) at branch [] s = play_body w (if g c d) at branch s
    take_up_body (if g c d) at branch (o ∷ p) s =
        choose (eqb o.child 0)
        (λ t. refused_as (within 0 o.label) (take_up c o.label p t)) (λ t. refused_as (within 1 o.label) (take_up d o.label p t)) s
    take_up_body (while g c) at branch [] s = play_body w (while g c) at branch s
    take_up_body (while g c) at branch (o ∷ p) s =
        refused_as (within 0 o.label) (take_up c o.label p s) >>= λ t. play_body w (while g c) at branch t

    -- the k-th of the commands from the i-th on
    pub take_up_all : Cmds → ℕ → ℕ → Label → List Open → State → Result Pause State
    take_up_all nil i k branch p s = ok s
    take_up_all (cons c cs) i zero branch p s = refused_as (within i branch) (take_up c branch p s) >>= λ t. play_all w cs (i + 1) branch t
    take_up_all (cons c cs) i (suc k) branch p s = take_up_all cs (i + 1) k branch p s

-- Where a path leads

-- a child of a command, and whether it stands inside a guard of the command
pub data Child : Type 0 where
  nowhere : Child
  in_sequence inside_guard : Cmd → Child

unfoldable pub child_in : Cmds → ℕ → Child
child_in nil k = nowhere
child_in (cons c cs) zero = in_sequence c
child_in (cons c cs) (suc k) = child_in cs k

unfoldable pub child_of : Body → ℕ → Child
child_of skip k = nowhere
child_of (assign x v) k = nowhere
child_of (seq cs) k = child_in cs k
child_of (if g c d) zero = inside_guard c
child_of (if g c d) (suc zero) = inside_guard d
child_of (if g c d) (suc (suc k)) = nowhere
child_of (while g c) zero = inside_guard c
child_of (while g c) (suc k) = nowhere

unfoldable pub child : Cmd → ℕ → Child
child (cmd at b) k = child_of b k

-- "an assignment, if or while"
unfoldable pub steps_body : Body → Bool
steps_body skip = false
steps_body (assign x v) = true
steps_body (seq cs) = false
steps_body (if g c d) = true
steps_body (while g c) = true

unfoldable pub takes_step : Cmd → Bool
takes_step (cmd at b) = steps_body b

-- a label "at or below the one outside it", a principal's
unfoldable pub at_or_below : Table → Label → Label → Bool
at_or_below t label outer = ltb label t.n and below t label outer

-- "19 when the path doesn't lead to an assignment, if or while, a label isn't at or below the one outside it (equal in a sequence)"
unfoldable pub leads : Table → Cmd → Label → List Open → Bool
leads t c outer [] = takes_step c
leads t c outer (o ∷ p) =
    elim (child c o.child) [
      | nowhere ↦ false
      | in_sequence d ↦ eqb o.label outer and leads t d o.label p
      | inside_guard d ↦ at_or_below t o.label outer and leads t d o.label p
    ]
