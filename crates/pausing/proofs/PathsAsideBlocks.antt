-- Laws of `take_up_blocks` (specs/Stretches.antt): taking blocks up from their start is running them, but for the paths of stops. Assumes nothing.
use Prim.Native.Nat.{ℕ, ◌+◌}
use mathlib.Core.Path.{◌≡◌, refl, ap, ◌∙◌}
use mathlib.Core.List.{List, [], ◌∷◌}
use Rattle.lattice.specs.Order.{Label, top}
use Rattle.values.specs.Result.{Result, ok, refuse, ◌>>=◌, refused_as}
use Rattle.store.specs.Sheet.{Tables}
use Rattle.syntax.specs.Syntax.{Cmd, cmd, Body, skip, assign, seq, if, while}
use Rattle.syntax.specs.Sheet.{Block}
use Rattle.calculus.specs.Rules.{RuleSet}
use Rattle.calculus.specs.Calculus.{Limits, Setting, State}
use Rattle.calculus.specs.Blocks.{Halt, halt_in, setting, run_blocks}
use Rattle.pausing.specs.Paths.{Pause, bare, play, play_body, take_up, take_up_body}
use Rattle.pausing.specs.Stretches.{Halted, halted_in, take_up_blocks}
use Rattle.pausing.proofs.PathsAside.{paths_aside}

-- along the empty path a command is played
pub take_none_body : (w : Setting) (b : Body) (at : ℕ) (branch : Label) (s : State) → take_up_body w b at branch [] s ≡ play_body w b at branch s
unfolding take_up_body
take_none_body w skip at branch s = refl
take_none_body w (assign x v) at branch s = refl
take_none_body w (seq cs) at branch s = refl
take_none_body w (if g c d) at branch s = refl
take_none_body w (while g c) at branch s = refl

pub take_up_none : (w : Setting) (c : Cmd) (branch : Label) (s : State) → take_up w c branch [] s ≡ play w c branch s
unfolding take_up play
take_up_none w (cmd at b) branch s = take_none_body w b at branch s

-- a stop of a run of blocks without its path
abbrev pub halt_of : Halted → Halt
halt_of h = halt_in h.block h.pause.stop

-- a block, and then the others
aside_bind : (i : ℕ) (r : Result Pause State) (k : State → Result Halted State) (k' : State → Result Halt State)
    → ((t : State) → refused_as halt_of (k t) ≡ k' t) → refused_as halt_of (refused_as (halted_in i) r >>= k) ≡ (refused_as (halt_in i) (bare r) >>= k')
unfolding refused_as ◌>>=◌
aside_bind i (ok t) k k' h = h t
aside_bind i (refuse x) k k' h = refl

pub blocks_aside : (w : Tables) (rules : RuleSet) (l : Limits) (i : ℕ) (bs : List Block) (s : State)
    → refused_as halt_of (take_up_blocks w rules l i bs [] s) ≡ run_blocks w rules l i bs s
unfolding take_up_blocks run_blocks refused_as
blocks_aside w rules l i [] s = refl
blocks_aside w rules l i (b ∷ bs) s =
    let v = setting w rules l i b in
    aside_bind i (take_up v b.command (top w.order) [] s) _ _ (λ t. blocks_aside w rules l (i + 1) bs t)
    ∙ ap (λ (r : Result _ State). refused_as (halt_in i) r >>= λ t. run_blocks w rules l (i + 1) bs t)
    (ap bare (take_up_none v b.command (top w.order) s) ∙ paths_aside v b.command (top w.order) s)
