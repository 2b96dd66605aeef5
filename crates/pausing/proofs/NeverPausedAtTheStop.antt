-- For `never_paused`: a run out of budget, taken up where it stopped, is the run that had the larger budget from the start. Assumes nothing.
use Prim.Native.Nat.{ℕ, zero, suc, ◌+◌, ◌-◌, ◌≤◌}
use mathlib.Core.Path.{◌≡◌, refl, sym, ap, ◌∙◌}
use mathlib.Core.List.{List, [], ◌∷◌}
use native.Mathlib.Omega.{arith}
use lib.Dec.{eqb}
use lib.ListN.{drop}
use Rattle.lattice.specs.Order.{Label, meet, top}
use Rattle.values.specs.Result.{Result, ◌>>=◌, refused_as}
use Rattle.store.specs.Sheet.{Tables}
use Rattle.syntax.specs.Syntax.{Expr, Cmd, cmd, Body, skip, assign, seq, if, while, Cmds, nil, cons}
use Rattle.syntax.specs.Sheet.{Block}
use Rattle.calculus.specs.Rules.{RuleSet}
use Rattle.calculus.specs.Calculus.{Limits, Setting, State, Stop, counted, performed, stop_at, step, judge, choose}
use Rattle.calculus.specs.Blocks.{setting}
use Rattle.pausing.specs.Paths.{Open, Pause, pause_at, within, rounds, play, play_body, play_all, take_up, take_up_body, take_up_all}
use Rattle.pausing.specs.Stretches.{Halted, halted_in, take_up_blocks}
use Rattle.pausing.proofs.PathsAsideBlocks.{take_none_body}
use Rattle.calculus.proofs.CalculusLimits.{limited_by, judge_same, attempt_same, judge_not_17, attempt_not_17}
use Rattle.pausing.proofs.PathsInvariant.{play_counts, take_counts}
use Rattle.pausing.proofs.PathsWhile.{play_while}
use Rattle.pausing.proofs.NeverPausedLargerBudget.{onward, onward_ok, onward_17, onward_choose, onward_bind, onward_as, onward_step}

-- the stop in a pause, and in a halt
abbrev pub stop_of : Pause → Stop
stop_of x = x.stop

abbrev pub stop_in : Halted → Stop
stop_in h = h.pause.stop

-- a command and a body taken up where they stopped
abbrev pub resumed : Setting → Cmd → Label → Pause → Result Pause State
resumed w c branch x = take_up w c branch x.path x.stop.state

abbrev pub resumed_body : Setting → Body → ℕ → Label → Pause → Result Pause State
resumed_body w b at branch x = take_up_body w b at branch x.path x.stop.state

-- the ways into a part
module _ (w : Setting) (at : ℕ) (branch l : Label) (g : Expr) (c d : Cmd) (x : Pause) where
  into_then : resumed_body w (if g c d) at branch (within 0 l x) ≡ refused_as (within 0 l) (resumed w c l x)
  unfolding take_up_body choose
  into_then = refl

  into_else : resumed_body w (if g c d) at branch (within 1 l x) ≡ refused_as (within 1 l) (resumed w d l x)
  unfolding take_up_body choose
  into_else = refl

  into_body : resumed_body w (while g c) at branch (within 0 l x) ≡ (refused_as (within 0 l) (resumed w c l x) >>= λ t. play_body w (while g c) at branch t)
  unfolding take_up_body
  into_body = refl

-- one setting within limits of which the second has the larger budget and the same journal
module _ (w : Setting) (l' : Limits) (more : w.limits.budget ≤ l'.budget) (room : l'.entries ≡ w.limits.entries) where
  abbrev w' : Setting
  w' = limited_by l' w

  -- k takes the commands of a sequence up, from the i-th on
  record Among (k : Pause → Result Pause State) (cs : Cmds) (i : ℕ) (branch : Label) : Type 0 where
    pub takes : (n : ℕ) (x : Pause) → k (within (i + n) branch x) ≡ take_up_all w' cs i n branch x.path x.stop.state

  -- the first of them, the others, and all of a sequence
  among_first : {k : Pause → Result Pause State} {c : Cmd} {cs : Cmds} {i : ℕ} {branch : Label} → Among k (cons c cs) i branch → (x : Pause)
      → k (within i branch x) ≡ (refused_as (within i branch) (resumed w' c branch x) >>= λ t. play_all w' cs (i + 1) branch t)
  unfolding take_up_all
  among_first {k} {i = i} {branch = branch} a x = (let e : i ≡ i + 0 = omega arith in ap (λ (j : ℕ). k (within j branch x)) e) ∙ a.takes 0 x

  among_rest : {k : Pause → Result Pause State} {c : Cmd} {cs : Cmds} {i : ℕ} {branch : Label} → Among k (cons c cs) i branch → Among k cs (i + 1) branch
  unfolding take_up_all
  among_rest {k} {i = i} {branch = branch} a =
      record { takes = λ n x. (let e : i + 1 + n ≡ i + suc n = omega arith in ap (λ (j : ℕ). k (within j branch x)) e) ∙ a.takes (suc n) x }

  among_all : (cs : Cmds) (at : ℕ) (branch : Label) → Among (resumed_body w' (seq cs) at branch) cs 0 branch
  unfolding take_up_body
  among_all cs at branch =
      record { takes = λ n x. let e : 0 + n ≡ n = omega arith in ap (λ (j : ℕ). take_up_all w' cs 0 j branch x.path x.stop.state) e }

  -- the rounds of a while under the smaller budget
  rounds_onward : (g : Expr) (c : Cmd) (at : ℕ) (branch : Label)
      → ((l : Label) (t : State) → t.steps ≤ w.limits.budget → play w' c l t ≡ onward stop_of (resumed w' c l) (play w c l t))
      → (n : ℕ) (s : State) → s.steps ≤ w.limits.budget
      → play_body w' (while g c) at branch s ≡ onward stop_of (resumed_body w' (while g c) at branch)
      (rounds (λ t. refused_as (pause_at []) (step w at t (judge w t.store g)))
      (λ l t. refused_as (within 0 (meet w.tables.order branch l)) (play w c (meet w.tables.order branch l) t)) at n s)
  unfolding rounds counted
  rounds_onward g c at branch body zero s h =
      sym (onward_17 stop_of _ (pause_at [] (stop_at at s 17)) refl ∙ take_none_body w' (while g c) at branch s)
  rounds_onward g c at branch body (suc n) s h =
      play_while w' g c at branch s (omega arith)
      ∙ onward_step w w' more at s h _ _ (judge_same l' w s.store g) (judge_not_17 w s.store g) _ _ (resumed_body w' (while g c) at branch)
      (take_none_body w' (while g c) at branch s ∙ play_while w' g c at branch s (omega arith)) λ l j.
      onward_choose stop_of _ j.passes _ _ _ _ (counted s)
      (onward_bind stop_of stop_of _ (λ _. refl) _ _ _ _ _ _ _ _ (body (meet w.tables.order branch j.label) (counted s) (omega arith))
      (λ x. into_body w' at branch _ g c c x)
      (play_counts w 0 c _ (counted s) (record { grown = omega arith; kept = omega arith }))
      (λ t q. rounds_onward g c at branch body n t q.kept)) (onward_ok stop_of _ _)

  -- a command that is played
  mutual
    unfolding play play_body play_all take_up performed counted

    play_onward : (c : Cmd) (branch : Label) (s : State) → s.steps ≤ w.limits.budget
        → play w' c branch s ≡ onward stop_of (resumed w' c branch) (play w c branch s)
    play_onward (cmd at b) branch s h = plays_onward b at branch s h

    plays_onward : (b : Body) (at : ℕ) (branch : Label) (s : State) → s.steps ≤ w.limits.budget
        → play_body w' b at branch s ≡ onward stop_of (resumed_body w' b at branch) (play_body w b at branch s)
    plays_onward skip at branch s h = onward_ok stop_of _ s
    plays_onward (assign t v) at branch s h =
        onward_step w w' more at s h _ _ (attempt_same l' w room branch s t v) (attempt_not_17 w branch s t v) _ _ (resumed_body w' (assign t v) at branch)
        (take_none_body w' (assign t v) at branch s) (λ l x. onward_ok stop_of _ (performed w at x s))
    plays_onward (seq cs) at branch s h = all_onward cs 0 branch (resumed_body w' (seq cs) at branch) (among_all cs at branch) s h
    plays_onward (if g c d) at branch s h =
        onward_step w w' more at s h _ _ (judge_same l' w s.store g) (judge_not_17 w s.store g) _ _ (resumed_body w' (if g c d) at branch)
        (take_none_body w' (if g c d) at branch s) λ l j.
        onward_choose stop_of _ j.passes _ _ _ _ (counted s)
        (onward_as stop_of stop_of _ (λ _. refl) _ _ _ _ (play_onward c (meet w.tables.order branch j.label) (counted s) (omega arith)) (λ x. into_then w' at branch _ g c d x))
        (onward_as stop_of stop_of _ (λ _. refl) _ _ _ _ (play_onward d (meet w.tables.order branch j.label) (counted s) (omega arith)) (λ x. into_else w' at branch _ g c d x))
    plays_onward (while g c) at branch s h = rounds_onward g c at branch (λ l t q. play_onward c l t q) (w.limits.budget - s.steps) s h

    all_onward : (cs : Cmds) (i : ℕ) (branch : Label) (k : Pause → Result Pause State) → Among k cs i branch → (s : State) → s.steps ≤ w.limits.budget
        → play_all w' cs i branch s ≡ onward stop_of k (play_all w cs i branch s)
    all_onward nil i branch k a s h = onward_ok stop_of k s
    all_onward (cons c cs) i branch k a s h =
        onward_bind stop_of stop_of (within i branch) (λ _. refl) _ k _ _ _ _ _ _ (play_onward c branch s h) (among_first a)
        (play_counts w 0 c branch s (record { grown = omega arith; kept = h })) (λ t q. all_onward cs (i + 1) branch k (among_rest a) t q.kept)

  -- and one that is taken up: with the larger budget it comes to what it came to, and where it was out of budget it goes on from there
  mutual
    unfolding take_up take_up_body take_up_all

    pub take_onward : (c : Cmd) (branch : Label) (p : List Open) (s : State) → s.steps ≤ w.limits.budget
        → take_up w' c branch p s ≡ onward stop_of (resumed w' c branch) (take_up w c branch p s)
    take_onward (cmd at b) branch p s h = takes_onward b at branch p s h

    takes_onward : (b : Body) (at : ℕ) (branch : Label) (p : List Open) (s : State) → s.steps ≤ w.limits.budget
        → take_up_body w' b at branch p s ≡ onward stop_of (resumed_body w' b at branch) (take_up_body w b at branch p s)
    takes_onward skip at branch p s h = plays_onward skip at branch s h
    takes_onward (assign t v) at branch p s h = plays_onward (assign t v) at branch s h
    takes_onward (seq cs) at branch [] s h = plays_onward (seq cs) at branch s h
    takes_onward (seq cs) at branch (o ∷ p) s h =
        take_all_onward cs 0 o.child branch (resumed_body w' (seq cs) at branch) (among_all cs at branch) p s h
    takes_onward (if g c d) at branch [] s h = plays_onward (if g c d) at branch s h
    takes_onward (if g c d) at branch (o ∷ p) s h =
        onward_choose stop_of _ (eqb o.child 0) _ _ _ _ s
        (onward_as stop_of stop_of _ (λ _. refl) _ _ _ _ (take_onward c o.label p s h) (λ x. into_then w' at branch o.label g c d x))
        (onward_as stop_of stop_of _ (λ _. refl) _ _ _ _ (take_onward d o.label p s h) (λ x. into_else w' at branch o.label g c d x))
    takes_onward (while g c) at branch [] s h = plays_onward (while g c) at branch s h
    takes_onward (while g c) at branch (o ∷ p) s h =
        onward_bind stop_of stop_of _ (λ _. refl) _ _ _ _ _ _ _ _ (take_onward c o.label p s h) (λ x. into_body w' at branch o.label g c c x)
        (take_counts w 0 c o.label p s (record { grown = omega arith; kept = h })) (λ t q. plays_onward (while g c) at branch t q.kept)

    take_all_onward : (cs : Cmds) (i n : ℕ) (branch : Label) (k : Pause → Result Pause State) → Among k cs i branch → (p : List Open) (s : State)
        → s.steps ≤ w.limits.budget → take_up_all w' cs i n branch p s ≡ onward stop_of k (take_up_all w cs i n branch p s)
    take_all_onward nil i n branch k a p s h = onward_ok stop_of k s
    take_all_onward (cons c cs) i zero branch k a p s h =
        onward_bind stop_of stop_of (within i branch) (λ _. refl) _ k _ _ _ _ _ _ (take_onward c branch p s h) (among_first a)
        (take_counts w 0 c branch p s (record { grown = omega arith; kept = h })) (λ t q. all_onward cs (i + 1) branch k (among_rest a) t q.kept)
    take_all_onward (cons c cs) i (suc n) branch k a p s h = take_all_onward cs (i + 1) n branch k (among_rest a) p s h

-- the blocks of a programme from the i-th on, taken up where they stopped
abbrev pub resumed_blocks : Tables → RuleSet → Limits → ℕ → List Block → Halted → Result Halted State
resumed_blocks t rules l i bs h = take_up_blocks t rules l h.block (drop (h.block - i) bs) h.pause.path h.pause.stop.state

module _ (t : Tables) (rules : RuleSet) (l l' : Limits) (more : l.budget ≤ l'.budget) (room : l'.entries ≡ l.entries) where
  -- k takes the blocks up, from the i-th on
  record AmongBlocks (k : Halted → Result Halted State) (i : ℕ) (bs : List Block) : Type 0 where
    pub takes : (n : ℕ) (x : Pause) → k (halted_in (i + n) x) ≡ take_up_blocks t rules l' (i + n) (drop n bs) x.path x.stop.state

  -- the first of them, the others, and all
  first_block : {k : Halted → Result Halted State} {i : ℕ} {b : Block} {bs : List Block} → AmongBlocks k i (b ∷ bs) → (x : Pause)
      → k (halted_in i x)
      ≡ (refused_as (halted_in i) (resumed (setting t rules l' i b) b.command (top t.order) x) >>= λ s. take_up_blocks t rules l' (i + 1) bs [] s)
  unfolding take_up_blocks
  first_block {i = i} a x = let e : i + 0 ≡ i = omega arith in rw e at (a.takes 0 x)

  rest_blocks : {k : Halted → Result Halted State} {i : ℕ} {b : Block} {bs : List Block} → AmongBlocks k i (b ∷ bs) → AmongBlocks k (i + 1) bs
  rest_blocks {i = i} a = record { takes = λ n x. let e : i + suc n ≡ i + 1 + n = omega arith in rw e at (a.takes (suc n) x) }

  among_blocks : (i : ℕ) (bs : List Block) → AmongBlocks (resumed_blocks t rules l' i bs) i bs
  among_blocks i bs =
      record {
        takes = λ n x.
            let e : i + n - i ≡ n = omega arith in ap (λ (j : ℕ). take_up_blocks t rules l' (i + n) (drop j bs) x.path x.stop.state) e;
      }

  each_onward : (bs : List Block) (i : ℕ) (k : Halted → Result Halted State) → AmongBlocks k i bs → (p : List Open) (s : State) → s.steps ≤ l.budget
      → take_up_blocks t rules l' i bs p s ≡ onward stop_in k (take_up_blocks t rules l i bs p s)
  unfolding take_up_blocks
  each_onward [] i k a p s h = onward_ok stop_in k s
  each_onward (b ∷ bs) i k a p s h =
      onward_bind stop_of stop_in (halted_in i) (λ _. refl) _ k _ _ _ _ _ _
      (take_onward (setting t rules l i b) l' more room b.command (top t.order) p s h) (first_block a)
      (take_counts (setting t rules l i b) 0 b.command (top t.order) p s (record { grown = omega arith; kept = h }))
      (λ u q. each_onward bs (i + 1) k (rest_blocks a) [] u q.kept)

  -- the pausing law: with the larger budget the blocks come to what they came to, and where they were out of budget they go on from there
  pub blocks_onward : (i : ℕ) (bs : List Block) (p : List Open) (s : State) → s.steps ≤ l.budget
      → take_up_blocks t rules l' i bs p s ≡ onward stop_in (resumed_blocks t rules l' i bs) (take_up_blocks t rules l i bs p s)
  blocks_onward i bs p s h = each_onward bs i _ (among_blocks i bs) p s h
