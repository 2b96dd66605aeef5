-- For `written_good`: where a run over blocks is stopped it can be paused; its state is good, and the path leads to that step. Assumes nothing.
use Prim.Native.Nat.{ℕ, zero, suc, ◌+◌, ◌^◌, ◌≤◌, ◌<◌}
use mathlib.Core.Path.{◌≡◌, refl, sym, ap, ◌∙◌}
use mathlib.Core.Bool.{true, false≢true}
use mathlib.Core.Logic.{◌⊎◌, inl, inr}
use mathlib.Core.List.{List, [], ◌∷◌}
use native.Mathlib.Omega.{arith}
use lib.ListN.{length, drop}
use lib.Seq.{drop-drop}
use borrow.Author.Tests.{leb-true}
use Rattle.lattice.specs.Order.{top}
use Rattle.lattice.proofs.Tests.{and_l}
use Rattle.lattice.proofs.Order.{top_lt}
use Rattle.values.specs.Result.{Result, refused_as}
use Rattle.values.proofs.Result.{Post, Any, post_ok, post_at, post_map, post_all, post_require, post_refused_as, post_bind}
use Rattle.store.specs.Sheet.{Tables, Opening}
use Rattle.store.proofs.SheetOpening.{Opens}
use Rattle.syntax.specs.Sheet.{Block, k_of, code_at, most_blocks, length_at, start_of, code_of, programme_sheet}
use Rattle.syntax.proofs.SheetBlocks.{IsBlock, Placed, none, more, programme_placed}
use Rattle.calculus.specs.Rules.{RuleSet}
use Rattle.calculus.specs.Calculus.{Limits, State}
use Rattle.calculus.specs.Blocks.{setting}
use Rattle.pausing.specs.Paths.{Open, Pause, take_up}
use Rattle.pausing.specs.Stretches.{most_open, Halted, halted_in, take_up_blocks}
use Rattle.pausing.proofs.StretchesPositions.{StateGood, TakenIn, leads_in}
use Rattle.pausing.proofs.WrittenGoodSteps.{opening_of_law}
use Rattle.pausing.proofs.WrittenGoodCommands.{part_bytes, Fine, block_fine}
use Rattle.pausing.proofs.PathsLeads.{Each, Small, leads_followed}
use Rattle.pausing.proofs.PathsAsideBlocks.{take_up_none}
use Rattle.pausing.proofs.WrittenGoodAtTheStop.{Stopped, Runs, play_runs, taken_runs}

-- Blocks from the n-th on

drop_next : {A : Type 0} (i : ℕ) (l : List A) (x : A) (xs : List A) → drop i l ≡ x ∷ xs → drop (i + 1) l ≡ xs
drop_next i l x xs e = sym (drop-drop 1 i l) ∙ ap (drop 1) e

pub placed_drop : {A : Type 0} {P : ℕ → A → Type 0} (n i : ℕ) (xs : List A) → Placed P i xs → Placed P (n + i) (drop n xs)
placed_drop zero i xs p = let z : 0 + i ≡ i = omega arith in rw z p
placed_drop (suc n) i [] none = none
placed_drop (suc n) i (x ∷ xs) (more p ps) = let z : suc n + i ≡ n + (i + 1) = omega arith in rw z (placed_drop n (i + 1) xs ps)

few_blocks : (n m : ℕ) (p : List ℕ) → Post (λ _. k_of p ≤ most_blocks) Any (programme_sheet n m p)
unfolding programme_sheet
few_blocks n m p =
    post_require _ _ _ _ _ (λ _. post_require _ _ _ _ _ (λ e. post_all _ _ _ (λ _. leb-true _ _ (and_l _ _ e)) (λ _. tt)) (λ _. tt)) (λ _. tt)

module _ {store programme : List ℕ} {o : Opening} {blocks : List Block} (t : TakenIn store programme o blocks) where
  abbrev w : Tables
  w = o.tables

  opened : Opens store o
  opened = opening_of_law store o t.opens

  pub blocks_placed : Placed (IsBlock w.slots programme) 0 blocks
  blocks_placed = post_at _ _ _ _ (programme_placed _ _ programme) t.taken

  pub placed_from : (i : ℕ) → Placed (IsBlock w.slots programme) i (drop i blocks)
  placed_from i = let z : i + 0 ≡ i = omega arith in rw z at (placed_drop i 0 blocks blocks_placed)

  pub few : k_of programme ≤ most_blocks
  few = post_at _ _ _ _ (few_blocks _ _ programme) t.taken

  fine : (i : ℕ) (b : Block) → IsBlock w.slots programme i b → Fine w.slots 0 b.command
  fine i b is =
      block_fine w.slots (code_of programme i)
      (part_bytes programme (code_at (k_of programme) + start_of programme i) (length_at programme i) t.programme_bytes) b.command is.code

  highest : top w.order < w.order.n
  highest = top_lt w.order opened.ordered.table

  -- what a path that leads tells, and the number of the block that it leads in
  pub record Follows (i : ℕ) (p : List Open) : Type 0 where
    pub short : length p ≤ most_open
    pub small : Each (Small w.order.n) p
    pub block : i < most_blocks

  follow : (i : ℕ) (bs : List Block) (p : List Open) → Placed (IsBlock w.slots programme) i bs → leads_in w bs p ≡ true → Follows i p
  unfolding leads_in
  follow i [] p none e = absurd (false≢true e)
  follow i (b ∷ bs) p (more is _) e =
      let f = leads_followed w.order w.slots p 0 b.command (top w.order) highest (fine i b is) e in
      record { short = omega (arith, f.short); small = f.small; block = omega (arith, is.inside, few) }

  pub follows : (i : ℕ) (p : List Open) → leads_in w (drop i blocks) p ≡ true → Follows i p
  follows i p e = follow i (drop i blocks) p (placed_from i) e

  -- Runs

  module _ (rules : RuleSet) (l : Limits) (bounded : l.budget < 2 ^ 32) where
    abbrev pub Lasts : State → Type 0
    Lasts s = StateGood w.slots s × (s.steps ≤ l.budget)

    pub record Halts (h : Halted) : Type 0 where
      pub lasts : Lasts h.pause.stop.state
      pub number : h.pause.stop.number ≤ 18
      pub leading : leads_in w (drop h.block blocks) h.pause.path ≡ true

    -- the first block: played from its start, or taken up along a path that leads
    first_halts : (i : ℕ) (b : Block) (bs : List Block) (p : List Open) (s : State) → IsBlock w.slots programme i b → Lasts s
        → (p ≡ []) ⊎ (leads_in w (b ∷ bs) p ≡ true)
        → Runs (setting w rules l i b) opened.ordered opened.small bounded b.command (top w.order)
        (take_up (setting w rules l i b) b.command (top w.order) p s)
    unfolding leads_in
    first_halts i b bs p s is g (inl e) =
        rw (e, take_up_none (setting w rules l i b) b.command (top w.order) s)
        (play_runs (setting w rules l i b) opened.ordered opened.small bounded b.command 0 (top w.order) s highest (fine i b is)
        (record { good = g.0; kept = g.1 }))
    first_halts i b bs p s is g (inr e) =
        taken_runs (setting w rules l i b) opened.ordered opened.small bounded b.command 0 (top w.order) p s highest (fine i b is)
        (record { good = g.0; kept = g.1 }) e

    stop_halts : (i : ℕ) (b : Block) (bs : List Block) → drop i blocks ≡ b ∷ bs → (x : Pause)
        → Stopped (setting w rules l i b) opened.ordered opened.small bounded b.command (top w.order) x → Halts (halted_in i x)
    unfolding leads_in
    stop_halts i b bs e x s = record { lasts = (s.state.good, s.state.kept); number = s.number; leading = rw e s.leading }

    block_halts : (i : ℕ) (b : Block) (bs : List Block) → drop i blocks ≡ b ∷ bs → (r : Result Pause State)
        → Runs (setting w rules l i b) opened.ordered opened.small bounded b.command (top w.order) r
        → Post Lasts Halts (refused_as (halted_in i) r)
    block_halts i b bs e r h = post_refused_as _ _ _ _ (post_map _ _ _ _ _ h (λ u q. (q.good, q.kept)) (λ x q. stop_halts i b bs e x q))

    pub blocks_halt : (i : ℕ) (bs : List Block) (p : List Open) (s : State) → drop i blocks ≡ bs → Placed (IsBlock w.slots programme) i bs → Lasts s
        → (p ≡ []) ⊎ (leads_in w bs p ≡ true) → Post Lasts Halts (take_up_blocks w rules l i bs p s)
    unfolding take_up_blocks
    blocks_halt i [] p s e none g y = post_ok _ _ _ g
    blocks_halt i (b ∷ bs) p s e (more is ps) g y =
        post_bind Lasts _ _ _ _ (block_halts i b bs e _ (first_halts i b bs p s is g y))
        (λ u k. blocks_halt (i + 1) bs [] u (drop_next i blocks b bs e) ps k (inl refl))
