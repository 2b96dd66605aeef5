-- What a stretch that is played from a place answers, writes and leaves in the pause sheet. Serves `play_stretch`. Assumes nothing.
use Prim.Native.Nat.{ℕ, zero, suc, ◌+◌, ◌-◌, ◌*◌, ◌<◌}
use mathlib.Core.Path.{◌≡◌, refl, sym, ap, ap₂, ◌∙◌}
use mathlib.Core.List.{List, ◌∷◌}
use native.Mathlib.Omega.{arith}
use lib.ListN.{length, get_or, drop}
use Rattle.store.specs.declared.HeldSlot.{HeldSlot}
use Rattle.values.specs.declared.Answer.{Answer}
use Rattle.values.specs.Result.{ok, says}
use Rattle.values.specs.Value.{slot_width}
use Rattle.store.specs.declared.Opened.{Opened}
use Rattle.store.specs.Sheet.{Opening}
use Rattle.store.specs.HeldStore.{fitting, out_after}
use Rattle.syntax.specs.Code.{read_block}
use Rattle.syntax.specs.Sheet.{Block, k_of, code_of, blocks_from}
use Rattle.syntax.specs.declared.Compiled.{Compiled}
use Rattle.syntax.proofs.RunningStarts.{programmed}
use Rattle.calculus.specs.Rules.{RuleSet}
use Rattle.calculus.specs.Blocks.{halt_answer}
use Rattle.pausing.specs.Paths.{Open}
use Rattle.pausing.proofs.PathsAsideBlocks.{halt_of}
use Rattle.pausing.proofs.StretchesSettled.{settled_17, settled_else}
use Rattle.pausing.specs.Stretches.{pause_sheet, standing, Halted, end_of, answer_of, output_of, pause_of}
use Rattle.machine.specs.declared.rules.Judges.{Judges}
use Rattle.std.proofs.Common.{Ok, Err}
use Rattle.machine.specs.declared.blocks.Finished.{Finished}
use Rattle.machine.specs.declared.blocks.Halted.{Halted as Halting}
use Rattle.values.specs.declared.refusal.Refusal.{Refusal}
use Rattle.values.specs.declared.refusal.Refusal.TheVariants as r
use Rattle.values.specs.Refusal.{number, answer_in}
use Rattle.pausing.specs.RowPaths.{path_to}
use Rattle.machine.specs.CompiledRuns.{rows_before}
use Rattle.machine.specs.BlockRuns.{played, PausesAs}
use Rattle.runner.specs.WholeRun.{answered, Prepared}
use Rattle.runner.specs.StretchRun.{AtRow, CanWritePause, WritesPause, Fitting, Settles, CanSettle}
use Rattle.machine.proofs.BlockRuns.{drop_inside, block_of}
use Rattle.runner.proofs.WholeRunFinish.{next_block, none_left, blocks_count, output_written, ended_finished, ended_halted, prepared_order, prepared_slots}
use Rattle.runner.proofs.StepRows.{block_steps}

-- the code of the i-th block reads as its command
pub block_read_law : (m : ℕ) (p : List ℕ) (n i j : ℕ) (bs : List Block) (b : Block) (rest : List Block) → blocks_from m p n i ≡ ok bs → drop j bs ≡ b ∷ rest
    → read_block m (code_of p (i + j)) ≡ ok b.command
block_read_law m p zero i j bs b rest h e = absurd (let q = none_left m p i bs h in let z : j < 0 = rw q at (drop_inside bs j b rest e) in omega arith)
block_read_law m p (suc n) i zero bs b rest h e =
    let x = next_block m p n i bs h in
    let y : i + 0 ≡ i = omega arith in
    let q : b.command ≡ x.command = ap (λ (l : List Block). (get_or l 0 b).command) (sym e ∙ x.is) in
    rw (y, q) x.reads
block_read_law m p (suc n) i (suc j) bs b rest h e =
    let x = next_block m p n i bs h in
    let y : i + suc j ≡ i + 1 + j = omega arith in
    rw y (block_read_law m p n (i + 1) j x.rest b rest x.after (rw x.is at e))

-- the answer of a halt that is out of budget
says_spent : (h : Halted) → h.pause.stop.number ≡ 17 → halt_answer (halt_of h) ≡ says 17 h.block h.pause.stop.offset h.pause.stop.state.steps
unfolding halt_answer
says_spent h e = ap (λ (n : ℕ). says n h.block h.pause.stop.offset h.pause.stop.state.steps) e

-- no other refusal has its number
pub spent : (e : Refusal) → number e ≡ 17 → e ≡ r.BudgetSpent
unfolding number
spent r.BudgetSpent q = refl
spent r.StoreLength q = absurd (omega (arith, q))
spent r.StoreLimits q = absurd (omega (arith, q))
spent r.OrderTable q = absurd (omega (arith, q))
spent r.Owner q = absurd (omega (arith, q))
spent r.Value q = absurd (omega (arith, q))
spent r.ProgrammeLength q = absurd (omega (arith, q))
spent r.ProgrammeLimits q = absurd (omega (arith, q))
spent r.Region q = absurd (omega (arith, q))
spent r.IllFormedCode q = absurd (omega (arith, q))
spent r.NestedTooDeep q = absurd (omega (arith, q))
spent r.Arguments q = absurd (omega (arith, q))
spent r.OutputLength q = absurd (omega (arith, q))
spent r.WrongKind q = absurd (omega (arith, q))
spent r.NoAuthority q = absurd (omega (arith, q))
spent r.WriteViewNotAllowed q = absurd (omega (arith, q))
spent r.ProvenanceTooLow q = absurd (omega (arith, q))
spent r.JournalFull q = absurd (omega (arith, q))
spent r.Checkpoint q = absurd (omega (arith, q))

pub is_spent : (e : Refusal) → e ≡ r.BudgetSpent → number e ≡ 17
unfolding number
is_spent e q = rw q refl

-- The end of a stretch

module _ (t : Opened) (p : List ℕ) (labels : List ℕ) (held : List HeldSlot) (old oldSheet : List ℕ) where
  pub settle_done : (f : Finished) (out : List ℕ) → Fitting t.slots old oldSheet → out ≡ out_after held (fitting t.slots (length old)) old
      → (a : Answer) → a ≡ says 0 (k_of p) 0 f.steps → Settles t p labels held (Ok f) old oldSheet out oldSheet (Ok a)
  unfolding answered end_of answer_of output_of pause_of
  settle_done f out g w a i rules o bs j tables limit whole x d =
      let z = ended_finished d in
      let y = programmed _ _ p bs x.taken.sheet in
      let count : length bs ≡ k_of p = blocks_count _ p (k_of p) 0 bs y.reads in
      rw z.same
      (record {
        answered_is = i ∙ rw (z.count, count) refl;
        written =
            output_written o.tables z.state.store held o.tables.slots t.slots old out z.held x.small (prepared_slots x)
            (g.out_fits ∙ ap (λ (i : ℕ). slot_width * i) (prepared_slots x)) w;
        paused = refl;
      })

  module _ (h : Halting) where
    -- what a halt says
    numbered : (y : Halted) → halt_answer (halt_of y) ≡ answer_in h.refused
        → (y.pause.stop.number ≡ number h.refused.refusal) × (y.block ≡ h.refused.block) × (y.pause.stop.offset ≡ h.refused.offset) × (y.pause.stop.state.steps ≡ h.refused.steps)
    unfolding halt_answer
    numbered y q = (ap (λ (x : Answer). x.number) q, ap (λ (x : Answer). x.block) q, ap (λ (x : Answer). x.offset) q, ap (λ (x : Answer). x.steps) q)

    -- refused by the rules
    pub settle_refused : (h.refused.refusal ≡ r.BudgetSpent → ⊥) → Settles t p labels held (Err h) old oldSheet old oldSheet (Err h.refused)
    unfolding answered end_of answer_of output_of pause_of
    settle_refused z rules o bs j tables limit whole x d =
        let y = ended_halted d in
        rw (y.same, settled_else o.tables.slots y.halt (λ w. z (spent h.refused.refusal (sym (numbered y.halt y.says).0 ∙ w))))
        (record { answered_is = sym y.says; written = refl; paused = refl })

    -- out of budget: where the pause sheet is written
    module _ (z : h.refused.refusal ≡ r.BudgetSpent) where
      at_row : {rules : RuleSet} {o : Opening} {bs : List Block} {j : Judges} {tables : Compiled} {limit : ℕ} {y : Halted} → Prepared rules o bs t j p tables
          → (w : PausesAs o.tables (played tables t.table j limit) bs labels held h.row y) → y.block ≡ h.refused.block
          → AtRow p t.table labels h.refused.block h.row o.tables.slots bs w.block w.principals
      at_row {o = o} {bs} {tables = tables} {y = y} x u w =
          let v = programmed _ _ p bs x.taken.sheet in
          let b = h.refused.block in
          let i = h.row in
          let first = rows_before bs y.block in
          let stands = block_of tables 0 0 y.block bs u.block u.rest x.taken.stand u.listed in
          let c : 0 + first ≡ first = omega arith in
          let d : first + (i - first) ≡ i = omega (arith, u.inside.from) in
          let f : 0 + b ≡ b = omega arith in
          record {
            lengths = v.lengths;
            reads = v.reads;
            inside = omega (arith, w, blocks_count _ p (k_of p) 0 bs v.reads, drop_inside bs y.block u.block u.rest u.listed);
            listed = rw f at (block_read_law _ p (k_of p) 0 b bs u.block u.rest v.reads (rw w at u.listed));
            from = rw (← w) u.inside.from;
            steps = rw (← w) (block_steps tables first _ u.block.command (i - first) (rw c at stands.stands) (omega (arith, u.inside.from, u.inside.before)) (rw d u.due));
            labels_held = rw (prepared_order x) u.labels_held;
          }

      pub settle_pauses : CanSettle t p labels held (Err h) old oldSheet → CanWritePause p t.table labels h.refused.block h.row oldSheet
      settle_pauses c =
          let x = c.prepared in
          let y = ended_halted c.ends in
          let w = y.paused (is_spent h.refused.refusal z) in
          record {
            slots = c.opening.tables.slots;
            blocks = c.blocks;
            block = w.block;
            labels = w.principals;
            at = at_row x w (numbered y.halt y.says).1;
            table_good = rw (prepared_order x) x.grounds.table;
            sheet_size = c.fits.sheet_fits;
          }

      pub settle_paused : (out sheet : List ℕ) → Fitting t.slots old oldSheet → out ≡ out_after held (fitting t.slots (length old)) old
          → WritesPause p t.table labels h.refused.block h.row h.refused.steps sheet → Settles t p labels held (Err h) old oldSheet out sheet (Err h.refused)
      unfolding answered end_of answer_of output_of pause_of
      settle_paused out sheet f v u rules o bs j tables limit whole x d =
          let y = ended_halted d in
          let k = y.halt in
          let n = is_spent h.refused.refusal z in
          let w = y.paused n in
          let q = numbered k y.says in
          rw (y.same, settled_17 o.tables.slots k (q.0 ∙ n))
          (record {
            answered_is = sym y.says ∙ says_spent k (q.0 ∙ n);
            written =
                output_written o.tables k.pause.stop.state.store held o.tables.slots t.slots old out w.store_held x.small (prepared_slots x)
                (f.out_fits ∙ ap (λ (i : ℕ). slot_width * i) (prepared_slots x)) v;
            paused =
                u o.tables.slots bs w.block w.principals k.pause.stop.state (at_row x w q.1) q.3
                ∙ ap₂ (λ (a : ℕ) (c : List Open). pause_sheet (standing a c k.pause.stop.state)) (sym q.1)
                (ap (λ (a : ℕ). path_to w.principals w.block.command 0 (h.row - rows_before bs a)) (sym q.1) ∙ sym w.path);
          })
