-- Taking a run up at a checkpoint: where it stands then, or that the checkpoint is not good (19). Serves `take_up`. Assumes nothing.
use Prim.Native.Nat.{ℕ, zero, suc, ◌+◌, ◌≤◌, ◌<◌}
use mathlib.Core.Path.{◌≡◌, refl, sym, ap, ◌∙◌}
use mathlib.Core.Bool.{Bool, true, false}
use mathlib.Core.Logic.{inr, ⊎_elim}
use Rattle.store.specs.declared.HeldSlot.{HeldSlot}
use Rattle.std.proofs.Common.{Option, None, Some}
use mathlib.Core.List.{List, [], ◌∷◌}
use native.Mathlib.Omega.{arith}
use lib.ListN.{length, drop, drop_of_length-le}
use lib.Dec.{eqb}
use Rattle.lattice.specs.Tests.{◌and◌}
use Rattle.lattice.specs.declared.Table.{Table}
use Rattle.lattice.specs.Order.{top}
use Rattle.values.specs.Result.{ok, require, refused_as, ◌>>=◌}
use Rattle.store.specs.declared.Opened.{Opened}
use Rattle.store.specs.Sheet.{Tables, Opening, most_slots}
use Rattle.syntax.specs.Syntax.{Cmd, cmd, Body, skip, assign, seq, if, while, Cmds, nil, cons}
use Rattle.syntax.specs.Code.{read_block}
use Rattle.syntax.specs.Sheet.{Block, k_of, code_of, lent}
use Rattle.syntax.specs.declared.Compiled.{Compiled}
use Rattle.syntax.specs.Rows.{between, size, most_rows}
use Rattle.syntax.proofs.RunningStarts.{programmed}
use Rattle.calculus.specs.Rules.{RuleSet}
use Rattle.calculus.specs.Calculus.{Limits, limits, State, choose}
use Rattle.calculus.specs.Blocks.{setting, most_budget}
use Rattle.pausing.specs.Paths.{Open, take_up}
use Rattle.pausing.specs.Stretches.{steps_in, block_in, path_in, store_in, output_good, path_good, checkpoint_good, checkpoint, position_of, standing, halted_in, take_up_blocks}
use Rattle.machine.specs.declared.rules.Judges.{Judges}
use Rattle.runner.specs.declared.stretches.Located.{Located}
use Rattle.machine.specs.declared.blocks.Place.{Place}
use Rattle.machine.specs.CompiledRuns.{rows_before}
use Rattle.pausing.specs.RowPaths.{row_to, row_body, row_in}
use Rattle.runner.specs.OldOutput.{OpensOutput}
use Rattle.runner.specs.WholeRun.{Prepared}
use Rattle.paths.specs.Checkpoint.{takes_up, TakenUp, Resumes, CanResume}
use Rattle.runner.specs.StretchRun.{CanLocate, LiesAt, Locates, StandsAt, ResumedAs, CanTakeUp, TakesUp}
use Rattle.machine.proofs.BlockRuns.{everywhere_held, drop_none, block_of}
use Rattle.machine.proofs.RuleTerms.{top_held}
use Rattle.machine.proofs.MachineRows.{run_inside}
use Rattle.machine.proofs.CompiledTakeUp.{block_resumes}
use Rattle.runner.proofs.OldOutput.{good_counts, output_held}
use Rattle.runner.proofs.WholeRunFinish.{blocks_count, prepared_order, prepared_slots}
use Rattle.runner.proofs.StretchPlay.{block_read_law}

-- one of two
either : (b : Bool) (f g : ℕ → ℕ) (r n : ℕ) → f (r + n) ≡ r + f n → g (r + n) ≡ r + g n → choose b f g (r + n) ≡ r + choose b f g n
unfolding choose
either true f g r n x y = x
either false f g r n x y = y

-- rows are counted from the block's first
mutual
  unfolding row_to row_body row_in choose

  pub row_from : (c : Cmd) (p : List Open) (r n : ℕ) → row_to c p (r + n) ≡ r + row_to c p n
  row_from (cmd at b) p r n = body_from b p r n

  body_from : (b : Body) (p : List Open) (r n : ℕ) → row_body b p (r + n) ≡ r + row_body b p n
  body_from skip p r n = refl
  body_from (assign x v) p r n = refl
  body_from (seq cs) [] r n = refl
  body_from (seq cs) (o ∷ p) r n = in_from cs o.child p r n
  body_from (if g c e) [] r n = refl
  body_from (if g c e) (o ∷ p) r n =
      either (eqb o.child 0) _ _ r n
      (let y : r + n + 1 ≡ r + (n + 1) = omega arith in ap (λ (k : ℕ). row_to c p k) y ∙ row_from c p r (n + 1))
      (let y : r + n + 1 + size c + between (size e) ≡ r + (n + 1 + size c + between (size e)) = omega arith in
      ap (λ (k : ℕ). row_to e p k) y ∙ row_from e p r (n + 1 + size c + between (size e)))
  body_from (while g c) [] r n = refl
  body_from (while g c) (o ∷ p) r n = let y : r + n + 1 ≡ r + (n + 1) = omega arith in ap (λ (k : ℕ). row_to c p k) y ∙ row_from c p r (n + 1)

  in_from : (cs : Cmds) (k : ℕ) (p : List Open) (r n : ℕ) → row_in cs k p (r + n) ≡ r + row_in cs k p n
  in_from nil k p r n = refl
  in_from (cons c cs) zero p r n = row_from c p r n
  in_from (cons c cs) (suc k) p r n = let y : r + n + size c ≡ r + (n + size c) = omega arith in ap (λ (j : ℕ). row_in cs k p j) y ∙ in_from cs k p r (n + size c)

row_at_law : (c : Cmd) (p : List Open) (r : ℕ) → row_to c p r ≡ r + row_to c p 0
row_at_law c p r = let y : r + 0 ≡ r = omega arith in rw y at (row_from c p r 0)

-- the position of a good checkpoint
position_of_law : (o : Opening) (bs : List Block) (out sheet : List ℕ) → checkpoint_good o.tables bs out sheet ≡ true
    → position_of o bs (checkpoint out sheet)
    ≡ ok (standing (block_in sheet) (path_in sheet) (record { store = store_in o.tables.slots out; steps = steps_in sheet; journal = [] }))
unfolding position_of require
position_of_law o bs out sheet e = rw e

-- Tests

pub and_false : (a b : Bool) → a ≡ false → (a and b) ≡ false
unfolding ◌and◌
and_false a b e = rw e

pub false_and : (a b : Bool) → b ≡ false → (a and b) ≡ false
unfolding ◌and◌
false_and true b e = e
false_and false b e = refl

-- what `resume` answered, by the order table of the definitions
bad_path : {t t' : Table} (c : Cmd) (sheet held : List ℕ) → t ≡ t' → Resumes t c sheet held None → takes_up t' c sheet ≡ false
bad_path c sheet held q e = rw q at e

found_path : {t t' : Table} (c : Cmd) (sheet held : List ℕ) (row : ℕ) → t ≡ t' → Resumes t c sheet held (Some row) → TakenUp t' c sheet held row
found_path c sheet held row q x = rw q at x

pub both_true : (a b : Bool) → a ≡ true → b ≡ true → (a and b) ≡ true
unfolding ◌and◌
both_true a b p q = rw (p, q)

-- the first of the blocks that are left, and then the others
unrolled : (w : Tables) (rules : RuleSet) (l : Limits) (i i' : ℕ) (bs : List Block) (b : Block) (rest : List Block) (p : List Open) (s : State) → i ≡ i' → drop i bs ≡ b ∷ rest
    → (refused_as (halted_in i) (take_up (setting w rules l i b) b.command (top w.order) p s) >>= λ t. take_up_blocks w rules l (i + 1) rest [] t)
    ≡ take_up_blocks w rules l i' (drop i' bs) p s
unfolding take_up_blocks
unrolled w rules l i i' bs b rest p s e q = rw (← e, q)

module _ (t : Opened) (p : List ℕ) (out sheet : List ℕ) (held : List HeldSlot) where
  module _ {rules : RuleSet} {o : Opening} {bs : List Block} {j : Judges} {tables : Compiled} (x : Prepared rules o bs t j p tables) where
    -- as many blocks as the sheet says
    count : length bs ≡ k_of p
    count = blocks_count _ p (k_of p) 0 bs (programmed _ _ p bs x.taken.sheet).reads

    -- a block that is there
    record Nth (i : ℕ) : Type 0 where
      block : Block
      rest : List Block
      listed : drop i bs ≡ block ∷ rest

    nth : (i : ℕ) → i < k_of p → Nth i
    nth i h = go (drop i bs) refl
      where
        go : (ds : List Block) → drop i bs ≡ ds → Nth i
        go [] e = absurd (omega (arith, count, drop_none bs i e))
        go (b ∷ ds) e = record { block = b; rest = ds; listed = e }

    -- its code reads as its command
    nth_read : (i : ℕ) (n : Nth i) → read_block o.tables.slots (code_of p i) ≡ ok n.block.command
    nth_read i n =
        let y : 0 + i ≡ i = omega arith in
        rw y at (block_read_law _ p (k_of p) 0 i bs n.block n.rest (programmed _ _ p bs x.taken.sheet).reads n.listed)

    -- what 19 says of it
    good_in : (i : ℕ) (n : Nth i) → i ≡ block_in sheet
        → checkpoint_good o.tables bs out sheet ≡ (takes_up o.tables.order n.block.command sheet and output_good o.tables.slots out (steps_in sheet))
    unfolding checkpoint_good takes_up path_good
    good_in i n e = rw (← e, n.listed)

  -- a block number that is not below k
  pub no_block : (i : ℕ) (labels' : List ℕ) → k_of p ≤ i → i ≡ block_in sheet → TakesUp t p out sheet held labels' held None
  unfolding ResumedAs checkpoint_good path_good
  no_block i labels' h e rules o bs j tables v x =
      let z : drop (block_in sheet) bs ≡ [] = drop_of_length-le bs {i = block_in sheet} (omega (arith, count x, e)) in
      rw z (and_false _ _ (false_and _ _ refl))

  -- an output that is not good
  pub no_output : (labels' : List ℕ) (steps : ℕ) → steps ≡ steps_in sheet → output_good t.slots out steps ≡ false → TakesUp t p out sheet held labels' held None
  unfolding ResumedAs checkpoint_good
  no_output labels' steps e q rules o bs j tables v x = false_and _ _ (rw (prepared_slots x, e) at q)

  module _ (labels : List ℕ) (c : CanTakeUp t p out sheet labels held) where
    pub take_small : t.slots ≤ most_slots
    take_small = omega (arith, prepared_slots c.prepared, c.prepared.small)

    pub take_locate : (i : ℕ) → i < k_of p → CanLocate p i
    take_locate i h =
        let y = programmed _ _ p c.blocks c.prepared.taken.sheet in
        record { slots = c.opening.tables.slots; blocks = c.blocks; lengths = y.lengths; reads = y.reads; inside = h }

  -- the block's code, as it is lent
  module _ (i : ℕ) (h : i < k_of p) (e : i ≡ block_in sheet) (at : Located) (located : Locates p i at) where
    lies : {rules : RuleSet} {o : Opening} {bs : List Block} {j : Judges} {tables : Compiled} → Prepared rules o bs t j p tables → LiesAt p bs i at
    lies {bs = bs} x = let y = programmed _ _ p bs x.taken.sheet in located _ bs y.lengths y.reads h

    reads : {rules : RuleSet} {o : Opening} {bs : List Block} {j : Judges} {tables : Compiled} (x : Prepared rules o bs t j p tables)
        → read_block o.tables.slots (lent p at.start at.end) ≡ ok (nth x i h).block.command
    reads x = rw (lies x).code (nth_read x i (nth x i h))

    module _ (labels : List ℕ) (c : CanTakeUp t p out sheet labels held) where
      pub take_ordered : (at.start ≤ at.end) × (at.end ≤ length p)
      take_ordered = ((lies c.prepared).ordered, (lies c.prepared).within)

      pub take_resume : CanResume (lent p at.start at.end) sheet t.table labels
      take_resume =
          let x = c.prepared in
          record {
            slots = c.opening.tables.slots;
            command = (nth x i h).block.command;
            was_read = reads x;
            table_good = rw (prepared_order x) x.grounds.table;
            sheet_size = c.fits.sheet_fits;
            tops = rw (c.tops, prepared_order x) (everywhere_held (top_held c.opening.tables.order x.grounds.table));
          }

    module _ (labels' : List ℕ) where
      abbrev Resuming : Option ℕ → Type 0
      Resuming z = (slots : ℕ) (c : Cmd) → read_block slots (lent p at.start at.end) ≡ ok c → Resumes t.table c sheet labels' z

      -- a path that leads nowhere
      pub no_path : Resuming None → TakesUp t p out sheet held labels' held None
      unfolding ResumedAs
      no_path z rules o bs j tables v x =
          good_in x i (nth x i h) e ∙ and_false _ _ (bad_path (nth x i h).block.command sheet labels' (prepared_order x) (z _ _ (reads x)))

      module _ (row steps : ℕ) (held' : List HeldSlot) (z : Resuming (Some row)) (s : steps ≡ steps_in sheet) (good : output_good t.slots out steps ≡ true) (opens : OpensOutput t.slots out held held') where
        abbrev there : Place
        there = record { block = i; row = at.row + row; steps = steps; free = most_budget }

        pub taken_up : TakesUp t p out sheet held labels' held' (Some there)
        unfolding ResumedAs
        taken_up rules o bs j tables v x =
            let n = nth x i h in
            let u = found_path n.block.command sheet labels' row (prepared_order x) (z _ _ (reads x)) in
            let q : output_good o.tables.slots out (steps_in sheet) ≡ true = rw (prepared_slots x, s) at good in
            let state : State = record { store = store_in o.tables.slots out; steps = steps_in sheet; journal = [] } in
            let a = block_of tables 0 0 i bs n.block n.rest x.taken.stand n.listed in
            let y : 0 + rows_before bs i ≡ rows_before bs i = omega arith in
            let first : at.row + row ≡ row_to n.block.command (path_in sheet) (rows_before bs i) =
            omega (arith, (lies x).row, u.row_is, row_at_law n.block.command (path_in sheet) (rows_before bs i)) in
            record {
              position = standing (block_in sheet) (path_in sheet) state;
              is = position_of_law o bs out sheet (good_in x i n e ∙ both_true _ _ u.good q);
              steps_are = sym s;
              along = λ limit le.
                  record {
                    budget = refl;
                    kept = le;
                    left = inr (record {
                      block = n.block;
                      rest = n.rest;
                      listed = n.listed;
                      inner = take_up (setting o.tables rules (limits limit most_budget) i n.block) n.block.command (top o.tables.order) (path_in sheet) state;
                      goes =
                          record {
                            labels = u.labels;
                            state = state;
                            labels_held = u.labels_held;
                            state_held =
                                record {
                                  store = output_held o.tables.slots (steps_in sheet) out held held' (rw (prepared_slots x) at opens) q x.small o.tables o.store v.store_held.same v.outside;
                                  steps = sym s;
                                  counts = good_counts o.tables.slots out (steps_in sheet) q;
                                  entries = omega arith;
                                };
                            runs =
                                rw first
                                (block_resumes (setting o.tables rules (limits limit most_budget) i n.block) tables (rows_before bs i) a.operand n.block.command (rw y at a.stands)
                                u.labels (top o.tables.order) (path_in sheet) state u.labels_held.room u.along (omega (arith, s)));
                          };
                      means = unrolled o.tables rules (limits limit most_budget) i (block_in sheet) bs n.block n.rest (path_in sheet) state e n.listed;
                    });
                  };
            }

        -- the row is a number
        pub taken_few : (labels : List ℕ) → CanTakeUp t p out sheet labels held → at.row + row < most_rows
        unfolding ResumedAs
        taken_few labels c =
            let u : StandsAt c.rules c.opening c.blocks t c.judges p c.tables (checkpoint out sheet) labels' held' there =
            taken_up c.rules c.opening c.blocks c.judges c.tables c.opening_held c.prepared in
            ⊎_elim (λ y. absurd (omega (arith, h, y.over))) (λ y. run_inside y.goes.runs) (u.along steps (omega arith)).left
