-- A programme that was taken in and played: what playing it needs, and what its end writes. Serves `finish`. Assumes nothing.
use Prim.Native.Nat.{ℕ, zero, suc, ◌+◌, ◌-◌, ◌*◌, ◌/◌, ◌≤◌, ◌<◌, min}
use mathlib.Core.Path.{◌≡◌, refl, sym, ap, ap₂, ◌∙◌}
use mathlib.Core.List.{List, [], ◌∷◌, ◌++◌}
use native.Mathlib.Omega.{arith}
use lib.ListN.{length, get_or}
use lib.Dec.{eqb}
use mathlib.Core.Bool.{true}
use borrow.Author.Tests.{eq-eqb, ne_eqb}
use Rattle.store.specs.declared.HeldSlot.{HeldSlot}
use Rattle.values.specs.declared.Answer.{Answer}
use Rattle.values.specs.declared.Entry.{Entry}
use Rattle.values.specs.Result.{Result, ok, refuse, ◌>>=◌, require, refused_as, says, unplaced}
use Rattle.values.specs.Value.{Slot, empty_slot, slot_width, slot_bytes, value_bytes}
use Rattle.values.proofs.Result.{not_both}
use Rattle.values.proofs.BytesArrays.{table_at}
use Rattle.values.proofs.BytesWritten.{sets_whole}
use Rattle.store.specs.declared.Opened.{Opened}
use Rattle.store.specs.Sheet.{Tables, Opening, owner_of, most_slots, slots_bytes}
use Rattle.store.specs.HeldStore.{opened_of, held_of, row_of, empty_row, row_bytes, rows_bytes, fitting, out_after}
use Rattle.store.proofs.HeldStoreOutput.{length_rows}
use Rattle.syntax.specs.Syntax.{Cmd}
use Rattle.syntax.specs.Code.{read_block}
use Rattle.syntax.specs.Sheet.{Block, k_of, code_at, header_at, code_of, in_block, block_at, blocks_from}
use Rattle.syntax.specs.declared.Compiled.{Compiled}
use Rattle.syntax.proofs.RunningStarts.{programmed}
use Rattle.calculus.specs.Rules.{RuleSet}
use Rattle.calculus.specs.Calculus.{Limits, limits, State}
use Rattle.calculus.specs.Blocks.{Halt, halt_answer, run_blocks, start}
use Rattle.pausing.specs.Stretches.{Halted, take_up_blocks}
use Rattle.pausing.proofs.PathsAsideBlocks.{halt_of, blocks_aside}
use Rattle.calculus.specs.Run.{run_programme, answer_of, output_of, entries_of}
use Rattle.machine.specs.declared.rules.Judges.{Judges}
use Rattle.machine.specs.declared.blocks.Place.{Place}
use Rattle.std.proofs.Common.{Ok, Err}
use Rattle.std.specs.Prelude as std
use Rattle.machine.specs.declared.blocks.Finished.{Finished}
use Rattle.machine.specs.declared.blocks.Halted.{Halted as Halting}
use Rattle.values.specs.Refusal.{number, placed, answer_in}
use Rattle.values.specs.declared.refusal.Refused.{Refused}
use Rattle.values.specs.declared.refusal.Refusal.TheVariants as r
use Rattle.machine.specs.BlockRuns.{EndedAs, finished, halted, PlaysOn}
use Rattle.lattice.specs.HeldLabels.{top_mask}
use Rattle.machine.specs.MachineNumbers.{StoreHeld, judging_of}
use Rattle.machine.specs.CompiledRuns.{rows_before}
use Rattle.machine.specs.BlockRuns.{Played, HeadersAt, AllUnder, opening_place, LeftToPlay, Loaded, ToPlay, PausesAs, CanPlayOn}
use Rattle.runner.specs.Journal.{replayed, opens, Finishing, Left}
use Rattle.runner.proofs.JournalBlocks.{entered}
use Rattle.machine.proofs.RuleTerms.{top_held}
use Rattle.machine.proofs.BlockRuns.{everywhere}
use Rattle.machine.proofs.BlockRunsLoop.{at_start}
use Rattle.runner.specs.WholeRun.{Passes, opened, OpeningHeld, TakenIn, Prepared, Finishes, CanFinish}

-- the next block of a programme that was read
pub record Next (slots : ℕ) (p : List ℕ) (n i : ℕ) (bs : List Block) : Type 0 where
  pub command : Cmd
  pub rest : List Block
  pub reads : read_block slots (code_of p i) ≡ ok command
  pub after : blocks_from slots p n (i + 1) ≡ ok rest
  pub is : bs ≡ record { header = header_at p i; command = command } ∷ rest

pub next_block : (slots : ℕ) (p : List ℕ) (n i : ℕ) (bs : List Block) → blocks_from slots p (suc n) i ≡ ok bs → Next slots p n i bs
unfolding blocks_from block_at refused_as ◌>>=◌
next_block slots p n i bs h = go (read_block slots (code_of p i)) refl h
  where
    rest : (c : Cmd) → read_block slots (code_of p i) ≡ ok c → (r : Result _ (List Block)) → blocks_from slots p n (i + 1) ≡ r
        → (r >>= λ bs. ok (record { header = header_at p i; command = c } ∷ bs)) ≡ ok bs → Next slots p n i bs
    rest c q (ok ds) e x = record { command = c; rest = ds; reads = q; after = e; is = cc }
    rest c q (refuse d) e x = absurd (not_both _ _ _ x refl)

    go : (r : Result _ Cmd) → read_block slots (code_of p i) ≡ r
        → (refused_as (in_block i) r >>= (λ c. ok (record { header = header_at p i; command = c })) >>= λ b. blocks_from slots p n (i + 1) >>= λ bs. ok (b ∷ bs)) ≡ ok bs
        → Next slots p n i bs
    go (ok c) e x = rest c e (blocks_from slots p n (i + 1)) refl x
    go (refuse d) e x = absurd (not_both _ _ _ x refl)

pub none_left : (slots : ℕ) (p : List ℕ) (i : ℕ) (bs : List Block) → blocks_from slots p zero i ≡ ok bs → bs ≡ []
unfolding blocks_from
none_left slots p i [] h = refl
none_left slots p i (b ∷ bs) h = absurd (let z : ◌≡◌ {A = ℕ} 0 1 = cc in omega arith)

-- as many blocks as the sheet says, with the sheet's headers
pub blocks_count : (m : ℕ) (p : List ℕ) (n i : ℕ) (bs : List Block) → blocks_from m p n i ≡ ok bs → length bs ≡ n
blocks_count m p zero i bs h = ap length (none_left m p i bs h)
blocks_count m p (suc n) i bs h = let x = next_block m p n i bs h in ap length x.is ∙ ap suc (blocks_count m p n (i + 1) x.rest x.after)

blocks_headers : (few m : ℕ) (p : List ℕ) (n i : ℕ) (bs : List Block) → ((j : ℕ) → j < i + n → (header_at p j).region < few) → blocks_from m p n i ≡ ok bs → HeadersAt few p i bs
unfolding HeadersAt
blocks_headers few m p zero i bs g h = rw (none_left m p i bs h) tt
blocks_headers few m p (suc n) i bs g h =
    let x = next_block m p n i bs h in
    rw x.is (refl, g i (omega arith), blocks_headers few m p n (i + 1) x.rest (λ j k. g j (omega arith)) x.after)

-- rows of a held store are its slots in the output
rows_bytes_law : (w : Tables) (s : List Slot) (i n : ℕ) → i + n ≤ most_slots → rows_bytes (held_of w s) i n ≡ slots_bytes s i n
unfolding rows_bytes slots_bytes held_of row_bytes row_of slot_bytes value_bytes
rows_bytes_law w s i zero h = refl
rows_bytes_law w s i (suc n) h =
    ap₂ (λ (x y : List ℕ). x ++ y) (ap row_bytes (table_at most_slots (λ j. row_of (get_or s j empty_slot) (owner_of w j)) empty_row i (omega arith)))
    (rows_bytes_law w s (i + 1) n (omega arith))

-- an output with room for just m slots is written whole
written_whole : (held : List HeldSlot) (m : ℕ) (old : List ℕ) → m ≤ most_slots → length old ≡ slot_width * m → out_after held (fitting m (length old)) old ≡ rows_bytes held 0 m
unfolding out_after fitting
written_whole held m old small room =
    let n : min (min m most_slots) (length old / slot_width) ≡ m = omega arith in
    rw n (sets_whole old (rows_bytes held 0 m) (room ∙ sym (length_rows held 0 m)))

-- the output of a store that is held
pub output_written : (w : Tables) (s : List Slot) (held : List HeldSlot) (m n : ℕ) (old out : List ℕ) → StoreHeld w s held → m ≤ most_slots → n ≡ m → length old ≡ slot_width * m
    → out ≡ out_after held (fitting n (length old)) old → out ≡ slots_bytes s 0 m
output_written w s held m n old out h small e room q =
    q ∙ ap (λ (i : ℕ). out_after held (fitting i (length old)) old) e ∙ written_whole held m old small room
    ∙ ap (λ (y : List HeldSlot). rows_bytes y 0 m) h.same ∙ rows_bytes_law w s 0 m (omega arith)

-- What the end of a run of blocks says

pub record FinishedAs (w : Tables) (l : Limits) (rows : List HeldSlot) (f : Finished) (r : Result Halted State) : Type 0 where
  pub state : State
  pub held : StoreHeld w state.store rows
  pub count : state.steps ≡ f.steps
  pub entries : length state.journal + f.free ≡ l.entries
  pub same : r ≡ ok state

pub ended_finished : {w : Tables} {l : Limits} {g : Played} {bs : List Block} {labels : List ℕ} {rows : List HeldSlot} {f : Finished} {r : Result Halted State}
    → EndedAs w l g bs labels rows (Ok f) r → FinishedAs w l rows f r
ended_finished (finished {s = s} h c j) = record { state = s; held = h; count = c; entries = j; same = refl }

pub record HaltedAs (w : Tables) (g : Played) (bs : List Block) (labels : List ℕ) (rows : List HeldSlot) (h : Halting) (r : Result Halted State) : Type 0 where
  pub halt : Halted
  pub says : halt_answer (halt_of halt) ≡ answer_in h.refused
  pub paused : number h.refused.refusal ≡ 17 → PausesAs w g bs labels rows h.row halt
  pub same : r ≡ refuse halt

pub ended_halted : {w : Tables} {l : Limits} {g : Played} {bs : List Block} {labels : List ℕ} {rows : List HeldSlot} {h : Halting} {r : Result Halted State}
    → EndedAs w l g bs labels rows (Err h) r → HaltedAs w g bs labels rows h r
unfolding halt_answer
ended_halted (halted {h = x} a b c d p) = record { halt = x; says = rw (a, b, c, d); paused = p; same = refl }

-- an opened store and a programme that was taken in can be played
module _ {rules : RuleSet} {o : Opening} {bs : List Block} {t : Opened} {j : Judges} {p : List ℕ} {tables : Compiled} (x : Prepared rules o bs t j p tables) where
  pub prepared_order : t.table ≡ o.tables.order
  unfolding opened_of
  prepared_order = ap (λ (y : Opened). y.table) x.opened

  pub prepared_slots : t.slots ≡ o.tables.slots
  unfolding opened_of
  prepared_slots = ap (λ (y : Opened). y.slots) x.opened

  pub prepared_room : code_at (k_of p) ≤ length p
  prepared_room = let y = programmed _ _ p bs x.taken.sheet in omega (arith, y.lengths.size)

  module _ (g : Played) (tables-are : g.tables ≡ tables) where
    pub prepared_under : g.order ≡ t.table → g.judges ≡ j → AllUnder o.tables rules g
    prepared_under order judges = record { grounds = x.grounds; order = sym (order ∙ prepared_order); judges = judges ∙ x.judges }

    pub prepared_loaded : (k : ℕ) → k ≡ k_of p → Loaded o.tables g p k bs
    prepared_loaded k e =
        let y = programmed _ _ p bs x.taken.sheet in
        record {
          headers = blocks_headers _ _ p (k_of p) 0 bs (λ i l. y.headers i (omega arith)) y.reads;
          stand = rw tables-are x.taken.stand;
          count = blocks_count _ p (k_of p) 0 bs y.reads ∙ sym e;
        }

-- from its opening store
pub prepared_opening : (o : Opening) (t : Opened) (held : List HeldSlot) → OpeningHeld o t held → (j : Judges) (rules : RuleSet) → j ≡ judging_of rules → (p : List ℕ) (tables : Compiled) (bs : List Block)
    → TakenIn o p tables bs → Prepared rules o bs t j p tables
prepared_opening o t held h j rules q p tables bs x = record { opened = h.opened; grounds = h.grounds; small = h.small; judges = q; taken = x }

module _ (o : Opening) (t : Opened) (held : List HeldSlot) (h : OpeningHeld o t held) (j : Judges) (rules : RuleSet) (q : j ≡ judging_of rules) (p : List ℕ) (g : Played)
    (bs : List Block) (x : TakenIn o p g.tables bs) (order : g.order ≡ t.table) (judges : g.judges ≡ j) where
  abbrev prepared : Prepared rules o bs t j p g.tables
  prepared = prepared_opening o t held h j rules q p g.tables bs x

  abbrev pub all_under : AllUnder o.tables rules g
  all_under = prepared_under prepared g refl order judges

  pub left_all : (l : Limits) → l.budget ≡ g.budget → (k : ℕ) → k ≡ k_of p
      → LeftToPlay o.tables rules l g p k (opening_place l.entries) held (run_blocks o.tables rules l 0 bs (start o.store))
  unfolding start
  left_all l b k e =
      let y = programmed _ _ p bs x.sheet in
      record {
        budget = b;
        rest = bs;
        count = omega (arith, e, blocks_count _ p (k_of p) 0 bs y.reads);
        headers = blocks_headers _ _ p (k_of p) 0 bs (λ i l. y.headers i (omega arith)) y.reads;
        operand = 0;
        stand = x.stand;
        state = start o.store;
        store_held = h.store_held;
        steps = refl;
        counts = λ i. omega (arith, h.unwritten i);
        entries = omega arith;
        kept = omega arith;
        means = refl;
      }

  abbrev pub loaded_all : (k : ℕ) → k ≡ k_of p → Loaded o.tables g p k bs
  loaded_all = prepared_loaded prepared g refl

  -- from the start
  pub play_all_law : (l : Limits) → l.budget ≡ g.budget → (k : ℕ) (e : k ≡ k_of p) (top : ℕ) → top ≡ top_mask t.table.n
      → ToPlay o.tables rules l g k bs (opening_place l.entries) (everywhere top) held (take_up_blocks o.tables rules l 0 bs [] (start o.store))
  unfolding start rows_before
  play_all_law l b k e top f =
      at_start all_under (loaded_all k e) (opening_place l.entries) top held (start o.store) _
      (rw (f, prepared_order prepared) (top_held o.tables.order h.grounds.table)) b (omega arith) refl h.store_held refl (λ i. omega (arith, h.unwritten i)) (omega arith) refl

  abbrev pub sheet_room : code_at (k_of p) ≤ length p
  sheet_room = prepared_room prepared

-- what is left to play of a run that finishes
abbrev finishing : {w : Tables} {rules : RuleSet} {l : Limits} {g : Played} {p : List ℕ} {k : ℕ} {from : Place} {held : List HeldSlot} {whole : Result Halt State}
    → LeftToPlay w rules l g p k from held whole → (s : State) → whole ≡ ok s → LeftToPlay w rules l g p k from held (ok s)
finishing l s e =
    record {
      budget = l.budget;
      rest = l.rest;
      count = l.count;
      headers = l.headers;
      operand = l.operand;
      stand = l.stand;
      state = l.state;
      store_held = l.store_held;
      steps = l.steps;
      counts = l.counts;
      entries = l.entries;
      kept = l.kept;
      means = l.means ∙ e;
    }

-- What the end of the blocks says of the run, for whatever opening and programme stand behind
module _ (slots : ℕ) (by : Played) where
  slots_are : {o : Opening} {held : List HeldSlot} → OpeningHeld o (opened slots by.order) held → slots ≡ o.tables.slots
  unfolding opened_of
  slots_are h = ap (λ (z : Opened). z.slots) h.opened

  pub few_slots : {p : List ℕ} {held : List HeldSlot} → CanFinish slots by p held → slots ≤ most_slots
  few_slots c = omega (arith, c.opening_held.small, slots_are c.opening_held)

module _ (slots : ℕ) (by : Played) (entries : ℕ) (p : List ℕ) (held : List HeldSlot) where
  -- an output of another length
  pub finish_room : (old : List ℕ) (e : Refused) → e ≡ placed r.OutputLength 0 0 0 → (length old ≡ slot_width * slots → ⊥) → Finishes slots by entries p held old old (Err e)
  unfolding Passes require unplaced number
  finish_room old e i y rules o bs h d x = (rw (ne_eqb (length old) (slot_width * o.tables.slots) (rw (slots_are slots by h) at y), i), refl)

  abbrev within : Limits
  within = limits by.budget entries

  module _ (k : ℕ) (q : k ≡ k_of p) where
    module _ (top : ℕ) (f : top ≡ top_mask by.order.n) where
      pub finish_can : CanFinish slots by p held → CanPlayOn by p k (opening_place entries) (everywhere top) held
      finish_can c =
          let o = c.opening in
          record {
            tables = o.tables;
            rules = c.rules;
            under = all_under o _ held c.opening_held by.judges c.rules c.judges p by c.blocks c.taken refl refl;
            limits = within;
            blocks = c.blocks;
            loaded = loaded_all o _ held c.opening_held by.judges c.rules c.judges p by c.blocks c.taken refl refl k q;
            whole = _;
            left = play_all_law o _ held c.opening_held by.judges c.rules c.judges p by c.blocks c.taken refl refl within refl k q top f;
            count = q;
            sheet = rw q (sheet_room o _ held c.opening_held by.judges c.rules c.judges p by c.blocks c.taken refl refl);
          }

      module _ (labels' : List ℕ) (held' : List HeldSlot) (old : List ℕ) where
        module _ (rules : RuleSet) (o : Opening) (bs : List Block) (h : OpeningHeld o (opened slots by.order) held) (d : by.judges ≡ judging_of rules) (x : TakenIn o p by.tables bs) where
          abbrev taken_up : Result Halted State
          taken_up = take_up_blocks o.tables rules within 0 bs [] (start o.store)

          abbrev whole : Result Halt State
          whole = run_blocks o.tables rules within 0 bs (start o.store)

          ended : (r : std.Result Finished Halting) → PlaysOn by p k (opening_place entries) (everywhere top) held labels' held' r → EndedAs o.tables within by bs labels' held' r taken_up
          ended r z =
              z o.tables rules within bs _ (all_under o _ held h by.judges rules d p by bs x refl refl) (loaded_all o _ held h by.judges rules d p by bs x refl refl k q)
              (play_all_law o _ held h by.judges rules d p by bs x refl refl within refl k q top f)

          -- without its paths
          aside : (r : Result Halted State) → taken_up ≡ r → whole ≡ refused_as halt_of r
          aside r e = sym (blocks_aside o.tables rules within 0 bs (start o.store)) ∙ ap (λ (z : Result Halted State). refused_as halt_of z) e

          -- the writes that a second pass is to make
          writes_left : (s : State) → whole ≡ ok s → (js : List Entry) → s.journal ≡ js → Left (replayed p by) (opens (replayed p by) held) js
          unfolding Left start left_all
          writes_left s e [] m = tt
          writes_left s e (y ∷ ys) m =
              let run : Finishing (replayed p by) = record {
                tables = o.tables;
                rules = rules;
                limits = within;
                end = s;
                under = all_under o _ held h by.judges rules d p by bs x refl refl;
                budget = refl;
                sheet = sheet_room o _ held h by.judges rules d p by bs x refl refl;
              } in
              let plays = finishing (left_all o _ held h by.judges rules d p by bs x refl refl within refl (k_of p) refl) s e in
              record { run = run; inside = entered (replayed p by) run (opening_place entries) held y ys plays m }

          room_test : length old ≡ slot_width * slots → eqb (length old) (slot_width * o.tables.slots) ≡ true
          room_test e = eq-eqb (length old) (slot_width * o.tables.slots) (rw (slots_are slots by h) at e)

        module _ (room : length old ≡ slot_width * slots) where
          pub finish_few : CanFinish slots by p held → (f : Finished) → PlaysOn by p k (opening_place entries) (everywhere top) held labels' held' (Ok f) → f.free ≤ entries
          finish_few c f y =
              omega (arith, (ended_finished (ended c.rules c.opening c.blocks c.opening_held c.judges c.taken (Ok f) y)).entries)

          pub finish_done : (f : Finished) (out : List ℕ) → PlaysOn by p k (opening_place entries) (everywhere top) held labels' held' (Ok f)
              → out ≡ out_after held' (fitting slots (length old)) old → (a : Answer) → a ≡ says 0 (k_of p) 0 f.steps
              → Finishes slots by entries p held old out (Ok (record { answer = a; writes = entries - f.free }))
          unfolding Passes require run_programme answer_of output_of entries_of refused_as ◌>>=◌
          finish_done f out v w a i rules o bs h d x =
              let y = programmed _ _ p bs x.sheet in
              let z = ended_finished (ended rules o bs h d x (Ok f) v) in
              let same : whole rules o bs h d x ≡ ok z.state = aside rules o bs h d x _ z.same in
              let count : length bs ≡ k_of p = blocks_count _ p (k_of p) 0 bs y.reads in
              let e = slots_are slots by h in
              rw (room_test rules o bs h d x room, same)
              (record {
                answered = i ∙ rw (z.count, count) refl;
                written = output_written o.tables z.state.store held' o.tables.slots slots old out z.held h.small e (rw e at room) w;
                many = omega (arith, z.entries);
                fits = omega arith;
                left = writes_left rules o bs h d x z.state same _ refl;
              })

          pub finish_halt : (y : Halting) → PlaysOn by p k (opening_place entries) (everywhere top) held labels' held' (Err y)
              → Finishes slots by entries p held old old (Err y.refused)
          unfolding Passes require run_programme refused_as ◌>>=◌
          finish_halt y v rules o bs h d x =
              let z = ended_halted (ended rules o bs h d x (Err y) v) in
              let same : whole rules o bs h d x ≡ refuse (halt_of z.halt) = aside rules o bs h d x _ z.same in
              (rw (room_test rules o bs h d x room, same, z.says), refl)
