-- Proves `isolated`, `isolated_down_to_floors`, `full_rule`, `protected_entries_agree`: demand 3, on bytes. Assumes nothing.
use Prim.Native.Nat.{ℕ, ◌*◌, ◌<◌}
use mathlib.Core.Path.{◌≡◌, refl, sym, ap, ◌∙◌}
use mathlib.Core.Bool.{true, false, true≢false}
use mathlib.Core.List.{List}
use native.Mathlib.Omega.{arith}
use native.Mathlib.Decide.{dec_lt}
use lib.ListN.{get_or, length, replicate, length-replicate}
use borrow.Author.Tests.{eq-eqb}
use borrow.Table.Steps.{cases}
use Rattle.lattice.specs.Tests.{◌and◌, every}
use Rattle.lattice.specs.Order.{Label, below}
use Rattle.values.specs.declared.Answer.{Answer}
use Rattle.values.specs.Result.{Result, ok, ◌>>=◌, require, refused_as}
use Rattle.values.specs.Bytes.{Bytes, number_at, part}
use Rattle.values.specs.Value.{opened, empty_slot, slot_width, slot_bytes}
use Rattle.values.proofs.Result.{Any, post_all, post_at}
use Rattle.values.proofs.ResultPairs.{Post₂, Each, post₂_ok, post₂_join, post₂_equal, post₂_require, post₂_at, post₂_refused_as, post₂_bind}
use Rattle.values.proofs.Bytes.{bytes_of}
use Rattle.store.specs.Sheet.{Tables, owner_of, slot_value_at, store_sheet}
use Rattle.store.specs.HeldStore.{Ordered}
use Rattle.store.proofs.SheetOpening.{Opens, store_opens, values_one, slot_part}
use Rattle.syntax.specs.Syntax.{Cmd}
use Rattle.syntax.specs.Code.{read_block}
use Rattle.syntax.specs.declared.Header.{Header}
use Rattle.syntax.specs.Sheet.{Block, k_of, header_at, start_of, in_block, block_at, blocks_from, programme_sheet}
use Rattle.syntax.proofs.SheetPairs.{programmes₂}
use Rattle.calculus.specs.Rules.{RuleSet, full_provenance, rules_of, labels_judged}
use Rattle.calculus.specs.Calculus.{Store}
use Rattle.calculus.specs.Blocks.{run_blocks, start}
use Rattle.calculus.proofs.Rules.{rules_post}
use Rattle.calculus.proofs.CalculusTaint.{Tainted, Agree}
use Rattle.isolation.proofs.IsolationNoninterference.{Alike, Opposite, alike, reached, blocks_isolated}
use Rattle.calculus.specs.Run.{Call, call, limits_of, Finished, run_programme, run_opened, run_under, run, answer_of, output_of, entries_of, output, entries}
use Rattle.calculus.specs.Vectors.{none}
use Rattle.isolation.specs.Isolation.{within_reach, StoresAgree, OutputsAgree, Replaced, unchanged, exchanged, Replacement, FloorOutOfReach, FloorsOutOfReach, FullRule, by_number, by_default, FullRules, FullRun, RunsAgreeWhere, Isolation, IsolationDownToFloors, naming, call_in, ProtectedEntriesAgree}
use Rattle.isolation.specs.ConfusedDeputy.{NoneEndorsedOutside}
use Rattle.calculus.proofs.RunFinished.{run_finished}

-- Rule numbers

-- each of the two numbers stands for full provenance ..
full_rules : (rule : ℕ) → FullRule rule → rules_of rule ≡ ok full_provenance
unfolding rules_of
full_rules rule (by_number e) = rw e
full_rules rule (by_default e) = rw e

-- .. and no other number does, since full provenance alone judges three labels
numbers_full : (rule : ℕ) → rules_of rule ≡ ok full_provenance → FullRule rule
unfolding labels_judged
numbers_full rule e =
    post_at _ _ _ _ (
    rules_post (λ (rules : RuleSet). length (labels_judged rules 0 0 0) ≡ 3 → FullRule rule) Any rule
    (λ _ h. absurd (omega (arith, h))) (λ _ h. absurd (omega (arith, h))) (λ _ h. absurd (omega (arith, h)))
    (λ n _. by_number n) (λ n _. by_default n) tt) e refl

pub full_rule : FullRules
full_rule rule = (full_rules rule, numbers_full rule)

-- Blocks

-- a block of the given header and code
abbrev made : ℕ → ℕ → Header → List ℕ → Result Answer Block
made m i h code = refused_as (in_block i) (read_block m code) >>= λ c. ok (record { header = h; command = c })

module _ (w : Tables) (a : Label) where
  same_block : (m i : ℕ) (h h' : Header) (c c' : List ℕ) → h ≡ h' → c ≡ c' → FloorOutOfReach w a h'
      → Post₂ (Opposite w a) (made m i h c) (made m i h' c')
  same_block m i h h' c c' e e' clear =
      rw (e, e') (
      post₂_bind _ _ _ _ _ _ (post₂_equal Any _ _ refl (post_all _ _ _ (λ _. tt) (λ _. tt))) λ x y q.
      post₂_ok _ _ _ _ (alike (ap (λ (z : Cmd). record { header = h'; command = z }) q.0) clear))

  reached_block : (m i : ℕ) (h h' : Header) (c c' : List ℕ) → Tainted w a h.region → Tainted w a h'.region
      → Post₂ (Opposite w a) (made m i h c) (made m i h' c')
  reached_block m i h h' c c' l l' =
      post₂_bind (λ _ _. Unit {0}) _ _ _ _ _
      (post₂_join Any Any _ _ _ (post_all _ _ _ (λ _. tt) (λ _. tt)) (post_all _ _ _ (λ _. tt) (λ _. tt)) (λ _ _ _ _. tt)) λ x y _.
      post₂_ok _ _ _ _ (reached l l')

  -- a replacement stays within reach
  stays : (p q : List ℕ) (i : ℕ) → Replaced w a p q i → within_reach w a p i ≡ true → within_reach w a q i ≡ true
  stays p q i (unchanged e c) l = ap (λ (h : Header). below w.order h.region a) e ∙ l
  stays p q i (exchanged x y) l = y

  -- within reach a block may be endorsed, down to any floor
  opposite : (m : ℕ) (p q q' : List ℕ) (i : ℕ) → (within_reach w a p i ≡ false → FloorOutOfReach w a (header_at p i))
      → Replaced w a p q i → Replaced w a p q' i → Post₂ (Opposite w a) (block_at m q i) (block_at m q' i)
  unfolding block_at
  opposite m p q q' i clear (unchanged e c) (unchanged e' c') =
      cases (within_reach w a p i)
      (λ l. reached_block m i _ _ _ _ (stays p q i (unchanged e c) l) (stays p q' i (unchanged e' c') l))
      (λ l. same_block m i _ _ _ _ (e ∙ sym e') (c ∙ sym c') (rw e' (clear l)))
  opposite m p q q' i clear (unchanged e c) (exchanged x y) = reached_block m i _ _ _ _ (stays p q i (unchanged e c) x) y
  opposite m p q q' i clear (exchanged x y) r = reached_block m i _ _ _ _ y (stays p q' i r x)

  -- Two runs

  record Ends (f f' : Finished) : Type 0 where
    pub slots : f.slots ≡ w.slots
    pub slots' : f'.slots ≡ w.slots
    pub agree : Alike w a f.state f'.state

  module _ (o : Ordered w) (in-a : a < w.order.n) (c c' : Call) (full : FullRule c.rule) (full' : FullRule c'.rule) (s s' : Store)
      (sheet : store_sheet c.store ≡ ok (record { tables = w; store = s })) (sheet' : store_sheet c'.store ≡ ok (record { tables = w; store = s' }))
      (m : Agree w a s s') (p : List ℕ) (clear : FloorsOutOfReach w a p)
      (r : Replacement w a p c.programme) (r' : Replacement w a p c'.programme) where
    programmes_opposite : Post₂ (Each (Opposite w a))
        (programme_sheet w.order.n w.slots c.programme) (programme_sheet w.order.n w.slots c'.programme)
    programmes_opposite =
        programmes₂ (Opposite w a) _ _ c.programme c'.programme (r'.count ∙ sym r.count)
        (λ i l. let k : i < k_of p = rw r.count at l in opposite _ p _ _ i (clear i k) (r.each i k) (r'.each i k))

    runs₂ : Post₂ Ends (run c) (run c')
    unfolding run_programme run_opened run_under run start ◌>>=◌ refused_as
    runs₂ =
        rw (full_rules c.rule full, full_rules c'.rule full') (post₂_require _ _ _ _ _ _ _ (
        rw (sheet, sheet') (
        post₂_bind _ _ _ _ _ _ programmes_opposite λ bs cs k.
        post₂_require _ _ _ _ _ _ _ (
        post₂_bind _ _ _ _ _ _
        (post₂_refused_as _ _ _ _ _ (blocks_isolated w a o in-a (limits_of c) (limits_of c') bs cs k 0 (start s) (start s') (record { stores = m; named = refl }))) λ u v n.
        post₂_ok _ _ _ _ (record { slots = refl; slots' = refl; agree = n })))))

-- Outputs

-- slot i in the output of a run that finished
pub output_part : (c : Call) (old : List ℕ) (f : Finished) → run c ≡ ok f
    → (i : ℕ) → i < f.slots
    → part (output c old) (slot_width * i) slot_width ≡ slot_bytes (get_or f.state.store i empty_slot)
unfolding output_of
output_part c old f e i h =
    ap (λ (r : Result Answer Finished). part (output_of r old) (slot_width * i) slot_width) e ∙ slot_part f.state.store f.slots i h

pub opens : (store : List ℕ) (w : Tables) (s : Store) → store_sheet store ≡ ok (record { tables = w; store = s })
    → Opens store (record { tables = w; store = s })
opens store w s e = post_at _ _ _ _ (store_opens store) e

-- The empty programme ends with the opening store, and its output shows that store's values.
module _ (store : List ℕ) (w : Tables) (s : Store) (sheet : store_sheet store ≡ ok (record { tables = w; store = s })) where
  ending : Finished
  ending = record { blocks = 0; slots = w.slots; state = start s }

  abbrev blank : List ℕ
  blank = replicate (slot_width * w.slots) 0

  -- as a call under full provenance, without a step
  abbrev blank_call : Call
  blank_call = call store none 3 0 (length blank) 0

  blank_run : run blank_call ≡ ok ending
  unfolding run_programme run_opened run_under run ending rules_of ◌>>=◌ require refused_as programme_sheet number_at every start_of blocks_from run_blocks ◌and◌
  blank_run = rw (sheet, eq-eqb (length blank) (slot_width * w.slots) (length-replicate _ _))

  full_none : FullRun store none (output blank_call blank)
  unfolding answer_of
  full_none =
      record {
        rule = 3;
        full = by_number refl;
        run =
            record {
              budget = 0;
              entries = 0;
              old = blank;
              finishes = ap (λ (r : Result Answer Finished). (answer_of r).number) blank_run;
              ends = refl;
            };
      }

  none_part : (i : ℕ) → i < w.slots
      → part (output blank_call blank) (slot_width * i) slot_width ≡ slot_bytes (opened (slot_value_at store i))
  unfolding ending start
  none_part i h = output_part blank_call blank ending blank_run i h ∙ ap slot_bytes ((opens store w s sheet).inside i h)

-- a programme is a replacement of itself: "or the same again"
pub same_again : (w : Tables) (a : Label) (p : List ℕ) → Replacement w a p p
same_again w a p = record { count = refl; each = λ i l. unchanged refl refl }

-- Both ways

module _ (a : Label) (store store' : List ℕ) (w : Tables) (s s' : Store)
    (sheet : store_sheet store ≡ ok (record { tables = w; store = s }))
    (sheet' : store_sheet store' ≡ ok (record { tables = w; store = s' })) where
  -- opening stores agree past the last slot too
  opening_agrees : StoresAgree w a s s' → Agree w a s s'
  opening_agrees h =
      record {
        sized = (opens store w s sheet).sized ∙ sym (opens store' w s' sheet').sized;
        held = λ i p. go i p (dec_lt i w.slots);
      }
    where
      go : (i : ℕ) → below w.order (owner_of w i) a ≡ false → Dec (i < w.slots) → get_or s i empty_slot ≡ get_or s' i empty_slot
      go i p (yes l) = h i (record { inside = l; above = p })
      go i p (no l) = (opens store w s sheet).outside i (omega arith) ∙ sym ((opens store' w s' sheet').outside i (omega arith))

  -- the way forth needs no bytes: it holds of any lists of numbers
  module _ (in-a : a < w.order.n) (h : StoresAgree w a s s') (p : List ℕ) (clear : FloorsOutOfReach w a p)
      (q q' : List ℕ) (r : Replacement w a p q) (r' : Replacement w a p q')
      (out out' : List ℕ) (x : FullRun store q out) (x' : FullRun store' q' out') where
    abbrev end : (f : Finished) × (run (call_in x) ≡ ok f)
    end = run_finished (call_in x) x.run.finishes

    abbrev end' : (f : Finished) × (run (call_in x') ≡ ok f)
    end' = run_finished (call_in x') x'.run.finishes

    ends : Ends w a end.0 end'.0
    ends =
        post₂_at _ _ _ _ _
        (runs₂ w a (opens store w s sheet).ordered in-a (call_in x) (call_in x') x.full x'.full s s' sheet sheet' (opening_agrees h) p clear r r')
        end.1 end'.1

    pub forth : OutputsAgree w a out out'
    forth i b =
        ap (λ (l : List ℕ). part l (slot_width * i) slot_width) x.run.ends
        ∙ output_part (call_in x) x.run.old end.0 end.1 i (rw ends.slots b.inside)
        ∙ ap slot_bytes (ends.agree.stores.held i b.above)
        ∙ sym (output_part (call_in x') x'.run.old end'.0 end'.1 i (rw ends.slots' b.inside))
        ∙ sym (ap (λ (l : List ℕ). part l (slot_width * i) slot_width) x'.run.ends)

    named_alike : naming w a (entries (call_in x)) ≡ naming w a (entries (call_in x'))
    unfolding entries_of
    named_alike =
        ap (λ (f : Result Answer Finished). naming w a (entries_of f)) end.1 ∙ ends.agree.named
        ∙ sym (ap (λ (f : Result Answer Finished). naming w a (entries_of f)) end'.1)

  -- the way back asks one programme, the empty one
  back : (Condition : List ℕ → Type 0) → Condition none → Bytes store → Bytes store' → RunsAgreeWhere Condition w a store store'
      → StoresAgree w a s s'
  unfolding number_at every ◌and◌
  back Condition met d d' h i b =
      let self = same_again w a none in
      let few : Bytes none = bytes_of none refl in
      let e =
      h none few met none none few few self self _ _
      (full_none store w s sheet) (full_none store' w s' sheet') i b in
      (opens store w s sheet).inside i b.inside
      ∙ ap opened (values_one store store' _ _ d d' (
      sym (none_part store w s sheet i b.inside) ∙ e ∙ none_part store' w s' sheet' i b.inside))
      ∙ sym ((opens store' w s' sheet').inside i b.inside)

-- the empty programme has no block
none_in_none : (P : ℕ → Type 0) (i : ℕ) → i < k_of none → P i
unfolding number_at
none_in_none P i l = absurd (omega arith)

-- Demand 3, down to floors; with no endorsed block there is no floor to ask for
pub isolated_down_to_floors : IsolationDownToFloors
isolated_down_to_floors a store store' w s s' in-a d d' sheet sheet' = (
  λ h p _ clear q q' _ _ r r'. forth a store store' w s s' sheet sheet' in-a h p clear q q' r r',
  back a store store' w s s' sheet sheet' _ (none_in_none _) d d',
)

pub no_floors : (w : Tables) (a : Label) (p : List ℕ) → NoneEndorsedOutside w a p → FloorsOutOfReach w a p
no_floors w a p bare i l out e = absurd (true≢false (sym e ∙ bare i l out))

pub isolated : Isolation
isolated a store store' w s s' in-a d d' sheet sheet' = (
  λ h p b bare. (isolated_down_to_floors a store store' w s s' in-a d d' sheet sheet').0 h p b (no_floors w a p (λ i l _. bare i l)),
  back a store store' w s s' sheet sheet' _ (none_in_none _) d d',
)

-- The journal

pub protected_entries_agree : ProtectedEntriesAgree
protected_entries_agree a store store' w s s' in-a _ _ sheet sheet' h p _ clear q q' _ _ r r' out out' x x' =
    named_alike a store store' w s s' sheet sheet' in-a h p clear q q' r r' out out' x x'
