-- For `journal_tells`: each entry of a run's journal is a step by the rules (`ByRule`), and all their writes lead to its store. Assumes nothing.
use Prim.Native.Nat.{ℕ, ◌+◌, ◌<◌}
use mathlib.Core.Path.{◌≡◌, refl, sym, ap, ◌∙◌}
use mathlib.Core.Logic.{inr}
use mathlib.Core.Bool.{true, true≢false}
use mathlib.Core.List.{List, [], ◌∷◌}
use native.Mathlib.Omega.{arith}
use borrow.Author.Tests.{eqb-true}
use Rattle.lattice.specs.Order.{Label}
use Rattle.values.specs.declared.Value.{Value}
use Rattle.values.specs.Result.{ok}
use Rattle.values.specs.Value.{write_view, is_write_view, viewed, well_formed}
use Rattle.values.proofs.Result.{post_at}
use Rattle.values.proofs.Bytes.{view_inside}
use Rattle.store.proofs.SheetOpening.{Opens}
use Rattle.syntax.specs.declared.Header.{Header}
use Rattle.syntax.specs.Syntax.{Op, Expr, cmd, assign, Cmds, nil, cons, LiteralsOf, Exprs, ExprsBody, ExprsAll, Literals}
use Rattle.syntax.specs.Sheet.{Block, k_of, header_at}
use Rattle.syntax.proofs.CodeWellFormed.{block_literals}
use Rattle.syntax.proofs.SheetBlocks.{IsBlock, Placed, more}
use Rattle.calculus.specs.Rules.{RuleSet, access_control, capability, explicit_provenance, full_provenance}
use Rattle.calculus.specs.Calculus.{Store, gives, State, Memory, memory, Write, written, entry_of, recorded}
use Rattle.calculus.specs.Blocks.{start}
use Rattle.exactness.specs.Reduction.{Region, Above, Covers, Trusts, semantics, asks, ◌⊢⟨◌∣◌⟩⇓◌^◌, Val, Deref, Operate, Code, done, ◌⨾◌, end⨾◌, ◌⨾⨾◌, ⟨◌∣◌∣◌⟩, Seq, Seq_2, End, If, Else, While_1, While_2, Assign, regions, Stage, before, during, Start, Prg_1, Prg_1_silent, Comp_2, ◌⊩◌⟹◌}
use Rattle.calculus.specs.Run.{Call, limits_of}
use Rattle.calculus.specs.Faithfulness.{Good, own_run}
use Rattle.exactness.specs.Exactness.{◌⊩◌⟹*◌, here, after, held, Reaches}
use Rattle.exactness.specs.JournalTells.{ByRule}
use Rattle.calculus.proofs.CalculusOperations.{gives_no_view, gives_formed}
use Rattle.calculus.proofs.CalculusInvariant.{Slots, written_slots}
use Rattle.exactness.proofs.StepByStepInvariant.{blocks_placed}
use Rattle.exactness.proofs.ReductionRuns.{then_all}
use Rattle.exactness.proofs.Exactness.{exactness}
use Rattle.exactness.proofs.JournalTellsWalks.{replayed, replayed_append, Each, empty, each_more}

-- What the rules say

module _ {ρ : Region} {H : Store} where
  -- the rule set has asked of a write view what it asks of a value; an operation gives none
  view_asked : {e : Expr} {v : Value} {l : Label} → ρ ⊢⟨ H ∣ e ⟩⇓ v ^ l → is_write_view v ≡ true → (asks ρ).value v
  view_asked (Val p) t = p
  view_asked (Deref x p q) t = q
  view_asked (Operate {o = o} x y p) t = absurd (true≢false (sym t ∙ gives_no_view (omega arith) o _ _))

  -- what holds of literals, of slots and of what operations give holds of every value
  value_holds : (F : Value → Type 0) → ((o : Op) (u v : Value) → F (gives o u v))
      → {e : Expr} {v : Value} {l : Label} → ρ ⊢⟨ H ∣ e ⟩⇓ v ^ l → LiteralsOf F e → Slots F H → F v
  unfolding LiteralsOf
  value_holds F f (Val p) k m = k
  value_holds F f (Deref x p q) k m = m _
  value_holds F f (Operate x y p) k m = f _ _ _

module _ (ρ : Region) where
  -- every rule set asks for authority: of the slot that is assigned, or of the view
  covers : (rules : RuleSet) (v : Value) → is_write_view v ≡ true
      → (semantics rules ρ).value v → (semantics rules ρ).slot (viewed v) → Covers ρ (viewed v)
  unfolding semantics
  covers access_control v t p q = q
  covers capability v t p q = p t
  covers explicit_provenance v t p q = q
  covers full_provenance v t p q = q

  -- what each asks of what is written, and by which labels
  capable : (rules : RuleSet) (v : Value) → (is_write_view v ≡ true → (semantics rules ρ).value v) → rules ≡ capability
      → is_write_view v ≡ true → Covers ρ (viewed v)
  unfolding semantics
  capable rules v f e t = (rw e at (f t)) t

  explicit : (rules : RuleSet) (r : ℕ) (l l' pc : Label) → (semantics rules ρ).labels r l l' pc → rules ≡ explicit_provenance
      → Trusts ρ r (λ x. Above ρ l x × Above ρ l' x)
  unfolding semantics
  explicit rules r l l' pc p e = rw e at p

  full : (rules : RuleSet) (r : ℕ) (l l' pc : Label) → (semantics rules ρ).labels r l l' pc → rules ≡ full_provenance
      → Trusts ρ r (λ x. Above ρ l x × Above ρ l' x × Above ρ pc x)
  unfolding semantics
  full rules r l l' pc p e = rw e at p

-- F holds of every literal of the code that is left
module _ (F : Value → Type 0) where
  unfoldable CodeOf : Code → Type 0
  CodeOf done = Unit {0}
  CodeOf (c ⨾ k) = Literals F c × CodeOf k
  CodeOf (end⨾ k) = CodeOf k

  code_then : (cs : Cmds) (k : Code) → ExprsAll (LiteralsOf F) cs → CodeOf k → CodeOf (cs ⨾⨾ k)
  unfolding CodeOf ExprsAll ◌⨾⨾◌
  code_then nil k l q = q
  code_then (cons c cs) k l q = (l.0, code_then cs k l.1 q)

-- The run by the rules

module _ {c : Call} (g : Good c) (opens : Opens c.store g.opening) where
  abbrev m : ℕ
  m = g.opening.tables.slots

  abbrev first : Store
  first = g.opening.store

  abbrev Formed : Value → Type 0
  Formed v = well_formed m v ≡ true

  abbrev ρ : ℕ → Header → Region
  ρ = regions g.opening.tables g.rules

  abbrev Comes : Stage → Type 0
  Comes = Reaches g.opening g.rules g.blocks

  -- the blocks of a stage are the programme's, and what is left of the present one has well-formed literals
  unfoldable Sound : Stage → Type 0
  Sound (before i n H bs) = Placed (IsBlock m c.programme) i bs
  Sound (during i n h ⟨ H ∣ PC ∣ k ⟩ bs) =
      (i < k_of c.programme) × (h ≡ header_at c.programme i) × CodeOf Formed k × Placed (IsBlock m c.programme) (i + 1) bs

  -- the entries so far are steps by the rules, and their writes have led to the store
  pub record Told (H : Memory) : Type 0 where
    pub each : Each (ByRule g) [] first H.journal
    pub ends : H.store ≡ replayed H.journal first
    pub formed : Slots Formed H.store

  -- an assignment by the rules writes such an entry
  told : (i n : ℕ) (h : Header) (H : Memory) (pc : Label) (PC : List Label) (at : ℕ) (x y : Expr) (k : Code) (bs : List Block)
      (view v : Value) (l l' : Label)
      → Comes (during i n h ⟨ H ∣ pc ∷ PC ∣ cmd at (assign x y) ⨾ k ⟩ bs) → i < k_of c.programme → h ≡ header_at c.programme i
      → ρ i h ⊢⟨ H.store ∣ x ⟩⇓ view ^ l → is_write_view view ≡ true → Formed view → ρ i h ⊢⟨ H.store ∣ y ⟩⇓ v ^ l'
      → (asks (ρ i h)).slot (viewed view) → (asks (ρ i h)).labels (viewed view) l l' pc
      → ByRule g H.journal H.store (entry_of i at (record { slot = viewed view; value = v }) H.store)
  unfolding entry_of
  told i n h H pc PC at x y k bs view v l l' comes inside is p t f q a b =
      record {
        block_listed = inside;
        slot_listed = view_inside m view f (inr (eqb-true view.kind write_view t));
        steps = n;
        branch = pc;
        outer = PC;
        target = x;
        value = y;
        code = k;
        blocks = bs;
        comes = rw is at comes;
        view = view;
        target_label = l;
        value_label = l';
        views = rw is at p;
        writes = t;
        names = refl;
        gives = rw is at q;
        held = refl;
        slot_asked = rw is at a;
        labels_asked = rw is at b;
        authority = rw is at (covers (ρ i h) g.rules view t (view_asked p t) a);
        by_capability = rw is at (capable (ρ i h) g.rules v (view_asked q));
        by_explicit = rw is at (explicit (ρ i h) g.rules (viewed view) l l' pc b);
        by_full = rw is at (full (ρ i h) g.rules (viewed view) l l' pc b);
      }

  told_more : (H : Memory) (i at : ℕ) (x : Write) → Told H → Formed x.value → ByRule g H.journal H.store (entry_of i at x H.store)
      → Told (recorded i at x H)
  unfolding recorded entry_of replayed
  told_more H i at x z f p =
      let e = entry_of i at x H.store in
      record {
        each = each_more H.journal e z.each (rw (← z.ends) p);
        ends = ap (written x) z.ends ∙ sym (replayed_append H.journal (e ∷ []) first);
        formed = written_slots Formed x H.store f z.formed;
      }

  abbrev Inv : Stage → Type 0
  Inv P = Sound P × Told (memory (held P))

  step_tells : {P Q : Stage} → Comes P → ρ ⊩ P ⟹ Q → Inv P → Inv Q
  unfolding Sound CodeOf Exprs ExprsBody
  step_tells r Start (more is ps, z) = ((is.inside, is.header, (post_at _ _ _ _ (block_literals _ _) is.code, tt), ps), z)
  step_tells r (Prg_1_silent (Seq {cs = cs} {k = k})) (s, z) = ((s.0, s.1, code_then Formed cs k s.2.0 s.2.1, s.3), z)
  step_tells r (Prg_1_silent Seq_2) (s, z) = ((s.0, s.1, s.2.1, s.3), z)
  step_tells r (Prg_1_silent End) (s, z) = (s, z)
  step_tells r (Prg_1 (If x)) (s, z) = ((s.0, s.1, (s.2.0.1, s.2.1), s.3), z)
  step_tells r (Prg_1 (Else x)) (s, z) = ((s.0, s.1, (s.2.0.2, s.2.1), s.3), z)
  step_tells r (Prg_1 (While_1 x)) (s, z) = ((s.0, s.1, (s.2.0.1, s.2), s.3), z)
  step_tells r (Prg_1 (While_2 x)) (s, z) = ((s.0, s.1, s.2.1, s.3), z)
  step_tells r (Prg_1 (Assign {H = H} p t q a b)) (s, z) =
      let formed = gives_formed m in
      let views = value_holds Formed formed p s.2.0.0 z.formed in
      let given = value_holds Formed formed q s.2.0.1 z.formed in
      ((s.0, s.1, s.2.1, s.3), told_more H _ _ _ z given (told _ _ _ H _ _ _ _ _ _ _ _ _ _ _ r s.0 s.1 p t views q a b))
  step_tells r (Comp_2 e) (s, z) = (s.3, z)

  all_tell : {P Q : Stage} → ρ ⊩ P ⟹* Q → Comes P → Inv P → Inv Q
  all_tell here r z = z
  all_tell (after x xs) r z = all_tell xs (then_all r (after x here)) (step_tells r x z)

  pub run_tells : (s : State) → own_run g ≡ ok s → Told (memory s)
  unfolding Sound start replayed
  run_tells s e =
      (all_tell (((exactness g.opening g.rules g.blocks).finishes (limits_of c) s).1 e).0 here
      (blocks_placed c [] g, record { each = empty; ends = refl; formed = opens.formed })).1
