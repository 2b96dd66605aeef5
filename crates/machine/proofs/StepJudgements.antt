-- How guards, targets and assignments are judged (13, 14, 16), as the code finds it. Serves `judge`, `aim`, `permit` and `assign`. Assumes nothing.
use Prim.Native.Nat.{ℕ, ◌^◌, ◌<◌}
use mathlib.Core.Path.{◌≡◌, refl, sym, ap, ◌∙◌}
use mathlib.Core.Bool.{Bool, true, false, true≢false, false≢true}
use mathlib.Core.List.{List, [], ◌∷◌}
use native.Mathlib.Omega.{arith}
use lib.Dec.{eqb}
use lib.Bits.{bit_and}
use borrow.Author.Tests.{eq-eqb, ne_eqb, eqb-true}
use Rattle.lattice.specs.Tests.{◌and◌, ◌or◌, ◌implies◌}
use Rattle.lattice.specs.declared.Table.{Table}
use Rattle.lattice.specs.Order.{Label, bit}
use Rattle.lattice.proofs.OrderBits.{bit_of_and, bit_past}
use Rattle.values.specs.Result.{Result, ok, refuse, ◌>>=◌, require}
use Rattle.values.specs.Value.{truth, write_view, is_write_view}
use Rattle.values.proofs.Result.{Post, Any, post_ok, post_all, post_require, post_at, post_bind}
use Rattle.store.specs.Sheet.{owner_of, most_slots}
use Rattle.syntax.specs.Syntax.{Expr}
use Rattle.calculus.specs.Rules.{RuleSet, access_control, capability, explicit_provenance, full_provenance, labels_judged, all_above, labels_suffice}
use Rattle.calculus.proofs.RulesLabels.{by_owner, none_judged}
use Rattle.calculus.specs.Calculus.{Setting, Store, Labelled, authorised, reliable, eval, judge, permit, assignment}
use Rattle.machine.specs.Answers.{Got, Judging, judging_by, Making}
use Rattle.machine.specs.declared.rules.Terms.{Terms}
use Rattle.lattice.specs.HeldLabels.{LabelHeld}
use Rattle.machine.specs.MachineNumbers.{judges_labels, judges_branch, floor_held, Serves, ValueHeld, EvaluatedAs, JudgedAs, MadeAs}
use Rattle.machine.specs.CompiledExpressions.{aimed}
use Rattle.lattice.proofs.HeldLabels.{bit_held, bits_held}
use Rattle.machine.proofs.RuleTerms.{serves_regions, serves_labels}
use Rattle.machine.proofs.ViewAdmission.{in_region_law}
use Rattle.machine.proofs.LiteralReads.{gave, refused}

-- the labels that a rule set judges
module _ (x y b : Label) where
  labels_none : (r : RuleSet) → judges_labels r ≡ false → labels_judged r x y b ≡ []
  unfolding judges_labels labels_judged
  labels_none access_control h = refl
  labels_none capability h = refl
  labels_none explicit_provenance h = absurd (true≢false h)
  labels_none full_provenance h = absurd (true≢false h)

  labels_two : (r : RuleSet) → judges_labels r ≡ true → judges_branch r ≡ false → labels_judged r x y b ≡ x ∷ y ∷ []
  unfolding judges_labels judges_branch labels_judged
  labels_two access_control h k = absurd (false≢true h)
  labels_two capability h k = absurd (false≢true h)
  labels_two explicit_provenance h k = refl
  labels_two full_provenance h k = absurd (true≢false k)

  labels_three : (r : RuleSet) → judges_branch r ≡ true → labels_judged r x y b ≡ x ∷ y ∷ b ∷ []
  unfolding judges_branch labels_judged
  labels_three access_control k = absurd (false≢true k)
  labels_three capability k = absurd (false≢true k)
  labels_three explicit_provenance k = absurd (false≢true k)
  labels_three full_provenance k = refl

-- tests of two and of three labels, as one and as a list
all_two : (a b : Bool) → a and b ≡ a and (b and true)
unfolding ◌and◌
all_two true true = refl
all_two true false = refl
all_two false b = refl

all_three : (a b c : Bool) → a and b and c ≡ a and (b and (c and true))
unfolding ◌and◌
all_three true b c = all_two b c
all_three false b c = refl

-- who stands at or below the meet of two labels that are judged, and of three
module _ (t : Table) (r : RuleSet) (x y b : Label) (m n c : ℕ) (tx : LabelHeld t x m) (ly : LabelHeld t y n) (cb : LabelHeld t b c) (o : Label) where
  pub meet_two : judges_labels r ≡ true → judges_branch r ≡ false → bit (bit_and m n) o ≡ all_above t o (labels_judged r x y b)
  unfolding all_above
  meet_two p q = rw (labels_two x y b r p q) (bits_held t tx ly o ∙ all_two _ _)

  pub meet_three : judges_branch r ≡ true → bit (bit_and (bit_and m n) c) o ≡ all_above t o (labels_judged r x y b)
  unfolding all_above
  meet_three q = rw (labels_three x y b r q) (bit_of_and (bit_and m n) c o ∙ rw (bits_held t tx ly o, bit_held t cb o) (all_three _ _ _))

module _ (w : Setting) (terms : Terms) (masks : List ℕ) (h : Serves w terms masks) where
  -- refusal 16: no label is judged; else by the owner, or by the floor
  module _ (i : ℕ) (x y b : Label) where
    pub reliable_unjudged : terms.judges.labels ≡ false → true ≡ reliable w i (labels_judged w.rules x y b)
    unfolding reliable
    reliable_unjudged q = rw (labels_none x y b w.rules (sym (serves_labels h) ∙ q)) (sym (none_judged _ _ _))

    -- j is the meet, as a mask
    module _ (o j : ℕ) (q : owner_of w.tables i ≡ o) (is : (z : Label) → bit j z ≡ all_above w.tables.order z (labels_judged w.rules x y b)) where
      pub reliable_owner : bit j o ≡ true → true ≡ reliable w i (labels_judged w.rules x y b)
      unfolding reliable
      reliable_owner e = sym (by_owner _ _ _ _ (sym (is (owner_of w.tables i)) ∙ ap (bit j) q ∙ e))

      owner_low : bit j o ≡ false → all_above w.tables.order (owner_of w.tables i) (labels_judged w.rules x y b) ≡ false
      owner_low e = sym (is (owner_of w.tables i)) ∙ ap (bit j) q ∙ e

      -- the floor as it is held: the meet has the bit of an endorsed block's, and of no other
      held_floor : j < 2 ^ 32 → (n : Bool) (f : Label) → bit j (floor_held n f) ≡ n and all_above w.tables.order f (labels_judged w.rules x y b)
      unfolding floor_held ◌and◌
      held_floor l true f = is f
      held_floor l false f = bit_past 32 j 32 l (omega arith)

      pub reliable_floor : j < 2 ^ 32 → bit j o ≡ false → bit j terms.floor ≡ reliable w i (labels_judged w.rules x y b)
      unfolding reliable labels_suffice ◌or◌
      reliable_floor l e = rw (owner_low e) (ap (bit j) h.floor ∙ held_floor l w.header.endorsed w.header.floor)

  -- refusal 14: the region is not judged, it is
  module _ (i : ℕ) where
    pub region_unjudged : terms.judges.regions ≡ false → authorised w i ≡ true
    unfolding authorised ◌implies◌
    region_unjudged q = rw (sym (serves_regions h) ∙ q) refl

    pub region_judged : (o : ℕ) (b : Bool) → terms.judges.regions ≡ true → o ≡ owner_of w.tables i → b ≡ bit terms.region o
        → authorised w i ≡ b
    unfolding authorised ◌implies◌
    region_judged o b q u r = rw (sym (serves_regions h) ∙ q) (sym (in_region_law w terms masks h i o u) ∙ sym r)

-- an assignment whose target and value are known: the region lacks authority, the labels are too low, it is made
module _ (w : Setting) (x y : Labelled) (b : Label) (i : ℕ) (q : x.value.payload ≡ i) where
  pub permit_14 : authorised w i ≡ false → MadeAs w.tables (Making.Refused 14) (permit w b x y)
  unfolding permit require
  permit_14 n = rw (q, n) MadeAs.refuses

  pub permit_16 : authorised w i ≡ true → reliable w i (labels_judged w.rules x.label y.label b) ≡ false
      → MadeAs w.tables (Making.Refused 16) (permit w b x y)
  unfolding permit require
  permit_16 a n = rw (q, a, n) MadeAs.refuses

  pub permit_writes : i < most_slots → (k p l o : ℕ) → ValueHeld w.tables.order y k p l → owner_of w.tables i ≡ o
      → authorised w i ≡ true → reliable w i (labels_judged w.rules x.label y.label b) ≡ true
      → MadeAs w.tables (Making.Write i k p o) (permit w b x y)
  unfolding permit require
  permit_writes h k p l o s u a n = rw (q, a, n) (MadeAs.writes h s.formed refl s.kind s.payload u)

-- a guard: its expression is refused, its kind is wrong, it passes, it fails
module _ (w : Setting) (s : Store) (g : Expr) where
  pub judge_refused : {n : ℕ} → EvaluatedAs w.tables.order (Got.Refused n) (eval w s g)
      → JudgedAs w.tables.order (Judging.Refused n) (judge w s g)
  unfolding judge ◌>>=◌
  judge_refused a = rw (refused a) JudgedAs.refuses

  judged : (k p l : ℕ) (x : Labelled) → eval w s g ≡ ok x → ValueHeld w.tables.order x k p l → k ≡ truth
      → judge w s g ≡ ok (record { passes = eqb p 1; label = x.label })
  unfolding judge ◌>>=◌ require
  judged k p l x r h q = rw (r, h.kind, eq-eqb k truth q, h.payload) refl

  module _ {k p l : ℕ} (a : EvaluatedAs w.tables.order (Got.Value k p l) (eval w s g)) where
    pub judge_kind : (k ≡ truth → ⊥) → JudgedAs w.tables.order (Judging.Refused 13) (judge w s g)
    unfolding judge ◌>>=◌ require
    judge_kind ne = let d = gave a in rw (d.same, d.held.kind, ne_eqb k truth ne) JudgedAs.refuses

    -- it passes or fails by its payload
    by_payload : (b : Bool) → k ≡ truth → eqb p 1 ≡ b → JudgedAs w.tables.order (judging_by b l) (judge w s g)
    unfolding judging_by
    by_payload true q y =
        let d = gave a in rw (judged k p l d.answer d.same d.held q) (JudgedAs.passes y d.held.label)
    by_payload false q y =
        let d = gave a in rw (judged k p l d.answer d.same d.held q) (JudgedAs.fails y d.held.label)

    pub judge_truth : k ≡ truth → JudgedAs w.tables.order (judging_by (eqb p 1) l) (judge w s g)
    judge_truth q = by_payload (eqb p 1) q refl

-- a target: its expression is refused, it is no write view, it is one
module _ (w : Setting) (s : Store) (e : Expr) where
  pub aim_refused : {n : ℕ} → EvaluatedAs w.tables.order (Got.Refused n) (eval w s e) → EvaluatedAs w.tables.order (Got.Refused n) (aimed w s e)
  unfolding aimed ◌>>=◌
  aim_refused a = rw (refused a) EvaluatedAs.refuses

  aim_by : (k p l : ℕ) (x : Labelled) (b : Bool) → eval w s e ≡ ok x → ValueHeld w.tables.order x k p l
      → is_write_view (record { kind = k; payload = p }) ≡ b → aimed w s e ≡ require b 13 (ok x)
  unfolding aimed ◌>>=◌
  aim_by k p l x b r h q = rw (r, h.kind, q) refl

  module _ {k p l : ℕ} (a : EvaluatedAs w.tables.order (Got.Value k p l) (eval w s e)) where
    pub aim_kind : is_write_view (record { kind = k; payload = p }) ≡ false → EvaluatedAs w.tables.order (Got.Refused 13) (aimed w s e)
    unfolding require
    aim_kind q = let d = gave a in rw (aim_by k p l d.answer false d.same d.held q) EvaluatedAs.refuses

    pub aim_view : is_write_view (record { kind = k; payload = p }) ≡ true → EvaluatedAs w.tables.order (Got.Value k p l) (aimed w s e)
    unfolding require
    aim_view q = let d = gave a in rw (aim_by k p l d.answer true d.same d.held q) (EvaluatedAs.gives d.held)

  -- what is aimed at is a write view
  pub aimed_view : {k p l : ℕ} → EvaluatedAs w.tables.order (Got.Value k p l) (aimed w s e) → k ≡ write_view
  unfolding aimed
  aimed_view {k} a =
      let d = gave a in
      sym d.held.kind ∙ eqb-true d.answer.value.kind write_view (post_at Views Any _ d.answer views d.same)
    where
      Views : Labelled → Type 0
      Views x = is_write_view x.value ≡ true

      views : Post Views Any (aimed w s e)
      views =
          post_bind (λ x. Unit {0}) Views Any (eval w s e) _ (post_all _ _ (eval w s e) (λ x. tt) (λ n. tt))
          (λ x _. post_require Views Any _ 13 _ (λ q. post_ok Views Any x q) (λ _. tt))

-- an assignment: its target is refused; its value is refused; it is judged
module _ (w : Setting) (s : Store) (b : Label) (x y : Expr) where
  targeted : assignment w b s x y ≡ (aimed w s x >>= λ z. eval w s y >>= permit w b z)
  unfolding assignment aimed require ◌>>=◌
  targeted = go (eval w s x)
    where
      by : (z : Labelled) (t : Bool)
          → require t 13 (eval w s y >>= permit w b z) ≡ (require t 13 (ok z) >>= λ z. eval w s y >>= permit w b z)
      by z true = refl
      by z false = refl

      go : (r : Result ℕ Labelled) → (r >>= λ z. require (is_write_view z.value) 13 (eval w s y >>= permit w b z))
          ≡ (r >>= (λ z. require (is_write_view z.value) 13 (ok z)) >>= λ z. eval w s y >>= permit w b z)
      go (ok z) = by z (is_write_view z.value)
      go (refuse n) = refl

  pub assign_refused : {n : ℕ} → EvaluatedAs w.tables.order (Got.Refused n) (aimed w s x)
      → MadeAs w.tables (Making.Refused n) (assignment w b s x y)
  unfolding ◌>>=◌
  assign_refused a = rw (targeted, refused a) MadeAs.refuses

  module _ {k p l : ℕ} (a : EvaluatedAs w.tables.order (Got.Value k p l) (aimed w s x)) where
    pub assign_value_refused : {n : ℕ} → EvaluatedAs w.tables.order (Got.Refused n) (eval w s y)
        → MadeAs w.tables (Making.Refused n) (assignment w b s x y)
    unfolding ◌>>=◌
    assign_value_refused u = rw (targeted, (gave a).same, refused u) MadeAs.refuses

    pub assign_judged : {i j n : ℕ} (r : Making) → EvaluatedAs w.tables.order (Got.Value i j n) (eval w s y)
        → ((x' y' : Labelled) → x'.value.payload ≡ p → LabelHeld w.tables.order x'.label l
        → ValueHeld w.tables.order y' i j n → MadeAs w.tables r (permit w b x' y'))
        → MadeAs w.tables r (assignment w b s x y)
    unfolding ◌>>=◌
    assign_judged r u f =
        let d = gave a in
        let u' = gave u in
        rw (targeted, d.same, u'.same) (f d.answer u'.answer d.held.payload d.held.label u'.held)
