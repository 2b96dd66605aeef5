-- What the functions of slots, expressions and steps ensure, one relation each, for every setting and store behind their numbers. Assumes nothing.
use Rattle.std.specs.Prelude.{ℕ, ◌+◌, ◌%◌, ◌^◌, ◌≤◌, ◌<◌, ◌≡◌, Bool, true, List, [], ◌∷◌, get_or}
use Rattle.lattice.specs.declared.Table.{Table}
use Rattle.lattice.specs.Order.{Label, bit}
use Rattle.values.specs.Result.{Result}
use Rattle.values.specs.declared.Value.{Value}
use Rattle.values.specs.Value.{well_formed, empty_slot}
use Rattle.store.specs.Sheet.{Tables, owner_of, most_slots}
use Rattle.store.specs.declared.HeldSlot.{HeldSlot}
use Rattle.store.specs.HeldStore.{row_of, empty_row}
use Rattle.syntax.specs.Syntax.{Op, Expr, literal}
use Rattle.syntax.specs.Rows.{more_come, no_operand, byte_of}
use Rattle.calculus.specs.Rules.{RuleSet, labels_judged, all_above}
use Rattle.calculus.specs.Calculus.{Setting, Store, Labelled, Write, may_hold, eval, judge, permit, assignment, reliable, written}
use Rattle.machine.specs.declared.rules.Terms.{Terms}
use Rattle.machine.specs.declared.slots.Grounds.{Grounds as HeldGrounds}
use Rattle.machine.specs.Answers.{Got, Judging, Making}
use Rattle.lattice.specs.HeldLabels.{LabelHeld}
use Rattle.machine.specs.MachineNumbers.{judges_labels, judges_branch, Serves, StoreHeld, ValueHeld, EvaluatedAs, JudgedAs, MadeAs}
use Rattle.machine.specs.CompiledRuns.{Operands, ExprAt}
use Rattle.machine.specs.CompiledExpressions.{LiteralAt, read_times, got_operated, aimed, Evals}

-- What is judged by: the terms, the masks and the held store
pub record Grounds : Type 0 where
  pub terms : Terms
  pub masks : List ℕ
  pub store : List HeldSlot

abbrev pub grounds : Terms → List ℕ → List HeldSlot → Grounds
grounds terms masks store = record { terms = terms; masks = masks; store = store }

-- as the code holds them
abbrev pub grounds_of : HeldGrounds → Grounds
grounds_of g = grounds g.terms.now g.masks.now g.held.now

-- a setting and a store stand behind them
pub record Behind (g : Grounds) (w : Setting) (s : Store) : Type 0 where
  pub serves : Serves w g.terms g.masks
  pub held : StoreHeld w.tables s g.store

-- some do
pub record CanJudge (g : Grounds) : Type 0 where
  pub setting : Setting
  pub store : Store
  pub behind : Behind g setting store

-- an expression stands from operand o on
pub record SomeExpr (t : Operands) (o : ℕ) : Type 0 where
  pub expr : Expr
  pub is : ExprAt t o expr

-- it has operations: more operands come after the first
pub record SomeOperation (t : Operands) (o : ℕ) : Type 0 where
  pub some : SomeExpr t o
  pub more : more_come ≤ (get_or t o no_operand).reads

-- a slot's row is read
abbrev pub RowRead : List HeldSlot → ℕ → HeldSlot → Type 0
RowRead held slot r = (w : Tables) (s : Store) → StoreHeld w s held → r ≡ row_of (get_or s slot empty_slot) (owner_of w slot)

-- rule 1's test of a value
abbrev pub Admits : Grounds → ℕ → ℕ → Bool → Type 0
Admits g kind payload r = (w : Setting) (s : Store) → Behind g w s → r ≡ may_hold w (record { kind = kind; payload = payload })

-- a literal is evaluated through the reads around it
pub record SomeLiteral (t : Operands) (o : ℕ) : Type 0 where
  pub value : Value
  pub reads : ℕ
  pub is : LiteralAt t o value reads

abbrev pub ReadsThrough : Grounds → Operands → ℕ → Got → Type 0
ReadsThrough g t o r =
    (w : Setting) (s : Store) (v : Value) (reads : ℕ) → Behind g w s → LiteralAt t o v reads
    → EvaluatedAs w.tables.order r (read_times w s (reads % more_come) (eval w s (literal v)))

-- an operation on two values, by its first byte; their labels have been met: "The label is the meet of both labels." (document 02, N5)
abbrev pub Operates : ℕ → ℕ → ℕ → ℕ → ℕ → ℕ → Got → Type 0
Operates byte kind payload kind' payload' label r =
    (o : Op) → byte_of o ≡ byte → r ≡ got_operated o (record { kind = kind; payload = payload }) (record { kind = kind'; payload = payload' }) label

-- the rest of an expression, from operand o on, once the value of its first literal is known
pub record CanFold (g : Grounds) (t : Operands) (o kind payload label : ℕ) : Type 0 where
  pub setting : Setting
  pub store : Store
  pub value : Labelled
  pub whole : Result ℕ Labelled
  pub behind : Behind g setting store
  pub held : ValueHeld setting.tables.order value kind payload label
  pub evals : Evals setting store t o (value ∷ []) whole

abbrev pub Folds : Grounds → Operands → ℕ → ℕ → ℕ → ℕ → Got → Type 0
Folds g t o kind payload label r =
    (w : Setting) (s : Store) (x : Labelled) (whole : Result ℕ Labelled) → Behind g w s → ValueHeld w.tables.order x kind payload label
    → Evals w s t o (x ∷ []) whole → EvaluatedAs w.tables.order r whole

-- an expression is evaluated
abbrev pub Evaluates : Grounds → Operands → ℕ → Got → Type 0
Evaluates g t o r = (w : Setting) (s : Store) (e : Expr) → Behind g w s → ExprAt t o e → EvaluatedAs w.tables.order r (eval w s e)

-- an assignment's target is
abbrev pub Aims : Grounds → Operands → ℕ → Got → Type 0
Aims g t o r = (w : Setting) (s : Store) (e : Expr) → Behind g w s → ExprAt t o e → EvaluatedAs w.tables.order r (aimed w s e)

-- a guard is judged
abbrev pub JudgesGuard : Grounds → Operands → ℕ → Judging → Type 0
JudgesGuard g t o r = (w : Setting) (s : Store) (e : Expr) → Behind g w s → ExprAt t o e → JudgedAs w.tables.order r (judge w s e)

-- the meet of the labels that are judged, as a mask: who stands at or below it
abbrev pub MeetsJudged : Bool → ℕ → ℕ → ℕ → ℕ → Type 0
MeetsJudged branches target value branch r =
    (t : Table) (rules : RuleSet) (x y b : Label) → judges_labels rules ≡ true → branches ≡ judges_branch rules
    → LabelHeld t x target → LabelHeld t y value → LabelHeld t b branch
    → (o : Label) → bit r o ≡ all_above t o (labels_judged rules x y b)

-- refusal 16's test
abbrev pub Relies : Terms → ℕ → ℕ → ℕ → ℕ → Bool → Type 0
Relies terms owner target value branch r =
    (w : Setting) (masks : List ℕ) (i : ℕ) (x y b : Label) → Serves w terms masks → owner_of w.tables i ≡ owner
    → LabelHeld w.tables.order x target → LabelHeld w.tables.order y value → LabelHeld w.tables.order b branch
    → r ≡ reliable w i (labels_judged w.rules x y b)

-- an assignment to a slot is judged: of a value with its label, under the labels of target and branch
abbrev pub Permits : Grounds → ℕ → ℕ → ℕ → ℕ → ℕ → ℕ → Making → Type 0
Permits g slot target kind payload value branch r =
    (w : Setting) (s : Store) (x y : Labelled) (b : Label) → Behind g w s → x.value.payload ≡ slot → LabelHeld w.tables.order x.label target
    → ValueHeld w.tables.order y kind payload value → LabelHeld w.tables.order b branch → MadeAs w.tables r (permit w b x y)

-- an assignment is judged, from its operands on
abbrev pub JudgesAssignment : Grounds → Operands → ℕ → ℕ → ℕ → Making → Type 0
JudgesAssignment g t target value branch r =
    (w : Setting) (s : Store) (x y : Expr) (b : Label) → Behind g w s → ExprAt t target x → ExprAt t value y → LabelHeld w.tables.order b branch
    → MadeAs w.tables r (assignment w b s x y)

-- a slot's count can be raised
abbrev pub FewWrites : List HeldSlot → ℕ → Type 0
FewWrites held slot = (get_or held slot empty_row).writes + 1 < 2 ^ 64

-- a write is put into its slot's row
abbrev pub PutsWrite : List HeldSlot → List HeldSlot → ℕ → ℕ → ℕ → ℕ → Type 0
PutsWrite held held' slot kind payload owner =
    (w : Tables) (s : Store) (x : Write) → StoreHeld w s held → well_formed most_slots x.value ≡ true → x.slot ≡ slot → x.value.kind ≡ kind
    → x.value.payload ≡ payload → owner_of w slot ≡ owner → StoreHeld w (written x s) held'
