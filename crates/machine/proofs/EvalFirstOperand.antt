-- An expression from its first operand on, one literal or operations. Serves `eval`, `eval_operations` and `aim`. Assumes nothing.
use Prim.Native.Nat.{ℕ, ◌+◌, ◌<◌, ◌≤◌}
use mathlib.Core.Path.{◌≡◌}
use mathlib.Core.Bool.{false}
use mathlib.Core.List.{[], ◌∷◌}
use native.Mathlib.Omega.{arith}
use lib.Bits.{bit_and}
use Rattle.values.specs.Result.{Result}
use Rattle.values.specs.Value.{is_write_view}
use Rattle.values.proofs.Result.{Any, post_at}
use Rattle.syntax.specs.Syntax.{Expr}
use Rattle.syntax.specs.Rows.{more_come, most_operands}
use Rattle.calculus.specs.Calculus.{Setting, Store, Labelled, eval}
use Rattle.machine.specs.declared.expressions.Labelled.{Labelled as Value}
use Rattle.machine.specs.Answers.{Got}
use Rattle.machine.proofs.FoldStack.{HeldAs}
use Rattle.machine.proofs.FoldLoop.{value_got}
use Rattle.machine.specs.CompiledRuns.{Operands, ExprAt}
use Rattle.machine.specs.CompiledExpressions.{Evals}
use Rattle.machine.specs.MachineContracts.{Grounds, Behind, CanJudge, SomeExpr, SomeLiteral, ReadsThrough, Operates, CanFold, Folds, Evaluates, Aims}
use Rattle.machine.proofs.LiteralReads.{gave}
use Rattle.machine.proofs.StepJudgements.{aim_kind}
use Rattle.machine.proofs.CompiledOperands.{kind_in, reads_in, inside_here, AtLiteral, second_here, read_as, literal_refused, literal_comes, AtOperation, last_here, done_as, operation_ends}
use Rattle.machine.proofs.CompiledExpressions.{starts_inside, Only, only_here, more_here, expr_starts}

-- the first operand is among those that there are
pub first_inside : {g : Grounds} {t : Operands} {o : ℕ} → CanJudge g → SomeExpr t o → o < most_operands
first_inside {t = t} {o = o} j x =
    let w = j.setting in
    let s = j.store in
    starts_inside w s t (expr_starts w s t o x.expr x.is)

-- One literal
module _ {t : Operands} {o : ℕ} (m : reads_in t o < more_come) where
  at_only : (w : Setting) (s : Store) (e : Expr) → ExprAt t o e → Only w s t o (eval w s e)
  at_only w s e h = only_here w s t (expr_starts w s t o e h) m

  pub some_only : {g : Grounds} → CanJudge g → SomeExpr t o → SomeLiteral t o
  some_only j x = let a = at_only j.setting j.store x.expr x.is in record { value = a.value; reads = a.reads; is = a.is }

  pub only_read : {g : Grounds} (r : Got) → ReadsThrough g t o r → Evaluates g t o r
  only_read r f w s e b h = let a = at_only w s e h in rw a.same (f w s a.value a.reads b a.is)

-- Operations
module _ {t : Operands} {o : ℕ} (m : more_come ≤ reads_in t o) where
  at_first : (w : Setting) (s : Store) (e : Expr) → ExprAt t o e → AtLiteral w s t o [] (eval w s e)
  at_first w s e h = (more_here w s t (expr_starts w s t o e h) m).0

  -- no operation gives a view
  pub no_aim : {g : Grounds} {k p l : ℕ} → Evaluates g t o (Got.Value k p l) → Aims g t o (Got.Refused 13)
  no_aim f w s e b h =
      let v = f w s e b h in
      let d = gave v in
      let p = post_at (λ y. is_write_view y.value ≡ false) Any _ d.answer (more_here w s t (expr_starts w s t o e h) m).1 d.same in
      aim_kind w s e v (rw d.held.kind at p)

  pub some_first : {g : Grounds} → CanJudge g → SomeExpr t o → SomeLiteral t o
  some_first j x =
      let a = at_first j.setting j.store x.expr x.is in record { value = a.value; reads = more_come + a.reads; is = a.is }

  pub first_refused : {g : Grounds} {n : ℕ} → ReadsThrough g t o (Got.Refused n) → Evaluates g t o (Got.Refused n)
  first_refused {n = n} f w s e b h = let a = at_first w s e h in literal_refused w s t a (read_as w s t (Got.Refused n) a b f)

  -- the first value is known
  module _ {g : Grounds} (x : Value) (f : ReadsThrough g t o (value_got x)) where
    record Come (w : Setting) (s : Store) (whole : Result ℕ Labelled) : Type 0 where
      value : Labelled
      held : HeldAs w.tables.order value x
      evals : Evals w s t (o + 1) (value ∷ []) whole

    come : (w : Setting) (s : Store) (e : Expr) → Behind g w s → ExprAt t o e → Come w s (eval w s e)
    come w s e b h =
        let a = at_first w s e h in
        let c = literal_comes w s t a (read_as w s t (value_got x) a b f) in
        record { value = c.value; held = c.held; evals = c.evals }

    at_second : {w : Setting} {s : Store} {whole : Result ℕ Labelled} → (c : Come w s whole) → AtLiteral w s t (o + 1) (c.value ∷ []) whole
    at_second {w} {s} c = second_here w s t c.evals

    module _ (j : CanJudge g) (u : SomeExpr t o) where
      caller : Come j.setting j.store (eval j.setting j.store u.expr)
      caller = come j.setting j.store u.expr j.behind u.is

      pub some_second : SomeLiteral t (o + 1)
      some_second = let a = at_second caller in record { value = a.value; reads = more_come + a.reads; is = a.is }

      pub third_inside : o + 2 < most_operands
      third_inside = omega (arith, inside_here j.setting j.store t ((at_second caller).next caller.value))

      pub can_fold : CanFold g t (o + 1) x.kind x.payload x.label
      can_fold =
          record {
            setting = j.setting;
            store = j.store;
            value = caller.value;
            whole = eval j.setting j.store u.expr;
            behind = j.behind;
            held = caller.held;
            evals = caller.evals;
          }

    pub folded : (r : Got) → Folds g t (o + 1) x.kind x.payload x.label r → Evaluates g t o r
    folded r k w s e b h = let c = come w s e b h in k w s c.value (eval w s e) b c.held c.evals

    -- the second value, and an operation on both that ends the expression
    pub second_refused : {n : ℕ} → ReadsThrough g t (o + 1) (Got.Refused n) → Evaluates g t o (Got.Refused n)
    second_refused {n} f' w s e b h =
        let a = at_second (come w s e b h) in literal_refused w s t a (read_as w s t (Got.Refused n) a b f')

    pub pair_done : (y : Value) → ReadsThrough g t (o + 1) (value_got y) → reads_in t (o + 2) ≡ 0 → (r : Got)
        → Operates (kind_in t (o + 2)) x.kind x.payload y.kind y.payload (bit_and x.label y.label) r
        → Evaluates g t o r
    pair_done y f' q r k w s e b h =
        let c = come w s e b h in
        let a = at_second c in
        let d = literal_comes w s t a (read_as w s t (value_got y) a b f') in
        let i : o + 1 + 1 ≡ o + 2 = omega arith in
        let l : AtOperation w s t (o + 2) d.value (c.value ∷ []) (eval w s e) = last_here w s t (rw i at d.evals) (omega arith) in
        let v : c.value ≡ l.left = cc in
        operation_ends w s t l r (done_as w s t r l b (rw v at c.held) d.held k) q
