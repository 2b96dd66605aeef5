-- An expression that stands as operands evaluates as the expression does. By continuations: if evaluating on from the operand after it, with its value
-- in hand, comes to `k` of that value, evaluating from its first operand comes to the expression and then `k`. Assumes nothing.
use Prim.Native.Nat.{ℕ, zero, suc, ◌+◌, ◌%◌, ◌<◌, ◌≤◌}
use mathlib.Core.Path.{◌≡◌, refl, ap, ◌∙◌}
use mathlib.Core.Bool.{false}
use mathlib.Core.List.{List, [], ◌∷◌, ◌++◌}
use native.Mathlib.Numerals.{add-one}
use native.Mathlib.Omega.{arith}
use lib.ListN.{length}
use Rattle.values.specs.Result.{Result, ok, ◌>>=◌}
use Rattle.values.specs.declared.Value.{Value}
use Rattle.values.specs.Value.{is_write_view}
use Rattle.values.proofs.Result.{Post, Any, post_refuse, post_all, post_bind, bind_ok, bind_assoc}
use Rattle.syntax.specs.Syntax.{Op, Expr, literal, read, operation, LiteralsOf}
use Rattle.syntax.specs.Code.{most_nested}
use Rattle.syntax.specs.declared.Operand.{Operand}
use Rattle.syntax.specs.Rows.{more_come, postfix, Nests, most_operands}
use Rattle.syntax.proofs.RowsPostfix.{own, operation_length}
use Rattle.calculus.specs.Calculus.{Setting, Store, Labelled, fetch, operate, eval}
use Rattle.machine.specs.CompiledRuns.{Operands, OperandsAt, Formed, ExprAt}
use Rattle.machine.specs.CompiledExpressions.{LiteralAt, OperationAt, read_times, Evals, literals, operations, ends}
use Rattle.machine.proofs.LiteralReads.{times_refused}
use Rattle.machine.proofs.OperationAnswers.{no_read, no_view}
use Rattle.machine.proofs.CompiledOperands.{reads_in, AtLiteral, first_here}
use Rattle.machine.proofs.CompiledTables.{operand_head, operands_front, operands_rest}

abbrev Plain : Labelled → Type 0
Plain x = is_write_view x.value ≡ false

any : (r : Result ℕ Labelled) → Post Any Any r
any r = post_all Any Any r (λ x. tt) (λ e. tt)

module _ (w : Setting) (s : Store) (t : Operands) where
  -- one more read around what is read
  more_read : (n : ℕ) (e : Expr) → read_times w s (n + 1) (eval w s e) ≡ read_times w s n (eval w s (read e))
  unfolding read_times eval
  more_read n e = ap (λ (m : ℕ). read_times w s m (eval w s e)) (add-one n)

  -- reads around an operation are done once both its operands are known
  bind_times : (n : ℕ) (r : Result ℕ Labelled) (k : Labelled → Result ℕ Labelled) → read_times w s n (r >>= k) ≡ (r >>= λ x. read_times w s n (k x))
  unfolding read_times
  bind_times zero r k = refl
  bind_times (suc n) r k = ap (λ (q : Result ℕ Labelled). read_times w s n q) (bind_assoc r k (fetch w s)) ∙ bind_times n r (λ x. k x >>= fetch w s)

  -- an operation: its left operand is evaluated, then its right one
  first_part : (n : ℕ) (o : Op) (l r : Expr) (k : Labelled → Result ℕ Labelled)
      → (read_times w s n (eval w s (operation o l r)) >>= k)
      ≡ (read_times w s 0 (eval w s l) >>= λ x. read_times w s n (eval w s r >>= operate w o x) >>= k)
  unfolding eval read_times
  first_part n o l r k = rw (bind_times n (eval w s l) (λ x. eval w s r >>= operate w o x)) (bind_assoc _ _ _)

  second_part : (n : ℕ) (o : Op) (x : Labelled) (r : Expr) (k : Labelled → Result ℕ Labelled)
      → (read_times w s n (eval w s r >>= operate w o x) >>= k) ≡ (read_times w s 0 (eval w s r) >>= λ y. read_times w s n (operate w o x y) >>= k)
  unfolding read_times
  second_part n o x r k = rw (bind_times n (eval w s r) (operate w o x)) (bind_assoc _ _ _)

  -- an operation's operands: its left part's, its right part's, its own
  record Parts (o : ℕ) (op : Op) (l r : Expr) (reads : ℕ) : Type 0 where
    left : OperandsAt t o (postfix more_come l)
    right : OperandsAt t (o + length (postfix more_come l)) (postfix more_come r)
    own : OperationAt t (o + length (postfix more_come l) + length (postfix more_come r)) op reads

  parts : (o : ℕ) (op : Op) (l r : Expr) (reads : ℕ) → OperandsAt t o (postfix reads (operation op l r)) → Parts o op l r reads
  unfolding postfix
  parts o op l r reads h =
      let rest = operands_rest t o (postfix more_come l) (postfix more_come r ++ own op reads) h in
      record {
        left = operands_front t o (postfix more_come l) (postfix more_come r ++ own op reads) h;
        right = operands_front t _ (postfix more_come r) (own op reads) rest;
        own = operand_head t _ _ [] (operands_rest t _ (postfix more_come r) (own op reads) rest);
      }

  -- evaluating on from operand o, with a value in hand before the known ones, comes to k of it
  abbrev pub Reaches : ℕ → List Labelled → (Labelled → Result ℕ Labelled) → Type 0
  Reaches o xs k = (x : Labelled) → Evals w s t o (x ∷ xs) (k x)

  literal_at : (v : Value) (reads o : ℕ) → OperandsAt t o (postfix reads (literal v)) → Formed v → LiteralAt t o v reads
  unfolding postfix
  literal_at v reads o h f = record { is = operand_head t o _ [] h; formed = f }

  -- an expression that is an operation's operand: evaluating from its first operand on
  abbrev Evaluated : Expr → Type 0
  Evaluated e = (o deep : ℕ) (xs : List Labelled) (k : Labelled → Result ℕ Labelled) → OperandsAt t o (postfix more_come e) → Nests deep e
      → length xs + deep ≤ most_nested → Reaches (o + length (postfix more_come e)) xs k → Evals w s t o xs (read_times w s 0 (eval w s e) >>= k)

  -- both operands of an operation, where evaluating on from its own operand is shown
  both : (o : ℕ) (op : Op) (l r : Expr) (m reads deep : ℕ) (xs : List Labelled) (k : Labelled → Result ℕ Labelled) → Parts o op l r m
      → Evaluated l → Evaluated r → Nests deep l × Nests deep r → length xs + suc deep ≤ most_nested
      → ((x y : Labelled) → Evals w s t (o + length (postfix more_come l) + length (postfix more_come r)) (y ∷ x ∷ xs) (read_times w s reads (operate w op x y) >>= k))
      → Evals w s t o xs (read_times w s reads (eval w s (operation op l r)) >>= k)
  both o op l r m reads deep xs k p f g n d z =
      rw (first_part reads op l r k)
      (f o deep xs _ p.left n.0 (omega arith)
      (λ x. rw (second_part reads op x r k) (g _ deep (x ∷ xs) _ p.right n.1 (omega arith) (λ y. z x y))))

  evals : (e : Expr) (reads m o deep : ℕ) (xs : List Labelled) (k : Labelled → Result ℕ Labelled) → LiteralsOf Formed e → m ≡ more_come + reads
      → reads + deep ≤ most_nested → OperandsAt t o (postfix m e) → Nests deep e
      → length xs + deep ≤ most_nested → Reaches (o + length (postfix m e)) xs k → Evals w s t o xs (read_times w s reads (eval w s e) >>= k)
  unfolding LiteralsOf Nests postfix
  evals (literal v) reads m o deep xs k f e i h n d z =
      literals {xs = xs} v reads k (rw e at (literal_at v m o h f)) (omega arith) (omega arith) refl z
  evals (read g) reads m o zero xs k f e i h n d z = absurd n
  evals (read g) reads m o (suc deep) xs k f e i h n d z =
      rw (← more_read reads g) (evals g (reads + 1) (m + 1) o deep xs k f (omega arith) (omega arith) h n (omega arith) z)
  evals (operation op l r) reads m o zero xs k f e i h n d z = absurd n
  evals (operation op l r) reads m o (suc deep) xs k f e i h n d z =
      let j : o + length (postfix m (operation op l r)) ≡ o + length (postfix more_come l) + length (postfix more_come r) + 1 =
      omega (arith, operation_length op l r m) in
      let p = parts o op l r m h in
      both o op l r m reads deep xs k p
      (λ o d ys k h n b z. evals l 0 more_come o d ys k f.0 refl (omega arith) h n b z)
      (λ o d ys k h n b z. evals r 0 more_come o d ys k f.1 refl (omega arith) h n b z) n d
      (λ x y. operations {xs = xs} op reads x y k (rw e at p.own) (omega arith) refl (λ v. rw j at (z v)))

  evaluated : (e : Expr) → LiteralsOf Formed e → Evaluated e
  evaluated e f o deep xs k h n d z = evals e 0 more_come o deep xs k f refl (omega arith) h n d z

  -- an expression with operations gives no view
  plain_times : (n : ℕ) (o : Op) (x y : Labelled) → Post Plain Any (read_times w s n (operate w o x y))
  unfolding read_times
  plain_times zero o x y = no_view w o x y
  plain_times (suc n) o x y = rw (no_read w o x y s, times_refused w s n 13) (post_refuse Plain Any 13 tt)

  plain : (n : ℕ) (o : Op) (l r : Expr) → Post Plain Any (read_times w s n (eval w s (operation o l r)))
  unfolding eval
  plain n o l r =
      rw (bind_times n (eval w s l) (λ x. eval w s r >>= operate w o x))
      (post_bind Any Plain Any (eval w s l) _ (any _) (λ x _.
      rw (bind_times n (eval w s r) (operate w o x)) (post_bind Any Plain Any (eval w s r) _ (any _) (λ y _. plain_times n o x y))))

  -- Where an expression starts: it is one literal with its reads; or its first operand is a literal, and evaluating goes on from the next one.
  pub data Starts (o : ℕ) (whole : Result ℕ Labelled) : Type 0 where
    only : (v : Value) (reads : ℕ) → LiteralAt t o v reads → reads ≤ most_nested → whole ≡ read_times w s reads (eval w s (literal v)) → Starts o whole
    more : AtLiteral w s t o [] whole → Post Plain Any whole → Starts o whole

  starts : (e : Expr) (reads o deep : ℕ) → LiteralsOf Formed e → OperandsAt t o (postfix reads e) → Nests deep e → reads + deep ≤ most_nested
      → Starts o (read_times w s reads (eval w s e))
  unfolding LiteralsOf Nests postfix
  starts (literal v) reads o deep f h n d = only v reads (literal_at v reads o h f) (omega arith) refl
  starts (read e) reads o zero f h n d = absurd n
  starts (read e) reads o (suc deep) f h n d = rw (← more_read reads e) (starts e (reads + 1) o deep f h n (omega arith))
  starts (operation op l r) reads o zero f h n d = absurd n
  starts (operation op l r) reads o (suc deep) f h n d =
      let p = parts o op l r reads h in
      more (first_here w s t
      (rw (← bind_ok (read_times w s reads (eval w s (operation op l r))))
      (both o op l r reads reads deep [] (λ v. ok v) p (evaluated l f.0) (evaluated r f.1) n (omega arith)
      (λ x y. ends op reads x y p.own (omega arith) (bind_ok _))))) (plain reads op l r)

  pub expr_starts : (o : ℕ) (e : Expr) → ExprAt t o e → Starts o (eval w s e)
  unfolding read_times
  expr_starts o e h = starts e 0 o most_nested h.sound.formed h.stands h.sound.nests (omega arith)

  pub starts_inside : {o : ℕ} {whole : Result ℕ Labelled} → Starts o whole → o < most_operands
  starts_inside (only v reads l m e) = l.is.inside
  starts_inside (more a p) = a.is.is.inside

  pub record Only (o : ℕ) (whole : Result ℕ Labelled) : Type 0 where
    pub value : Value
    pub reads : ℕ
    pub is : LiteralAt t o value reads
    pub same : whole ≡ read_times w s (reads % more_come) (eval w s (literal value))

  -- by the reads of its first operand: one literal, and what is read through it; or more
  pub only_here : {o : ℕ} {whole : Result ℕ Labelled} → Starts o whole → reads_in t o < more_come → Only o whole
  only_here (only v reads l m e) h =
      let q : reads % more_come ≡ reads = omega arith in record { value = v; reads = reads; is = l; same = rw (← q) at e }
  only_here (more a p) h = absurd (omega (arith, ap (λ (r : Operand). r.reads) a.is.is.same))

  pub more_here : {o : ℕ} {whole : Result ℕ Labelled} → Starts o whole → more_come ≤ reads_in t o → AtLiteral w s t o [] whole × Post Plain Any whole
  more_here (only v reads l m e) h = absurd (omega (arith, ap (λ (r : Operand). r.reads) l.is.same))
  more_here (more a p) h = (a, p)
