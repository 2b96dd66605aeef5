-- An expression's next operand in the tables (`Evals`), a literal or an operation, and what it makes of the values known. Assumes nothing.
use Prim.Native.Nat.{ℕ, ◌+◌, ◌-◌, ◌%◌, ◌<◌, ◌≤◌}
use mathlib.Core.Path.{◌≡◌, refl, sym, ap, ◌∙◌}
use mathlib.Core.Bool.{false≢true}
use mathlib.Core.List.{List, [], ◌∷◌}
use native.Mathlib.Omega.{arith}
use lib.ListN.{length, get_or}
use lib.Bits.{bit_and}
use borrow.Author.Tests.{ne_eqb}
use Rattle.lattice.specs.Tests.{◌and◌, ◌or◌}
use Rattle.values.specs.Result.{Result, ok, refuse, ◌>>=◌}
use Rattle.values.specs.declared.Value.{Value}
use Rattle.values.specs.Value.{integer, truth, read_view, write_view, kinds, well_formed}
use Rattle.syntax.specs.Syntax.{Op, sum, difference, less, equal, literal}
use Rattle.syntax.specs.Code.{most_nested}
use Rattle.syntax.specs.declared.Operand.{Operand}
use Rattle.syntax.specs.Rows.{more_come, no_operand, byte_of, most_operands}
use Rattle.calculus.specs.Calculus.{Setting, Store, Labelled, fetch, operate, eval}
use Rattle.machine.specs.Answers.{Got}
use Rattle.machine.specs.MachineNumbers.{ValueHeld, EvaluatedAs}
use Rattle.machine.specs.CompiledRuns.{Operands, Formed}
use Rattle.machine.specs.CompiledExpressions.{LiteralAt, OperationAt, read_times, Evals, literals, operations, ends}
use Rattle.machine.specs.MachineContracts.{Grounds, Behind, ReadsThrough, Operates}
use Rattle.machine.proofs.LiteralReads.{gave, refused, times_none, times_one, times_refused}
use Rattle.machine.proofs.OperationAnswers.{no_read, operated_as}

-- what operand o says
abbrev pub kind_in : Operands → ℕ → ℕ
kind_in t o = (get_or t o no_operand).kind

abbrev pub reads_in : Operands → ℕ → ℕ
reads_in t o = (get_or t o no_operand).reads

-- the kind of an operand tells literals from operations
byte_high : (o : Op) → kinds ≤ byte_of o
unfolding byte_of
byte_high sum = omega arith
byte_high difference = omega arith
byte_high less = omega arith
byte_high equal = omega arith

formed_low : (v : Value) → Formed v → kinds ≤ v.kind → ⊥
unfolding well_formed ◌or◌ ◌and◌
formed_low v f h =
    false≢true
    (rw (
      ne_eqb v.kind integer (λ e. omega arith),
      ne_eqb v.kind truth (λ e. omega arith),
      ne_eqb v.kind read_view (λ e. omega arith),
      ne_eqb v.kind write_view (λ e. omega arith),
    ) at f)

module _ (w : Setting) (s : Store) (t : Operands) where
  -- the next operand is a literal
  pub record AtLiteral (o : ℕ) (xs : List Labelled) (whole : Result ℕ Labelled) : Type 0 where
    pub value : Value
    pub reads : ℕ
    pub rest : Labelled → Result ℕ Labelled
    pub is : LiteralAt t o value (more_come + reads)
    pub few : reads ≤ most_nested
    pub room : length xs ≤ most_nested
    pub same : whole ≡ (read_times w s reads (eval w s (literal value)) >>= rest)
    pub next : (x : Labelled) → Evals w s t (o + 1) (x ∷ xs) (rest x)

  -- what comes after an operation whose answer is r, by the reads of its operand: the expression ends, or it goes on
  pub data After (o : ℕ) (r : Result ℕ Labelled) : ℕ → List Labelled → Result ℕ Labelled → Type 0 where
    stops : {reads : ℕ} {whole : Result ℕ Labelled} → reads ≤ most_nested → whole ≡ read_times w s reads r → After o r reads [] whole
    goes : {n reads : ℕ} {xs : List Labelled} {whole : Result ℕ Labelled} (k : Labelled → Result ℕ Labelled) → n ≡ more_come + reads → reads ≤ most_nested → whole ≡ (read_times w s reads r >>= k)
        → ((z : Labelled) → Evals w s t (o + 1) (z ∷ xs) (k z)) → After o r n xs whole

  -- it is an operation, of the last of the values that wait and the one in hand
  pub record AtOperation (o : ℕ) (y : Labelled) (ys : List Labelled) (whole : Result ℕ Labelled) : Type 0 where
    pub op : Op
    pub reads : ℕ
    pub left : Labelled
    pub rest : List Labelled
    pub is : OperationAt t o op reads
    pub known : ys ≡ left ∷ rest
    pub after : After o (operate w op left y) reads rest whole

  -- an operand that comes is among those that there are
  pub inside_here : {o : ℕ} {xs : List Labelled} {whole : Result ℕ Labelled} → Evals w s t o xs whole → o < most_operands
  inside_here (literals v reads k l m n e z) = l.is.inside
  inside_here (operations op reads x y k l m e z) = l.inside
  inside_here (ends op reads x y l m e) = l.inside

  pub literal_here : {o : ℕ} {xs : List Labelled} {whole : Result ℕ Labelled} → Evals w s t o xs whole → kind_in t o < kinds → AtLiteral o xs whole
  literal_here (literals v reads k l m n e z) h =
      record { value = v; reads = reads; rest = k; is = l; few = m; room = n; same = e; next = z }
  literal_here (operations op reads x y k l m e z) h = absurd (omega (arith, ap (λ (r : Operand). r.kind) l.same, byte_high op))
  literal_here (ends op reads x y l m e) h = absurd (omega (arith, ap (λ (r : Operand). r.kind) l.same, byte_high op))

  -- where no value is known or one, no operation can come
  pub first_here : {o : ℕ} {whole : Result ℕ Labelled} → Evals w s t o [] whole → AtLiteral o [] whole
  first_here (literals v reads k l m n e z) = record { value = v; reads = reads; rest = k; is = l; few = m; room = n; same = e; next = z }

  pub second_here : {o : ℕ} {x : Labelled} {whole : Result ℕ Labelled} → Evals w s t o (x ∷ []) whole → AtLiteral o (x ∷ []) whole
  second_here (literals v reads k l m n e z) = record { value = v; reads = reads; rest = k; is = l; few = m; room = n; same = e; next = z }

  pub operation_here : {o : ℕ} {y : Labelled} {ys : List Labelled} {whole : Result ℕ Labelled} → Evals w s t o (y ∷ ys) whole → kinds ≤ kind_in t o
      → AtOperation o y ys whole
  operation_here (literals v reads k l m n e z) h =
      absurd (formed_low v l.formed (omega (arith, ap (λ (r : Operand). r.kind) l.is.same)))
  operation_here (operations {xs = xs} op reads x y k l m e z) h =
      record { op = op; reads = more_come + reads; left = x; rest = xs; is = l; known = refl; after = After.goes k refl m e z }
  operation_here (ends op reads x y l m e) h =
      record { op = op; reads = reads; left = x; rest = []; is = l; known = refl; after = After.stops m e }

  -- the last operand is an operation
  pub last_here : {o : ℕ} {y : Labelled} {ys : List Labelled} {whole : Result ℕ Labelled} → Evals w s t o (y ∷ ys) whole → reads_in t o < more_come
      → AtOperation o y ys whole
  last_here (literals v reads k l m n e z) h = absurd (omega (arith, ap (λ (r : Operand). r.reads) l.is.same))
  last_here (operations op reads x y k l m e z) h = absurd (omega (arith, ap (λ (r : Operand). r.reads) l.same))
  last_here (ends op reads x y l m e) h =
      record { op = op; reads = reads; left = x; rest = []; is = l; known = refl; after = After.stops m e }

  -- What an operation's answer makes of the whole: a refusal is the whole's; a read of it is refused; it is the whole; or evaluating goes on with it.
  times_13 : (n : ℕ) (r : Result ℕ Labelled) → (n ≡ 0 → ⊥) → (r >>= fetch w s) ≡ refuse 13 → read_times w s n r ≡ refuse 13
  times_13 n r h q = rw (times_one w s n r (omega (arith, h)), q) (times_refused w s (n - 1) 13)

  after_refused : {o : ℕ} {r : Result ℕ Labelled} {reads n : ℕ} {xs : List Labelled} {whole : Result ℕ Labelled} → After o r reads xs whole → r ≡ refuse n
      → whole ≡ refuse n
  unfolding ◌>>=◌
  after_refused {n = n} (After.stops {reads = reads} m e) q = rw (q, times_refused w s reads n) at e
  after_refused {n = n} (After.goes {reads = reads} k i m e z) q = rw (q, times_refused w s reads n) at e

  after_read : {o : ℕ} {r : Result ℕ Labelled} {reads : ℕ} {xs : List Labelled} {whole : Result ℕ Labelled} → After o r reads xs whole
      → (reads ≡ 0 → ⊥) → (reads ≡ more_come → ⊥) → (r >>= fetch w s) ≡ refuse 13 → whole ≡ refuse 13
  unfolding ◌>>=◌
  after_read {r = r} (After.stops {reads = reads} m e) f g q = rw (times_13 reads r f q) at e
  after_read {r = r} (After.goes {reads = reads} k i m e z) f g q = rw (times_13 reads r (λ j. g (omega arith)) q) at e

  after_last : {o : ℕ} {r : Result ℕ Labelled} {reads : ℕ} {xs : List Labelled} {whole : Result ℕ Labelled} → After o r reads xs whole → reads ≡ 0 → whole ≡ r
  after_last {r = r} (After.stops {reads = reads} m e) q = e ∙ times_none w s reads r q
  after_last (After.goes k i m e z) q = absurd (omega arith)

  after_more : {o : ℕ} {r : Result ℕ Labelled} {reads : ℕ} {xs : List Labelled} {whole : Result ℕ Labelled} {z : Labelled} → After o r reads xs whole
      → reads ≡ more_come → r ≡ ok z → Evals w s t (o + 1) (z ∷ xs) whole
  unfolding ◌>>=◌
  after_more (After.stops m e) n q = absurd (omega arith)
  after_more {r = r} {z = z} (After.goes {reads = reads} k i m e f) n q = rw (rw (times_none w s reads r (omega arith), q) at e) (f z)

  -- what the code reads through a literal, and what it makes of two values, mean the definitions'
  module _ {g : Grounds} {o : ℕ} (r : Got) where
    pub read_as : {xs : List Labelled} {whole : Result ℕ Labelled} (a : AtLiteral o xs whole) → Behind g w s → ReadsThrough g t o r
        → EvaluatedAs w.tables.order r (read_times w s a.reads (eval w s (literal a.value)))
    read_as a b m =
        let e : (more_come + a.reads) % more_come ≡ a.reads = omega (arith, a.few) in
        rw e at (m w s a.value (more_come + a.reads) b a.is)

    pub done_as : {y : Labelled} {ys : List Labelled} {whole : Result ℕ Labelled} (a : AtOperation o y ys whole) → Behind g w s → {k p l k' p' l' : ℕ}
        → ValueHeld w.tables.order a.left k p l → ValueHeld w.tables.order y k' p' l' → Operates (kind_in t o) k p k' p' (bit_and l l') r
        → EvaluatedAs w.tables.order r (operate w a.op a.left y)
    done_as {y = y} a b h i m =
        rw (m a.op (sym (ap (λ (z : Operand). z.kind) a.is.same))) (operated_as w a.op a.left y h i b.serves.grounds.table)

  -- The value of the literal at operand o, as the code has it: a refusal is the whole's, or it comes before the values that are known.
  module _ {o : ℕ} {xs : List Labelled} {whole : Result ℕ Labelled} (a : AtLiteral o xs whole) where
    pub literal_refused : {n : ℕ} → EvaluatedAs w.tables.order (Got.Refused n) (read_times w s a.reads (eval w s (literal a.value)))
        → EvaluatedAs w.tables.order (Got.Refused n) whole
    unfolding ◌>>=◌
    literal_refused m = rw (a.same, refused m) EvaluatedAs.refuses

    pub record Comes (k p l : ℕ) : Type 0 where
      pub value : Labelled
      pub held : ValueHeld w.tables.order value k p l
      pub evals : Evals w s t (o + 1) (value ∷ xs) whole

    pub literal_comes : {k p l : ℕ} → EvaluatedAs w.tables.order (Got.Value k p l) (read_times w s a.reads (eval w s (literal a.value))) → Comes k p l
    unfolding ◌>>=◌
    literal_comes m =
        let g = gave m in
        record { value = g.answer; held = g.held; evals = rw (rw g.same at a.same) (a.next g.answer) }

  -- The answer of an operation there, as the code has it
  module _ {o : ℕ} {y : Labelled} {ys : List Labelled} {whole : Result ℕ Labelled} (a : AtOperation o y ys whole) where
    reads_are : a.reads ≡ reads_in t o
    reads_are = sym (ap (λ (r : Operand). r.reads) a.is.same)

    pub operation_refused : {n : ℕ} → EvaluatedAs w.tables.order (Got.Refused n) (operate w a.op a.left y) → EvaluatedAs w.tables.order (Got.Refused n) whole
    operation_refused m = rw (after_refused a.after (refused m)) EvaluatedAs.refuses

    pub operation_read : (reads_in t o ≡ 0 → ⊥) → (reads_in t o ≡ more_come → ⊥) → EvaluatedAs w.tables.order (Got.Refused 13) whole
    operation_read f g =
        rw (after_read a.after (λ e. f (sym reads_are ∙ e)) (λ e. g (sym reads_are ∙ e)) (no_read w a.op a.left y s)) EvaluatedAs.refuses

    pub operation_ends : (r : Got) → EvaluatedAs w.tables.order r (operate w a.op a.left y) → reads_in t o ≡ 0 → EvaluatedAs w.tables.order r whole
    operation_ends r m q = rw (after_last a.after (reads_are ∙ q)) m

    pub record Goes (k p l : ℕ) : Type 0 where
      pub value : Labelled
      pub held : ValueHeld w.tables.order value k p l
      pub evals : Evals w s t (o + 1) (value ∷ a.rest) whole

    pub operation_goes : {k p l : ℕ} → EvaluatedAs w.tables.order (Got.Value k p l) (operate w a.op a.left y) → reads_in t o ≡ more_come → Goes k p l
    operation_goes m q =
        let g = gave m in
        record { value = g.answer; held = g.held; evals = after_more a.after (reads_are ∙ q) g.same }
