-- The loop of `fold` over an expression's operands: what is known before a turn, and what a turn makes of it. Assumes nothing.
use Prim.Native.Nat.{ℕ, ◌+◌, ◌-◌, ◌<◌, ◌≤◌}
use mathlib.Core.Path.{◌≡◌, refl, ap, ◌∙◌}
use mathlib.Core.List.{List, [], ◌∷◌}
use native.Mathlib.Omega.{arith}
use lib.ListN.{length, get_or, set, length-set}
use lib.Bits.{bit_and}
use Rattle.values.specs.Result.{Result}
use Rattle.values.specs.Value.{kinds}
use Rattle.syntax.specs.Code.{most_nested}
use Rattle.syntax.specs.Rows.{more_come, most_operands}
use Rattle.calculus.specs.Calculus.{Setting, Store, Labelled, operate}
use Rattle.machine.specs.declared.expressions.Labelled.{Labelled as Waiting}
use Rattle.machine.specs.Answers.{Got}
use Rattle.machine.specs.MachineNumbers.{EvaluatedAs}
use Rattle.machine.specs.CompiledRuns.{Operands}
use Rattle.machine.specs.CompiledExpressions.{Evals}
use Rattle.machine.specs.MachineContracts.{Grounds, Behind, CanJudge, SomeLiteral, ReadsThrough, Operates, CanFold, Folds}
use Rattle.machine.proofs.CompiledOperands.{kind_in, reads_in, inside_here, AtLiteral, literal_here, read_as, literal_refused, literal_comes, AtOperation, operation_here, done_as, operation_refused, operation_read, operation_ends, operation_goes}
use Rattle.machine.proofs.FoldStack.{no_value, HeldAs, HeldIn, Wait, wait_more, wait_last}

-- evaluating goes on from operand o, with a value in hand and so many waiting in an array
pub record Midway (w : Setting) (s : Store) (t : Operands) (a : List Waiting) (waiting : ℕ) (last : Waiting) (o : ℕ) (whole : Result ℕ Labelled) : Type 0 where
  pub value : Labelled
  pub rest : List Labelled
  pub count : length rest ≡ waiting
  pub held : HeldAs w.tables.order value last
  pub waits : Wait w.tables.order a rest
  pub evals : Evals w s t o (value ∷ rest) whole

-- so it does for every setting that stands behind, and for the caller's
pub record Turn (g : Grounds) (t : Operands) (from : ℕ) (first : Waiting) (a : List Waiting) (waiting : ℕ) (last : Waiting) (o : ℕ) : Type 0 where
  pub room : length a ≡ most_nested
  pub few : waiting ≤ most_nested
  pub known : (w : Setting) (s : Store) (x : Labelled) (whole : Result ℕ Labelled) → Behind g w s → HeldAs w.tables.order x first
      → Evals w s t from (x ∷ []) whole → Midway w s t a waiting last o whole

abbrev pub Can : Grounds → Operands → ℕ → Waiting → Type 0
Can g t from first = CanFold g t from first.kind first.payload first.label

abbrev pub Does : Grounds → Operands → ℕ → Waiting → Got → Type 0
Does g t from first r = Folds g t from first.kind first.payload first.label r

abbrev pub value_got : Waiting → Got
value_got x = Got.Value x.kind x.payload x.label

pub can_read : {g : Grounds} {t : Operands} {from : ℕ} {first : Waiting} → Can g t from first → CanJudge g
can_read c = record { setting = c.setting; store = c.store; behind = c.behind }

module _ {g : Grounds} {t : Operands} {from : ℕ} {first : Waiting} {a : List Waiting} where
  pub turn_first : length a ≡ most_nested → Turn g t from first a 0 first from
  unfolding Wait
  turn_first r =
      record { room = r; few = omega arith; known = λ w s x whole b h e. record { value = x; rest = []; count = refl; held = h; waits = tt; evals = e } }

  module _ {waiting : ℕ} {last : Waiting} {o : ℕ} (u : Turn g t from first a waiting last o) where
    abbrev callers : (c : Can g t from first) → Midway c.setting c.store t a waiting last o c.whole
    callers c = u.known c.setting c.store c.value c.whole c.behind c.held c.evals

    pub turn_inside : Can g t from first → o < most_operands
    turn_inside c = inside_here c.setting c.store t (callers c).evals

    -- A literal
    module _ (h : kind_in t o < kinds) where
      at_literal : {w : Setting} {s : Store} {whole : Result ℕ Labelled} → (n : Midway w s t a waiting last o whole) → AtLiteral w s t o (n.value ∷ n.rest) whole
      at_literal {w} {s} n = literal_here w s t n.evals h

      pub some_literal : Can g t from first → SomeLiteral t o
      some_literal c = let y = at_literal (callers c) in record { value = y.value; reads = more_come + y.reads; is = y.is }

      pub some_room : Can g t from first → waiting < most_nested
      some_room c = let n = callers c in omega (arith, (at_literal n).room, n.count)

      pub turn_barred : {n : ℕ} → ReadsThrough g t o (Got.Refused n) → Does g t from first (Got.Refused n)
      turn_barred {n} m w s x whole b h e =
          let y = at_literal (u.known w s x whole b h e) in literal_refused w s t y (read_as w s t (Got.Refused n) y b m)

      pub turn_literal : (x : Waiting) → ReadsThrough g t o (value_got x) → Can g t from first
          → Turn g t from first (set a waiting last) (waiting + 1) x (o + 1)
      turn_literal v m c =
          record {
            room = length-set a waiting last ∙ u.room;
            few = omega (arith, some_room c);
            known = λ w s x whole b h e.
                let n = u.known w s x whole b h e in
                let z = at_literal n in
                let y = literal_comes w s t z (read_as w s t (value_got v) z b m) in
                record {
                  value = y.value;
                  rest = n.value ∷ n.rest;
                  count = omega (arith, n.count);
                  held = y.held;
                  waits = wait_more w.tables.order a waiting last n.value n.rest u.room (some_room c) n.count n.held n.waits;
                  evals = y.evals;
                };
          }

    -- An operation
    module _ (h : kinds ≤ kind_in t o) where
      at_operation : {w : Setting} {s : Store} {whole : Result ℕ Labelled} → (n : Midway w s t a waiting last o whole) → AtOperation w s t o n.value n.rest whole
      at_operation {w} {s} n = operation_here w s t n.evals h

      pub some_wait : Can g t from first → 0 < waiting
      some_wait c = let n = callers c in omega (arith, n.count, ap length (at_operation n).known)

      -- the value that waits last, and what is known of an operation on it
      module _ (i : ℕ) (j : i ≡ waiting - 1) where
        left_held : {w : Setting} {s : Store} {whole : Result ℕ Labelled} → (n : Midway w s t a waiting last o whole)
            → HeldIn w.tables.order a i (at_operation n).left × Wait w.tables.order a (at_operation n).rest × (length (at_operation n).rest ≡ i)
        left_held {w} n =
            let y = at_operation n in
            let e : length y.rest ≡ i = omega (arith, j, n.count, ap length y.known) in
            let q = wait_last w.tables.order a y.left y.rest (rw y.known at n.waits) in
            (rw (← e) q.0, q.1, e)

        module _ (r : Got)
            (m : Operates (kind_in t o) (get_or a i no_value).kind (get_or a i no_value).payload last.kind last.payload (bit_and (get_or a i no_value).label last.label) r) where
          means_done : {w : Setting} {s : Store} {whole : Result ℕ Labelled} → Behind g w s → (n : Midway w s t a waiting last o whole)
              → let y = at_operation n in EvaluatedAs w.tables.order r (operate w y.op y.left n.value)
          means_done {w} {s} b n =
              done_as w s t r (at_operation n) b (left_held n).0 n.held m

          pub turn_read : (reads_in t o ≡ 0 → ⊥) → (reads_in t o ≡ more_come → ⊥) → Does g t from first (Got.Refused 13)
          turn_read q f w s x whole b h e =
              let n = u.known w s x whole b h e in operation_read w s t (at_operation n) q f

          pub turn_last : reads_in t o ≡ 0 → Does g t from first r
          turn_last q w s x whole b h e =
              let n = u.known w s x whole b h e in operation_ends w s t (at_operation n) r (means_done b n) q

        abbrev Operated : Got → Type 0
        Operated r = Operates (kind_in t o) (get_or a i no_value).kind (get_or a i no_value).payload last.kind last.payload (bit_and (get_or a i no_value).label last.label) r

        pub turn_refused : {n : ℕ} → Operated (Got.Refused n) → Does g t from first (Got.Refused n)
        turn_refused {n} m w s x whole b h e =
            let k = u.known w s x whole b h e in operation_refused w s t (at_operation k) (means_done (Got.Refused n) m b k)

        pub turn_operation : (v : Waiting) → Operated (value_got v) → reads_in t o ≡ more_come → Turn g t from first a i v (o + 1)
        turn_operation v m f =
            record {
              room = u.room;
              few = omega (arith, u.few, j);
              known = λ w s x whole b h e.
                  let n = u.known w s x whole b h e in
                  let y = operation_goes w s t (at_operation n) (means_done (value_got v) m b n) f in
                  let z = left_held n in
                  record { value = y.value; rest = (at_operation n).rest; count = z.2; held = y.held; waits = z.1; evals = y.evals };
            }
