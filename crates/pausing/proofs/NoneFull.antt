-- Proves `none_full`: where no journal is lent there is always room for one more write, and 18 does not arise. Assumes nothing.
use Prim.Native.Nat.{ℕ, ◌≤◌}
use mathlib.Core.Path.{◌≡◌, refl, sym, ap}
use mathlib.Core.List.{List, []}
use native.Mathlib.Omega.{arith}
use lib.ListN.{length, drop}
use Rattle.values.specs.declared.Entry.{Entry}
use Rattle.values.specs.Result.{Result, ok, refuse}
use Rattle.values.proofs.Result.{Post, Refuses, one_value}
use Rattle.store.specs.Sheet.{Opening}
use Rattle.syntax.specs.Sheet.{Block}
use Rattle.calculus.specs.Rules.{RuleSet}
use Rattle.calculus.specs.Calculus.{State}
use Rattle.calculus.specs.Blocks.{most_budget, start}
use Rattle.pausing.specs.Stretches.{Position, From, opening, checkpoint, Halted, take_up_blocks, limits_at, run_from, position_of, answer_of}
use Rattle.pausing.specs.StretchesPromises.{NoneFull}
use Rattle.pausing.proofs.ResultRelation.{Alike}
use Rattle.pausing.proofs.PathsJournals.{Roomy, Beside, HaltsBeside, two_blocks}
use Rattle.pausing.proofs.StretchesAnswers.{taken_up, stretch_by, ends_by}

-- a stretch goes on with no entries
position_empty : (o : Opening) (blocks : List Block) (from : From) (x : Position) → position_of o blocks from ≡ ok x → x.state.journal ≡ []
unfolding position_of start
position_empty o blocks opening x e = ap (λ (y : Position). y.state.journal) (sym (one_value _ _ x refl e))
position_empty o blocks (checkpoint out sheet) x e = ap (λ (y : Position). y.state.journal) (sym (taken_up o blocks out sheet x e).1)

-- so there is room for every write that its budget allows
place_roomy : (budget : ℕ) (x : Position) → budget ≤ most_budget → x.state.journal ≡ [] → Roomy (limits_at budget x) x.state
unfolding limits_at
place_roomy budget x h e =
    let z : length x.state.journal ≡ 0 = ap (λ (l : List Entry). length l) e in record { kept = omega arith; room = omega arith }

-- a run with such room, beside itself, is not stopped for want of an entry
beside_free : (budget entries : ℕ) (r : Result Halted State) → Alike (Beside budget entries entries) (HaltsBeside budget entries entries) r r
    → Refuses (λ (h : Halted). h.pause.stop.number ≡ 18 → ⊥) r
unfolding Alike Post
beside_free budget entries (ok s) z = tt
beside_free budget entries (refuse h) z = z.pause.stop.free

blocks_free : (rules : RuleSet) (o : Opening) (blocks : List Block) (budget : ℕ) (x : Position) → Roomy (limits_at budget x) x.state
    → Refuses (λ (h : Halted). h.pause.stop.number ≡ 18 → ⊥)
    (take_up_blocks o.tables rules (limits_at budget x) x.block (drop x.block blocks) x.path x.state)
unfolding limits_at
blocks_free rules o blocks budget x r =
    beside_free _ _ _
    (two_blocks o.tables rules _ most_budget most_budget x.block (drop x.block blocks) x.path x.state x.state
    (record { store = refl; steps = refl; left = r; right = r }))

pub none_full : NoneFull
unfolding run_from answer_of
none_full from c =
    stretch_by from c (λ r. (answer_of r).number ≡ 18 → ⊥) (λ a l h e. omega arith) (λ a h e. omega arith)
    λ rules o blocks x _ modest _ _ _ good.
    ends_by (λ n. n ≡ 18 → ⊥) (length blocks) o.tables.slots _ (λ e. omega arith)
    (blocks_free rules o blocks c.budget x (place_roomy c.budget x modest (position_empty o blocks from x good)))
