-- Laws of `run` (specs/Run.antt): one that finishes has good sheets and arguments (`Good`, specs/Faithfulness.antt). Assumes nothing.
use Prim.Native.Nat.{◌*◌, ◌≤◌}
use mathlib.Core.Path.{◌≡◌}
use mathlib.Core.List.{List}
use borrow.Author.Tests.{leb-true, eqb-true}
use Rattle.values.specs.Result.{ok, ◌>>=◌, refused_as}
use Rattle.values.specs.Value.{slot_width}
use Rattle.values.proofs.Result.{Post, Any, post_self, post_all, post_at, post_require, post_refused_as, post_bind}
use Rattle.store.specs.Sheet.{Opening, store_sheet}
use Rattle.syntax.specs.Sheet.{Block, programme_sheet}
use Rattle.calculus.specs.Rules.{RuleSet, rules_of}
use Rattle.calculus.specs.Blocks.{most_budget}
use Rattle.calculus.specs.Run.{Call, run_opened, run_under, run, answer}
use Rattle.calculus.specs.Faithfulness.{Good}
use Rattle.calculus.proofs.RunFinished.{run_finished}

-- what is good over an opened store, besides the store's own sheet
pub record GoodOver (o : Opening) (c : Call) : Type 0 where
  pub rules : RuleSet
  pub blocks : List Block
  pub ruled : rules_of c.rule ≡ ok rules
  pub modest : c.budget ≤ most_budget
  pub taken : programme_sheet o.tables.order.n o.tables.slots c.programme ≡ ok blocks
  pub fits : c.room ≡ slot_width * o.tables.slots

module _ (c : Call) (o : Opening) (sheet : store_sheet c.store ≡ ok o) where
  parts : Post (λ _. GoodOver o c) Any (run c)
  unfolding run_opened run_under run ◌>>=◌ refused_as
  parts =
      post_bind _ _ _ _ _ (post_refused_as _ _ _ _ (post_self (rules_of c.rule))) λ rules ruled.
      post_require _ _ _ _ _
      (λ m. rw sheet (
      post_bind _ _ _ _ _ (post_self (programme_sheet o.tables.order.n o.tables.slots c.programme)) λ blocks taken.
      post_require _ _ _ _ _
      (λ f. post_all _ _ _
      (λ _. record {
        rules = rules;
        blocks = blocks;
        ruled = ruled;
        modest = leb-true c.budget most_budget m;
        taken = taken;
        fits = eqb-true c.room (slot_width * o.tables.slots) f;
      }) (λ _. tt)) (λ _. tt))) (λ _. tt)

  pub good_over : (answer c).number ≡ 0 → GoodOver o c
  good_over e = let f = run_finished c e in post_at _ _ _ _ parts f.1

  -- its opening is the one given
  abbrev pub good_run : (answer c).number ≡ 0 → Good c
  good_run e =
      let g = good_over e in
      record {
        rules = g.rules;
        opening = o;
        blocks = g.blocks;
        ruled = g.ruled;
        modest = g.modest;
        opens = sheet;
        taken = g.taken;
        fits = g.fits;
      }
