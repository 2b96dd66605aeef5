-- Laws of the code reader: the cases of reading a value (`value_reading`, specs/CodeReader.antt). Assumes nothing.
use Prim.Native.Nat.{ℕ, ◌+◌, ◌<◌, ◌≤◌}
use mathlib.Core.Path.{◌≡◌}
use mathlib.Core.List.{List}
use mathlib.Core.Bool.{true, false}
use native.Mathlib.Omega.{arith}
use lib.ListN.{length, get_or}
use borrow.Author.Tests.{le-ltb, lt-ltb, le-leb, lt-leb}
use Rattle.values.specs.Result.{refuse, require}
use Rattle.values.specs.declared.Value.{Value}
use Rattle.values.specs.Value.{value_width, kinds, well_formed, value_at}
use Rattle.syntax.specs.Code.{up_to, ill_formed, ends_early, read_value}

module _ (m : ℕ) (s : List ℕ) (at : ℕ) where
  pub value_none : length s ≤ at → read_value m s at ≡ refuse (ends_early s)
  unfolding read_value require
  value_none h = rw (le-ltb _ _ h)

  pub value_unknown : at < length s → kinds ≤ get_or s at 0 → read_value m s at ≡ refuse (ill_formed at)
  unfolding read_value require
  value_unknown h k = rw (lt-ltb _ _ h, le-ltb _ _ k)

  pub value_short : at < length s → get_or s at 0 < kinds → length s < at + value_width → read_value m s at ≡ refuse (ends_early s)
  unfolding read_value require
  value_short h k w = rw (lt-ltb _ _ h, lt-ltb _ _ k, lt-leb _ _ w)

  module _ (k : get_or s at 0 < kinds) (w : at + value_width ≤ length s) (v : Value) (e : v ≡ value_at s at) where
    pub value_bad : well_formed m v ≡ false → read_value m s at ≡ refuse (ill_formed at)
    unfolding read_value require
    value_bad g =
        let h : at < length s = omega arith in
        rw (lt-ltb _ _ h, lt-ltb _ _ k, le-leb _ _ w, rw e at g)

    pub value_good : well_formed m v ≡ true → read_value m s at ≡ up_to (at + value_width) v
    unfolding read_value require
    value_good g =
        let h : at < length s = omega arith in
        rw (lt-ltb _ _ h, lt-ltb _ _ k, le-leb _ _ w, rw e at g, e)

pub ruleset value_cases = (value_none, value_unknown, value_short, value_bad, value_good)
