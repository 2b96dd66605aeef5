-- Taking a block up along the path of a pause sheet: its row and labels, or that there is none (`Resumes`). Serves `resume`. Assumes nothing.
use Prim.Native.Nat.{ℕ, ◌+◌, ◌-◌, ◌*◌, ◌≤◌, ◌<◌}
use mathlib.Core.Path.{◌≡◌, sym, ap, ◌∙◌}
use mathlib.Core.Bool.{Bool, true, false}
use mathlib.Core.List.{List}
use native.Mathlib.Omega.{arith}
use lib.ListN.{length, get_or, take, drop}
use Rattle.std.proofs.Common.{Option, None, Some, IsTrue, ◌↔◌, EachIndex, slice_index, length-take, length-drop}
use Rattle.std.proofs.lemmas.List.{get_or-take, get_or-drop}
use borrow.Author.Tests.{le-leb, lt-leb, eqb-true, eq-eqb}
use Rattle.lattice.specs.Tests.{◌and◌}
use Rattle.lattice.specs.declared.Table.{Table}
use Rattle.lattice.specs.Order.{Label, top}
use Rattle.lattice.proofs.Tests.{iff, every_at, every_of}
use Rattle.values.specs.Bytes.{entries}
use Rattle.syntax.specs.Syntax.{Cmd}
use Rattle.pausing.specs.Paths.{leads}
use Rattle.pausing.specs.Stretches.{pause_width, most_open, children_at, unused_at, open_in, entry_in, path_in, unused_zero}
use Rattle.paths.specs.SheetPaths.{FollowsAs, path_from}
use Rattle.paths.specs.Checkpoint.{takes_up, Resumes}

module _ (t : Table) (c : Cmd) (sheet held : List ℕ) (size : ℕ) (z : size ≡ open_in sheet) where
  -- the bytes that are tested
  abbrev Rest : List ℕ
  Rest = take (length sheet - (children_at + 2 * size)) (drop (children_at + 2 * size) sheet)

  abbrev Unused : Bool → Type 0
  Unused b = IsTrue b ↔ EachIndex Rest (λ k. slice_index Rest k ≡ 0)

  module _ (w : length sheet ≡ pause_width) (b : Bool) (h : size ≤ most_open) (u : Unused b) where
    rest_long : length Rest ≡ pause_width - unused_at size
    rest_long = simp (length-take, length-drop) (omega arith)

    rest_at : (k : ℕ) → k < pause_width - unused_at size → get_or Rest k 0 ≡ get_or sheet (unused_at size + k) 0
    rest_at k l =
        let a : k < length sheet - (children_at + 2 * size) = omega arith in
        let e : children_at + 2 * size + k ≡ unused_at size + k = omega arith in
        get_or-take _ _ k 0 a ∙ get_or-drop _ sheet k 0 ∙ ap (λ (n : ℕ). get_or sheet n 0) e

    unused_is : unused_zero sheet ≡ b
    unfolding unused_zero
    unused_is = rw (sym z) (iff _ b
        (λ e. u.1 (λ k l. let m : k < pause_width - unused_at size = omega (arith, rest_long) in rest_at k m ∙ eqb-true _ 0 (every_at _ _ e k m)))
        (λ e. every_of _ _ (λ k m. eq-eqb _ 0 (sym (rest_at k m) ∙ u.0 e k (omega (arith, rest_long))))))

  pub too_long : most_open < size → takes_up t c sheet ≡ false
  unfolding takes_up ◌and◌
  too_long h = rw (lt-leb (open_in sheet) most_open (omega arith))

  pub not_clear : length sheet ≡ pause_width → size ≤ most_open → Unused false → takes_up t c sheet ≡ false
  unfolding takes_up ◌and◌
  not_clear w h u = rw (le-leb (open_in sheet) most_open (omega arith), unused_is w false h u)

  module _ (w : length sheet ≡ pause_width) (h : size ≤ most_open) (u : Unused true) where
    takes_up_law : takes_up t c sheet ≡ leads t c (top t) (path_in sheet)
    unfolding takes_up ◌and◌
    takes_up_law = rw (le-leb (open_in sheet) most_open (omega arith), unused_is w true h u)

    path_is : path_from sheet size 0 ≡ path_in sheet
    path_is = let y : size - 0 ≡ open_in sheet = omega arith in ap (λ (n : ℕ). entries 0 n (entry_in sheet)) y

    pub resumed : (first : Label) (l : List Label) (out : Option ℕ) → first ≡ top t → FollowsAs t c 0 first (path_from sheet size 0) 0 l held out → Resumes t c sheet held out
    resumed first l out e q = go out (rw (e, path_is) at q)
      where
        go : (out : Option ℕ) → FollowsAs t c 0 (top t) (path_in sheet) 0 l held out → Resumes t c sheet held out
        go (Some row) g = record { good = takes_up_law ∙ g.good; row_is = g.row_is; labels = g.labels; labels_held = g.labels_held; along = g.along }
        go None g = takes_up_law ∙ g
