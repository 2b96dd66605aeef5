-- Laws of labels held as masks (`LabelHeld`, specs/HeldLabels.antt): who stands at or below one, and the meet of two. Assumes nothing.
use Prim.Native.Nat.{ℕ}
use mathlib.Core.Path.{◌≡◌, sym, ap, ap₂, ◌∙◌}
use mathlib.Core.Bool.{Bool, true}
use lib.Bits.{bit_and}
use Rattle.lattice.specs.Tests.{◌and◌}
use Rattle.lattice.specs.declared.Table.{Table}
use Rattle.lattice.specs.Order.{Label, bit, below, good, meet}
use Rattle.lattice.specs.HeldLabels.{LabelHeld}
use Rattle.lattice.proofs.OrderBits.{bit_of_and}
use Rattle.lattice.proofs.Order.{meet_lt, mask_meet}

module _ (t : Table) {l : Label} {x : ℕ} (h : LabelHeld t l x) where
  -- who stands at or below a label
  pub bit_held : (o : Label) → bit x o ≡ below t o l
  bit_held o = ap (λ (m : ℕ). bit m o) h.same

module _ (t : Table) {l m : Label} {x y : ℕ} (h : LabelHeld t l x) (k : LabelHeld t m y) where
  pub bits_held : (o : Label) → bit (bit_and x y) o ≡ below t o l and below t o m
  bits_held o = bit_of_and x y o ∙ ap₂ (λ (b c : Bool). b and c) (bit_held t h o) (bit_held t k o)

  -- the meet of two labels is held as the conjunction of their masks
  pub meet_held : good t ≡ true → LabelHeld t (meet t l m) (bit_and x y)
  meet_held e =
      record {
        inside = meet_lt t e l m h.inside k.inside;
        same = ap₂ (λ (a b : ℕ). bit_and a b) h.same k.same ∙ sym (mask_meet t e l m h.inside k.inside);
      }
