-- Laws of `labels_suffice` (specs/Rules.antt): what the labels judged have to be, by the owner or by the floor. Assumes nothing.
use mathlib.Core.Path.{◌≡◌, refl}
use mathlib.Core.Logic.{⊎_elim}
use mathlib.Core.Bool.{true}
use mathlib.Core.List.{List, []}
use Rattle.lattice.specs.declared.Table.{Table}
use Rattle.lattice.specs.Order.{Label}
use Rattle.lattice.proofs.Tests.{and_l, and_r, and_of, or_at, or_l, or_r}
use Rattle.syntax.specs.declared.Header.{Header}
use Rattle.calculus.specs.Rules.{all_above, labels_suffice}

module _ (t : Table) (h : Header) (owner : Label) where
  pub by_owner : (ls : List Label) → all_above t owner ls ≡ true → labels_suffice t h owner ls ≡ true
  unfolding labels_suffice
  by_owner ls e = or_l _ _ e

  -- where no label is judged
  pub none_judged : labels_suffice t h owner [] ≡ true
  unfolding all_above
  none_judged = by_owner [] refl

  -- labels that stand at or above whatever others do
  pub as_others : (ls ms : List Label) → ((x : Label) → all_above t x ls ≡ true → all_above t x ms ≡ true)
      → labels_suffice t h owner ls ≡ true → labels_suffice t h owner ms ≡ true
  unfolding labels_suffice
  as_others ls ms f e =
      ⊎_elim (λ a. or_l _ _ (f owner a)) (λ a. or_r _ _ (and_of _ _ (and_l _ _ a) (f h.floor (and_r _ _ a)))) (or_at _ _ e)
