-- For `isolated` and `provenance_safety`: where a label judged is tainted and the labels suffice, so is the slot's owner. Assumes nothing.
use mathlib.Core.Path.{◌≡◌, sym, ◌∙◌}
use mathlib.Core.Logic.{⊎_elim}
use mathlib.Core.Bool.{true, true≢false}
use mathlib.Core.List.{List}
use Rattle.lattice.specs.Order.{Label, below}
use Rattle.lattice.proofs.Tests.{and_l, and_r, or_at}
use Rattle.store.specs.Sheet.{Tables}
use Rattle.store.specs.HeldStore.{Ordered}
use Rattle.syntax.specs.declared.Header.{Header}
use Rattle.calculus.specs.Rules.{all_above, labels_suffice}
use Rattle.isolation.specs.Isolation.{FloorOutOfReach}
use Rattle.calculus.proofs.CalculusTaint.{Tainted, Principal, tainted_down}

module _ (w : Tables) (a : Label) (o : Ordered w) (in-a : Principal w a) (h : Header) (clear : FloorOutOfReach w a h) where
  -- Where a label among those judged is tainted and the labels suffice, the owner is tainted too: the floor is not.
  pub tainted_owner : (owner : Label) (ls : List Label) (l : Label) → ((x : Label) → all_above w.order x ls ≡ true → below w.order x l ≡ true)
      → labels_suffice w.order h owner ls ≡ true → Tainted w a l → Tainted w a owner
  unfolding labels_suffice
  tainted_owner owner ls l among e k =
      ⊎_elim (λ above. tainted_down w a o in-a owner l (among owner above) k)
      (λ both. absurd (true≢false (sym (tainted_down w a o in-a h.floor l (among h.floor (and_r _ _ both)) k) ∙ clear (and_l _ _ both))))
      (or_at _ _ e)
