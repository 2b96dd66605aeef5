-- What `open_output` ensures: the rows of a held store become those of an old output. Assumes nothing.
use Rattle.store.specs.declared.HeldSlot.{HeldSlot}
use Rattle.std.specs.Prelude.{ℕ, ◌≤◌, ◌≡◌, List, get_or}
use Rattle.values.specs.Value.{empty_slot}
use Rattle.store.specs.Sheet.{Tables}
use Rattle.store.specs.HeldStore.{held_of}
use Rattle.calculus.specs.Calculus.{Store}
use Rattle.pausing.specs.Stretches.{store_in}

-- The rows of a store whose slots from m on are empty become those of an output of m slots; owners stay.
abbrev pub OpensOutput : ℕ → List ℕ → List HeldSlot → List HeldSlot → Type 0
OpensOutput m out held held' =
    (w : Tables) (s : Store) → held ≡ held_of w s → ((i : ℕ) → m ≤ i → get_or s i empty_slot ≡ empty_slot) → held' ≡ held_of w (store_in m out)
