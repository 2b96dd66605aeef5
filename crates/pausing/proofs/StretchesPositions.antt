-- For `written_good` and `never_paused`: what is good of a state between two steps, and of a position (specs/Stretches.antt). Assumes nothing.
use Prim.Native.Nat.{ℕ, ◌^◌, ◌≤◌, ◌<◌}
use mathlib.Core.Path.{◌≡◌}
use mathlib.Core.Bool.{Bool, true, false}
use mathlib.Core.Logic.{◌⊎◌}
use mathlib.Core.List.{List, [], ◌∷◌}
use lib.ListN.{length, get_or, drop}
use Rattle.lattice.specs.Order.{top}
use Rattle.values.specs.Result.{ok}
use Rattle.values.specs.declared.Value.{Value}
use Rattle.values.specs.Bytes.{Bytes, table}
use Rattle.values.specs.Value.{well_formed, empty_slot}
use Rattle.store.specs.Sheet.{Tables, Opening, most_slots, store_sheet}
use Rattle.syntax.specs.Sheet.{Block, programme_sheet}
use Rattle.calculus.specs.Calculus.{Store, State}
use Rattle.store.specs.Counts.{total}
use Rattle.pausing.specs.Paths.{Open, leads}
use Rattle.pausing.specs.Stretches.{Position}
use Rattle.calculus.proofs.CalculusInvariant.{Slots}

-- a value that fits its bytes, well-formed where there are m slots
pub record Fits (m : ℕ) (v : Value) : Type 0 where
  pub formed : well_formed m v ≡ true
  pub small : v.payload < 2 ^ 64

-- how often a slot was written
abbrev pub count_of : Store → ℕ → ℕ
count_of s i = (get_or s i empty_slot).writes

-- the slots of a store of m: their values fit, slots from m on are empty
pub record StoreGood (m : ℕ) (s : Store) : Type 0 where
  pub sized : length s ≡ most_slots
  pub values : Slots (Fits m) s
  pub outside : (i : ℕ) → m ≤ i → get_or s i empty_slot ≡ empty_slot

-- a state: no more writes were counted than steps, and steps fit their bytes
pub record StateGood (m : ℕ) (s : State) : Type 0 where
  pub store : StoreGood m s.store
  pub counts : total (table m (count_of s.store)) ≤ s.steps
  pub steps : s.steps < 2 ^ 32

-- sheets of bytes that were taken in
pub record TakenIn (store programme : List ℕ) (o : Opening) (blocks : List Block) : Type 0 where
  pub store_bytes : Bytes store
  pub programme_bytes : Bytes programme
  pub opens : store_sheet store ≡ ok o
  pub taken : programme_sheet o.tables.order.n o.tables.slots programme ≡ ok blocks

-- a path leads to a step of the first block of a list
unfoldable pub leads_in : Tables → List Block → List Open → Bool
leads_in w [] p = false
leads_in w (b ∷ bs) p = leads w.order b.command (top w.order) p

-- a position that a run goes on from: at the start of a block, or along a path that leads
pub record GoesOn (o : Opening) (blocks : List Block) (x : Position) : Type 0 where
  pub state : StateGood o.tables.slots x.state
  pub path : (x.path ≡ []) ⊎ (leads_in o.tables (drop x.block blocks) x.path ≡ true)

-- a position at which a run can be paused: its path leads
pub record PausedAt (o : Opening) (blocks : List Block) (x : Position) : Type 0 where
  pub state : StateGood o.tables.slots x.state
  pub leading : leads_in o.tables (drop x.block blocks) x.path ≡ true
