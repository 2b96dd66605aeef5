-- What the machine's numbers mean in the calculus: slots as rows, values, terms, states, and the answers of its parts. Assumes nothing.
use Rattle.std.specs.Prelude.{ℕ, ◌+◌, ◌≤◌, ◌<◌, ◌≡◌, Bool, true, false, List, length, get_or}
use Rattle.lattice.specs.declared.Table.{Table}
use Rattle.lattice.specs.Order.{most_principals, top}
use Rattle.lattice.specs.HeldLabels.{LabelHeld}
use Rattle.values.specs.Result.{Result, ok, refuse}
use Rattle.values.specs.Value.{well_formed, empty_slot}
use Rattle.store.specs.Sheet.{Tables, owner_of, most_slots}
use Rattle.store.specs.declared.HeldSlot.{HeldSlot}
use Rattle.store.specs.HeldStore.{Ordered, held_of}
use Rattle.calculus.specs.Rules.{RuleSet, access_control, capability, explicit_provenance, full_provenance, judges_views, judges_region}
use Rattle.calculus.specs.Calculus.{Setting, Store, State, stop_at, contents, Labelled, Judged, Write}
use Rattle.pausing.specs.Paths.{Open, Pause, pause_at}
use Rattle.machine.specs.Answers.{Got, Judging, Making}
use Rattle.machine.specs.declared.rules.Judges.{Judges}
use Rattle.machine.specs.declared.rules.Terms.{Terms}

-- whether a rule set judges the labels of target and value, and that of the branch
unfoldable pub judges_labels : RuleSet → Bool
judges_labels access_control = false
judges_labels capability = false
judges_labels explicit_provenance = true
judges_labels full_provenance = true

unfoldable pub judges_branch : RuleSet → Bool
judges_branch access_control = false
judges_branch capability = false
judges_branch explicit_provenance = false
judges_branch full_provenance = true

-- what a rule set judges
unfoldable pub judging_of : RuleSet → Judges
judging_of r = record { views = judges_views r; regions = judges_region r; labels = judges_labels r; branches = judges_branch r }

-- a floor: that of an endorsed block; of any other a number that is no principal's, and so stands at or below no label
unfoldable pub floor_held : Bool → ℕ → ℕ
floor_held true f = f
floor_held false f = most_principals

-- what a block runs under, as the machine holds it
pub record Serves (w : Setting) (t : Terms) (held : List ℕ) : Type 0 where
  pub grounds : Ordered w.tables
  pub masks : w.tables.order.masks ≡ held
  pub region : LabelHeld w.tables.order w.header.region t.region
  pub top : LabelHeld w.tables.order (top w.tables.order) t.top
  pub floor : t.floor ≡ floor_held w.header.endorsed w.header.floor
  pub judges : t.judges ≡ judging_of w.rules

-- a store is held as rows; its views name slots that are held
pub record StoreHeld (w : Tables) (s : Store) (rows : List HeldSlot) : Type 0 where
  pub size : length s ≡ most_slots
  pub same : rows ≡ held_of w s
  pub formed : (i : ℕ) → well_formed most_slots (contents s i) ≡ true

-- a value with its label
pub record ValueHeld (t : Table) (x : Labelled) (k p l : ℕ) : Type 0 where
  pub kind : x.value.kind ≡ k
  pub payload : x.value.payload ≡ p
  pub formed : well_formed most_slots x.value ≡ true
  pub label : LabelHeld t x.label l

-- what an expression's, a guard's and an assignment's answer mean
pub data EvaluatedAs (t : Table) : Got → Result ℕ Labelled → Type 0 where
  gives : {k p l : ℕ} {x : Labelled} → ValueHeld t x k p l → EvaluatedAs t (Got.Value k p l) (ok x)
  refuses : {n : ℕ} → EvaluatedAs t (Got.Refused n) (refuse n)

pub data JudgedAs (t : Table) : Judging → Result ℕ Judged → Type 0 where
  passes : {l : ℕ} {j : Judged} → j.passes ≡ true → LabelHeld t j.label l → JudgedAs t (Judging.Passes l) (ok j)
  fails : {l : ℕ} {j : Judged} → j.passes ≡ false → LabelHeld t j.label l → JudgedAs t (Judging.Fails l) (ok j)
  refuses : {n : ℕ} → JudgedAs t (Judging.Refused n) (refuse n)

pub data MadeAs (w : Tables) : Making → Result ℕ Write → Type 0 where
  writes : {i k p o : ℕ} {x : Write} → i < most_slots → well_formed most_slots x.value ≡ true → x.slot ≡ i → x.value.kind ≡ k
      → x.value.payload ≡ p → owner_of w i ≡ o → MadeAs w (Making.Write i k p o) (ok x)
  refuses : {n : ℕ} → MadeAs w (Making.Refused n) (refuse n)

-- no slot was written more often than there were steps
abbrev pub FewCounts : State → Type 0
FewCounts s = (i : ℕ) → (get_or s.store i empty_slot).writes ≤ s.steps

-- the state behind the held rows, the count and the free entries, of a journal with `room` entries
pub record StateHeld (w : Setting) (room : ℕ) (rows : List HeldSlot) (n free : ℕ) (s : State) : Type 0 where
  pub store : StoreHeld w.tables s.store rows
  pub steps : s.steps ≡ n
  pub counts : FewCounts s
  pub entries : length s.journal + free ≡ room

-- how a block that was stopped, by whatever path, and one that ended, means its result
pub record StopsAs (number at steps : ℕ) (whole : Result Pause State) : Type 0 where
  pub path : List Open
  pub state : State
  pub counted : state.steps ≡ steps
  pub means : whole ≡ refuse (pause_at path (stop_at at state number))

pub record DoneAs (w : Setting) (room : ℕ) (rows : List HeldSlot) (steps free : ℕ) (whole : Result Pause State) : Type 0 where
  pub state : State
  pub held : StateHeld w room rows steps free state
  pub means : whole ≡ ok state
