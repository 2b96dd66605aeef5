-- Document 01, "What demand 3 compares". The adversary is its stranger. Assumes nothing.
use Rattle.std.specs.Prelude.{ℕ, ◌*◌, ◌<◌, ◌≡◌, ◌↔◌, Bool, true, false, not, List, [], ◌∷◌, get_or, length, ltb}
use Rattle.lattice.specs.Tests.{◌and◌}
use Rattle.lattice.specs.Order.{Label, below}
use Rattle.values.specs.declared.Entry.{Entry}
use Rattle.values.specs.Result.{ok}
use Rattle.values.specs.Bytes.{Bytes, part}
use Rattle.values.specs.Value.{slot_width, empty_slot}
use Rattle.store.specs.Sheet.{Tables, owner_of, store_sheet}
use Rattle.syntax.specs.declared.Header.{Header}
use Rattle.syntax.specs.Sheet.{k_of, header_at, code_of}
use Rattle.calculus.specs.Rules.{full_provenance, rules_of}
use Rattle.calculus.specs.Calculus.{Store}
use Rattle.calculus.specs.Run.{Call, call, entries, FinishedRun}

-- "A slot is protected from it .. when its owner does not stand at or below it."
pub record Protected (w : Tables) (adversary : Label) (i : ℕ) : Type 0 where
  pub inside : i < w.slots
  pub above : below w.order (owner_of w i) adversary ≡ false

-- "A block is within the stranger's reach when its region stands at or below the stranger."
abbrev pub within_reach : Tables → Label → List ℕ → ℕ → Bool
within_reach w adversary p i = below w.order (header_at p i).region adversary

-- "Two slots are equal when kind and payload are, and whatever a request adds to their records": in stores, and in outputs
abbrev pub StoresAgree : Tables → Label → Store → Store → Type 0
StoresAgree w adversary s s' = (i : ℕ) → Protected w adversary i → get_or s i empty_slot ≡ get_or s' i empty_slot

abbrev pub OutputsAgree : Tables → Label → List ℕ → List ℕ → Type 0
OutputsAgree w adversary out out' =
    (i : ℕ) → Protected w adversary i → part out (slot_width * i) slot_width ≡ part out' (slot_width * i) slot_width

-- "leaves each one outside the stranger's reach unchanged; in the place of each one within reach stands any block within reach,
-- whatever its code, endorsed or not, or the same again"
pub data Replaced (w : Tables) (adversary : Label) (p q : List ℕ) (i : ℕ) : Type 0 where
  unchanged : header_at q i ≡ header_at p i → code_of q i ≡ code_of p i → Replaced w adversary p q i
  exchanged : within_reach w adversary p i ≡ true → within_reach w adversary q i ≡ true → Replaced w adversary p q i

-- "A replacement keeps the number and order of the blocks"
pub record Replacement (w : Tables) (adversary : Label) (p q : List ℕ) : Type 0 where
  pub count : k_of q ≡ k_of p
  pub each : (i : ℕ) → i < k_of p → Replaced w adversary p q i

-- "every programme with no endorsed block"
abbrev pub NoneEndorsed : List ℕ → Type 0
NoneEndorsed p = (i : ℕ) → i < k_of p → (header_at p i).endorsed ≡ false

-- "also where blocks outside the stranger's reach are endorsed, provided that none of their floors stands at or below the stranger" (document 02,
-- N6)
abbrev pub FloorOutOfReach : Tables → Label → Header → Type 0
FloorOutOfReach w adversary h = h.endorsed ≡ true → below w.order h.floor adversary ≡ false

abbrev pub FloorsOutOfReach : Tables → Label → List ℕ → Type 0
FloorsOutOfReach w adversary p = (i : ℕ) → i < k_of p → within_reach w adversary p i ≡ false → FloorOutOfReach w adversary (header_at p i)

-- the rule numbers of full provenance; of 255: "A desk run under 255 counts among the runs that protected slots are compared over."
-- (document 02, N1)
pub data FullRule (rule : ℕ) : Type 0 where
  by_number : rule ≡ 3 → FullRule rule
  by_default : rule ≡ 255 → FullRule rule

-- these are all the numbers of full provenance
abbrev pub FullRules : Type 0
FullRules = (rule : ℕ) → FullRule rule ↔ (rules_of rule ≡ ok full_provenance)

-- one run under full provenance that finishes
pub record FullRun (store programme out : List ℕ) : Type 0 where
  pub rule : ℕ
  pub full : FullRule rule
  pub run : FinishedRun rule store programme out

-- Of every programme that meets a condition: whatever bytes an adversary sends, whenever both runs finish, the two outputs agree. `Run` says what a
-- finished run of a store and a programme with an output is.
abbrev pub AgreeOver : (List ℕ → List ℕ → List ℕ → Type 0) → (List ℕ → Type 0) → Tables → Label → List ℕ → List ℕ → Type 0
AgreeOver Run Condition w adversary store store' =
    (p : List ℕ) → Bytes p → Condition p
    → (q q' : List ℕ) → Bytes q → Bytes q' → Replacement w adversary p q → Replacement w adversary p q'
    → (out out' : List ℕ) → Run store q out → Run store' q' out' → OutputsAgree w adversary out out'

abbrev pub RunsAgreeWhere : (List ℕ → Type 0) → Tables → Label → List ℕ → List ℕ → Type 0
RunsAgreeWhere = AgreeOver FullRun

abbrev pub RunsAgree : Tables → Label → List ℕ → List ℕ → Type 0
RunsAgree = RunsAgreeWhere NoneEndorsed

-- "for any principal as the stranger and any two good opening stores under one order table and one owner array: the stores are equal in every slot
-- that the stranger may not write exactly when .. the two full-provenance runs .., if both finish .., end equal in every such slot"
abbrev pub IsolationOf : (List ℕ → List ℕ → List ℕ → Type 0) → (Tables → Label → List ℕ → Type 0) → Type 0
IsolationOf Run Condition =
    (adversary : Label) (store store' : List ℕ) (w : Tables) (s s' : Store)
    → adversary < w.order.n
    → Bytes store → Bytes store'
    → store_sheet store ≡ ok (record { tables = w; store = s })
    → store_sheet store' ≡ ok (record { tables = w; store = s' })
    → StoresAgree w adversary s s' ↔ AgreeOver Run (Condition w adversary) w adversary store store'

abbrev pub IsolationWhere : (Tables → Label → List ℕ → Type 0) → Type 0
IsolationWhere = IsolationOf FullRun

-- Demand 3, of "every programme with no endorsed block"
abbrev pub Isolation : Type 0
Isolation = IsolationWhere (λ w adversary p. NoneEndorsed p)

-- Demand 3 as document 02, N6 widens it
abbrev pub IsolationDownToFloors : Type 0
IsolationDownToFloors = IsolationWhere FloorsOutOfReach

-- The journal (document 02, N7). What follows goes beyond demand 3, which compares protected slots alone.

-- a slot is protected, as a test
unfoldable pub protects : Tables → Label → ℕ → Bool
protects w adversary i = ltb i w.slots and not (below w.order (owner_of w i) adversary)

abbrev pub ProtectedTested : Type 0
ProtectedTested = (w : Tables) (adversary : Label) (i : ℕ) → (protects w adversary i ≡ true) ↔ Protected w adversary i

-- the entries that name protected slots, in order
unfoldable pub naming : Tables → Label → List Entry → List Entry
naming w adversary [] = []
naming w adversary (e ∷ es) = elim (protects w adversary e.slot) [ true ↦ e ∷ naming w adversary es | false ↦ naming w adversary es ]

-- the call of a run under full provenance
abbrev pub call_in : {store programme out : List ℕ} → FullRun store programme out → Call
call_in {store} {programme} x = call store programme x.rule x.run.budget (length x.run.old) x.run.entries

-- Of two finished runs as in demand 3, down to floors, over stores that agree: the entries that name protected slots are the same list. The journals
-- need not be equally long.
abbrev pub ProtectedEntriesAgree : Type 0
ProtectedEntriesAgree =
    (adversary : Label) (store store' : List ℕ) (w : Tables) (s s' : Store)
    → adversary < w.order.n
    → Bytes store → Bytes store'
    → store_sheet store ≡ ok (record { tables = w; store = s })
    → store_sheet store' ≡ ok (record { tables = w; store = s' })
    → StoresAgree w adversary s s'
    → (p : List ℕ) → Bytes p → FloorsOutOfReach w adversary p
    → (q q' : List ℕ) → Bytes q → Bytes q' → Replacement w adversary p q → Replacement w adversary p q'
    → (out out' : List ℕ) (x : FullRun store q out) (x' : FullRun store' q' out')
    → naming w adversary (entries (call_in x)) ≡ naming w adversary (entries (call_in x'))
