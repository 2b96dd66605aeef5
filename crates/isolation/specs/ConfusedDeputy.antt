-- Source 003's confused deputies, and its theorems 4 to 7, in the setting of document 01. Assumes nothing.
use Rattle.std.specs.Prelude.{ℕ, ◌*◌, ◌<◌, ◌≡◌, ◌⊎◌, true, false, List}
use Rattle.lattice.specs.Order.{Label}
use Rattle.values.specs.Result.{ok}
use Rattle.values.specs.Bytes.{Bytes, part}
use Rattle.values.specs.Value.{value_width, slot_width}
use Rattle.store.specs.Sheet.{Tables, store_sheet}
use Rattle.syntax.specs.Sheet.{k_of, header_at}
use Rattle.calculus.specs.Calculus.{Store, contents}
use Rattle.calculus.specs.Run.{Call, FinishedRun}
use Rattle.calculus.specs.Faithfulness.{Good}
use Rattle.isolation.specs.Isolation.{Protected, within_reach, StoresAgree, OutputsAgree, Replacement, NoneEndorsed, FloorsOutOfReach, FullRule, RunsAgreeWhere}
use Rattle.isolation.specs.SlotsAtEveryStep.{Spares, BlockSpares, SlotsSpare, BlocksSpare, ProtectedKept}

-- Conditions on the opening store and the programme. Definition 5, nihrH, is `SlotsSpare` (specs/SlotsAtEveryStep.antt).

-- definition 6, nihrHH: no protected slot holds a write view of a protected slot
abbrev pub ProtectedSpare : Tables → Label → Store → Type 0
ProtectedSpare w adversary s = (i : ℕ) → Protected w adversary i → Spares w adversary (contents s i)

-- definition 4, nihrP: no block outside the adversary's reach that is not endorsed contains one
abbrev pub BareBlocksSpare : Tables → Label → List ℕ → Type 0
BareBlocksSpare w adversary p =
    (i : ℕ) → i < k_of p → within_reach w adversary p i ≡ false → (header_at p i).endorsed ≡ false → BlockSpares w adversary p i

-- Definitions 3 and 8 ask definitions 2 and 7 only of those parts of a programme in which no block is endorsed, each from the opening
-- store. Such a part is a programme here, in which no block outside the adversary's reach is endorsed; blocks within reach may be.
abbrev pub NoneEndorsedOutside : Tables → Label → List ℕ → Type 0
NoneEndorsedOutside w adversary p = (i : ℕ) → i < k_of p → within_reach w adversary p i ≡ false → (header_at p i).endorsed ≡ false

abbrev pub BareOutside : Tables → Label → List ℕ → Type 0
BareOutside w adversary p = BareBlocksSpare w adversary p × NoneEndorsedOutside w adversary p

-- What floors change (document 02, N6): a block outside the adversary's reach may be endorsed where its floor is out of reach too. It is then held to
-- definition 4 as the others are: rule 2 does not judge the branch in which it writes.
abbrev pub SpareDownToFloors : Tables → Label → List ℕ → Type 0
SpareDownToFloors w adversary p = BlocksSpare w adversary p × FloorsOutOfReach w adversary p

-- What the source shows on the way to theorem 5, under rule 2: protected slots hold their opening values at every step.
abbrev pub ProvenanceSafetyWhere : (Tables → Label → List ℕ → Type 0) → Type 0
ProvenanceSafetyWhere Condition =
    (adversary : Label) (c : Call) (old : List ℕ) (g : Good c)
    → c.rule ≡ 2
    → adversary < g.opening.tables.order.n
    → ProtectedSpare g.opening.tables adversary g.opening.store
    → Condition g.opening.tables adversary c.programme
    → ProtectedKept adversary c old g

abbrev pub ProvenanceSafety : Type 0
ProvenanceSafety = ProvenanceSafetyWhere BareOutside

abbrev pub ProvenanceSafetyDownToFloors : Type 0
ProvenanceSafetyDownToFloors = ProvenanceSafetyWhere SpareDownToFloors

-- No confused deputy. Definition 1's context is a programme p with the adversary's code left open: it stands for its replacements. They
-- are sheets, so lists of bytes, as in demand 3. The source speaks of the slots that an attacker is after, a set that it leaves open; here they
-- are all slots.

-- slot i of two outputs has the same value
abbrev pub ValueAlike : ℕ → List ℕ → List ℕ → Type 0
ValueAlike i out out' = part out (slot_width * i) value_width ≡ part out' (slot_width * i) value_width

-- definition 2, clause 1, "no adversary control": whatever else the adversary sends, slot i ends so
abbrev pub NoControl : ℕ → Tables → Label → List ℕ → List ℕ → ℕ → List ℕ → Type 0
NoControl rule w adversary store p i out =
    (q out' : List ℕ) → Bytes q → Replacement w adversary p q → FinishedRun rule store q out' → ValueAlike i out out'

-- clause 2, "direct adversary write": blocks within the adversary's reach alone can make slot i end so
pub record DirectWrite (rule : ℕ) (w : Tables) (adversary : Label) (store : List ℕ) (i : ℕ) (out : List ℕ) : Type 0 where
  pub programme : List ℕ
  pub end : List ℕ
  pub sendable : Bytes programme
  pub reached : (j : ℕ) → j < k_of programme → within_reach w adversary programme j ≡ true
  pub finished : FinishedRun rule store programme end
  pub alike : ValueAlike i out end

-- definition 2: no confused deputy in programme p over this store. Each slot of each run that finishes has one of the two.
abbrev pub NoConfusedDeputy : ℕ → Tables → Label → List ℕ → List ℕ → Type 0
NoConfusedDeputy rule w adversary store p =
    (q out : List ℕ) → Bytes q → Replacement w adversary p q → FinishedRun rule store q out
    → (i : ℕ) → i < w.slots → NoControl rule w adversary store p i out ⊎ DirectWrite rule w adversary store i out

-- a rule number leaves no confused deputy where the opening store and the programme meet a condition, whoever is the adversary
abbrev pub Prevents : ℕ → (Tables → Label → Store → List ℕ → Type 0) → Type 0
Prevents rule Condition =
    (adversary : Label) (store p : List ℕ) (w : Tables) (s : Store)
    → adversary < w.order.n
    → Bytes store
    → store_sheet store ≡ ok (record { tables = w; store = s })
    → Condition w adversary s p
    → NoConfusedDeputy rule w adversary store p

-- Noninterference

-- whatever the adversary sends over each of two opening stores, protected slots end alike
abbrev pub EndAlike : ℕ → Tables → Label → List ℕ → List ℕ → List ℕ → Type 0
EndAlike rule w adversary p store store' =
    (q q' : List ℕ) → Bytes q → Bytes q' → Replacement w adversary p q → Replacement w adversary p q'
    → (out out' : List ℕ) → FinishedRun rule store q out → FinishedRun rule store' q' out' → OutputsAgree w adversary out out'

-- definition 7: so it is for any two opening stores that agree on the protected slots
abbrev pub Noninterference : ℕ → Tables → Label → List ℕ → Type 0
Noninterference rule w adversary p =
    (store store' : List ℕ) (s s' : Store)
    → Bytes store → Bytes store'
    → store_sheet store ≡ ok (record { tables = w; store = s })
    → store_sheet store' ≡ ok (record { tables = w; store = s' })
    → StoresAgree w adversary s s'
    → EndAlike rule w adversary p store store'

-- The theorems

-- Theorem 4, capability. Endorsed blocks are held to the same condition here, so they need not be left out.
abbrev pub CapabilityDeputySafety : Type 0
CapabilityDeputySafety = Prevents 1 (λ w adversary s p. SlotsSpare w adversary s × BlocksSpare w adversary p)

-- Theorem 5, explicit provenance; with endorsed blocks, down to floors
abbrev pub DeputySafety : Type 0
DeputySafety = Prevents 2 (λ w adversary s p. ProtectedSpare w adversary s × BareOutside w adversary p)

abbrev pub DeputySafetyDownToFloors : Type 0
DeputySafetyDownToFloors = Prevents 2 (λ w adversary s p. ProtectedSpare w adversary s × SpareDownToFloors w adversary p)

-- Theorem 6, full provenance: whatever the store and the blocks hold; with endorsed blocks, down to floors
abbrev pub FullDeputySafety : Type 0
FullDeputySafety = (rule : ℕ) → FullRule rule → Prevents rule (λ w adversary s p. NoneEndorsedOutside w adversary p)

abbrev pub FullDeputySafetyDownToFloors : Type 0
FullDeputySafetyDownToFloors = (rule : ℕ) → FullRule rule → Prevents rule (λ w adversary s p. FloorsOutOfReach w adversary p)

-- Theorem 7: noninterference suffices. The source says it of all four rule sets, since a slot that is not protected is the adversary's to
-- write. Under rule 1 it may not hold every value, and the theorem is false (specs/NotEnoughUnderCapability.antt). It asks nothing of endorsed blocks or their floors:
-- these decide whether there is noninterference.
abbrev pub NoninterferenceSuffices : Type 0
NoninterferenceSuffices = (rule : ℕ) → (rule ≡ 1 → ⊥) → Prevents rule (λ w adversary s p. Noninterference rule w adversary p)

-- Theorem 7 from demand 3 in its own words, of one opening store and itself: of programmes with no endorsed block, and down to floors
abbrev pub IsolationSufficesWhere : (Tables → Label → List ℕ → Type 0) → Type 0
IsolationSufficesWhere Condition =
    (adversary : Label) (store p : List ℕ) (w : Tables) (s : Store)
    → adversary < w.order.n
    → store_sheet store ≡ ok (record { tables = w; store = s })
    → RunsAgreeWhere (Condition w adversary) w adversary store store
    → Bytes p → Condition w adversary p
    → (rule : ℕ) → FullRule rule → NoConfusedDeputy rule w adversary store p

abbrev pub IsolationSuffices : Type 0
IsolationSuffices = IsolationSufficesWhere (λ w adversary p. NoneEndorsed p)

abbrev pub IsolationSufficesDownToFloors : Type 0
IsolationSufficesDownToFloors = IsolationSufficesWhere FloorsOutOfReach
