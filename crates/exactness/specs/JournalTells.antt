-- Document 02, N7: what a run that finishes tells by its journal and its counts. Assumes nothing.
use Rattle.std.specs.Prelude.{ℕ, ◌+◌, ◌*◌, ◌≤◌, ◌<◌, ◌≡◌, Bool, true, false, List, [], ◌∷◌, ◌++◌, get_or, set, length, drop, eqb}
use Rattle.lattice.specs.Order.{Label}
use Rattle.values.specs.declared.Entry.{Entry}
use Rattle.values.specs.declared.Value.{Value}
use Rattle.values.specs.Result.{ok}
use Rattle.values.specs.Bytes.{part, table}
use Rattle.values.specs.Value.{is_write_view, viewed, value_width, value_bytes, empty_slot, slot_width}
use Rattle.syntax.specs.Syntax.{Expr, cmd, assign}
use Rattle.syntax.specs.Sheet.{Block, k_of, header_at}
use Rattle.calculus.specs.Rules.{capability, explicit_provenance, full_provenance}
use Rattle.calculus.specs.Calculus.{Store, contents, State}
use Rattle.exactness.specs.Reduction.{Region, Above, Covers, Trusts, asks, ◌⊢⟨◌∣◌⟩⇓◌^◌, Code, ◌⨾◌, ⟨◌∣◌∣◌⟩, regions, during}
use Rattle.calculus.specs.Run.{Call, answer, output, entries, journal}
use Rattle.calculus.specs.Faithfulness.{Good, own_run}
use Rattle.exactness.specs.Exactness.{Reaches}
use Rattle.store.specs.Counts.{total, count_at}

-- Counts

unfoldable pub tally : Bool → ℕ
tally true = 1
tally false = 0

-- how many of the entries name slot i
unfoldable pub namings : ℕ → List Entry → ℕ
namings i [] = 0
namings i (e ∷ es) = tally (eqb e.slot i) + namings i es

-- Walks

-- The entries in order, each putting its new value into its slot; and the last one first, each putting its old value back. `put` says how values are
-- held: as such, or as bytes.
unfoldable pub redone : {A : Type 0} → (Value → A) → List Entry → List A → List A
redone put [] slots = slots
redone put (e ∷ es) slots = redone put es (set slots e.slot (put e.new))

unfoldable pub undone : {A : Type 0} → (Value → A) → List Entry → List A → List A
undone put [] slots = slots
undone put (e ∷ es) slots = set (undone put es slots) e.slot (put e.old)

-- what a slot holds
abbrev pub held_at : {A : Type 0} → (Value → A) → List A → ℕ → A
held_at put slots i = get_or slots i (put empty_slot.value)

-- an entry, with those before it and those after it
pub record Stands (es : List Entry) (e : Entry) : Type 0 where
  pub before : List Entry
  pub after : List Entry
  pub is : es ≡ before ++ (e ∷ after)

-- The entries lead from the opening values to the end values, and back: "Walking the entries backwards restores the opening values." Where the walk
-- comes to an entry, its slot holds the old value on the way forwards, and the new one on the way back.
pub record Walks {A : Type 0} (put : Value → A) (es : List Entry) (opening end : List A) : Type 0 where
  pub forwards : redone put es opening ≡ end
  pub backwards : undone put es end ≡ opening
  pub meets_old : (e : Entry) (x : Stands es e) → held_at put (redone put x.before opening) e.slot ≡ put e.old
  pub meets_new : (e : Entry) (x : Stands es e) → held_at put (undone put x.after end) e.slot ≡ put e.new

-- the values of m slots of a store, and their bytes in an output
abbrev pub values_of : {A : Type 0} → (Value → A) → ℕ → Store → List A
values_of put m s = table m (λ i. put (contents s i))

abbrev pub values_in : ℕ → List ℕ → List (List ℕ)
values_in m out = table m (λ i. part out (slot_width * i) value_width)

-- Who wrote it

-- An entry is a step of the run by the rules: at the entry's block and offset stands an assignment, of `value` to the slot that `target` views, to
-- which the run comes with the store H and the entries before this one; and its rule let it pass.
module _ {c : Call} (g : Good c) where
  -- the region of the entry's block
  abbrev pub writer : Entry → Region
  writer e = regions g.opening.tables g.rules e.block (header_at c.programme e.block)

  pub record ByRule (before : List Entry) (H : Store) (e : Entry) : Type 0 where
    -- block and slot are among those of the sheets
    pub block_listed : e.block < k_of c.programme
    pub slot_listed : e.slot < g.opening.tables.slots
    -- where the run is
    pub steps : ℕ
    pub branch : Label
    pub outer : List Label
    pub target : Expr
    pub value : Expr
    pub code : Code
    pub blocks : List Block
    pub comes : Reaches g.opening g.rules g.blocks
        (during e.block steps (header_at c.programme e.block)
        ⟨ record { store = H; journal = before } ∣ branch ∷ outer ∣ cmd e.offset (assign target value) ⨾ code ⟩ blocks)
    -- what the target and the value come to, with their labels, and what the slot held
    pub view : Value
    pub target_label : Label
    pub value_label : Label
    pub views : writer e ⊢⟨ H ∣ target ⟩⇓ view ^ target_label
    pub writes : is_write_view view ≡ true
    pub names : e.slot ≡ viewed view
    pub gives : writer e ⊢⟨ H ∣ value ⟩⇓ e.new ^ value_label
    pub held : e.old ≡ contents H e.slot
    -- what the rule set asks of the slot and of the labels
    pub slot_asked : (asks (writer e)).slot e.slot
    pub labels_asked : (asks (writer e)).labels e.slot target_label value_label branch
    -- Write integrity, entry by entry, under every rule number: the slot's owner stands at or below the block's region. Under rule 1 it is what was
    -- asked of the view: "each literal and each read result .. that is a write view must have an owner at or below the region."
    pub authority : Covers (writer e) e.slot
    -- Rule 1: a new value that is a write view "must have an owner at or below the region" too
    pub by_capability : g.rules ≡ capability → is_write_view e.new ≡ true → Covers (writer e) (viewed e.new)
    -- Rule 2: "the labels of target and value both stand at or above the owner", or where the block is endorsed the floor. Rule 3: "one more label,
    -- that of the branch"
    pub by_explicit : g.rules ≡ explicit_provenance
        → Trusts (writer e) e.slot (λ x. Above (writer e) target_label x × Above (writer e) value_label x)
    pub by_full : g.rules ≡ full_provenance
        → Trusts (writer e) e.slot (λ x. Above (writer e) target_label x × Above (writer e) value_label x × Above (writer e) branch x)

-- Of every run that finishes
pub record Written (c : Call) (old : List ℕ) (g : Good c) : Type 0 where
  -- the entries stand first in the journal; a step fills one at most, and no more are filled than are lent
  pub first : (kept : List Entry) → journal c kept ≡ entries c ++ drop (length (entries c)) kept
  pub few : length (entries c) ≤ (answer c).steps
  pub lent : length (entries c) ≤ c.entries
  -- "That total equals the entries filled, and for each slot the count equals the entries that name it."
  pub counts_total : total (table g.opening.tables.slots (count_at (output c old))) ≡ length (entries c)
  pub counts : (i : ℕ) → i < g.opening.tables.slots → count_at (output c old) i ≡ namings i (entries c)
  -- the walks, over the output's bytes, and over the stores
  pub in_bytes : Walks value_bytes (entries c) (values_of value_bytes g.opening.tables.slots g.opening.store)
      (values_in g.opening.tables.slots (output c old))
  pub in_stores : (s : State) → own_run g ≡ ok s
      → Walks (λ v. v) (entries c) (values_of (λ v. v) g.opening.tables.slots g.opening.store)
      (values_of (λ v. v) g.opening.tables.slots s.store)
  -- who wrote it: each entry is a step of its block's, from a store that holds the values to which the walk forwards has come
  pub by_rule : (e : Entry) (x : Stands (entries c) e)
      → (H : Store)
      × (values_of (λ v. v) g.opening.tables.slots H
      ≡ redone (λ v. v) x.before (values_of (λ v. v) g.opening.tables.slots g.opening.store))
      × ByRule g x.before H e

abbrev pub JournalTells : Type 0
JournalTells = (c : Call) (old : List ℕ) (g : Good c) → (answer c).number ≡ 0 → Written c old g
