-- What holds of the slots at every step of a run: document 02, N2, of rule 1; source 003, theorem 2, of every rule. Assumes nothing.
use Rattle.std.specs.Prelude.{ℕ, ◌+◌, ◌*◌, ◌<◌, ◌≡◌, true, false, List, get_or}
use Rattle.lattice.specs.Tests.{some}
use Rattle.lattice.specs.Order.{Label, below}
use Rattle.values.specs.Result.{ok}
use Rattle.values.specs.Bytes.{part}
use Rattle.values.specs.declared.Value.{Value}
use Rattle.values.specs.Value.{is_write_view, viewed, slot_width, slot_bytes, empty_slot}
use Rattle.store.specs.Sheet.{Tables, owner_of}
use Rattle.syntax.specs.Syntax.{Cmd, Literals}
use Rattle.syntax.specs.Code.{read_block}
use Rattle.syntax.specs.Sheet.{k_of, header_at, code_of}
use Rattle.calculus.specs.Calculus.{Store, contents}
use Rattle.calculus.specs.Run.{Call, answer, output}
use Rattle.calculus.specs.Faithfulness.{Good}
use Rattle.isolation.specs.Isolation.{Protected, within_reach, StoresAgree}
use Rattle.exactness.specs.StepByStep.{state_within, store_after}

-- Protected slots

-- no write view of a slot that is protected from the adversary
abbrev pub Spares : Tables → Label → Value → Type 0
Spares w adversary v = is_write_view v ≡ true → Protected w adversary (viewed v) → ⊥

-- "let no opening slot hold a write view of a protected slot"
abbrev pub SlotsSpare : Tables → Label → Store → Type 0
SlotsSpare w adversary s = (i : ℕ) → i < w.slots → Spares w adversary (contents s i)

-- block i contains none as a literal
abbrev pub BlockSpares : Tables → Label → List ℕ → ℕ → Type 0
BlockSpares w adversary p i = (c : Cmd) → read_block w.slots (code_of p i) ≡ ok c → Literals (Spares w adversary) c

-- "and let no block outside the stranger's reach contain one"
abbrev pub BlocksSpare : Tables → Label → List ℕ → Type 0
BlocksSpare w adversary p = (i : ℕ) → i < k_of p → within_reach w adversary p i ≡ false → BlockSpares w adversary p i

-- "Then protected slots still hold their opening values at every step": after any number of steps, and so in the output of a run that
-- finishes
pub record ProtectedKept (adversary : Label) (c : Call) (old : List ℕ) (g : Good c) : Type 0 where
  pub held : (k : ℕ) → StoresAgree g.opening.tables adversary (store_after g k) g.opening.store
  pub put_out : (answer c).number ≡ 0
      → (i : ℕ) → Protected g.opening.tables adversary i
      → part (output c old) (slot_width * i) slot_width ≡ slot_bytes (get_or g.opening.store i empty_slot)

-- "Under rule 1, let no opening slot hold a write view of a protected slot, and let no block outside the stranger's reach contain one.
-- Then protected slots still hold their opening values at every step."
abbrev pub CapabilitySafety : Type 0
CapabilitySafety =
    (adversary : Label) (c : Call) (old : List ℕ) (g : Good c)
    → c.rule ≡ 1
    → adversary < g.opening.tables.order.n
    → SlotsSpare g.opening.tables adversary g.opening.store
    → BlocksSpare g.opening.tables adversary c.programme
    → ProtectedKept adversary c old g

-- Write integrity

-- Source 003, theorem 2, under every rule number: a slot that changes while block j runs is owned at or below the block's region. Block j
-- starts in `state_within g k j` and is in `state_within g k (j + 1)` when the k steps are done, or it ends or is stopped there. Of the output:
-- a slot that changed is owned at or below the region of some block.
pub record Integrity (c : Call) (old : List ℕ) (g : Good c) : Type 0 where
  pub held : (k j i : ℕ)
      → (get_or (state_within g k (j + 1)).store i empty_slot ≡ get_or (state_within g k j).store i empty_slot → ⊥)
      → below g.opening.tables.order (owner_of g.opening.tables i) (header_at c.programme j).region ≡ true
  pub put_out : (answer c).number ≡ 0
      → (i : ℕ) → i < g.opening.tables.slots
      → (part (output c old) (slot_width * i) slot_width ≡ slot_bytes (get_or g.opening.store i empty_slot) → ⊥)
      → some (k_of c.programme) (λ j. below g.opening.tables.order (owner_of g.opening.tables i) (header_at c.programme j).region) ≡ true

abbrev pub WriteIntegrity : Type 0
WriteIntegrity = (c : Call) (old : List ℕ) (g : Good c) → Integrity c old g
