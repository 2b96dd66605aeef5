-- The calculus as rules, with neither budget nor fuel: source 003, figures 2 to 4, with document 01's changes; figure 1 is `Syntax.antt` of `syntax`.
-- A rule of the source's has its name there, less the prefix (A, C, EP, FP; X for A and C); `Operate`, `Guard`, `Seq`, `End`, `Start` and
-- `Prg_1_silent` are ours. Labels and the stack go along under every rule set: figure 2 has neither, figure 3 no stack. Where the source comes to
-- skip, what stands behind it is left; `done` is a block's last skip. H(r) is `contents`; H[r ↦ v] is `recorded`, since the journal goes along with the
-- store (document 02, N7). Assumes nothing.
use Rattle.std.specs.Prelude.{ℕ, ◌+◌, ◌≡◌, Bool, true, false, List, [], ◌∷◌}
use Rattle.lattice.specs.Order.{Label, below, meet, top}
use Rattle.values.specs.declared.Value.{Value}
use Rattle.values.specs.Value.{truth, read_view, is, is_write_view, viewed, holds}
use Rattle.store.specs.Sheet.{Tables, owner_of}
use Rattle.syntax.specs.declared.Header.{Header}
use Rattle.syntax.specs.Syntax.{Op, Expr, literal, read, operation, Cmd, cmd, skip, assign, seq, if, while, Cmds, nil, cons}
use Rattle.syntax.specs.Sheet.{Block}
use Rattle.calculus.specs.Rules.{RuleSet, access_control, capability, explicit_provenance, full_provenance}
use Rattle.calculus.specs.Calculus.{Store, contents, takes, gives, Memory, recorded}

infix 10 ◌⊢⟨◌∣◌⟩⇓◌^◌ ◌⊢⟨◌∣◌⟩⇓if◌^◌ ◌⊢◌⇝◌ ◌⊢◌⟶◌ ◌⊩◌⟹◌
infixr 30 ◌⨾◌ end⨾◌ ◌⨾⨾◌
-- A region ρ, which a block's header gives, and what its rules look up: the lattice, the owners O(r), the rule set; and the block's number
pub record Region : Type 0 where
  pub tables : Tables
  pub rules : RuleSet
  pub header : Header
  pub block : ℕ

-- ℓ ≥ x, "at or above"; and ρ ≥ O(r), "the region must be at or above the slot's owner"
abbrev pub Above : Region → Label → Label → Type 0
Above ρ l x = below ρ.tables.order x l ≡ true

abbrev pub Covers : Region → ℕ → Type 0
Covers ρ r = Above ρ ρ.header.region (owner_of ρ.tables r)

-- What the labels judged stand at or above (P says it of a principal): the owner O(r), or where the block is endorsed the floor. "An endorsed
-- assignment passes .. when the meet of all labels judged stands at or above the slot's owner, or at or above the floor." (document 02, N6)
pub data Trusts (ρ : Region) (r : ℕ) (P : Label → Type 0) : Type 0 where
  by_owner : P (owner_of ρ.tables r) → Trusts ρ r P
  by_floor : ρ.header.endorsed ≡ true → P ρ.header.floor → Trusts ρ r P

-- What a semantics asks of a value that an expression gives (C-Val, C-Deref), of the slot that is assigned (A-Assign), and of the labels of
-- target, value and branch (EP-Assign, FP-Assign)
pub record Semantics : Type 1 where
  pub value : Value → Type 0
  pub slot : ℕ → Type 0
  pub labels : ℕ → Label → Label → Label → Type 0

abbrev asking : (Value → Type 0) → (ℕ → Type 0) → (ℕ → Label → Label → Label → Type 0) → Semantics
asking v r l = record { value = v; slot = r; labels = l }

-- "Rule 0, access control: the region must be at or above the slot's owner."
-- "Rule 1, capability: each literal and each read result, intermediate ones too, that is a write view must have an owner at or below the region."
-- "Rule 2, explicit provenance: rule 0, and unless the block is endorsed the labels of target and value both stand at or above the owner."
-- "Rule 3, full provenance: rule 2 with one more label, that of the branch." EP-Assign and document 02, N6 ask of the meet of the labels what is
-- asked here of each. That an endorsed block is judged otherwise is document 01's; that the branch is one of the labels judged there, N6's.
unfoldable pub semantics : RuleSet → Region → Semantics
semantics access_control ρ = asking (λ v. Unit) (Covers ρ) (λ r l l' pc. Unit)
semantics capability ρ = asking (λ v. is_write_view v ≡ true → Covers ρ (viewed v)) (λ r. Unit) (λ r l l' pc. Unit)
semantics explicit_provenance ρ = asking (λ v. Unit) (Covers ρ) (λ r l l' pc. Trusts ρ r (λ x. Above ρ l x × Above ρ l' x))
semantics full_provenance ρ =
    asking (λ v. Unit) (Covers ρ) (λ r l l' pc. Trusts ρ r (λ x. Above ρ l x × Above ρ l' x × Above ρ pc x))

abbrev pub asks : Region → Semantics
asks ρ = semantics ρ.rules ρ

-- Expressions, ⟨H, e⟩ ⇓ v^ℓ. Of an operation: "The label is the meet of both labels." (document 02, N5)
pub data ◌⊢⟨◌∣◌⟩⇓◌^◌ (ρ : Region) (H : Store) : Expr → Value → Label → Type 0 where
  -- "a literal gives its value .. Its label: top for a literal"
  Val : {v : Value} → (asks ρ).value v → ρ ⊢⟨ H ∣ literal v ⟩⇓ v ^ top ρ.tables.order
  -- "a read needs a read view and gives that slot's present value. Its label: .. the meet of the view's label and the slot's owner."
  Deref : {e : Expr} {view : Value} {l : Label} → ρ ⊢⟨ H ∣ e ⟩⇓ view ^ l → is read_view view ≡ true → (asks ρ).value (contents H (viewed view))
      → ρ ⊢⟨ H ∣ read e ⟩⇓ contents H (viewed view) ^ meet ρ.tables.order l (owner_of ρ.tables (viewed view))
  Operate : {o : Op} {e e' : Expr} {v v' : Value} {l l' : Label} → ρ ⊢⟨ H ∣ e ⟩⇓ v ^ l → ρ ⊢⟨ H ∣ e' ⟩⇓ v' ^ l' → takes o v v' ≡ true
      → ρ ⊢⟨ H ∣ operation o e e' ⟩⇓ gives o v v' ^ meet ρ.tables.order l l'

-- "Guard: must be a truth value.": v = tt, or v = ff
pub data ◌⊢⟨◌∣◌⟩⇓if◌^◌ (ρ : Region) (H : Store) : Expr → Bool → Label → Type 0 where
  Guard : {g : Expr} {v : Value} {b : Bool} {l : Label} → ρ ⊢⟨ H ∣ g ⟩⇓ v ^ l → is truth v ≡ true → holds v ≡ b → ρ ⊢⟨ H ∣ g ⟩⇓if b ^ l

-- What is left of a block: commands, and one marker for `endif` and `endwhile`. Its form is X-Seq 1: the first command goes on, the rest waits.
pub data Code : Type 0 where
  done : Code
  ◌⨾◌ : Cmd → Code → Code
  end⨾◌ : Code → Code

unfoldable pub ◌⨾⨾◌ : Cmds → Code → Code
nil ⨾⨾ k = k
cons c cs ⨾⨾ k = c ⨾ cs ⨾⨾ k

-- Commands, ⟨H, PC, c⟩ ⟶ ⟨H', PC', c'⟩: the store with the journal, the stack of branch labels, the present one first, and
-- the code
pub data Config : Type 0 where
  ⟨◌∣◌∣◌⟩ : Memory → List Label → Code → Config

-- Silent: "A step is one guard judged or one assignment made; nothing else counts."
pub data ◌⊢◌⇝◌ (ρ : Region) : Config → Config → Type 0 where
  -- "22 sequence, a count byte 2 to 255, then that many commands": the source's c; c has two parts. Then "20 skip"
  Seq : {H : Memory} {PC : List Label} {at : ℕ} {cs : Cmds} {k : Code} → ρ ⊢ ⟨ H ∣ PC ∣ cmd at (seq cs) ⨾ k ⟩ ⇝ ⟨ H ∣ PC ∣ cs ⨾⨾ k ⟩
  Seq_2 : {H : Memory} {PC : List Label} {at : ℕ} {k : Code} → ρ ⊢ ⟨ H ∣ PC ∣ cmd at skip ⨾ k ⟩ ⇝ ⟨ H ∣ PC ∣ k ⟩
  -- FP-endif and FP-endwhile: "after the part, or after each round before judging again, the outer one is back"
  End : {H : Memory} {pc : Label} {PC : List Label} {k : Code} → ρ ⊢ ⟨ H ∣ pc ∷ PC ∣ end⨾ k ⟩ ⇝ ⟨ H ∣ PC ∣ k ⟩

-- Counted. "Inside an if-part or a while body it is the meet of the outer one and the guard's label": pc ⊓ ℓ is pushed
pub data ◌⊢◌⟶◌ (ρ : Region) : Config → Config → Type 0 where
  If : {H : Memory} {pc l : Label} {PC : List Label} {at : ℕ} {g : Expr} {c d : Cmd} {k : Code}
      → ρ ⊢⟨ H.store ∣ g ⟩⇓if true ^ l → ρ ⊢ ⟨ H ∣ pc ∷ PC ∣ cmd at (if g c d) ⨾ k ⟩ ⟶ ⟨ H ∣ meet ρ.tables.order pc l ∷ pc ∷ PC ∣ c ⨾ end⨾ k ⟩
  Else : {H : Memory} {pc l : Label} {PC : List Label} {at : ℕ} {g : Expr} {c d : Cmd} {k : Code}
      → ρ ⊢⟨ H.store ∣ g ⟩⇓if false ^ l → ρ ⊢ ⟨ H ∣ pc ∷ PC ∣ cmd at (if g c d) ⨾ k ⟩ ⟶ ⟨ H ∣ meet ρ.tables.order pc l ∷ pc ∷ PC ∣ d ⨾ end⨾ k ⟩
  -- "A while whose guard is true runs its body and judges again."; one whose guard is false is over, under the labels that it had
  While_1 : {H : Memory} {pc l : Label} {PC : List Label} {at : ℕ} {g : Expr} {c : Cmd} {k : Code}
      → ρ ⊢⟨ H.store ∣ g ⟩⇓if true ^ l
      → ρ ⊢ ⟨ H ∣ pc ∷ PC ∣ cmd at (while g c) ⨾ k ⟩ ⟶ ⟨ H ∣ meet ρ.tables.order pc l ∷ pc ∷ PC ∣ c ⨾ end⨾ cmd at (while g c) ⨾ k ⟩
  While_2 : {H : Memory} {pc l : Label} {PC : List Label} {at : ℕ} {g : Expr} {c : Cmd} {k : Code}
      → ρ ⊢⟨ H.store ∣ g ⟩⇓if false ^ l → ρ ⊢ ⟨ H ∣ pc ∷ PC ∣ cmd at (while g c) ⨾ k ⟩ ⟶ ⟨ H ∣ pc ∷ PC ∣ k ⟩
  -- "target evaluated first, must be a write view, then the value"; the label of the value is not stored: "Labels are not kept in slots."
  Assign : {H : Memory} {pc l l' : Label} {PC : List Label} {at : ℕ} {x y : Expr} {k : Code} {view v : Value}
      → ρ ⊢⟨ H.store ∣ x ⟩⇓ view ^ l → is_write_view view ≡ true → ρ ⊢⟨ H.store ∣ y ⟩⇓ v ^ l'
      → (asks ρ).slot (viewed view) → (asks ρ).labels (viewed view) l l' pc
      → ρ ⊢ ⟨ H ∣ pc ∷ PC ∣ cmd at (assign x y) ⨾ k ⟩ ⟶ ⟨ recorded ρ.block at (record { slot = viewed view; value = v }) H ∣ pc ∷ PC ∣ k ⟩

-- Programmes, ρ{c} ∘ P: "Blocks run in order.", over one lattice, one map of owners and under one rule set
abbrev pub regions : Tables → RuleSet → ℕ → Header → Region
regions w rules i h = record { tables = w; rules = rules; header = h; block = i }

-- A stage of a run has the number of its block and the steps done: before that block, the store and the blocks from it on; during it, its
-- header, where it stands, and the blocks after it. Below ρ is `regions w rules`.
pub data Stage : Type 0 where
  before : ℕ → ℕ → Memory → List Block → Stage
  during : ℕ → ℕ → Header → Config → List Block → Stage

pub data ◌⊩◌⟹◌ (ρ : ℕ → Header → Region) : Stage → Stage → Type 0 where
  -- the branch label "is top at a block's start"; the source starts a programme under [⊤]
  Start : {i n : ℕ} {H : Memory} {b : Block} {bs : List Block}
      → ρ ⊩ before i n H (b ∷ bs) ⟹ during i n b.header ⟨ H ∣ top (ρ i b.header).tables.order ∷ [] ∣ b.command ⨾ done ⟩ bs
  -- X-Prg 1 and X-Comp 1, silent and counted
  Prg_1_silent : {i n : ℕ} {h : Header} {C D : Config} {bs : List Block} → ρ i h ⊢ C ⇝ D → ρ ⊩ during i n h C bs ⟹ during i n h D bs
  Prg_1 : {i n : ℕ} {h : Header} {C D : Config} {bs : List Block} → ρ i h ⊢ C ⟶ D → ρ ⊩ during i n h C bs ⟹ during i (n + 1) h D bs
  -- FP-Comp 2. The source ends at the last block's ρ{skip}; here that block is left too, and a run is finished before a block that is not there
  Comp_2 : {i n : ℕ} {h : Header} {H : Memory} {PC : List Label} {bs : List Block} → PC ≡ top (ρ i h).tables.order ∷ []
      → ρ ⊩ during i n h ⟨ H ∣ PC ∣ done ⟩ bs ⟹ before (i + 1) n H bs
