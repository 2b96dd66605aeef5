-- Demand 3 speaks of "every programme with no endorsed block", and document 02, N6 also of endorsed blocks outside the stranger's reach, "provided that
-- none of their floors stands at or below the stranger". Without the proviso it is false, as it is with floors let in that are the adversary, or that
-- stand below it: the statements, and the example that refutes them. Assumes nothing.
use Rattle.std.specs.Prelude.{ℕ, ◌<◌, ◌≡◌, ◌⊎◌, true, false, List, ◌∷◌, ◌++◌, length}
use Rattle.lattice.specs.Order.{Label, below}
use Rattle.values.specs.Result.{ok, says}
use Rattle.store.specs.Sheet.{Tables, tables_of, opening_of, store_sheet}
use Rattle.syntax.specs.Sheet.{k_of, header_at}
use Rattle.calculus.specs.Run.{call, answer}
use Rattle.calculus.specs.Vectors.{int, wrote, kept, one_down_to, copy, blank, plenty}
use Rattle.isolation.specs.Isolation.{Protected, within_reach, StoresAgree, FloorsOutOfReach, FullRun, IsolationWhere}

-- demand 3 with all endorsed blocks let in
abbrev pub EndorsedIsolation : Type 0
EndorsedIsolation = IsolationWhere (λ w adversary p. Unit)

-- of the endorsed blocks outside the adversary's reach, each floor is out of reach, or one that is let in
abbrev pub FloorsLetIn : (Label → Type 0) → Tables → Label → List ℕ → Type 0
FloorsLetIn In w adversary p =
    (i : ℕ) → i < k_of p → within_reach w adversary p i ≡ false → (header_at p i).endorsed ≡ true
    → (below w.order (header_at p i).floor adversary ≡ false) ⊎ In (header_at p i).floor

-- demand 3 with the adversary itself let in as a floor, and with every other floor
abbrev pub IsolationAtFloors : Type 0
IsolationAtFloors = IsolationWhere (λ w adversary. FloorsLetIn (λ floor. floor ≡ adversary) w adversary)

abbrev pub IsolationBelowFloors : Type 0
IsolationBelowFloors = IsolationWhere (λ w adversary. FloorsLetIn (λ floor. floor ≡ adversary → ⊥) w adversary)

-- Principal 0 stands below 1, and 1 below 2; the adversary is 1. Slot 0, of owner 1, is its own and differs; slot 1, of owner 2, is protected, and 7
-- in both stores.
abbrev pub opening : ℕ → List ℕ
opening x = 3 ∷ 2 ∷ 0 ∷ 1 ∷ 0 ∷ 0 ∷ 0 ∷ 3 ∷ 0 ∷ 0 ∷ 0 ∷ 7 ∷ 0 ∷ 0 ∷ 0 ∷ 1 ∷ 2 ∷ (int x ++ int 7)

abbrev pub left : List ℕ
left = opening 5

abbrev pub right : List ℕ
right = opening 6

abbrev pub tables : Tables
tables = tables_of left

-- slot 1 := slot 0, in region 2, endorsed down to a floor
abbrev pub leaking : ℕ → List ℕ
leaking floor = one_down_to 0x82 floor copy

-- The stores agree, the block is outside the adversary's reach and endorsed, its floor stands at or below the adversary, and slot 1 ends with 5 and
-- with 6.
pub record EndorsedWorked (floor : ℕ) : Type 0 where
  pub left_opens : store_sheet left ≡ ok (record { tables = tables; store = (opening_of left).store })
  pub right_opens : store_sheet right ≡ ok (record { tables = tables; store = (opening_of right).store })
  pub principal : 1 < tables.order.n
  pub protected : Protected tables 1 1
  pub agree : StoresAgree tables 1 (opening_of left).store (opening_of right).store
  pub outside : within_reach tables 1 (leaking floor) 0 ≡ false
  pub header : header_at (leaking floor) 0 ≡ record { region = 2; endorsed = true; floor = floor }
  pub low : below tables.order floor 1 ≡ true
  pub left_run : FullRun left (leaking floor) (kept (int 5) ++ wrote 1 (int 5))
  pub right_run : FullRun right (leaking floor) (kept (int 6) ++ wrote 1 (int 6))

-- With principal 2 for its floor, which is out of the adversary's reach, the block is refused over both.
pub record FloorWorked : Type 0 where
  pub floors : FloorsOutOfReach tables 1 (leaking 2)
  pub left_refused : answer (call left (leaking 2) 3 10 (length blank) plenty) ≡ says 16 0 0 0
  pub right_refused : answer (call right (leaking 2) 3 10 (length blank) plenty) ≡ says 16 0 0 0
