-- Proves theorems 4 to 7 of source 003: `capability_deputy_safety`, `deputy_safety`, `full_deputy_safety`, `noninterference_suffices`. Assumes nothing.
use Prim.Native.Nat.{ℕ, ◌<◌}
use mathlib.Core.Path.{◌≡◌, refl, sym, ap, ◌∙◌}
use mathlib.Core.Logic.{inl, inr}
use mathlib.Core.Bool.{true, false, true≢false}
use mathlib.Core.List.{List}
use native.Mathlib.Omega.{arith}
use borrow.Table.Steps.{cases}
use Rattle.lattice.specs.Order.{Label, below}
use Rattle.values.specs.Result.{ok}
use Rattle.store.specs.Sheet.{Tables, owner_of, store_sheet}
use Rattle.syntax.specs.declared.Header.{Header}
use Rattle.syntax.specs.Syntax.{Cmd, Literals}
use Rattle.syntax.specs.Code.{read_block}
use Rattle.syntax.specs.Sheet.{k_of, header_at, code_of}
use Rattle.calculus.specs.Rules.{judges_views}
use Rattle.calculus.specs.Calculus.{Store, contents}
use Rattle.calculus.specs.Run.{FinishedRun}
use Rattle.isolation.specs.Isolation.{within_reach, Replaced, unchanged, exchanged, Replacement, FloorOutOfReach, FloorsOutOfReach, FullRule, by_number, by_default}
use Rattle.isolation.specs.SlotsAtEveryStep.{Spares, BlocksSpare, ProtectedKept}
use Rattle.isolation.specs.ConfusedDeputy.{NoConfusedDeputy, EndAlike, Noninterference, CapabilityDeputySafety, DeputySafety, DeputySafetyDownToFloors, FullDeputySafety, FullDeputySafetyDownToFloors, NoninterferenceSuffices, IsolationSufficesWhere, IsolationSuffices, IsolationSufficesDownToFloors}
use Rattle.calculus.proofs.Rules.{views_judged}
use Rattle.calculus.proofs.CalculusInvariant.{Slots}
use Rattle.isolation.proofs.Isolation.{forth, no_floors}
use Rattle.isolation.proofs.ConfusedDeputyEndStore.{end_call, end_good, end_store, end_part, end_keeps, end_formed, end_kept}
use Rattle.isolation.proofs.CapabilitySafety.{Low, Safe, opening_safe, blocks_safe, capability_safety}
use Rattle.isolation.proofs.ProvenanceSafety.{bare_spare, provenance_safety_down_to_floors}
use Rattle.isolation.proofs.ConfusedDeputyDirectWrite.{value_part, value_alike, direct_write}

-- What a replacement leaves outside the adversary's reach

module _ (w : Tables) (a : Label) (p q : List ℕ) (r : Replacement w a p q) where
  -- what holds of each of p's blocks there holds of q's
  pub outside_left : (P : Header → List ℕ → Type 0) → ((i : ℕ) → i < k_of p → within_reach w a p i ≡ false → P (header_at p i) (code_of p i))
      → (i : ℕ) → i < k_of q → within_reach w a q i ≡ false → P (header_at q i) (code_of q i)
  outside_left P each i h out = let k : i < k_of p = rw r.count at h in go k (r.each i k)
    where
      go : i < k_of p → Replaced w a p q i → P (header_at q i) (code_of q i)
      go k (unchanged e c) = rw (e, c) (each i k (sym (ap (λ (h : Header). below w.order h.region a) e) ∙ out))
      go k (exchanged x y) = absurd (true≢false (sym y ∙ out))

  abbrev CodeSpares : List ℕ → Type 0
  CodeSpares code = (c : Cmd) → read_block w.slots code ≡ ok c → Literals (Spares w a) c

  spare_left : BlocksSpare w a p → BlocksSpare w a q
  spare_left = outside_left (λ _ code. CodeSpares code)

  floors_left : FloorsOutOfReach w a p → FloorsOutOfReach w a q
  floors_left = outside_left (λ header _. FloorOutOfReach w a header)

-- From what a rule gives to no confused deputy

module _ (rule : ℕ) (store : List ℕ) (w : Tables) (s : Store) (sheet : store_sheet store ≡ ok (record { tables = w; store = s }))
    (a : Label) (in-a : a < w.order.n) (p : List ℕ) where
  kept_alike : ((q out : List ℕ) → Replacement w a p q → (x : FinishedRun rule store q out)
      → ProtectedKept a (end_call rule store w s sheet q out x) x.old (end_good rule store w s sheet q out x)) → EndAlike rule w a p store store
  kept_alike k q q' _ _ r r' out out' x x' i b =
      end_kept rule store w s sheet q out x a (k q out r x) i b ∙ sym (end_kept rule store w s sheet q' out' x' a (k q' out' r' x') i b)

  -- where the rules judge views, no slot ends with a write view of a protected slot
  abbrev EndsLow : Type 0
  EndsLow =
      (q out : List ℕ) → Replacement w a p q → (x : FinishedRun rule store q out)
      → judges_views (end_good rule store w s sheet q out x).rules ≡ true → Slots (Low w a) (end_store rule store w s sheet q out x)

  others_low : (rule ≡ 1 → ⊥) → EndsLow
  others_low other q out r x e = let g = end_good rule store w s sheet q out x in absurd (other (views_judged rule g.rules g.ruled e))

  -- a protected slot is not the adversary's to control, and any other it can write directly
  no_confused_deputy : EndAlike rule w a p store store → EndsLow → NoConfusedDeputy rule w a store p
  no_confused_deputy alike low q out b r x i h =
      cases (below w.order (owner_of w i) a)
      (λ own. let g = end_good rule store w s sheet q out x in
      inr (
      direct_write rule g.rules g.ruled store w s sheet a in-a i h own (contents (end_store rule store w s sheet q out x) i)
      (end_formed rule store w s sheet q out x i) (λ e. low q out r x e i) out (value_part i out _ (end_part rule store w s sheet q out x i h))))
      (λ above. inl (λ q' out' b' r' x'. value_alike i out out' (alike q q' b b' r r' out out' x x' i (record { inside = h; above = above }))))

-- Theorem 4
pub capability_deputy_safety : CapabilityDeputySafety
capability_deputy_safety a store p w s in-a _ sheet spare =
    no_confused_deputy 1 store w s sheet a in-a p
    (kept_alike 1 store w s sheet a in-a p (λ q out r x.
    capability_safety a (end_call 1 store w s sheet q out x) x.old (end_good 1 store w s sheet q out x) refl in-a spare.0 (spare_left w a p q r spare.1)))
    low
  where
    low : EndsLow 1 store w s sheet a in-a p
    low q out r x _ =
        let c = end_call 1 store w s sheet q out x in
        let g = end_good 1 store w s sheet q out x in
        let blocks = spare_left w a p q r spare.1 in
        (end_keeps 1 store w s sheet q out x (Safe w a s) (opening_safe a c g refl in-a spare.0 blocks)
        (blocks_safe a c g refl in-a spare.0 blocks)).low

-- Theorem 5
pub deputy_safety_down_to_floors : DeputySafetyDownToFloors
deputy_safety_down_to_floors a store p w s in-a _ sheet spare =
    no_confused_deputy 2 store w s sheet a in-a p
    (kept_alike 2 store w s sheet a in-a p (λ q out r x.
    provenance_safety_down_to_floors a (end_call 2 store w s sheet q out x) x.old (end_good 2 store w s sheet q out x) refl in-a spare.0
    (spare_left w a p q r spare.1.0, floors_left w a p q r spare.1.1)))
    (others_low 2 store w s sheet a in-a p (λ e. omega arith))

pub deputy_safety : DeputySafety
deputy_safety a store p w s in-a d sheet spare =
    deputy_safety_down_to_floors a store p w s in-a d sheet (spare.0, bare_spare w a p spare.1)

-- Theorem 7
pub noninterference_suffices : NoninterferenceSuffices
noninterference_suffices rule other a store p w s in-a d sheet alike =
    no_confused_deputy rule store w s sheet a in-a p (alike store store s s d d sheet sheet (λ i b. refl)) (others_low rule store w s sheet a in-a p other)

-- Theorem 6, by the source's way: full provenance gives noninterference
full_noninterference : (rule : ℕ) → FullRule rule → (w : Tables) (a : Label) (p : List ℕ) → a < w.order.n → FloorsOutOfReach w a p
    → Noninterference rule w a p
full_noninterference rule full w a p in-a clear store store' s s' _ _ sheet sheet' agree q q' _ _ r r' out out' x x' =
    forth a store store' w s s' sheet sheet' in-a agree p clear q q' r r' out out'
    (record { rule = rule; full = full; run = x }) (record { rule = rule; full = full; run = x' })

full_not_1 : (rule : ℕ) → FullRule rule → rule ≡ 1 → ⊥
full_not_1 rule (by_number e) h = omega arith
full_not_1 rule (by_default e) h = omega arith

pub full_deputy_safety_down_to_floors : FullDeputySafetyDownToFloors
full_deputy_safety_down_to_floors rule full a store p w s in-a d sheet clear =
    noninterference_suffices rule (full_not_1 rule full) a store p w s in-a d sheet (full_noninterference rule full w a p in-a clear)

pub full_deputy_safety : FullDeputySafety
full_deputy_safety rule full a store p w s in-a d sheet bare =
    full_deputy_safety_down_to_floors rule full a store p w s in-a d sheet (no_floors w a p bare)

-- Theorem 7 from demand 3, of whatever programmes it speaks of
suffices_where : (Condition : Tables → Label → List ℕ → Type 0) → IsolationSufficesWhere Condition
suffices_where Condition a store p w s in-a sheet agree d met rule full =
    no_confused_deputy rule store w s sheet a in-a p
    (λ q q' b b' r r' out out' x x'.
    agree p d met q q' b b' r r' out out' (record { rule = rule; full = full; run = x }) (record { rule = rule; full = full; run = x' }))
    (others_low rule store w s sheet a in-a p (full_not_1 rule full))

pub isolation_suffices : IsolationSuffices
isolation_suffices = suffices_where _

pub isolation_suffices_down_to_floors : IsolationSufficesDownToFloors
isolation_suffices_down_to_floors = suffices_where _
