-- Following a pause sheet's path, entry by entry, and its labels. Serves `find`, `go_in`, `label_fits`, `principal` and `names_of`. Assumes nothing.
use Prim.Native.Nat.{ℕ, zero, suc, ◌+◌, ◌-◌, ◌≤◌, ◌<◌}
use mathlib.Core.Path.{◌≡◌, refl, sym, ap, ◌∙◌}
use mathlib.Core.Bool.{Bool, true, false}
use mathlib.Core.List.{List, [], ◌∷◌}
use native.Mathlib.Omega.{arith}
use lib.ListN.{length, get_or, set, length-set}
use lib.Seq.{get_or-set_same, get_or-set_other, ext_get_or}
use Rattle.std.proofs.Common.{Option, None, Some}
use Rattle.std.specs.Bool.{then_some}
use lib.Dec.{eqb}
use borrow.Author.Tests.{eqb-true, eqb-false, ltb-true, lt-ltb, le-ltb}
use Rattle.lattice.specs.Tests.{◌and◌}
use Rattle.lattice.specs.declared.Table.{Table}
use Rattle.lattice.specs.Order.{Label, most_principals, bit, mask, good}
use Rattle.lattice.proofs.Order.{good_at}
use Rattle.lattice.proofs.Tests.{and_l}
use Rattle.values.specs.Bytes.{entries}
use Rattle.syntax.specs.Syntax.{Cmd, cmd, skip, assign, seq, if, while}
use Rattle.syntax.specs.Code.{most_deep}
use Rattle.pausing.specs.Paths.{Open, nowhere, child, takes_step, at_or_below, leads}
use Rattle.pausing.specs.Stretches.{entry_in}
use Rattle.lattice.specs.HeldLabels.{LabelHeld}
use Rattle.pausing.specs.RowPaths.{LabelsHeld}
use Rattle.pausing.specs.RowPaths.{row_to, row_body, Along, AlongBody}
use Rattle.paths.specs.CodeLayout.{Sits}
use Rattle.paths.specs.CodeParts.{inside, PartIs}
use Rattle.paths.specs.SheetPaths.{fits, EntryIs, Followed, FollowsAs, path_from}
use Rattle.paths.specs.declared.walking.Part.{Part}
use Rattle.paths.specs.declared.checkpoint.Entry.{Entry}

-- Labels.
module _ (t : Table) (label outer : Label) where
  pub fits_equal : (d : ℕ) → d ≡ 0 → eqb label outer ≡ fits t d label outer
  unfolding fits
  fits_equal zero h = refl
  fits_equal (suc d) h = absurd (omega arith)

  pub fits_below : (d : ℕ) → (d ≡ 0 → ⊥) → label < t.n → bit (mask t outer) label ≡ fits t d label outer
  unfolding fits at_or_below ◌and◌
  fits_below zero h l = absurd (h refl)
  fits_below (suc d) h l = rw (lt-ltb label t.n l)

  pub fits_not : (d : ℕ) → (d ≡ 0 → ⊥) → t.n ≤ label → false ≡ fits t d label outer
  unfolding fits at_or_below ◌and◌
  fits_not zero h l = absurd (h refl)
  fits_not (suc d) h l = rw (le-ltb label t.n l)

  fits_small : (d : ℕ) → outer < t.n → fits t d label outer ≡ true → label < t.n
  unfolding fits at_or_below
  fits_small zero h z = omega (arith, eqb-true label outer z)
  fits_small (suc d) h z = ltb-true label t.n (and_l _ _ z)

  fits_flat : (d : ℕ) → fits t d label outer ≡ true → d ≡ 0 → label ≡ outer
  unfolding fits
  fits_flat zero h z = eqb-true label outer h
  fits_flat (suc d) h z = absurd (omega arith)

-- in a good table two principals have two masks
pub one_label : (t : Table) → good t ≡ true → {x : ℕ} {a b : Label} → LabelHeld t a x → LabelHeld t b x → a ≡ b
one_label t g {a = a} {b = b} h k =
    let q = good_at t g in
    let z : mask t a ≡ mask t b = sym h.same ∙ k.same in
    q.anti a b h.inside k.inside (ap (λ (m : ℕ). bit m b) z ∙ q.self b k.inside) (ap (λ (m : ℕ). bit m a) (sym z) ∙ q.self a h.inside)

pub few_principals : (t : Table) → good t ≡ true → t.n ≤ most_principals
few_principals t g = (good_at t g).few

-- A path whose first entry leads nowhere, or whose label does not fit; and one that leads on
module _ (t : Table) (c : Cmd) (outer : Label) (o : Open) (q : List Open) where
  leads_nowhere : child c o.child ≡ nowhere → leads t c outer (o ∷ q) ≡ false
  unfolding leads
  leads_nowhere h = rw (leads, h)

  leads_inside : (d : ℕ) (y : Cmd) → child c o.child ≡ inside d y → leads t c outer (o ∷ q) ≡ (fits t d o.label outer and leads t y o.label q)
  unfolding leads inside fits
  leads_inside zero y h = rw (leads, h)
  leads_inside (suc d) y h = rw (leads, h)

  leads_unfit : (d : ℕ) (y : Cmd) → child c o.child ≡ inside d y → fits t d o.label outer ≡ false → leads t c outer (o ∷ q) ≡ false
  unfolding ◌and◌
  leads_unfit d y h z = leads_inside d y h ∙ rw z

  leads_on : (d : ℕ) (y : Cmd) → child c o.child ≡ inside d y → fits t d o.label outer ≡ true → leads t c outer (o ∷ q) ≡ leads t y o.label q
  unfolding ◌and◌
  leads_on d y h z = leads_inside d y h ∙ rw z

-- An entry.
module _ (code : List ℕ) (t : Table) (at outer : ℕ) (c : Cmd) (o : Open) where
  pub entry_inside : {k : ℕ} (q : Part) (label : ℕ) → k ≡ o.child → PartIs code at c k q → label ≡ o.label → fits t q.deeper label outer ≡ true → outer < t.n
      → EntryIs code t at c outer o (record { part = q; label = label })
  entry_inside q label x n z k i =
      record { part = rw x at n; fit = rw (sym z) k; same = z; small = fits_small t label outer q.deeper i k }

  pub entry_unfit : {k : ℕ} (q : Part) (label : ℕ) → k ≡ o.child → PartIs code at c k q → label ≡ o.label → fits t q.deeper label outer ≡ false
      → (p : List Open) → leads t c outer (o ∷ p) ≡ false
  entry_unfit q label x n z k p = leads_unfit t c outer o p q.deeper n.tree (rw (sym x) n.enters.is) (rw (sym z) k)

pub entry_nowhere : (t : Table) (outer : ℕ) (c : Cmd) (o : Open) {k : ℕ} → k ≡ o.child → child c k ≡ nowhere → (p : List Open) → leads t c outer (o ∷ p) ≡ false
entry_nowhere t outer c o x n p = leads_nowhere t c outer o p (rw (sym x) n)

-- a label set at a depth, and its mask
pub labels_set : {t : Table} {l x : List ℕ} (j : ℕ) (v : Label) → j ≤ most_deep → v < t.n → LabelsHeld t l x → LabelsHeld t (set l j v) (set x j (mask t v))
labels_set {t} {l} {x} j v k n h =
    record { room = length-set l j v ∙ h.room; size = length-set x j (mask t v) ∙ h.size; same = λ i m. go i m (eqb i j) refl }
  where
    go : (i : ℕ) → i ≤ most_deep → (b : Bool) → eqb i j ≡ b → LabelHeld t (get_or (set l j v) i 0) (get_or (set x j (mask t v)) i 0)
    go i m true q =
        let y = eqb-true i j q in
        rw (y, get_or-set_same l j v 0 (omega (arith, h.room)), get_or-set_same x j (mask t v) 0 (omega (arith, h.size))) (record { inside = n; same = refl })
    go i m false q =
        let y = eqb-false i j q in
        rw (get_or-set_other l j i v 0 y, get_or-set_other x j i (mask t v) 0 y) (h.same i m)

-- The entries of a sheet.
module _ (sheet : List ℕ) (size i : ℕ) where
  path_none : i ≡ size → path_from sheet size i ≡ []
  unfolding entries
  path_none h = let z : size - i ≡ 0 = omega arith in rw z

  path_more : i < size → path_from sheet size i ≡ entry_in sheet i ∷ path_from sheet size (i + 1)
  unfolding entries
  path_more h = let z : size - i ≡ suc (size - (i + 1)) = omega arith in rw z

-- The end of a path.
row_end : (c : Cmd) (r : ℕ) → r ≡ row_to c [] r
unfolding row_to row_body
row_end (cmd at skip) r = refl
row_end (cmd at (assign x v)) r = refl
row_end (cmd at (seq cs)) r = refl
row_end (cmd at (if g c d)) r = refl
row_end (cmd at (while g c)) r = refl

along_end : (l : List Label) (d : ℕ) (b : Label) → get_or l d 0 ≡ b → (c : Cmd) → Along l c d b []
unfolding Along AlongBody
along_end l d b h (cmd at skip) = (h, refl)
along_end l d b h (cmd at (assign x v)) = (h, refl)
along_end l d b h (cmd at (seq cs)) = h
along_end l d b h (cmd at (if g c e)) = h
along_end l d b h (cmd at (while g c)) = h

-- an entry that leads nowhere
pub lost : (t : Table) (sheet : List ℕ) (size i outer : ℕ) (c : Cmd) → i < size → ((p : List Open) → leads t c outer (entry_in sheet i ∷ p) ≡ false)
    → leads t c outer (path_from sheet size i) ≡ false
lost t sheet size i outer c z n = rw (path_more sheet size i z) (n (path_from sheet size (i + 1)))

module _ (t : Table) (sheet : List ℕ) (size i d outer row : ℕ) (c : Cmd) (l held : List ℕ) where
  -- a path ends at a command that takes a step, or leads nowhere
  pub arrived : (b : Bool) → i ≡ size → b ≡ takes_step c → LabelsHeld t l held → get_or l d 0 ≡ outer
      → FollowsAs t c d outer (path_from sheet size i) row l held (then_some b row)
  unfolding leads
  arrived true z k h y =
      rw (path_none sheet size i z)
      (record { good = sym k; row_is = row_end c row; labels = l; labels_held = h; along = along_end l d outer y c; same = λ j m. refl })
  arrived false z k h y = rw (path_none sheet size i z) (sym k)

  module _ (code : List ℕ) (at : ℕ) (g : Entry) (e : EntryIs code t at c outer (entry_in sheet i) g) (k : d + g.part.deeper < length l) (y : get_or l d 0 ≡ outer) where
    -- labels outside are kept
    outside : (j : ℕ) → j ≤ d → get_or (set l (d + g.part.deeper) g.label) j 0 ≡ get_or l j 0
    outside j m = go (eqb j (d + g.part.deeper)) refl
      where
        go : (b : Bool) → eqb j (d + g.part.deeper) ≡ b → get_or (set l (d + g.part.deeper) g.label) j 0 ≡ get_or l j 0
        go true q =
            let z : j ≡ d + g.part.deeper = eqb-true j (d + g.part.deeper) q in
            let x : d ≡ j = omega arith in
            let u : g.part.deeper ≡ 0 = omega arith in
            rw z (get_or-set_same l (d + g.part.deeper) g.label 0 k)
            ∙ e.same ∙ fits_flat t (entry_in sheet i).label outer g.part.deeper e.fit u ∙ sym y ∙ ap (λ (n : ℕ). get_or l n 0) x
        go false q = get_or-set_other l (d + g.part.deeper) j g.label 0 (eqb-false j (d + g.part.deeper) q)

    followed : (path : List Open) (to : ℕ) → Followed t e.part.tree (d + g.part.deeper) g.label path (row + g.part.rows) (set l (d + g.part.deeper) g.label) held to
        → Followed t c d outer (entry_in sheet i ∷ path) row l held to
    followed path to h =
        let o = entry_in sheet i in
        let kept : (j : ℕ) → j ≤ d → get_or h.labels j 0 ≡ get_or l j 0 = λ j m. h.same j (omega arith) ∙ outside j m in
        record {
          good = leads_on t c outer o path g.part.deeper e.part.tree e.part.enters.is e.fit ∙ rw (sym e.same) h.good;
          row_is = h.row_is ∙ sym (e.part.enters.row o path row refl);
          labels = h.labels;
          labels_held = h.labels_held;
          along = e.part.enters.along h.labels o path d outer refl (kept d (omega arith) ∙ y) (fits_flat t o.label outer g.part.deeper e.fit) (rw (sym e.same) h.along);
          same = kept;
        }

    further' : (path : List Open) (out : Option ℕ)
        → FollowsAs t e.part.tree (d + g.part.deeper) g.label path (row + g.part.rows) (set l (d + g.part.deeper) g.label) held out
        → FollowsAs t c d outer (entry_in sheet i ∷ path) row l held out
    further' path (Some to) h = followed path to h
    further' path None h = leads_on t c outer (entry_in sheet i) path g.part.deeper e.part.tree e.part.enters.is e.fit ∙ rw (sym e.same) h

    pub further : (out : Option ℕ) → i < size
        → FollowsAs t e.part.tree (d + g.part.deeper) g.label (path_from sheet size (i + 1)) (row + g.part.rows) (set l (d + g.part.deeper) g.label) held out
        → FollowsAs t c d outer (path_from sheet size i) row l held out
    further out z h = rw (path_more sheet size i z) (further' (path_from sheet size (i + 1)) out h)

-- Following a path from a command of a block: what is left of it from the i-th entry on decides what comes of the whole.
pub record Led (code sheet : List ℕ) (t : Table) (size : ℕ) (c : Cmd) (l : List Label) (top i at d outer row : ℕ) (held : List ℕ) : Type 0 where
  pub command : Cmd
  pub sits : Sits code command at
  pub labels : List Label
  pub labels_held : LabelsHeld t labels held
  pub here : get_or labels d 0 ≡ outer
  pub on : (now : List ℕ) (out : Option ℕ) → FollowsAs t command d outer (path_from sheet size i) row labels now out
      → FollowsAs t c 0 top (path_from sheet size 0) 0 l now out

module _ {code : List ℕ} (sheet : List ℕ) {t : Table} (size : ℕ) {c : Cmd} {l : List ℕ} {top : ℕ} {i at d outer row : ℕ} {now : List ℕ}
    (x : Led code sheet t size c l top i at d outer row now) where
  pub led_next : i < size → (g : Entry) (e : EntryIs code t at x.command outer (entry_in sheet i) g) → d + g.part.deeper ≤ most_deep
      → Led code sheet t size c l top (i + 1) g.part.there (d + g.part.deeper) g.label (row + g.part.rows) (set now (d + g.part.deeper) (mask t g.label))
  led_next z g e m =
      let k : d + g.part.deeper < length x.labels = omega (arith, x.labels_held.room) in
      record {
        command = e.part.tree;
        sits = e.part.sits;
        labels = set x.labels (d + g.part.deeper) g.label;
        labels_held = labels_set _ _ m e.small x.labels_held;
        here = get_or-set_same x.labels _ _ 0 k;
        on = λ last out f. x.on last out (further t sheet size i d outer row x.command x.labels last code at g e k x.here out z f);
      }

  pub led_astray : i < size → ((p : List Open) → leads t x.command outer (entry_in sheet i ∷ p) ≡ false) → FollowsAs t c 0 top (path_from sheet size 0) 0 l now None
  led_astray z n = x.on now None (lost t sheet size i outer x.command z n)

  pub led_there : (b : Bool) → i ≡ size → b ≡ takes_step x.command → FollowsAs t c 0 top (path_from sheet size 0) 0 l now (then_some b row)
  led_there b z k = x.on now (then_some b row) (arrived t sheet size i d outer row x.command x.labels now b z k x.labels_held x.here)

-- Labels by depth, as principals: those up to the j-th.
pub names_more : {t : Table} {l held : List ℕ} (names : List ℕ) (j : ℕ) (x : Label) → LabelsHeld t l held → length names ≡ most_deep + 1 → j ≤ most_deep
    → ((p : Label) → LabelHeld t p (get_or held j 0) → x ≡ p) → ((q : ℕ) → q < j → get_or names q 0 ≡ get_or l q 0)
    → (q : ℕ) → q < j + 1 → get_or (set names j x) q 0 ≡ get_or l q 0
names_more {l = l} names j x h k m f g q n = go (eqb q j) refl
  where
    go : (b : Bool) → eqb q j ≡ b → get_or (set names j x) q 0 ≡ get_or l q 0
    go true y =
        let z = eqb-true q j y in
        rw (z, get_or-set_same names j x 0 (omega arith)) (f (get_or l j 0) (h.same j m))
    go false y =
        let z = eqb-false q j y in
        get_or-set_other names j q x 0 z ∙ g q (omega arith)

pub names_all : {t : Table} {l held : List ℕ} (names : List ℕ) (j : ℕ) → LabelsHeld t l held → length names ≡ most_deep + 1 → most_deep < j
    → ((q : ℕ) → q < j → get_or names q 0 ≡ get_or l q 0) → names ≡ l
names_all {l = l} names j h k m g = ext_get_or 0 names l (k ∙ sym h.room) (λ q n. g q (omega arith))
