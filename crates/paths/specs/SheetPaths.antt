-- The path of a pause sheet: following it into a block, entry by entry, and writing it. Assumes nothing.
use Rattle.std.specs.Prelude.{ℕ, zero, suc, ◌+◌, ◌-◌, ◌≤◌, ◌<◌, ◌≡◌, Bool, true, false, List, [], ◌∷◌, length, get_or, set, eqb, Option, MatchOption}
use Rattle.std.specs.declared.ops.ControlFlow.{ControlFlow}
use Rattle.std.specs.ControlFlow.{MatchControlFlow}
use Rattle.lattice.specs.declared.Table.{Table}
use Rattle.lattice.specs.Order.{Label, good}
use Rattle.values.specs.Bytes.{entries}
use Rattle.syntax.specs.Syntax.{Cmd}
use Rattle.syntax.specs.Code.{most_deep}
use Rattle.syntax.specs.Rows.{size}
use Rattle.pausing.specs.Paths.{Open, at_or_below, leads}
use Rattle.pausing.specs.Stretches.{pause_width, most_open, children_at, labels_at, entry_in}
use Rattle.lattice.specs.HeldLabels.{LabelHeld}
use Rattle.pausing.specs.RowPaths.{LabelsHeld}
use Rattle.pausing.specs.RowPaths.{entry, path_to, row_to, Along}
use Rattle.paths.specs.CodeLayout.{Sits, Levels, Skips, Stepping}
use Rattle.paths.specs.CodeParts.{PartIs}
use Rattle.paths.specs.declared.walking.Extent.{Extent}
use Rattle.paths.specs.declared.trail.Sought.{Sought}
use Rattle.paths.specs.declared.checkpoint.Entry.{Entry}

-- whether a label may stand inside a child, so many guards deeper: "at or below the one outside it (equal in a sequence)"
unfoldable pub fits : Table → ℕ → Label → Label → Bool
fits t zero label outer = eqb label outer
fits t (suc d) label outer = at_or_below t label outer

-- an entry of a path that leads into a child of the command at `at`, under its label
pub record EntryIs (code : List ℕ) (t : Table) (at : ℕ) (c : Cmd) (outer : Label) (o : Open) (g : Entry) : Type 0 where
  pub part : PartIs code at c o.child g.part
  pub fit : fits t g.part.deeper o.label outer ≡ true
  pub same : g.label ≡ o.label
  pub small : g.label < t.n

-- what an entry leads into
abbrev pub EntryAs : (code : List ℕ) (t : Table) (at : ℕ) (c : Cmd) (outer : Label) (o : Open) → Option Entry → Type 0
EntryAs code t at c outer o r = MatchOption r ((p : List Open) → leads t c outer (o ∷ p) ≡ false) (λ g. EntryIs code t at c outer o g)

-- A path was followed from a command inside d guards, whose label is `outer`, to a row; labels outside are kept.
pub record Followed (t : Table) (c : Cmd) (d : ℕ) (outer : Label) (path : List Open) (from : ℕ) (l : List Label) (held : List ℕ) (row : ℕ) : Type 0 where
  pub good : leads t c outer path ≡ true
  pub row_is : row ≡ row_to c path from
  pub labels : List Label
  pub labels_held : LabelsHeld t labels held
  pub along : Along labels c d outer path
  pub same : (j : ℕ) → j ≤ d → get_or labels j 0 ≡ get_or l j 0

abbrev pub FollowsAs : (t : Table) (c : Cmd) (d : ℕ) (outer : Label) (path : List Open) (from : ℕ) (l : List Label) (held : List ℕ) → Option ℕ → Type 0
FollowsAs t c d outer path from l held r = MatchOption r (leads t c outer path ≡ false) (λ row. Followed t c d outer path from l held row)

-- the entries of a sheet from the i-th on, of `size` in all
abbrev pub path_from : List ℕ → ℕ → ℕ → List Open
path_from sheet size i = entries i (size - i) (entry_in sheet)

-- a path may be followed from a block's command on, whose label is `top`
pub record CanFind (code : List ℕ) (t : Table) (held : List ℕ) (top : ℕ) : Type 0 where
  pub command : Cmd
  pub sits : Sits code command 0
  pub labels : List Label
  pub labels_held : LabelsHeld t labels held
  pub top_is : get_or labels 0 0 ≡ top
  pub outside : top < t.n

-- Writing: the entries of a path from the i-th on, of `size` in all, the last first
unfoldable pub fills : List ℕ → ℕ → ℕ → List Open → List ℕ
fills s size i [] = s
fills s size i (o ∷ p) = set (set (fills s size (i + 1) p) (children_at + i) o.child) (labels_at size + i) o.label

pub record Traced (old new : List ℕ) (len : ℕ) (p : List Open) (size : ℕ) : Type 0 where
  pub size_is : size ≡ len + length p
  pub filled : new ≡ fills old size len p
  pub short : size ≤ most_open

-- a command in which a row is looked for: where it has the row, that takes a step
pub record Seeks (code : List ℕ) (c : Cmd) (at i len : ℕ) : Type 0 where
  pub sits : Sits code c at
  pub steps : i < size c → Stepping c i
  pub levels : Levels c (most_deep - len)

-- What comes of it: the row is past the command, and the sheet as it was ..
pub record Past (code : List ℕ) (c : Cmd) (at i : ℕ) (old new : List ℕ) (e : Extent) : Type 0 where
  pub skips : Skips code at e.end e.rows
  pub past : size c ≤ i
  pub same : new ≡ old

-- .. or it is there, and a path was written from the len-th entry on
pub record There (c : Cmd) (i len : ℕ) (p : List Open) (old new : List ℕ) (all : ℕ) : Type 0 where
  pub there : i < size c
  pub traced : Traced old new len p all

abbrev pub SearchAs : (code : List ℕ) (c : Cmd) (at i len : ℕ) (p : List Open) (old new : List ℕ) → ControlFlow ℕ Extent → Type 0
SearchAs code c at i len p old new r = MatchControlFlow r (λ e. Past code c at i old new e) (λ all. There c i len p old new all)

abbrev pub Traces : (code names old new : List ℕ) → Sought → ControlFlow ℕ Extent → Type 0
Traces code names old new s r = (c : Cmd) → Seeks code c s.at s.row s.len → SearchAs code c s.at s.row s.len (path_to names c s.depth s.row) old new r

-- of a child, whose own entry is the first
abbrev pub TracesChild : (code names old new : List ℕ) (child : ℕ) → Sought → ControlFlow ℕ Extent → Type 0
TracesChild code names old new child s r =
    (c : Cmd) → Seeks code c s.at s.row (s.len + 1)
    → SearchAs code c s.at s.row s.len (entry names child s.depth ∷ path_to names c s.depth s.row) old new r

-- what they need: for a child, room for its entry too
pub record CanTrace (code sheet : List ℕ) (s : Sought) : Type 0 where
  pub command : Cmd
  pub seeks : Seeks code command s.at s.row s.len
  pub sheet_size : length sheet ≡ pause_width
  pub deep : s.depth ≤ s.len

abbrev pub CanTraceChild : (code sheet : List ℕ) → Sought → Type 0
CanTraceChild code sheet s = CanTrace code sheet (record s { len = s.len + 1 })

-- a label that a mask holds; labels by depth, held as masks
pub record SomeLabel (t : Table) (x : ℕ) : Type 0 where
  pub label : Label
  pub held : LabelHeld t label x

pub record SomeLabels (t : Table) (held : List ℕ) : Type 0 where
  pub labels : List Label
  pub labels_held : LabelsHeld t labels held
  pub table_good : good t ≡ true
