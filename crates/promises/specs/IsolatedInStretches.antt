-- Document 02, N8: demand 3 over runs in stretches, each of which goes on from what the one before it wrote. Assumes nothing.
use Rattle.std.specs.Prelude.{ℕ, ◌≡◌, List, length}
use Rattle.isolation.specs.Isolation.{FullRule, IsolationOf, FloorsOutOfReach}
use Rattle.pausing.specs.Stretches.{From, stretch, answer, output}
use Rattle.pausing.specs.StretchesPromises.{Chain}

-- Demand 3

-- a last stretch, under full provenance, that finishes: it goes on from a start or a checkpoint that came about so
pub record LastStretch (Came : From → Type 0) (store programme out : List ℕ) : Type 0 where
  pub from : From
  pub came : Came from
  pub rule : ℕ
  pub full : FullRule rule
  pub budget : ℕ
  pub old : List ℕ
  pub sheet : List ℕ
  pub finishes : (answer from (stretch store programme rule budget (length old) (length sheet))).number ≡ 0
  pub ends : out ≡ output from (stretch store programme rule budget (length old) (length sheet)) old

-- a run in stretches, each under full provenance, that finishes: "Protected slots are compared over finished runs in stretches too, where every stretch ran
-- under rule 3, each sheet and output came back as written, and the opening values are those of the first stretch."
abbrev pub FullStretches : (store programme out : List ℕ) → Type 0
FullStretches store programme = LastStretch (Chain FullRule store programme) store programme

-- demand 3 as document 02, N6 widens it, over runs in stretches
abbrev pub IsolationInStretches : Type 0
IsolationInStretches = IsolationOf FullStretches FloorsOutOfReach
