-- Proves `isolated_in_stretches`: demand 3 over runs in stretches, which end as one run does, and the other way round. Assumes nothing.
use Prim.Native.Nat.{ℕ, max}
use mathlib.Core.Path.{◌≡◌, sym, ap, ◌∙◌}
use mathlib.Core.List.{List}
use native.Mathlib.Omega.{arith}
use lib.ListN.{length, replicate, length-replicate}
use Rattle.values.specs.declared.Answer.{Answer}
use Rattle.values.specs.Bytes.{Bytes}
use Rattle.calculus.specs.Rules.{full_provenance}
use Rattle.isolation.specs.Isolation.{FullRun, call_in}
use Rattle.pausing.specs.Stretches.{From, opening, stretch, pause_width, answer}
use Rattle.pausing.specs.StretchesPromises.{Chain, begun, carried, EndsAlike, AsRun}
use Rattle.promises.specs.IsolatedInStretches.{FullStretches, IsolationInStretches}
use Rattle.pausing.proofs.StartsAsRun.{starts_as_run}
use Rattle.pausing.proofs.NeverPaused.{never_paused}
use Rattle.isolation.proofs.Isolation.{full_rule, isolated_down_to_floors}
use Rattle.isolation.proofs.Ladder.{journals}
use Rattle.pausing.proofs.StretchesFinished.{pause_fits, steps_covered}

-- a chain under rule numbers of one kind is one under those of another
chain_under : {Ruled Ruled' : ℕ → Type 0} {store programme : List ℕ} → ((rule : ℕ) → Ruled rule → Ruled' rule)
    → (from : From) → Chain Ruled store programme from → Chain Ruled' store programme from
chain_under f from begun = begun
chain_under f from (carried {from = before} c rule budget out sheet r e) = carried (chain_under f before c) rule budget out sheet (f rule r) e

-- a run in stretches that finishes is as one that never paused, and this one is a run
one_run : (store programme out : List ℕ) → Bytes store → Bytes programme → FullStretches store programme out → FullRun store programme out
one_run store programme out b b' x =
    let c = stretch store programme x.rule x.budget (length x.old) (length x.sheet) in
    let same : EndsAlike x.from opening c =
    never_paused full_provenance x.from c b b' ((full_rule x.rule).0 x.full) (chain_under (λ rule. (full_rule rule).0) x.from x.came)
    (steps_covered x.from c x.finishes) in
    let zero : (answer opening c).number ≡ 0 = ap (λ (a : Answer). a.number) (sym same.0) ∙ x.finishes in
    let ran : AsRun c x.budget = starts_as_run c x.budget (pause_fits opening c zero) (omega arith) in
    record {
      rule = x.rule;
      full = x.full;
      run =
          record {
            budget = x.budget;
            entries = x.budget;
            old = x.old;
            finishes = ap (λ (a : Answer). a.number) (sym ran.answered) ∙ zero;
            ends = x.ends ∙ same.1 x.old ∙ ran.written x.old (λ e. omega (arith, e, zero));
          };
    }

-- a run is a run in stretches, of one stretch, if its journal is as long as its budget; a longer one alters no run that finishes
one_stretch : (store programme out : List ℕ) → FullRun store programme out → FullStretches store programme out
one_stretch store programme out x =
    let entries = max x.run.entries x.run.budget in
    let sheet : List ℕ = replicate pause_width 0 in
    let c = stretch store programme x.rule x.run.budget (length x.run.old) (length sheet) in
    let same = journals (call_in x) entries x.run.old (omega arith) (λ e. omega (arith, e, x.run.finishes)) in
    let ran : AsRun c entries = starts_as_run c entries (length-replicate {A = ℕ} pause_width 0) (omega arith) in
    let zero : (answer opening c).number ≡ 0 = ap (λ (a : Answer). a.number) (ran.answered ∙ sym same.0) ∙ x.run.finishes in
    record {
      from = opening;
      came = begun;
      rule = x.rule;
      full = x.full;
      budget = x.run.budget;
      old = x.run.old;
      sheet = sheet;
      finishes = zero;
      ends = x.run.ends ∙ same.1 ∙ sym (ran.written x.run.old (λ e. omega (arith, e, zero)));
    }

pub isolated_in_stretches : IsolationInStretches
isolated_in_stretches a store store' w s s' in-a d d' sheet sheet' =
    let i = isolated_down_to_floors a store store' w s s' in-a d d' sheet sheet' in (
      λ h p b clear q q' e e' r r' out out' x x'.
          i.0 h p b clear q q' e e' r r' out out' (one_run store q out d e x) (one_run store' q' out' d' e' x'),
      λ h. i.1 (λ p b clear q q' e e' r r' out out' x x'.
          h p b clear q q' e e' r r' out out' (one_stretch store q out x) (one_stretch store' q' out' x')),
    )
