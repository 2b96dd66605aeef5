-- Proves `never_paused`: pausing and carrying on under one rule is never pausing. Assumes nothing.
use Prim.Native.Nat.{◌≤◌}
use mathlib.Core.Path.{refl}
use lib.ListN.{length}
use Rattle.values.specs.Bytes.{Bytes}
use Rattle.calculus.specs.Rules.{RuleSet}
use Rattle.pausing.specs.Stretches.{From, opening, Stretch, stretch}
use Rattle.pausing.specs.StretchesPromises.{Chain, begun, carried, Means, steps_at, EndsAlike, NeverPaused}
use Rattle.pausing.proofs.StretchesAnswers.{stretch_pauses}
use Rattle.pausing.proofs.NeverPausedChains.{ends_alike}

-- a chain that is longer than its start tells that the sheets are taken in
alike : (rules : RuleSet) (c : Stretch) (from : From) → Bytes c.store → Bytes c.programme → Means rules c.rule → Chain (Means rules) c.store c.programme from
    → steps_at from ≤ c.budget → EndsAlike from opening c
alike rules c from b b' means begun h = (refl, λ _. refl, λ _. refl)
alike rules c from b b' means (carried {from = before} chain rule budget out sheet m e) h =
    let p = (stretch_pauses before (stretch c.store c.programme rule budget (length out) (length sheet)) e).0 in
    ends_alike rules (record { store_bytes = b; programme_bytes = b'; opens = p.opens; taken = p.taken }) (carried chain rule budget out sheet m e)
    c.rule c.budget c.room c.pause_room means h

pub never_paused : NeverPaused
never_paused rules from c = alike rules c from
