-- Laws of `settled` (specs/Stretches.antt): a run stopped by 17 is paused, by any other number refused; its answer says where. Assumes nothing.
use Prim.Native.Nat.{ℕ}
use mathlib.Core.Path.{◌≡◌, refl, sym, ap, ◌∙◌}
use mathlib.Core.Bool.{Bool, true, false}
use lib.Dec.{eqb}
use borrow.Author.Tests.{eqb-true, eqb-false, eq-eqb, ne_eqb}
use Rattle.values.specs.Result.{ok, refuse, says}
use Rattle.calculus.specs.Blocks.{halt_answer}
use Rattle.pausing.specs.Stretches.{Position, standing, Halted, paused, settled, answer_of}
use Rattle.pausing.proofs.PathsAsideBlocks.{halt_of}

-- where a halted run stands
abbrev pub halted_at : Halted → Position
halted_at h = standing h.block h.pause.path h.pause.stop.state

module _ (slots : ℕ) (h : Halted) where
  pub settled_17 : h.pause.stop.number ≡ 17 → settled slots h ≡ ok (paused slots h.pause.stop.offset (halted_at h))
  unfolding settled
  settled_17 e = rw (settled, eq-eqb h.pause.stop.number 17 e)

  pub settled_else : (h.pause.stop.number ≡ 17 → ⊥) → settled slots h ≡ refuse (halt_answer (halt_of h))
  unfolding settled
  settled_else e = rw (settled, ne_eqb h.pause.stop.number 17 e)

  pub settled_answer : answer_of (settled slots h) ≡ halt_answer (halt_of h)
  unfolding answer_of halt_answer
  settled_answer = by_number (eqb h.pause.stop.number 17) refl
    where
      by_number : (b : Bool) → eqb h.pause.stop.number 17 ≡ b → answer_of (settled slots h) ≡ halt_answer (halt_of h)
      by_number true q =
          let e = eqb-true h.pause.stop.number 17 q in
          ap answer_of (settled_17 e) ∙ ap (λ (n : ℕ). says n h.block h.pause.stop.offset h.pause.stop.state.steps) (sym e)
      by_number false q = ap answer_of (settled_else (eqb-false h.pause.stop.number 17 q))
