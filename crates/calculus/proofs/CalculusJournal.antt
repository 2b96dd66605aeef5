-- Laws of the journal under `exec` (specs/Calculus.antt): a run only appends to it, at its end and where it is stopped. Assumes nothing.
use Prim.Native.Nat.{ℕ, ◌+◌}
use mathlib.Core.Path.{◌≡◌, refl, sym, ap, ◌∙◌}
use mathlib.Core.List.{List, [], ◌∷◌, ◌++◌, append_assoc, append-nil}
use Rattle.lattice.specs.Order.{Label, top}
use Rattle.values.specs.declared.Entry.{Entry}
use Rattle.values.proofs.Result.{Post, post_ok, post_all, post_map, post_refused_as, post_bind}
use Rattle.store.specs.Sheet.{Tables}
use Rattle.syntax.specs.Syntax.{Cmd}
use Rattle.syntax.specs.Sheet.{Block}
use Rattle.syntax.proofs.SyntaxLiterals.{literals_all}
use Rattle.calculus.specs.Rules.{RuleSet}
use Rattle.calculus.specs.Calculus.{Limits, Setting, State, recorded, exec}
use Rattle.calculus.specs.Blocks.{Halt, setting, run_blocks}
use Rattle.calculus.proofs.CalculusInvariant.{exec_records}

-- ks goes on where js ends
pub record Extends (js ks : List Entry) : Type 0 where
  pub more : List Entry
  pub is : ks ≡ js ++ more

pub extends_refl : (js : List Entry) → Extends js js
extends_refl js = record { more = []; is = sym (append-nil js) }

pub extends_trans : (js ks ls : List Entry) → Extends js ks → Extends ks ls → Extends js ls
extends_trans js ks ls x y =
    record { more = x.more ++ y.more; is = y.is ∙ ap (λ (l : List Entry). l ++ y.more) x.is ∙ append_assoc js x.more y.more }

pub exec_extends : (w : Setting) (c : Cmd) (branch : Label) (s : State)
    → Post (λ t. Extends s.journal t.journal) (λ e. Extends s.journal e.state.journal) (exec w c branch s)
unfolding recorded
exec_extends w c branch s =
    let js = s.journal in
    exec_records w (λ _. Unit {0}) (λ m. Extends js m.journal) (λ _. Unit {0}) (λ _ _ _ _. post_all _ _ _ (λ _. tt) (λ _. tt))
    (λ at branch m t v _ _ _ x. post_all _ _ _ (λ y. extends_trans js m.journal _ x (record { more = _; is = refl })) (λ _. tt))
    c (literals_all _ (λ _. tt) c) branch tt s (extends_refl js)

pub blocks_extend : (w : Tables) (rules : RuleSet) (l : Limits) (i : ℕ) (bs : List Block) (s : State)
    → Post (λ t. Extends s.journal t.journal) (λ (h : Halt). Extends s.journal h.stop.state.journal) (run_blocks w rules l i bs s)
unfolding run_blocks
blocks_extend w rules l i [] s = post_ok _ _ _ (extends_refl s.journal)
blocks_extend w rules l i (b ∷ bs) s =
    post_bind _ _ _ _ _ (post_refused_as _ _ _ _ (exec_extends (setting w rules l i b) b.command (top w.order) s)) λ t x.
    post_map _ _ _ _ _ (blocks_extend w rules l (i + 1) bs t)
    (λ u y. extends_trans s.journal t.journal u.journal x y) (λ h y. extends_trans s.journal t.journal h.stop.state.journal x y)
