-- What a `?` hands out where its callee refused. Assumes nothing.
use mathlib.Core.Path.{◌≡◌, ap, ◌∙◌}
use Rattle.std.proofs.Common.{Err}
use Rattle.std.specs.Prelude as std
use Rattle.std.specs.Result.{IsErrAnd}
use Rattle.std.proofs.lemmas.Result.{err_from_is_err_and}

pub exit : {T E : Type 0} {e : E} (r : std.Result T E) → IsErrAnd r (λ y. y ≡ e) → r ≡ Err e
exit r h = let p = err_from_is_err_and r h in p.1 ∙ ap Err p.2
