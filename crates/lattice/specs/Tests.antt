-- Tests that compute, and searches below a bound. They are shut until a proof opens them, so that goals stay as written.
-- Assumes nothing.
use Rattle.std.specs.Prelude.{ℕ, zero, suc, Bool, true, false}

infixl 35 ◌and◌
infixl 30 ◌or◌
infixr 25 ◌implies◌
unfoldable pub ◌and◌ : Bool → Bool → Bool
true and b = b
false and b = false

unfoldable pub ◌or◌ : Bool → Bool → Bool
true or b = true
false or b = b

unfoldable pub ◌implies◌ : Bool → Bool → Bool
true implies b = b
false implies b = true

-- f passes at every number below n
unfoldable pub every : ℕ → (ℕ → Bool) → Bool
every zero f = true
every (suc n) f = every n f and f n

-- f passes at some number below n
unfoldable pub some : ℕ → (ℕ → Bool) → Bool
some zero f = false
some (suc n) f = some n f or f n

-- the highest number below n at which f passes; 0 where there is none
unfoldable pub find : ℕ → (ℕ → Bool) → ℕ
find zero f = zero
find (suc n) f = elim (f n) [ true ↦ n | false ↦ find n f ]
