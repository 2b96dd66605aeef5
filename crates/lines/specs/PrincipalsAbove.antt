-- Document 02, N7: "how many principals stand at or above its owner". Assumes nothing.
use Rattle.std.specs.Prelude.{ℕ, zero, suc, ◌+◌, ◌*◌, ◌^◌, min, Bool, true, false}
use Rattle.lattice.specs.declared.Table.{Table}
use Rattle.lattice.specs.Order.{Label, most_principals, below}

-- 1 where a test passes
unfoldable pub one_if : Bool → ℕ
one_if true = 1
one_if false = 0

-- at how many numbers below n f passes
unfoldable pub how_many : ℕ → (ℕ → Bool) → ℕ
how_many zero f = 0
how_many (suc n) f = how_many n f + one_if (f n)

-- the principals p of the table with the owner at or below p; the owner itself is one of them
unfoldable pub number_above : Table → Label → ℕ
number_above t owner = how_many t.n λ p. below t owner p

-- The code's form: the number whose bit p, for p below n, is set where f passes. Nobody has to believe it: `proofs/PrincipalsAbove.antt` shows that
-- the ones of `mask_above` are `number_above`.
unfoldable pub mask_where : ℕ → (ℕ → Bool) → ℕ
mask_where zero f = 0
mask_where (suc n) f = mask_where n f + one_if (f n) * 2 ^ n

-- "Ones are counted in the mask of principals above the owner." (document 01)
unfoldable pub mask_above : Table → Label → ℕ
mask_above t owner = mask_where (min most_principals t.n) λ p. below t owner p
