-- Document 01, "Principals and their order": order tables, in its words, as tests that compute. `Table` is the struct of src/lib.rt:
-- "There are n principals, 1 to 32, numbered from 0. The order table gives each a 4-byte mask."
-- Assumes nothing.
use Rattle.std.specs.Prelude.{ℕ, ◌/◌, ◌%◌, ◌^◌, Bool, get_or, ltb, leb, eqb}
use Rattle.lattice.specs.declared.Table.{Table}
use Rattle.lattice.specs.Tests.{◌and◌, ◌implies◌, every, some, find}

-- A principal is its number. A label is a principal: how far up the order a value can be relied on.
abbrev pub Label : Type 0
Label = ℕ

-- "The limits .. stand once": the most principals that a table may have
abbrev pub most_principals : ℕ
most_principals = 32

abbrev pub mask : Table → Label → ℕ
mask t i = get_or t.masks i 0

-- bit j of a mask, counted from the lowest
unfoldable pub bit : ℕ → ℕ → Bool
bit x j = eqb (x / 2 ^ j % 2) 1

-- "bit j of mask i is set when principal j stands at or below i"
abbrev pub below : Table → Label → Label → Bool
below t j i = bit (mask t i) j

-- "no bit n or higher is set"
unfoldable pub in_range : Table → Bool
in_range t = every t.n λ i. ltb (mask t i) (2 ^ t.n)

-- "each i stands below itself"
unfoldable pub reflexive : Table → Bool
reflexive t = every t.n λ i. below t i i

-- "no two different principals stand below each other"
unfoldable pub antisymmetric : Table → Bool
antisymmetric t = every t.n λ i. every t.n λ j. below t j i and below t i j implies eqb i j

-- "what stands below j stands below everything above j"
unfoldable pub transitive : Table → Bool
transitive t = every t.n λ i. every t.n λ j. every t.n λ k. below t k j and below t j i implies below t k i

-- k is the meet of i and j: their "greatest common lower principal"
unfoldable pub is_meet : Table → Label → Label → Label → Bool
is_meet t i j k = below t k i and below t k j and every t.n λ l. below t l i and below t l j implies below t l k

-- "any two have a greatest common lower principal (their meet)"
unfoldable pub has_meets : Table → Bool
has_meets t = every t.n λ i. every t.n λ j. some t.n (is_meet t i j)

-- "one principal, the top, is above all"
unfoldable pub is_top : Table → Label → Bool
is_top t k = every t.n λ i. below t i k

unfoldable pub has_top : Table → Bool
has_top t = some t.n (is_top t)

-- "There are n principals, 1 to 32 .. The table is good when .." (that there is one at all follows from the top)
unfoldable pub good : Table → Bool
good t =
    leb t.n most_principals and in_range t and reflexive t and antisymmetric t and transitive t and has_meets t and has_top t

-- the meet of two principals of a good table
unfoldable pub meet : Table → Label → Label → Label
meet t i j = find t.n (is_meet t i j)

-- the top of a good table
unfoldable pub top : Table → Label
top t = find t.n (is_top t)
