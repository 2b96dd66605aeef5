-- Integers as signed numbers: "0 integer (signed, two's complement)". Assumes nothing.
use Rattle.std.specs.Prelude.{◌≡◌, ℕ, ◌+◌, ◌-◌, ◌*◌, ◌^◌, ◌<◌, ◌≤◌, Bool, true, false, nat_le}
use Rattle.lattice.specs.Tests.{◌and◌}
use Rattle.values.specs.declared.Value.{Value}
use Rattle.values.specs.Value.{payload_width, integer, is}

-- "Integers are signed 64-bit" (document 02, N3): there are this many payloads ..
abbrev pub payloads : ℕ
payloads = 2 ^ (8 * payload_width)

-- .. and those of negative ones are the upper half, from here on
abbrev pub least_negative : ℕ
least_negative = 2 ^ (8 * payload_width - 1)

unfoldable pub negative : Value → Bool
negative v = is integer v and nat_le least_negative v.payload

-- the number after the sign
unfoldable pub magnitude : Value → ℕ
magnitude v = elim (negative v) [ true ↦ payloads - v.payload | false ↦ v.payload ]

-- an integer that a sheet can hold
pub record AnInteger (v : Value) : Type 0 where
  pub kind : v.kind ≡ integer
  pub fits : v.payload < payloads

-- Two's complement: a negative one's magnitude and its payload add up to 2 ^ 64, any other's magnitude is its payload. So negative ones are
-- 1 to 2 ^ 63 below 0, the others 0 to 2 ^ 63 - 1, and no two integers are alike.
pub record SignedIntegers : Type 0 where
  pub complement : (v : Value) → AnInteger v → negative v ≡ true → magnitude v + v.payload ≡ payloads
  pub itself : (v : Value) → AnInteger v → negative v ≡ false → magnitude v ≡ v.payload
  pub below : (v : Value) → AnInteger v → negative v ≡ true → (1 ≤ magnitude v) × (magnitude v ≤ least_negative)
  pub above : (v : Value) → AnInteger v → negative v ≡ false → magnitude v < least_negative
  pub apart : (u v : Value) → AnInteger u → AnInteger v → negative u ≡ negative v → magnitude u ≡ magnitude v → u.payload ≡ v.payload
