-- The version of the library, as its header and the command have it. Assumes nothing.
use Rattle.std.specs.Prelude.{ℕ, ◌+◌, ◌*◌}

-- A version as one number, so that a later one is larger: at most 999 minor versions of a major one, and patches of a minor one.
abbrev pub version_number : ℕ → ℕ → ℕ → ℕ
version_number major minor patch = major * 1000000 + minor * 1000 + patch

-- Version 0.1.0.
abbrev pub version : ℕ
version = version_number 0 1 0
