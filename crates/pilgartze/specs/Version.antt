-- The library's version as one number: a million times the first part, a thousand times the second, and the third.
use Rattle.std.specs.Prelude.{ℕ, ◌+◌, ◌*◌}

abbrev pub version_of : ℕ → ℕ → ℕ → ℕ
version_of major minor patch = major * 1000000 + minor * 1000 + patch

-- 6.1.0
unfoldable pub version : ℕ
version = version_of 6 1 0
