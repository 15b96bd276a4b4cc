-- A version as one number.
use Rattle.std.specs.Prelude.{ℕ, ◌+◌, ◌*◌}

abbrev pub number_of_version : ℕ → ℕ → ℕ → ℕ
number_of_version major minor patch = major * 65536 + minor * 256 + patch
