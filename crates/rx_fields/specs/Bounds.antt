-- Meaning: numbers within bounds.
use Rattle.std.specs.Prelude.{ℕ, ◌&&◌, nat_le, if◌then◌else◌, Option, Some, None}

-- the number, where it lies from low to high
abbrev pub bounded : ℕ → ℕ → ℕ → Option ℕ
bounded low high n = if nat_le low n && nat_le n high then Some n else None
