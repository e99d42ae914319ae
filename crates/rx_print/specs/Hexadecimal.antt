-- Meaning: bytes by their numbers, in hexadecimal digits.
use Rattle.std.specs.Prelude.{ℕ, ◌+◌, ◌/◌, ◌%◌, nat_lt, if◌then◌else◌, List, [], ◌∷◌}

-- a digit: 0 to 9 and A to F
abbrev pub hexadecimal : ℕ → ℕ
hexadecimal digit = if nat_lt digit 10 then 48 + digit else 55 + digit

-- a byte's number: two digits in angle brackets
abbrev pub bracketed : ℕ → List ℕ
bracketed b = 60 ∷ hexadecimal (b / 16) ∷ hexadecimal (b % 16) ∷ 62 ∷ []
