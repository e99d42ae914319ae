-- Meaning: bytes shown on one line.
use Rattle.std.specs.Prelude.{ℕ, nat_lt, if◌then◌else◌, List, [], ◌∷◌}
use Rattle.rx_print.specs.Hexadecimal.{bracketed}

-- a byte below X'20' is two hexadecimal digits in angle brackets; any other stands for itself
abbrev pub shown_byte : ℕ → List ℕ
shown_byte b = if nat_lt b 32 then bracketed b else b ∷ []
