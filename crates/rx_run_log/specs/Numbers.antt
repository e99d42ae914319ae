-- Meaning: numbers as people read them.
use Rattle.std.specs.Prelude.{ℕ, ℤ, ◌+◌, ◌/◌, ◌%◌, nat_lt, if◌then◌else◌, List, [], ◌∷◌, ◌++◌, codes, unsigned_abs}
use Rattle.std.specs.Fmt.{sign_text}
use Rattle.std.specs.Int.{is_negative}
use Rattle.rx_print.specs.Decimal.{grouped}
use Rattle.rx_print.specs.Money.{hundredths_text}

-- tenths as a number with one digit after the point
abbrev pub tenths_text : ℕ → List ℕ
tenths_text n = grouped (n / 10) ++ (46 ∷ (48 + n % 10) ∷ [])

-- bytes in full below a million, else in millions with a tenth, cut off
abbrev pub size_text : ℕ → List ℕ
size_text bytes =
    if nat_lt bytes 1_000_000 then grouped bytes ++ codes " bytes" else tenths_text (bytes / 100_000) ++ codes " MB"

-- microseconds as seconds with hundredths, cut off
abbrev pub time_text : ℕ → List ℕ
time_text micros = hundredths_text (micros / 10_000) ++ codes " s"

-- cents as dollars and cents, with a sign where they are below 0
abbrev pub net_text : ℤ → List ℕ
net_text cents = sign_text (is_negative cents) ++ hundredths_text (unsigned_abs cents)
