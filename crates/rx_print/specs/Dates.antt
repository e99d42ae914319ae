-- Meaning: days as people read them, year, month and day with a dash between each two, as 2026-03-05.
use Rattle.std.specs.Prelude.{ℕ, List, ◌∷◌, ◌++◌, drop, take}
use Rattle.rx_fields.specs.Calendar.{Civil, date_text}

-- the eight digits of a date
abbrev pub dashed_digits : List ℕ → List ℕ
dashed_digits date = take 4 date ++ (45 ∷ (take 2 (drop 4 date) ++ (45 ∷ drop 2 (drop 4 date))))

abbrev pub dashed : Civil → List ℕ
dashed day = dashed_digits (date_text day)
