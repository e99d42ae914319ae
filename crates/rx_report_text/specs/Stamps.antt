-- Text: a stamp as people read it, as 2026-03-17 06:00.
use Rattle.std.specs.Prelude.{ℕ, List, ◌∷◌, ◌++◌}
use Rattle.rx_fields.specs.Digits.{digits_text}
use Rattle.rx_fields.specs.TimeOfDay.{Clock}
use Rattle.rx_fields.specs.declared.stamp.Stamp.{Stamp}
use Rattle.rx_print.specs.Dates.{dashed}

-- hour and minute with a colon between them
abbrev pub clock_words : Clock → List ℕ
clock_words t = digits_text 2 t.hour ++ (58 ∷ digits_text 2 t.minute)

abbrev pub stamp_words : Stamp → List ℕ
stamp_words s = dashed s.date ++ (32 ∷ clock_words s.time)
