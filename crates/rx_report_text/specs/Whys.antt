-- Meaning: why an answer was given, found by where the answer stands.
use Rattle.std.specs.Prelude.{ℕ, List, Option}
use Rattle.std.specs.Option.{option_map}
use Rattle.std.specs.Ordering.{nat_cmp, ordering_then}
use Rattle.std.specs.declared.cmp.Ordering.{Ordering}
use Rattle.rx_sorted.specs.Ascending.{item_at}
use Rattle.rx_report.specs.declared.line.Line.{Line}
use Rattle.rx_report_text.specs.declared.why.AnswerSpot.{AnswerSpot}
use Rattle.rx_report_text.specs.declared.why.Why.{Why}

abbrev pub spot_cmp : AnswerSpot → AnswerSpot → Ordering
spot_cmp a b = ordering_then (nat_cmp a.place b.place) (nat_cmp a.nth b.nth)

abbrev pub spot_of : Line → AnswerSpot
spot_of l = record { place = l.place; nth = l.nth }

-- the text with the place of the line's record and the line's own place in the reply
abbrev pub why_of : List Why → Line → Option (List ℕ)
why_of whys l = option_map (λ w. w.text.items) (item_at spot_cmp (λ w. w.spot) whys (spot_of l))
