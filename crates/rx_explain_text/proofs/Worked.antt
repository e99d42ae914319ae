-- Worked cases of the definitions: lines of an explanation.
use Rattle.std.proofs.Common.{◌≡◌, refl, [], ◌∷◌, ◌++◌, Some, codes}
use Rattle.std.specs.Fmt.{decimal, digits}
use Rattle.rx_fields.specs.Calendar.{date_text}
use Rattle.rx_fields.specs.Digits.{digits_text}
use Rattle.rx_fields.specs.Numbered.{Span}
use Rattle.rx_explain.specs.declared.at.At.{At}
use Rattle.rx_explain.specs.declared.finding.Query.TheVariants as query
use Rattle.rx_explain_text.specs.Absent.{absent_line, near_text, pharmacy_text, places_left, prescription_text, record_text}
use Rattle.rx_explain_text.specs.Absent.{records_text, transaction_text}
use Rattle.rx_explain_text.specs.Claims.{at_text}
use Rattle.rx_explain_text.specs.Codes.{in_quotes}
use Rattle.rx_explain_text.specs.Figures.{cut_text, labelled, named_tier, product_text, rest_text, tier_words}
use Rattle.rx_explain_text.specs.Json.{between_commas}
use Rattle.rx_explain_text.specs.Reasons.{coverage_text, covered_text, dated_text, sum_text, supply_text}
use Rattle.rx_print.specs.Said.{said}

-- the lines of examples/first_job: record 4, 12, 16, 19 and 21
cost-cut : cut_text (codes "the charge") 150 270 ≡ codes ", cut to $1.50: the charge"
unfolding digits cut_text said
cost-cut = refl

cost-uncut : labelled (codes "ingredient cost F6") 145_000 ++ cut_text (codes "the charge") 145_000 145_000
    ≡ codes "  ingredient cost F6             $1,450.00"
unfolding digits labelled cut_text said
cost-uncut = refl

share-cut : product_text 20 290_200 0 58_040 ++ (tier_words (Some (codes "specialty"))
    ++ cut_text (codes "the family's maximum") 0 58_040)
    ≡ codes "  20 percent of $2,902.00 ($2,902.00 less $0.00) = $580.40, tier \"specialty\", cut to $0.00: the family's maximum"
unfolding digits product_text rest_text named_tier in_quotes cut_text said
share-cut = refl

days-passed : sum_text 19 30 75 ≡ codes "19 x 100 = 1900 < 30 x 75 = 2250"
unfolding digits sum_text said
days-passed = refl

too-many-days : supply_text 120 90 ≡ codes "  a supply for 120 days; the plan pays for at most 90\n"
unfolding digits supply_text said
too-many-days = refl

abbrev year : Span
year = record { first = record { year = 2026; month = 1; day = 1 }; last = record { year = 2026; month = 12; day = 31 } }

abbrev to-february : Span
to-february = record { first = record { year = 2026; month = 1; day = 1 }; last = record { year = 2026; month = 2; day = 28 } }

covered : coverage_text year to-february (record { year = 2026; month = 3; day = 16 })
    ≡ codes "  the member is covered from 2026-01-01 to 2026-02-28\n"
unfolding digits_text date_text covered_text dated_text said
covered = refl

-- three items have two commas between them
three-items : between_commas decimal (1 ∷ 2 ∷ 3 ∷ []) ≡ codes "1,2,3"
unfolding digits said
three-items = refl

no-record : absent_line (query.Place 22) 21 [] ≡ codes "rxbatch: no record 22; the batch has records 1 to 21\n"
unfolding digits absent_line record_text records_text said
no-record = refl

abbrev first-of-five : At
first-of-five = record { place = 5; nth = 1 }

abbrev second-of-five : At
second-of-five = record { place = 5; nth = 2 }

no-transaction : absent_line (query.One (record { place = 5; nth = 4 })) 21 (first-of-five ∷ second-of-five ∷ [])
    ≡ codes "rxbatch: no transaction 5.4; that record has 5.1, 5.2\n"
unfolding digits absent_line transaction_text near_text places_left at_text said
no-transaction = refl

at-another-pharmacy : absent_line (query.ReferenceAt 455102 (codes "90")) 21 (first-of-five ∷ [])
    ≡ codes "rxbatch: no rx 455102 at 90; that prescription is in records 5.1\n"
unfolding digits absent_line pharmacy_text prescription_text near_text places_left at_text said
at-another-pharmacy = refl
