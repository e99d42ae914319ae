-- Meaning: reject codes, each with its condition, in the order of docs/FORMATS.md, "Request transmission".
use Rattle.std.specs.Prelude.{ℕ, ◌+◌, Bool, not, ◌||◌, ◌&&◌, ◌==◌, List, [], ◌∷◌, map, filter, take, is_none, codes}
use Rattle.std.specs.List.{list_any}
use Rattle.rx_fields.specs.declared.code.Code.{Code}
use Rattle.rx_fields.specs.declared.code.Code.TheVariants as code
use Rattle.rx_fields.specs.declared.door.Door.{Door}
use Rattle.rx_d0_values.specs.Listed.{is_few}
use Rattle.rx_d0_request.specs.Cut.{same}
use Rattle.rx_d0_request.specs.declared.header.Header.{Header}
use Rattle.rx_d0_request.specs.Known.{InsuranceTexts, ClaimTexts, PricingTexts, GroupTexts}
use Rattle.rx_d0_request.specs.Values.{provider_in, date_in, is_text, id_in, person_in, number_in, positive_in}
use Rattle.rx_d0_request.specs.Values.{product_in, amount_in, is_no_amount, is_plain, is_sole}

-- some condition holds
unfoldable pub is_faulty : List (Code × Bool) → Bool
is_faulty rows = list_any (λ row. row.1) rows

-- the codes whose condition holds, the first five
unfoldable pub first_five : List (Code × Bool) → List Code
first_five rows = take 5 (map (λ row. row.0) (filter (λ row. row.1) rows))

-- the count is 1 to 4, as a digit, and the number of groups
abbrev pub is_count : ℕ → ℕ → Bool
is_count count groups = is_few groups && (count == 48 + groups)

-- the codes of a header before a number of groups; is_sound: its bytes are there and printable, and the common part
-- has no syntax error
abbrev pub header_conditions : Door → Header → Bool → ℕ → List (Code × Bool)
header_conditions door h is_sound groups =
    (code.Bin, not (same h.bin door.bin))
    ∷ (code.Version, not (same h.version (codes "D0")))
    ∷ (code.TransactionCode, not (same h.code (codes "B1") || same h.code (codes "B2")))
    ∷ (code.ProcessorControlNumber, not (same h.pcn door.pcn))
    ∷ (code.TransactionCount, not (is_count h.count groups))
    ∷ (code.Provider, is_none (provider_in h.provider))
    ∷ (code.DateOfService, is_none (date_in h.date))
    ∷ (code.Syntax, not is_sound)
    ∷ []

-- the usual and customary charge is present and no amount, or both charges are absent
abbrev pub has_no_charge : PricingTexts → Bool
has_no_charge p = is_no_amount p.usual_charge || (is_none p.usual_charge && is_none p.gross_amount)

-- the codes of a billing
abbrev pub bill_conditions : InsuranceTexts → GroupTexts → List (Code × Bool)
bill_conditions common group =
    (code.Cardholder, is_none (id_in 20 common.cardholder))
    ∷ (code.Person, is_none (person_in common.person))
    ∷ (code.ReferenceQualifier, not (is_text (codes "1") group.claim.reference_qualifier))
    ∷ (code.Reference, is_none (number_in 12 group.claim.reference))
    ∷ (code.ProductQualifier, not (is_text (codes "03") group.claim.product_qualifier))
    ∷ (code.ProductId, is_none (product_in group.claim.product))
    ∷ (code.Quantity, is_none (positive_in 10 group.claim.quantity))
    ∷ (code.DaysSupply, is_none (positive_in 3 group.claim.days))
    ∷ (code.Compound, not (is_plain group.claim.compound))
    ∷ (code.OtherCoverage, not (is_sole group.claim.other_coverage))
    ∷ (code.IngredientCost, is_none (amount_in group.pricing.ingredient_cost))
    ∷ (code.DispensingFee, is_no_amount group.pricing.dispensing_fee)
    ∷ (code.UsualCharge, has_no_charge group.pricing)
    ∷ (code.GrossAmount, is_no_amount group.pricing.gross_amount)
    ∷ []

-- the codes of a reversal
abbrev pub reversal_conditions : ClaimTexts → List (Code × Bool)
reversal_conditions claim =
    (code.ReferenceQualifier, not (is_text (codes "1") claim.reference_qualifier))
    ∷ (code.Reference, is_none (number_in 12 claim.reference))
    ∷ (code.ProductQualifier, not (is_text (codes "03") claim.product_qualifier))
    ∷ (code.ProductId, is_none (product_in claim.product))
    ∷ []
