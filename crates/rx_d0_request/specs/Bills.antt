-- Meaning: transactions: what a group of a billing or of a reversal asks.
use Rattle.std.specs.Prelude.{ℕ, Bool, true, false, if◌then◌else◌, List, [], ◌∷◌, Option, Some, None, unwrap_or}
use Rattle.rx_fields.specs.declared.code.Code.{Code}
use Rattle.rx_fields.specs.declared.code.Code.TheVariants as code
use Rattle.rx_d0_values.specs.declared.bill.BillParts.{BillParts}
use Rattle.rx_d0_values.specs.declared.transaction.Transaction.{Transaction}
use Rattle.rx_d0_values.specs.declared.transaction.Transaction.TheVariants.{Bill, Reverse, Faulty}
use Rattle.rx_d0_values.specs.declared.transaction.Reversal.{Reversal}
use Rattle.rx_d0_request.specs.Codes.{is_faulty, first_five, bill_conditions, reversal_conditions}
use Rattle.rx_d0_request.specs.Known.{InsuranceTexts, ClaimTexts, GroupTexts}
use Rattle.rx_d0_request.specs.Values.{id_in, person_in, number_in, positive_in, product_in, amount_in}

abbrev pub or_zero : Option ℕ → ℕ
or_zero value = unwrap_or value 0

abbrev pub or_empty : Option (List ℕ) → List ℕ
or_empty value = unwrap_or value []

-- what a billing without codes says: each value but the last three is there
unfoldable pub bill_parts : InsuranceTexts → GroupTexts → BillParts
bill_parts common group =
    record {
      reference = or_zero (number_in 12 group.claim.reference);
      family = or_empty (id_in 20 common.cardholder);
      person = or_empty (person_in common.person);
      product = or_zero (product_in group.claim.product);
      quantity = or_zero (positive_in 10 group.claim.quantity);
      days = or_zero (positive_in 3 group.claim.days);
      ingredient_cost = or_zero (amount_in group.pricing.ingredient_cost);
      dispensing_fee = amount_in group.pricing.dispensing_fee;
      usual_charge = amount_in group.pricing.usual_charge;
      gross_amount = amount_in group.pricing.gross_amount;
    }

-- what a reversal without codes says
unfoldable pub reversal_parts : ClaimTexts → Reversal
reversal_parts claim =
    record { reference = or_zero (number_in 12 claim.reference); product = or_zero (product_in claim.product) }

-- a transaction with codes keeps its reference where that was read
abbrev pub faulty : List (Code × Bool) → ClaimTexts → Transaction
faulty conditions claim =
    Faulty (record { codes = first_five conditions; reference = number_in 12 claim.reference })

-- a billing
unfoldable pub billing : InsuranceTexts → GroupTexts → Transaction
billing common group =
    if is_faulty (bill_conditions common group) then faulty (bill_conditions common group) group.claim
    else Bill (bill_parts common group)

-- a reversal
unfoldable pub reversal : ClaimTexts → Transaction
reversal claim =
    if is_faulty (reversal_conditions claim) then faulty (reversal_conditions claim) claim
    else Reverse (reversal_parts claim)

-- what a group asks; a syntax error is R8 only, with no reference
abbrev pub transaction : Bool → InsuranceTexts → Option GroupTexts → Transaction
transaction is_billing common None = Faulty (record { codes = code.Syntax ∷ []; reference = None })
transaction true common (Some group) = billing common group
transaction false common (Some group) = reversal group.claim
