-- Plumbing: fields as they are read, each once; and what one reading step of a header answers for.
use Rattle.std.specs.Prelude.{ℕ, Bool, true, false, not, ◌||◌, ◌&&◌, if◌then◌else◌, List, [], ◌∷◌, ◌++◌, Option, Some, None}
use Rattle.std.specs.Prelude.{is_none, unwrap_or, codes, map, max, min}
use Rattle.rx_fields.specs.declared.code.Code.{Code}
use Rattle.rx_fields.specs.declared.code.Code.TheVariants as code
use Rattle.rx_fields.specs.declared.door.Door.{Door}
use Rattle.rx_fields.specs.Calendar.{Civil, civil_of}
use Rattle.rx_d0_values.specs.declared.bill.BillParts.{BillParts}
use Rattle.rx_d0_values.specs.declared.transaction.Reversal.{Reversal}
use Rattle.rx_d0_values.specs.declared.transmission.Heard.{Heard}
use Rattle.rx_d0_values.specs.declared.transmission.Rejected.{Rejected}
use Rattle.rx_d0_request.specs.declared.reading.FillReading.{FillReading}
use Rattle.rx_d0_request.specs.declared.reading.BillReading.{BillReading}
use Rattle.rx_d0_request.specs.declared.header.Header.{Header}
use Rattle.rx_d0_request.specs.Bills.{or_zero, or_empty, transaction}
use Rattle.rx_d0_request.specs.Codes.{first_five}
use Rattle.rx_d0_request.specs.Cut.{same}
use Rattle.rx_d0_request.specs.Known.{InsuranceTexts, no_insurance, ClaimTexts, GroupTexts, group_of}
use Rattle.rx_d0_request.specs.Values.{provider_in, date_in, id_in, person_in, number_in, positive_in, product_in, amount_in}
use Rattle.rx_d0_request.specs.Values.{is_no_amount, is_text, is_plain, is_sole}

-- an amount that may be absent; None where it is present and no amount
abbrev pub amount_if_any : Option (List ℕ) → Option (Option ℕ)
amount_if_any text = if is_no_amount text then None else Some (amount_in text)

-- the fields that a reversal is asked
abbrev pub fill_reading : ClaimTexts → FillReading
fill_reading claim =
    record {
      is_reference_number = is_text (codes "1") claim.reference_qualifier;
      reference = number_in 12 claim.reference;
      is_drug_code = is_text (codes "03") claim.product_qualifier;
      product = product_in claim.product;
    }

-- the fields that a billing is asked
abbrev pub bill_reading : InsuranceTexts → GroupTexts → BillReading
bill_reading common group =
    record {
      family = id_in 20 common.cardholder;
      person = person_in common.person;
      fill = fill_reading group.claim;
      quantity = positive_in 10 group.claim.quantity;
      days = positive_in 3 group.claim.days;
      is_plain = is_plain group.claim.compound;
      is_sole = is_sole group.claim.other_coverage;
      ingredient_cost = amount_in group.pricing.ingredient_cost;
      dispensing_fee = amount_if_any group.pricing.dispensing_fee;
      usual_charge = amount_if_any group.pricing.usual_charge;
      gross_amount = amount_if_any group.pricing.gross_amount;
    }

-- the codes of a reversal, by its fields
abbrev pub fill_conditions : FillReading → List (Code × Bool)
fill_conditions f =
    (code.ReferenceQualifier, not f.is_reference_number)
    ∷ (code.Reference, is_none f.reference)
    ∷ (code.ProductQualifier, not f.is_drug_code)
    ∷ (code.ProductId, is_none f.product)
    ∷ []

abbrev pub fill_parts : FillReading → Reversal
fill_parts f = record { reference = or_zero f.reference; product = or_zero f.product }

-- the usual and customary charge is no amount, or neither charge is there
abbrev pub states_no_charge : Option (Option ℕ) → Option (Option ℕ) → Bool
states_no_charge None gross = true
states_no_charge (Some (Some cents)) gross = false
states_no_charge (Some None) None = false
states_no_charge (Some None) (Some None) = true
states_no_charge (Some None) (Some (Some cents)) = false

-- the codes of a billing that a reversal isn't asked, by its fields
abbrev pub supply_conditions : BillReading → List (Code × Bool)
supply_conditions b =
    (code.Quantity, is_none b.quantity)
    ∷ (code.DaysSupply, is_none b.days)
    ∷ (code.Compound, not b.is_plain)
    ∷ (code.OtherCoverage, not b.is_sole)
    ∷ (code.IngredientCost, is_none b.ingredient_cost)
    ∷ (code.DispensingFee, is_none b.dispensing_fee)
    ∷ (code.UsualCharge, states_no_charge b.usual_charge b.gross_amount)
    ∷ (code.GrossAmount, is_none b.gross_amount)
    ∷ []

-- the codes of a billing, by its fields
abbrev pub bill_rows : BillReading → List (Code × Bool)
bill_rows b =
    (code.Cardholder, is_none b.family)
    ∷ (code.Person, is_none b.person)
    ∷ fill_conditions b.fill
    ++ supply_conditions b

-- what a billing says, by its fields
abbrev pub bill_values : BillReading → BillParts
bill_values b =
    record {
      reference = or_zero b.fill.reference;
      family = or_empty b.family;
      person = or_empty b.person;
      product = or_zero b.fill.product;
      quantity = or_zero b.quantity;
      days = or_zero b.days;
      ingredient_cost = or_zero b.ingredient_cost;
      dispensing_fee = unwrap_or b.dispensing_fee None;
      usual_charge = unwrap_or b.usual_charge None;
      gross_amount = unwrap_or b.gross_amount None;
    }

-- the header names this door, and a version and a code that are accepted
abbrev pub is_addressed : Door → Header → Bool
is_addressed door h =
    same h.bin door.bin && same h.version (codes "D0") && (same h.code (codes "B1") || same h.code (codes "B2"))
    && same h.pcn door.pcn

-- what a header without codes opens
pub record OpeningParts : Type 0 where
  pub provider : List ℕ
  pub date : Civil
  pub is_billing : Bool
  pub common : InsuranceTexts

unfoldable pub opening_parts : Header → Option InsuranceTexts → OpeningParts
opening_parts h common =
    record {
      provider = unwrap_or (provider_in h.provider) [];
      date = unwrap_or (date_in h.date) (civil_of h.date);
      is_billing = same h.code (codes "B1");
      common = unwrap_or common no_insurance;
    }

-- a header that is accepted, and its groups
abbrev pub heard_parts : OpeningParts → List (List ℕ) → Heard
heard_parts o groups =
    record {
      provider = o.provider;
      date = o.date;
      list = map (λ group. transaction o.is_billing o.common (group_of group)) groups;
    }

-- a header that isn't accepted, before a number of groups
abbrev pub rejected_parts : List (Code × Bool) → ℕ → Rejected
rejected_parts conditions groups = record { codes = first_five conditions; groups = max 1 (min groups 4) }
