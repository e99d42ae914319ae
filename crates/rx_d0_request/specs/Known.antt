-- Meaning: the known segments of a part, and the values of their known fields (docs/FORMATS.md, "Parts, segments and fields").
use Rattle.std.specs.Prelude.{ℕ, Bool, false, ◌&&◌, if◌then◌else◌, List, [], ◌∷◌, map, filter, Option, Some, None, codes}
use Rattle.rx_text.specs.Options.{◌>>=◌}
use Rattle.rx_d0_request.specs.Cut.{same, is_nonempty, Field, fields, segments, is_part}

-- one or none; what stands twice is a syntax error
abbrev pub only : {A : Type 0} → List A → Option (Option A)
only [] = Some None
only (x ∷ []) = Some (Some x)
only (x ∷ y ∷ more) = None

abbrev pub is_called : List ℕ → List Field → Bool
is_called name [] = false
is_called name (f ∷ fs) = same f.value name

-- the segment has this name
abbrev pub has_name : List ℕ → List ℕ → Bool
has_name name text = is_called name (fields text)

-- the one segment of this name, if there is one
unfoldable pub segment : List ℕ → List ℕ → Option (Option (List ℕ))
segment name part = only (filter (has_name name) (segments part))

-- the values under this id; a field without a value doesn't count
abbrev pub values : List ℕ → List Field → List (List ℕ)
values id fs = map (λ f. f.value) (filter (λ f. same f.id id && is_nonempty f.value) fs)

-- the fields of a segment; there are none where it is absent
abbrev pub fields_in : Option (List ℕ) → List Field
fields_in None = []
fields_in (Some text) = fields text

-- the one value under this id, if there is one
unfoldable pub field : List ℕ → Option (List ℕ) → Option (Option (List ℕ))
field id found = only (values id (fields_in found))

-- the values of segment 04, of the common part
pub record InsuranceTexts : Type 0 where
  pub cardholder : Option (List ℕ)
  pub person : Option (List ℕ)

-- none of them
abbrev pub no_insurance : InsuranceTexts
no_insurance = record { cardholder = None; person = None }

-- the values of segment 07, of a group
pub record ClaimTexts : Type 0 where
  pub reference_qualifier : Option (List ℕ)
  pub reference : Option (List ℕ)
  pub product_qualifier : Option (List ℕ)
  pub product : Option (List ℕ)
  pub quantity : Option (List ℕ)
  pub days : Option (List ℕ)
  pub compound : Option (List ℕ)
  pub other_coverage : Option (List ℕ)

-- the values of segment 11, of a group
pub record PricingTexts : Type 0 where
  pub ingredient_cost : Option (List ℕ)
  pub dispensing_fee : Option (List ℕ)
  pub usual_charge : Option (List ℕ)
  pub gross_amount : Option (List ℕ)

pub record GroupTexts : Type 0 where
  pub claim : ClaimTexts
  pub pricing : PricingTexts

unfoldable pub insurance_of : Option (List ℕ) → Option InsuranceTexts
insurance_of found = do
  name_text ← field (codes "AM") found
  cardholder_text ← field (codes "C2") found
  person_text ← field (codes "C3") found
  Some (record { cardholder = cardholder_text; person = person_text })

unfoldable pub claim_of : Option (List ℕ) → Option ClaimTexts
claim_of found = do
  name_text ← field (codes "AM") found
  reference_qualifier_text ← field (codes "EM") found
  reference_text ← field (codes "D2") found
  product_qualifier_text ← field (codes "E1") found
  product_text ← field (codes "D7") found
  quantity_text ← field (codes "E7") found
  days_text ← field (codes "D5") found
  compound_text ← field (codes "D6") found
  other_coverage_text ← field (codes "C8") found
  Some (record {
    reference_qualifier = reference_qualifier_text;
    reference = reference_text;
    product_qualifier = product_qualifier_text;
    product = product_text;
    quantity = quantity_text;
    days = days_text;
    compound = compound_text;
    other_coverage = other_coverage_text;
  })

unfoldable pub pricing_of : Option (List ℕ) → Option PricingTexts
pricing_of found = do
  name_text ← field (codes "AM") found
  ingredient_cost_text ← field (codes "D9") found
  dispensing_fee_text ← field (codes "DC") found
  usual_charge_text ← field (codes "DQ") found
  gross_amount_text ← field (codes "DU") found
  Some (record {
    ingredient_cost = ingredient_cost_text;
    dispensing_fee = dispensing_fee_text;
    usual_charge = usual_charge_text;
    gross_amount = gross_amount_text;
  })

unfoldable pub insurance_in : List ℕ → Option InsuranceTexts
insurance_in part = do
  found ← segment (codes "04") part
  insurance_of found

unfoldable pub group_in : List ℕ → Option GroupTexts
group_in part = do
  claim_segment ← segment (codes "07") part
  pricing_segment ← segment (codes "11") part
  claim_texts ← claim_of claim_segment
  pricing_texts ← pricing_of pricing_segment
  Some (record { claim = claim_texts; pricing = pricing_texts })

-- the known values of a common part, or a syntax error
unfoldable pub common_of : List ℕ → Option InsuranceTexts
common_of part = if is_part part then insurance_in part else None

-- the known values of a group, or a syntax error
unfoldable pub group_of : List ℕ → Option GroupTexts
group_of part = if is_part part then group_in part else None
