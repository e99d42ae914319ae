-- The known values of a part, out of the slots of its table.
use Rattle.std.proofs.Common.{◌≡◌, ℕ, Bool, true, false, cond, List, [], ◌∷◌, get_or, Option, Some, None, refl, sym, Bor}
use Rattle.std.proofs.Math.ListN.{get_or-map}
use Rattle.std.specs.Prelude.{codes}
use Rattle.rx_text.specs.Options.{◌>>=◌}
use Rattle.rx_d0_request.specs.Known.{field, InsuranceTexts, ClaimTexts, PricingTexts, insurance_of, claim_of}
use Rattle.rx_d0_request.specs.Known.{pricing_of, insurance_in, group_in, common_of, group_of, segment, GroupTexts}
use Rattle.rx_d0_request.specs.Cut.{is_part}
use Rattle.rx_d0_request.specs.Slots.{text_of, texts_of, all_of}

abbrev Slot : Type 0
Slot = Option (List ℕ)

-- what is seen in a slot
pub at_slot : (slots : List (Option (Bor (List ℕ)))) (i : ℕ) → text_of (get_or slots i None) ≡ get_or (texts_of slots) i None
at_slot slots i = sym (get_or-map text_of slots i None)

-- these, one after another
abbrev each : List (Option Slot) → Option (List Slot)
each os = all_of (λ o. o) os

-- segment of Insurance
abbrev insurance_ids : List (List ℕ)
insurance_ids = codes "AM" ∷ codes "C2" ∷ codes "C3" ∷ []

abbrev insurance_binds : Option Slot → Option Slot → Option Slot → Option InsuranceTexts
insurance_binds o0 o1 o2 =
    o0 >>= λ x0. o1 >>= λ x1. o2 >>= λ x2.
    Some (record { cardholder = x1; person = x2 })

insurance_none : (o0 o1 o2 : Option Slot) → None ≡ each (o0 ∷ o1 ∷ o2 ∷ []) → None ≡ insurance_binds o0 o1 o2
insurance_none None o1 o2 e = refl
insurance_none (Some x0) None o2 e = refl
insurance_none (Some x0) (Some x1) None e = refl
insurance_none (Some x0) (Some x1) (Some x2) e = absurd cc

insurance_some : (slots : List Slot) (o0 o1 o2 : Option Slot) → Some slots ≡ each (o0 ∷ o1 ∷ o2 ∷ [])
    → Some (record { cardholder = get_or slots 1 None; person = get_or slots 2 None }) ≡ insurance_binds o0 o1 o2
insurance_some slots None o1 o2 e = absurd cc
insurance_some slots (Some x0) None o2 e = absurd cc
insurance_some slots (Some x0) (Some x1) None e = absurd cc
insurance_some slots (Some x0) (Some x1) (Some x2) e = let s : slots ≡ x0 ∷ x1 ∷ x2 ∷ [] = cc in rw s refl

pub insurance_off : (found : Slot) → None ≡ all_of (λ id. field id found) ((codes "AM") ∷ (codes "C2") ∷ (codes "C3") ∷ [])
    → None ≡ insurance_of found
unfolding insurance_of
insurance_off found e = insurance_none (field (codes "AM") found) (field (codes "C2") found) (field (codes "C3") found) e

pub insurance_on : (found : Slot) (slots : List Slot) → Some slots
    ≡ all_of (λ id. field id found) ((codes "AM") ∷ (codes "C2") ∷ (codes "C3") ∷ [])
    → Some (record { cardholder = get_or slots 1 None; person = get_or slots 2 None }) ≡ insurance_of found
unfolding insurance_of
insurance_on found slots e = insurance_some slots (field (codes "AM") found) (field (codes "C2") found) (field (codes "C3") found) e

-- segment of Claim
abbrev claim_ids : List (List ℕ)
claim_ids = codes "AM" ∷ codes "EM" ∷ codes "D2" ∷ codes "E1" ∷ codes "D7" ∷ codes "E7" ∷ codes "D5" ∷ codes "D6" ∷ codes "C8" ∷ []

abbrev claim_binds : Option Slot → Option Slot → Option Slot → Option Slot → Option Slot → Option Slot → Option Slot → Option Slot
    → Option Slot → Option ClaimTexts
claim_binds o0 o1 o2 o3 o4 o5 o6 o7 o8 =
    o0 >>= λ x0. o1 >>= λ x1. o2 >>= λ x2. o3 >>= λ x3. o4 >>= λ x4. o5 >>= λ x5. o6 >>= λ x6. o7 >>= λ x7. o8 >>= λ x8.
    Some (record {
      reference_qualifier = x1;
      reference = x2;
      product_qualifier = x3;
      product = x4;
      quantity = x5;
      days = x6;
      compound = x7;
      other_coverage = x8;
    })

claim_none : (o0 o1 o2 o3 o4 o5 o6 o7 o8 : Option Slot) → None ≡ each (o0 ∷ o1 ∷ o2 ∷ o3 ∷ o4 ∷ o5 ∷ o6 ∷ o7 ∷ o8 ∷ [])
    → None ≡ claim_binds o0 o1 o2 o3 o4 o5 o6 o7 o8
claim_none None o1 o2 o3 o4 o5 o6 o7 o8 e = refl
claim_none (Some x0) None o2 o3 o4 o5 o6 o7 o8 e = refl
claim_none (Some x0) (Some x1) None o3 o4 o5 o6 o7 o8 e = refl
claim_none (Some x0) (Some x1) (Some x2) None o4 o5 o6 o7 o8 e = refl
claim_none (Some x0) (Some x1) (Some x2) (Some x3) None o5 o6 o7 o8 e = refl
claim_none (Some x0) (Some x1) (Some x2) (Some x3) (Some x4) None o6 o7 o8 e = refl
claim_none (Some x0) (Some x1) (Some x2) (Some x3) (Some x4) (Some x5) None o7 o8 e = refl
claim_none (Some x0) (Some x1) (Some x2) (Some x3) (Some x4) (Some x5) (Some x6) None o8 e = refl
claim_none (Some x0) (Some x1) (Some x2) (Some x3) (Some x4) (Some x5) (Some x6) (Some x7) None e = refl
claim_none (Some x0) (Some x1) (Some x2) (Some x3) (Some x4) (Some x5) (Some x6) (Some x7) (Some x8) e = absurd cc

claim_some : (slots : List Slot) (o0 o1 o2 o3 o4 o5 o6 o7 o8 : Option Slot)
    → Some slots ≡ each (o0 ∷ o1 ∷ o2 ∷ o3 ∷ o4 ∷ o5 ∷ o6 ∷ o7 ∷ o8 ∷ [])
    → Some (record {
      reference_qualifier = get_or slots 1 None;
      reference = get_or slots 2 None;
      product_qualifier = get_or slots 3 None;
      product = get_or slots 4 None;
      quantity = get_or slots 5 None;
      days = get_or slots 6 None;
      compound = get_or slots 7 None;
      other_coverage = get_or slots 8 None;
    }) ≡ claim_binds o0 o1 o2 o3 o4 o5 o6 o7 o8
claim_some slots None o1 o2 o3 o4 o5 o6 o7 o8 e = absurd cc
claim_some slots (Some x0) None o2 o3 o4 o5 o6 o7 o8 e = absurd cc
claim_some slots (Some x0) (Some x1) None o3 o4 o5 o6 o7 o8 e = absurd cc
claim_some slots (Some x0) (Some x1) (Some x2) None o4 o5 o6 o7 o8 e = absurd cc
claim_some slots (Some x0) (Some x1) (Some x2) (Some x3) None o5 o6 o7 o8 e = absurd cc
claim_some slots (Some x0) (Some x1) (Some x2) (Some x3) (Some x4) None o6 o7 o8 e = absurd cc
claim_some slots (Some x0) (Some x1) (Some x2) (Some x3) (Some x4) (Some x5) None o7 o8 e = absurd cc
claim_some slots (Some x0) (Some x1) (Some x2) (Some x3) (Some x4) (Some x5) (Some x6) None o8 e = absurd cc
claim_some slots (Some x0) (Some x1) (Some x2) (Some x3) (Some x4) (Some x5) (Some x6) (Some x7) None e = absurd cc
claim_some slots (Some x0) (Some x1) (Some x2) (Some x3) (Some x4) (Some x5) (Some x6) (Some x7) (Some x8) e = let s : slots
    ≡ x0 ∷ x1 ∷ x2 ∷ x3 ∷ x4 ∷ x5 ∷ x6 ∷ x7 ∷ x8 ∷ [] = cc in rw s refl

pub claim_off : (found : Slot) → None ≡ all_of (λ id. field id found)
    ((codes "AM") ∷ (codes "EM") ∷ (codes "D2") ∷ (codes "E1") ∷ (codes "D7") ∷ (codes "E7") ∷ (codes "D5") ∷ (codes "D6") ∷
    (codes "C8") ∷ []) → None ≡ claim_of found
unfolding claim_of
claim_off found e = claim_none (field (codes "AM") found) (field (codes "EM") found) (field (codes "D2") found) (field (codes "E1") found)
    (field (codes "D7") found) (field (codes "E7") found) (field (codes "D5") found) (field (codes "D6") found) (field (codes "C8") found) e

pub claim_on : (found : Slot) (slots : List Slot) → Some slots ≡ all_of (λ id. field id found)
    ((codes "AM") ∷ (codes "EM") ∷ (codes "D2") ∷ (codes "E1") ∷ (codes "D7") ∷ (codes "E7") ∷ (codes "D5") ∷ (codes "D6") ∷
    (codes "C8") ∷ []) → Some (record {
      reference_qualifier = get_or slots 1 None;
      reference = get_or slots 2 None;
      product_qualifier = get_or slots 3 None;
      product = get_or slots 4 None;
      quantity = get_or slots 5 None;
      days = get_or slots 6 None;
      compound = get_or slots 7 None;
      other_coverage = get_or slots 8 None;
    }) ≡ claim_of found
unfolding claim_of
claim_on found slots e = claim_some slots (field (codes "AM") found) (field (codes "EM") found) (field (codes "D2") found)
    (field (codes "E1") found) (field (codes "D7") found) (field (codes "E7") found) (field (codes "D5") found) (field (codes "D6") found)
    (field (codes "C8") found) e

-- segment of Pricing
abbrev pricing_ids : List (List ℕ)
pricing_ids = codes "AM" ∷ codes "D9" ∷ codes "DC" ∷ codes "DQ" ∷ codes "DU" ∷ []

abbrev pricing_binds : Option Slot → Option Slot → Option Slot → Option Slot → Option Slot → Option PricingTexts
pricing_binds o0 o1 o2 o3 o4 =
    o0 >>= λ x0. o1 >>= λ x1. o2 >>= λ x2. o3 >>= λ x3. o4 >>= λ x4.
    Some (record { ingredient_cost = x1; dispensing_fee = x2; usual_charge = x3; gross_amount = x4 })

pricing_none : (o0 o1 o2 o3 o4 : Option Slot) → None ≡ each (o0 ∷ o1 ∷ o2 ∷ o3 ∷ o4 ∷ []) → None ≡ pricing_binds o0 o1 o2 o3 o4
pricing_none None o1 o2 o3 o4 e = refl
pricing_none (Some x0) None o2 o3 o4 e = refl
pricing_none (Some x0) (Some x1) None o3 o4 e = refl
pricing_none (Some x0) (Some x1) (Some x2) None o4 e = refl
pricing_none (Some x0) (Some x1) (Some x2) (Some x3) None e = refl
pricing_none (Some x0) (Some x1) (Some x2) (Some x3) (Some x4) e = absurd cc

pricing_some : (slots : List Slot) (o0 o1 o2 o3 o4 : Option Slot) → Some slots ≡ each (o0 ∷ o1 ∷ o2 ∷ o3 ∷ o4 ∷ [])
    → Some (record {
      ingredient_cost = get_or slots 1 None;
      dispensing_fee = get_or slots 2 None;
      usual_charge = get_or slots 3 None;
      gross_amount = get_or slots 4 None;
    }) ≡ pricing_binds o0 o1 o2 o3 o4
pricing_some slots None o1 o2 o3 o4 e = absurd cc
pricing_some slots (Some x0) None o2 o3 o4 e = absurd cc
pricing_some slots (Some x0) (Some x1) None o3 o4 e = absurd cc
pricing_some slots (Some x0) (Some x1) (Some x2) None o4 e = absurd cc
pricing_some slots (Some x0) (Some x1) (Some x2) (Some x3) None e = absurd cc
pricing_some slots (Some x0) (Some x1) (Some x2) (Some x3) (Some x4) e = let s : slots ≡ x0 ∷ x1 ∷ x2 ∷ x3 ∷ x4 ∷ [] = cc in rw s refl

pub pricing_off : (found : Slot) → None ≡ all_of (λ id. field id found)
    ((codes "AM") ∷ (codes "D9") ∷ (codes "DC") ∷ (codes "DQ") ∷ (codes "DU") ∷ []) → None ≡ pricing_of found
unfolding pricing_of
pricing_off found e = pricing_none (field (codes "AM") found) (field (codes "D9") found) (field (codes "DC") found)
    (field (codes "DQ") found) (field (codes "DU") found) e

pub pricing_on : (found : Slot) (slots : List Slot) → Some slots
    ≡ all_of (λ id. field id found) ((codes "AM") ∷ (codes "D9") ∷ (codes "DC") ∷ (codes "DQ") ∷ (codes "DU") ∷ [])
    → Some (record {
      ingredient_cost = get_or slots 1 None;
      dispensing_fee = get_or slots 2 None;
      usual_charge = get_or slots 3 None;
      gross_amount = get_or slots 4 None;
    }) ≡ pricing_of found
unfolding pricing_of
pricing_on found slots e = pricing_some slots (field (codes "AM") found) (field (codes "D9") found) (field (codes "DC") found)
    (field (codes "DQ") found) (field (codes "DU") found) e

-- ---- parts

one_none : (is_cut : Bool) (o : Option Slot) (f : Slot → Option InsuranceTexts) → None ≡ cond is_cut (each (o ∷ [])) None
    → None ≡ cond is_cut (o >>= f) None
one_none false o f e = refl
one_none true None f e = refl
one_none true (Some x) f e = absurd cc

one_some : (is_cut : Bool) (slots : List Slot) (o : Option Slot) (f : Slot → Option InsuranceTexts)
    → Some slots ≡ cond is_cut (each (o ∷ [])) None → f (get_or slots 0 None) ≡ cond is_cut (o >>= f) None
one_some false slots o f e = absurd cc
one_some true slots None f e = absurd cc
one_some true slots (Some x) f e = let s : slots ≡ x ∷ [] = cc in rw s refl

pub common_off : (part : List ℕ) → None ≡ cond (is_part part) (all_of (λ name. segment name part) (codes "04" ∷ [])) None
    → None ≡ common_of part
unfolding common_of insurance_in
common_off part e = one_none (is_part part) (segment (codes "04") part) (λ found. insurance_of found) e

pub common_on : (part : List ℕ) (slots : List Slot) → Some slots
    ≡ cond (is_part part) (all_of (λ name. segment name part) (codes "04" ∷ [])) None → insurance_of (get_or slots 0 None) ≡ common_of part
unfolding common_of insurance_in
common_on part slots e = one_some (is_part part) slots (segment (codes "04") part) (λ found. insurance_of found) e

-- what two segments say together
abbrev pub group_by : Option ClaimTexts → Option PricingTexts → Option GroupTexts
group_by c p = c >>= λ claim_texts. p >>= λ pricing_texts. Some (record { claim = claim_texts; pricing = pricing_texts })

two_none : (is_cut : Bool) (o u : Option Slot) (f : Slot → Option ClaimTexts) (g : Slot → Option PricingTexts)
    → None ≡ cond is_cut (each (o ∷ u ∷ [])) None
    → None ≡ cond is_cut (o >>= λ x. u >>= λ y. group_by (f x) (g y)) None
two_none false o u f g e = refl
two_none true None u f g e = refl
two_none true (Some x) None f g e = refl
two_none true (Some x) (Some y) f g e = absurd cc

two_some : (is_cut : Bool) (slots : List Slot) (o u : Option Slot) (f : Slot → Option ClaimTexts) (g : Slot → Option PricingTexts)
    → Some slots ≡ cond is_cut (each (o ∷ u ∷ [])) None
    → group_by (f (get_or slots 0 None)) (g (get_or slots 1 None)) ≡ cond is_cut (o >>= λ x. u >>= λ y. group_by (f x) (g y)) None
two_some false slots o u f g e = absurd cc
two_some true slots None u f g e = absurd cc
two_some true slots (Some x) None f g e = absurd cc
two_some true slots (Some x) (Some y) f g e = let s : slots ≡ x ∷ y ∷ [] = cc in rw s refl

pub group_off : (part : List ℕ) → None ≡ cond (is_part part) (all_of (λ name. segment name part) (codes "07" ∷ codes "11" ∷ [])) None
    → None ≡ group_of part
unfolding group_of group_in
group_off part e = two_none (is_part part) (segment (codes "07") part) (segment (codes "11") part) (λ found. claim_of found)
    (λ found. pricing_of found) e

pub group_on : (part : List ℕ) (slots : List Slot) → Some slots
    ≡ cond (is_part part) (all_of (λ name. segment name part) (codes "07" ∷ codes "11" ∷ [])) None
    → group_by (claim_of (get_or slots 0 None)) (pricing_of (get_or slots 1 None)) ≡ group_of part
unfolding group_of group_in
group_on part slots e = two_some (is_part part) slots (segment (codes "07") part) (segment (codes "11") part) (λ found. claim_of found)
    (λ found. pricing_of found) e

pub group_no_pricing : (c : Option ClaimTexts) → group_by c None ≡ None
group_no_pricing None = refl
group_no_pricing (Some c) = refl
