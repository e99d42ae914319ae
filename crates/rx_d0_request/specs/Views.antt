-- Plumbing: what is seen of the values in memory.
use Rattle.rx_d0_request.specs.declared.known.Insurance.{Insurance}
use Rattle.rx_d0_request.specs.declared.known.Claim.{Claim}
use Rattle.rx_d0_request.specs.declared.known.Pricing.{Pricing}
use Rattle.rx_d0_request.specs.declared.known.Group.{Group}
use Rattle.rx_d0_request.specs.declared.request.Opening.{Opening}
use Rattle.rx_d0_request.specs.Steps.{OpeningParts}
use Rattle.rx_d0_request.specs.Known.{InsuranceTexts, ClaimTexts, PricingTexts, GroupTexts}
use Rattle.rx_d0_request.specs.Slots.{text_of}

abbrev pub insurance_texts : Insurance → InsuranceTexts
insurance_texts i = record { cardholder = text_of i.cardholder; person = text_of i.person }

abbrev pub claim_texts : Claim → ClaimTexts
claim_texts c =
    record {
      reference_qualifier = text_of c.reference_qualifier;
      reference = text_of c.reference;
      product_qualifier = text_of c.product_qualifier;
      product = text_of c.product;
      quantity = text_of c.quantity;
      days = text_of c.days;
      compound = text_of c.compound;
      other_coverage = text_of c.other_coverage;
    }

abbrev pub pricing_texts : Pricing → PricingTexts
pricing_texts p =
    record {
      ingredient_cost = text_of p.ingredient_cost;
      dispensing_fee = text_of p.dispensing_fee;
      usual_charge = text_of p.usual_charge;
      gross_amount = text_of p.gross_amount;
    }

abbrev pub group_texts : Group → GroupTexts
group_texts g = record { claim = claim_texts g.claim; pricing = pricing_texts g.pricing }

abbrev pub opening_view : Opening → OpeningParts
opening_view o =
    record { provider = o.provider; date = o.date; is_billing = o.is_billing; common = insurance_texts o.common }
