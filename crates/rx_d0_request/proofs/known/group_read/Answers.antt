use Rattle.std.proofs.Common.{◌≡◌, get_or, Option, Some, None, sym, ap, ◌∙◌}
use Rattle.rx_d0_request.specs.Known.{claim_of, pricing_of, ClaimTexts, PricingTexts}
use Rattle.rx_d0_request.specs.Slots.{texts_of}
use Rattle.rx_d0_request.specs.Views.{claim_texts, pricing_texts}
use Rattle.rx_d0_request.proofs.Tables.{group_off, group_on, group_by, group_no_pricing, at_slot}
use Rattle.rx_d0_request.proofs.known.group_read.Goals as goal

pub returns-in_err-put_segments : goal.returns-in_err-put_segments
returns-in_err-put_segments c = rw c.from_residual.ensures (group_off c.args.part.now c.in_err-put_segments.ensures)

pub returns-in_err-claim : goal.returns-in_err-claim
returns-in_err-claim c =
    let slots = c.put_segments.new.slots in
    let claim : None ≡ claim_of (get_or (texts_of slots) 0 None) = c.in_err-claim.ensures ∙ ap claim_of (at_slot slots 0) in
    let pricing = pricing_of (get_or (texts_of slots) 1 None) in
    rw c.from_residual-in_err-claim.ensures (ap (λ (o : Option ClaimTexts). group_by o pricing) claim
    ∙ group_on c.args.part.now (texts_of slots) c.in_ok-put_segments.ensures)

pub returns-in_err-pricing : goal.returns-in_err-pricing
returns-in_err-pricing c =
    let slots = c.put_segments.new.slots in
    let pricing : None ≡ pricing_of (get_or (texts_of slots) 1 None) = c.in_err-pricing.ensures ∙ ap pricing_of (at_slot slots 1) in
    let claim = claim_of (get_or (texts_of slots) 0 None) in
    rw c.from_residual-in_err-pricing.ensures (sym (group_no_pricing claim)
    ∙ (ap (λ (o : Option PricingTexts). group_by claim o) pricing
    ∙ group_on c.args.part.now (texts_of slots) c.in_ok-put_segments.ensures))

pub returns : goal.returns
returns c =
    let slots = c.put_segments.new.slots in
    let claim : Some (claim_texts c.in_ok-claim.claim) ≡ claim_of (get_or (texts_of slots) 0 None) = c.in_ok-claim.ensures
    ∙ ap claim_of (at_slot slots 0) in
    let pricing : Some (pricing_texts c.in_ok-pricing.pricing) ≡ pricing_of (get_or (texts_of slots) 1 None) = c.in_ok-pricing.ensures
    ∙ ap pricing_of (at_slot slots 1) in
    ap (λ (o : Option ClaimTexts). group_by o (Some (pricing_texts c.in_ok-pricing.pricing))) claim
    ∙ (ap (λ (o : Option PricingTexts). group_by (claim_of (get_or (texts_of slots) 0 None)) o) pricing
    ∙ group_on c.args.part.now (texts_of slots) c.in_ok-put_segments.ensures)
