-- The response file and the settlement are those of the replies.
use Rattle.std.proofs.Common.{length, ap, ◌∙◌, arith}
use Rattle.std.specs.List.{range_with_len}
use Rattle.std.proofs.lemmas.List.{length-map}
use Rattle.std.proofs.lemmas.List.FromFn.{length-range_with_len}
use Rattle.rx_response.specs.Response.{response_text}
use Rattle.rx_settle.specs.Settlement.{settlement_text}
use Rattle.rx_switch.specs.RouteParts.{switched_of}
use Rattle.rx_switch.specs.Routed.{routed_reply}
use Rattle.rx_switch.proofs.several_plans.route_accepted.Goals as goal

pub route_records-routed-requires-clause-apart : goal.route_records-routed-requires-clause-apart
route_records-routed-requires-clause-apart g c κs within = rw c.deref.ensures.value c.requires.apart

pub route_records-routed-requires-clause-numbered : goal.route_records-routed-requires-clause-numbered
route_records-routed-requires-clause-numbered g c κs within = rw c.deref.ensures.value c.requires.numbered

pub render_replies-replied-requires-clause-equally_many : goal.render_replies-replied-requires-clause-equally_many
render_replies-replied-requires-clause-equally_many g c κs within =
    let x = switched_of c.args.accepted in
    let made = rw c.deref.ensures.value at c.in_ok-replies.ensures.replies in
    let long = ap length (c.deref-2.ensures.value ∙ made) in
    let mapped = length-map (range_with_len 1 (length x.details)) (routed_reply x) in
    let range = length-range_with_len 1 (length x.details) in
    omega (arith, long, mapped, range)

pub returns : goal.returns
returns g c =
    let x = switched_of c.args.accepted in
    let rendered = c.in_ok-response.ensures in
    let made = rw c.deref.ensures.value at c.in_ok-replies.ensures.replies in
    let plans = rw c.deref.ensures.value at c.in_ok-replies.ensures.outputs in
    let replies = c.deref-2.ensures.value ∙ made in
    let response = c.in_ok-response-2.ensures ∙ rendered.response ∙ ap (response_text x.head x.stamp x.details) replies in
    let settlement = rendered.settlement ∙ ap (settlement_text x.head.lot x.stamp) replies in
    λ i. record { response = response i; settlement = settlement i; plans = plans i }
