-- The response file and the settlement are those of the replies.
use Rattle.std.proofs.Common.{◌∙◌, ap, arith, length}
use Rattle.std.proofs.lemmas.List.FromFn.{length-map-range_with_len}
use Rattle.std.proofs.lemmas.Result.{err_from_is_err_and}
use Rattle.rx_response.specs.Response.{response_text}
use Rattle.rx_settle.specs.Settlement.{settlement_text}
use Rattle.rx_switch.specs.JoinParts.{join_inputs}
use Rattle.rx_switch.specs.JoinRefused.IsNotJoined.{memory}
use Rattle.rx_switch.proofs.JoinWhole.{some_plan}
use Rattle.rx_switch.proofs.joining.join_texts.Goals as goal

pub returns-in_err-picked-clause-refused : goal.returns-in_err-picked-clause-refused
returns-in_err-picked-clause-refused g c join plans is =
    let p = err_from_is_err_and c.from_residual.result c.from_residual.ensures.1 in
    rw (p.1, p.2) (c.in_err-picked.ensures.refused join plans is)

pub render_replies-requires-clause-equally_many : goal.render_replies-requires-clause-equally_many
render_replies-requires-clause-equally_many g c κs within =
    let given = c.requires.given in
    let made = c.in_ok-picked.ensures.joined given.0 given.1 given.2 in
    let long = ap length (c.deref.ensures.value ∙ made.replies_are) in
    let mapped = length-map-range_with_len made.reply 1 (length c.args.batch.now.details) in
    omega (arith, long, mapped)

pub returns-clause-joined : goal.returns-clause-joined
returns-clause-joined g c join plans is =
    let x = join_inputs c.args.stamp plans c.args.batch.now in
    let made = c.in_ok-picked.ensures.joined join plans is in
    let rendered = c.in_ok-replied.ensures in
    let replies = c.deref.ensures.value ∙ made.replies_are in
    let response = c.in_ok-response.ensures ∙ rendered.response ∙ ap (response_text x.head x.stamp x.details) replies in
    let settlement = rendered.settlement ∙ ap (settlement_text x.head.lot x.stamp) replies in
    record {
      inputs = x;
      some = some_plan join plans c.args.texts.now c.args.doors.now c.args.stamp c.args.batch.now is;
      accepted = is.stands;
      reply = made.reply;
      joined = made.joined;
      texts_are = λ i. record { response = response i; settlement = settlement i; settlements = made.settlements_are i };
    }

pub returns-in_err-replied-clause-refused : goal.returns-in_err-replied-clause-refused
returns-in_err-replied-clause-refused g c join plans is =
    let p = err_from_is_err_and c.from_residual-in_err-replied.result c.from_residual-in_err-replied.ensures.1 in
    rw (p.1, p.2) memory

pub returns-in_err-response-clause-refused : goal.returns-in_err-response-clause-refused
returns-in_err-response-clause-refused g c join plans is =
    let p = err_from_is_err_and c.from_residual-in_err-response.result c.from_residual-in_err-response.ensures.1 in
    rw (p.1, p.2) memory
