use Rattle.std.proofs.Common.{◌≤◌, length, length-append, arith, ap, sym}
use Rattle.rx_d0_reply.specs.Reading.{refusal_label}
use Rattle.rx_d0_reply.proofs.Laws.{after_takes}
use Rattle.rx_d0_reply.proofs.AnswerLaws.{left_within}
use Rattle.rx_d0_reply.proofs.reading.refusal_at.Goals as goal

pub returns-clause-within : goal.returns-clause-within
returns-clause-within c =
    let behind = after_takes refusal_label c.args.bytes.now c.in_ok-rest.rest.now (sym c.in_ok-rest.ensures) in
    let shorter : length c.in_ok-rest.rest.now ≤ length c.args.bytes.now =
    omega (arith, ap length behind, length-append refusal_label c.in_ok-rest.rest.now) in
    left_within c.codes_at.result (λ x. (x.0, x.1.now)) c.in_ok-rest.rest.now (length c.args.bytes.now) shorter c.codes_at.ensures
