use Rattle.std.proofs.Common.{◌≡◌, ◌∙◌, sym, ap, Some, None}
use Rattle.rx_d0_reply.specs.Reading.{reply_in}
use Rattle.rx_text.proofs.Steps.{some_same}
use Rattle.rx_d0_reply.proofs.ReplyLaws.{reply_is, reply_again}
use Rattle.rx_d0_reply.proofs.reading.decode_reply.Goals as goal

pub returns-in-Some-clause-reads : goal.returns-in-Some-clause-reads
returns-in-Some-clause-reads c =
    let read : reply_in c.args.bytes.now ≡ Some c.in-Some.reply = sym c.in_ok-found.ensures ∙ c.in-Some.is in
    reply_is c.args.bytes.now c.in-Some.reply read

pub returns-in-Some-clause-again : goal.returns-in-Some-clause-again
returns-in-Some-clause-again c =
    let read : Some c.in-Some.reply ≡ reply_in c.args.bytes.now = sym c.in-Some.is ∙ c.in_ok-found.ensures in
    λ r fits is. some_same (read ∙ (ap reply_in is ∙ reply_again r fits))

pub returns-in-None-clause-again : goal.returns-in-None-clause-again
returns-in-None-clause-again c =
    let unread : None ≡ reply_in c.args.bytes.now = sym c.in-None.is ∙ c.in_ok-found.ensures in
    λ r fits is. absurd (let none : None ≡ Some r = unread ∙ (ap reply_in is ∙ reply_again r fits) in cc)
