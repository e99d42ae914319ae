use Rattle.std.proofs.Common.{arith}
use Rattle.rx_response.proofs.Joined.{records_step, records_done}
use Rattle.rx_response.proofs.response.put_answers.Goals as goal

pub loop-at-preserved : goal.loop-at-preserved
loop-at-preserved c =
    records_step c.args.details.now c.args.replies.now c.loop-at.at c.index-details-at.result c.index-replies-at.result
    c.loop-at.text.items c.put_answer.new.text.items _
    c.loop-at-test.true (omega (arith, c.requires)) c.index-details-at.is c.index-replies-at.is
    c.in_ok-put_answer.ensures c.loop-at.invariant

pub returns : goal.returns
returns c = records_done c.args.details.now c.args.replies.now c.loop-at.at c.loop-at.text.items _ c.loop-at-test.false c.loop-at.invariant
