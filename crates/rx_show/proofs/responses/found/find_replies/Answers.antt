use Rattle.rx_show.proofs.Listed.{found_more}
use Rattle.rx_show.proofs.responses.found.find_replies.Goals as goal

pub loop-detail-preserved : goal.loop-detail-preserved
loop-detail-preserved c =
    let here = rw c.bytes.ensures at c.in_ok-find_reply.ensures in
    rw c.in_ok-push.ensures.items
    (found_more c.args.details.now c.loop-detail.found.items c.loop-detail.detail-index c.detail-item.result
    c.in_ok-find_reply.field-0 c.loop-detail-test.true c.detail-item.is c.loop-detail.invariant here)
