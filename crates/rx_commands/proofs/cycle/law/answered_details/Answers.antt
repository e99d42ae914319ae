use Rattle.std.proofs.Common.{arith}
use Rattle.rx_commands.proofs.CycleBack.{answer_more, within_more}
use Rattle.rx_commands.proofs.cycle.law.answered_details.Goals as goal

pub loop-at-preserved : goal.loop-at-preserved
loop-at-preserved c =
    let d = c.index-details-at.result in
    let r = c.index-replies-at.result in
    record {
      same = answer_more c.args.details.now c.args.replies.now c.loop-at.at d r c.loop-at.answers.items _
          c.in_ok-answered_detail.field-0 c.loop-at-test.true c.requires c.index-details-at.is c.index-replies-at.is
          c.loop-at.invariant.same c.in_ok-answered_detail.ensures.same c.in_ok-push.ensures.items;
      within = within_more c.args.details.now c.args.replies.now c.loop-at.at d r (omega (arith, c.requires))
          c.index-replies-at.is c.loop-at.invariant.within c.in_ok-answered_detail.ensures.within;
    }
