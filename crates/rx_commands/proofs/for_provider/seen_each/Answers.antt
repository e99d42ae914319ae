-- One more explanation, as the pharmacy may see it.
use Rattle.std.proofs.Common.{◌<◌, length, arith}
use Rattle.rx_commands.specs.ForProvider.{IsSeenBy}
use Rattle.rx_commands.proofs.Listed.{zipped_more}
use Rattle.rx_commands.proofs.for_provider.seen_each.Goals as goal

pub loop-explanation-preserved : goal.loop-explanation-preserved
loop-explanation-preserved c =
    let all = c.args.explanations.now in
    let within : c.loop-explanation.explanation-index < length all = omega arith in
    rw c.in_ok-push.ensures.items
    (zipped_more (IsSeenBy c.args.provider.now) all c.loop-explanation.all.items c.loop-explanation.explanation-index
    c.explanation-item.result c.in_ok-seen.seen within c.explanation-item.is c.loop-explanation.invariant c.in_ok-seen.ensures)
