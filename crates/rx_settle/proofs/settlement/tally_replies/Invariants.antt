use Rattle.std.proofs.Common.{◌≡◌, ◌≤◌, ◌*◌, take}
use Rattle.rx_settle.specs.Answers.{weight}
use Rattle.rx_settle.specs.Counting.{tallies_of}
use Rattle.rx_settle.proofs.Tallies.{tally_of}
use Rattle.rx_settle.proofs.settlement.tally_replies.Given as goal

-- the replies so far are counted, in all and by provider
abbrev pub invariant-loop-reply : goal.invariant-loop-reply
invariant-loop-reply l = record {
  total : l.total ≡ tally_of (take l.reply-index l.replies);
  within : weight l.total ≤ 400_000_000 * l.reply-index;
  providers : l.providers.entries ≡ tallies_of (take l.reply-index l.replies);
}
