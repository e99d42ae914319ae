-- Each transaction is looked at once.
use Rattle.std.proofs.Common.{length}
use Rattle.rx_switch.proofs.may_reply.+may_answer_each.Given as goal

abbrev pub decreases-may_answer_each : goal.decreases-may_answer_each
decreases-may_answer_each l = length l.asked.now
