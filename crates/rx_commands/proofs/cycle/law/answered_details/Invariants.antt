use Rattle.std.proofs.Common.{◌≡◌, take}
use Rattle.std.specs.List.{AllByRecursion}
use Rattle.rx_d0_reply.specs.Limits.{IsReply}
use Rattle.rx_response.specs.Response.{response_details}
use Rattle.rx_commands.proofs.cycle.law.answered_details.Given as goal

-- the details so far
abbrev pub invariant-loop-at : goal.invariant-loop-at
invariant-loop-at l = record {
  same : l.answers.items ≡ response_details (take l.at l.details) (take l.at l.replies);
  within : AllByRecursion IsReply (take l.at l.replies);
}
