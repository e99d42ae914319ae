-- The answers so far.
use Rattle.std.proofs.Common.{◌≡◌, map, take}
use Rattle.rx_commands.proofs.replay.record.answers_in.Given as goal

abbrev pub invariant-loop-decided : goal.invariant-loop-decided
invariant-loop-decided l = l.answers.items ≡ map (λ x. x.answer) (take l.decided-index l.facts)
