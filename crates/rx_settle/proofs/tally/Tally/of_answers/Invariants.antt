use Rattle.std.proofs.Common.{◌≡◌, ◌≤◌, ◌*◌, take}
use Rattle.rx_settle.specs.Answers.{tally, weight}
use Rattle.rx_settle.proofs.tally.Tally.of_answers.Given as goal

-- the answers so far are counted
abbrev pub invariant-loop-answer : goal.invariant-loop-answer
invariant-loop-answer l = record {
  value : l.tally ≡ tally (take l.answer-index l.answers);
  within : weight l.tally ≤ 100_000_000 * l.answer-index;
}
