use Rattle.std.proofs.Common.{arith}
use Rattle.rx_schedule.proofs.Tied.{all_tied}
use Rattle.rx_schedule.proofs.ties.are_tied.Goals as goal

pub returns : goal.returns
returns c = λ yes. all_tied c.args.numbers.now c.args.mentions.now
    (λ k d lt. c.neighbours.invariant k d (let past = c.neighbours-test.false in omega arith))
