use Rattle.std.proofs.Common.{map, take}
use Rattle.std.specs.Vec.{vec_items}
use Rattle.rx_commands.specs.CycleSteps.{AreAnswers}
use Rattle.rx_commands.proofs.cycle.reading.read_cycle.Given as goal

-- the files so far are read
abbrev pub invariant-loop-at : goal.invariant-loop-at
invariant-loop-at l = AreAnswers (map vec_items (take l.at l.files)) l.cycle.runs.items l.cycle.replies.items
