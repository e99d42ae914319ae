use Rattle.std.proofs.Common.{take}
use Rattle.rx_commands.specs.CycleSteps.{AreAppended}
use Rattle.rx_commands.proofs.cycle.reading.add_replies.Given as goal

-- the replies so far are added
abbrev pub invariant-loop-before : goal.invariant-loop-before
invariant-loop-before l = AreAppended (take l.before l.details) l.initial.replies.items l.replies.items
