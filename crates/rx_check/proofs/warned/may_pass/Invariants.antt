use Rattle.std.proofs.Common.{◌≡◌, ◌+◌, length, map, sum}
use Rattle.rx_fields.specs.declared.limits.TheConstants.{MOST_LINES}
use Rattle.rx_check.specs.Warned.{groups}
use Rattle.rx_check.proofs.warned.may_pass.Given as goal

-- the room that is left is what the records so far don't fill
abbrev pub invariant-loop-rest : goal.invariant-loop-rest
invariant-loop-rest l =
    l.room + (l.lines + sum (map groups l.details)) ≡ MOST_LINES + sum (map groups l.rest)

abbrev pub decreases-loop-rest : goal.decreases-loop-rest
decreases-loop-rest l = length l.rest
