-- None so far is longer.
use Rattle.std.proofs.Common.{◌≤◌, take}
use Rattle.std.specs.List.{All}
use Rattle.rx_serial.proofs.billed.longest_of.Given as goal

abbrev pub invariant-loop-fill : goal.invariant-loop-fill
invariant-loop-fill l = All (λ f. f.key.when.days ≤ l.longest) (take l.fill-index l.fills)
