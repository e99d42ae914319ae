-- The entries so far are counted.
use Rattle.std.proofs.Common.{◌≡◌, take}
use Rattle.rx_serial.specs.declared.fill.FillKey.{FillKey}
use Rattle.rx_serial.specs.Fills.{count_among, count_at}
use Rattle.rx_serial.proofs.counted.all_tallied.Given as goal

abbrev pub invariant-loop-entry : goal.invariant-loop-entry
invariant-loop-entry l = (k : FillKey) → count_at l.fills k ≡ count_among (take l.entry-index l.found) k
