-- None of the doors so far has the BIN.
use Rattle.std.proofs.Common.{◌≡◌, drop}
use Rattle.std.specs.List.{list_any}
use Rattle.rx_d0_request.specs.Doors.{has_bin}
use Rattle.rx_d0_request.proofs.doors.has_bin.Given as goal

abbrev pub invariant-loop-door : goal.invariant-loop-door
invariant-loop-door l = list_any (has_bin l.asked) l.doors ≡ list_any (has_bin l.asked) (drop l.door-index l.doors)
