use Rattle.std.proofs.Common.{◌≡◌, ◌≤◌, length, take}
use Rattle.rx_d0_request.specs.Codes.{first_five}
use Rattle.rx_d0_request.proofs.codes.first_five.Given as goal

abbrev pub invariant-loop-row : goal.invariant-loop-row
invariant-loop-row l =
    record { whole : length l.codes ≡ 5; few : l.count ≤ 5; kept : take l.count l.codes ≡ first_five (take l.row-index l.rows) }
