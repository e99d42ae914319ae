-- The fills so far are of earlier courses or the refill's own.
use Rattle.std.proofs.Common.{◌≡◌, ◌≤◌, ◌-◌, length, true}
use Rattle.std.specs.List.{AllWithin}
use Rattle.rx_serial.specs.Fills.{is_not_past}
use Rattle.rx_serial.proofs.refill.Refill.end_behind.Given as goal

abbrev pub invariant-own : goal.invariant-own
invariant-own l =
    record {
      in_range : l.end ≤ length l.fills;
      before : AllWithin (λ f. is_not_past l.self.course f ≡ true) l.fills 0 l.end;
    }

abbrev pub decreases-own : goal.decreases-own
decreases-own l = length l.fills - l.end
