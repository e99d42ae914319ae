-- What stands from here on doesn't count, and what stands before is of earlier courses or the refill's own.
use Rattle.std.proofs.Common.{◌≡◌, ◌≤◌, length, take, true}
use Rattle.std.specs.List.{AllWithin, list_any}
use Rattle.rx_serial.specs.Fills.{counts, is_not_past}
use Rattle.rx_serial.proofs.refill.Refill.is_too_soon.Given as goal

abbrev pub invariant-fills : goal.invariant-fills
invariant-fills l =
    record {
      in_range : l.at ≤ length l.list;
      looked_at : list_any (counts l.self) (take l.at l.list) ≡ list_any (counts l.self) l.list;
      before : AllWithin (λ f. is_not_past l.self.course f ≡ true) l.list 0 l.at;
    }

abbrev pub decreases-fills : goal.decreases-fills
decreases-fills l = l.at
