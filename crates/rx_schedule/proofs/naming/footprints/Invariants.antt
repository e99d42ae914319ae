-- The footprints of the records so far, and the billers in them.
use Rattle.std.proofs.Common.{◌≡◌, map, take}
use Rattle.std.specs.List.{range_with_len}
use Rattle.rx_schedule.specs.Billed.{HasBilled}
use Rattle.rx_schedule.specs.Footprints.{footprint_at}
use Rattle.rx_schedule.proofs.naming.footprints.Given as goal

abbrev pub invariant-records : goal.invariant-records
invariant-records l =
    record {
      list : l.list.items
          ≡ map (footprint_at l.books.ledger l.transmissions) (range_with_len 1 l.transmission-index);
      billed : HasBilled l.billers.families (take l.transmission-index l.transmissions);
    }
