-- The records so far are scanned.
use Rattle.rx_schedule.specs.Marked.{IsScan}
use Rattle.rx_schedule.proofs.wave_plan.scanned.Given as goal

abbrev pub invariant-records : goal.invariant-records
invariant-records l =
    let s = l.scan in
    IsScan l.footprints l.at s.keys.last s.families.last s.numbers.items s.before.items s.top
