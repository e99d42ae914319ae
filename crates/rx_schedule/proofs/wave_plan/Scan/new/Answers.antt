use Rattle.rx_schedule.proofs.Scanned.{scan_begins}
use Rattle.rx_schedule.proofs.wave_plan.Scan.new.Goals as goal

pub returns : goal.returns
returns c = λ fs. scan_begins fs c.new.result.last c.new-2.result.last c.in_ok-numbers.numbers.items c.in_ok-before.before.items
    c.in_ok-numbers.ensures.items c.in_ok-before.ensures.items c.new.ensures c.new-2.ensures
