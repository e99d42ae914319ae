-- The members of the chain are put from its end on.
use Rattle.rx_schedule.specs.Marked.{IsDown}
use Rattle.rx_schedule.proofs.wave_plan.waves.Given as goal

abbrev pub invariant-members : goal.invariant-members
invariant-members l = IsDown l.footprints l.scan.numbers.items l.scan.top l.left l.place l.chain.items

abbrev pub decreases-members : goal.decreases-members
decreases-members l = l.left
