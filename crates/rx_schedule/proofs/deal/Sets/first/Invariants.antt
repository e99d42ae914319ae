-- Each step leads to an earlier record.
use Rattle.rx_schedule.proofs.deal.Sets.first.Given as goal

abbrev pub decreases-back : goal.decreases-back
decreases-back l = l.at
