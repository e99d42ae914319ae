use Rattle.rx_schedule.proofs.Holder.{fits_at, held_through}
use Rattle.rx_schedule.proofs.law.law_of_holder.Goals as goal

pub returns-clause-row : goal.returns-clause-row
returns-clause-row c = λ lot plan L records place one to. held_through lot plan L records place one to

pub returns-clause-fits : goal.returns-clause-fits
returns-clause-fits c = λ lot plan L records place one to. fits_at lot plan L records place one to
