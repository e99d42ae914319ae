use Rattle.rx_explain.proofs.Reckoned.{accounted}
use Rattle.rx_explain.proofs.law.steps_lead_to_the_answer.Goals as goal

pub returns : goal.returns
returns c lot plan L events at s x is = accounted lot plan L events at s x is
