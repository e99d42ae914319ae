use Rattle.rx_switch.proofs.OneOutput.{same_texts}
use Rattle.rx_switch.proofs.law.one_output.Goals as goal

pub returns : goal.returns
returns c given texts others is was = same_texts given texts others is was
