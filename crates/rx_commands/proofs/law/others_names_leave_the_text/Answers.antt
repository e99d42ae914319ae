use Rattle.rx_commands.proofs.OneText.{one-text}
use Rattle.rx_commands.proofs.law.others_names_leave_the_text.Goals as goal

pub returns : goal.returns
returns c = one-text
