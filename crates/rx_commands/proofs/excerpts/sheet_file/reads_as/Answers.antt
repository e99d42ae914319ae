use Rattle.std.proofs.Common.{◌∙◌, Ok, ap}
use Rattle.rx_commands.proofs.excerpts.sheet_file.reads_as.Goals as goal

pub returns-in-Ok : goal.returns-in-Ok
returns-in-Ok c is = c.in-Ok.ensures ∙ ap Ok (c.is_of.ensures is)
