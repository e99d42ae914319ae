use Rattle.std.proofs.Common.{◌∙◌}
use Rattle.clap.specs.Words.{found_of}
use Rattle.clap.proofs.WalkLemmas.{first_value-rows}
use Rattle.rx_cli.proofs.options.text.Goals as goal

-- `get_str` gives the first value of the option's row
pub returns : goal.returns
returns c = c.get_str.ensures ∙ first_value-rows (found_of c.args.found.now) c.args.name.now
