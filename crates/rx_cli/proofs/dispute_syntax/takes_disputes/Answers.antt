use Rattle.rx_cli.specs.Syntax.{excerpt_line}
use Rattle.rx_cli.proofs.dispute_syntax.takes_disputes.Goals as goal

pub returns : goal.returns
returns c app drawn = c.subcommand.ensures app excerpt_line drawn c.excerpt.ensures
