use Rattle.clap.specs.Words.{with_subcommand}
use Rattle.rx_cli.specs.Syntax.{join_line, route_line}
use Rattle.rx_cli.proofs.switch_syntax.takes_switch.Goals as goal

pub returns : goal.returns
returns c app drawn =
    c.subcommand-2.ensures (with_subcommand app route_line.top) join_line (c.subcommand.ensures app route_line drawn c.route.ensures)
    c.join.ensures
