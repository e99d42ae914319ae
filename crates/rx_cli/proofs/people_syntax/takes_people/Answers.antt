use Rattle.rx_cli.specs.Syntax.{adjudicate_line, fault_line}
use Rattle.rx_cli.proofs.people_syntax.takes_people.Goals as goal

-- one subcommand after another
pub returns : goal.returns
returns c app drawn =
    let adjudicate = c.subcommand.ensures app adjudicate_line drawn c.adjudicate.ensures in
    c.subcommand-2.ensures _ fault_line adjudicate c.fault.ensures
