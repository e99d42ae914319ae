use Rattle.rx_cli.specs.Syntax.{age_line, family_line, members_line}
use Rattle.rx_cli.proofs.upkeep_syntax.takes_upkeep.Goals as goal

-- one subcommand after another
pub returns : goal.returns
returns c app drawn =
    let members = c.subcommand.ensures app members_line drawn c.members.ensures in
    let aged = c.subcommand-2.ensures _ age_line members c.age.ensures in
    c.subcommand-3.ensures _ family_line aged c.family.ensures
