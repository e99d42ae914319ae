use Rattle.rx_cli.specs.Syntax.{plan_line, run_line, sample_line, show_line}
use Rattle.rx_cli.proofs.syntax.takes_adjudication.Goals as goal

-- one subcommand after another
pub returns : goal.returns
returns c app drawn =
    let run = c.subcommand.ensures app run_line drawn c.run.ensures in
    let show = c.subcommand-2.ensures _ show_line run c.show.ensures in
    let plan = c.subcommand-3.ensures _ plan_line show c.plan.ensures in
    c.subcommand-4.ensures _ sample_line plan c.draft.ensures
