use Rattle.rx_cli.proofs.GivenTexts.{repeated}
use Rattle.rx_cli.proofs.argument.files.Goals as goal

pub returns-clause-rule : goal.returns-clause-rule
returns-clause-rule c =
    repeated c.option.result c.action.result c.num_args.result c.args.name.now _ c.option.ensures.rule c.action.ensures
    c.num_args.ensures.0 c.num_args.ensures.1
