use Rattle.rx_switch.specs.Job.{given_by, texts_in}
use Rattle.rx_commands.specs.Verified.{texts_in_files}
use Rattle.rx_commands.proofs.Same.{verified_same}
use Rattle.rx_commands.proofs.verdict.run_again.Goals as goal

pub returns-clause-same : goal.returns-clause-same
returns-clause-same g c =
    verified_same (given_by c.args.job.now) (texts_in c.in_ok-output.output) (texts_in_files c.args.files.now)
    c.differences-differences.result c.in_ok-output.ensures.output c.differences-differences.ensures
