use Rattle.rx_cli.specs.Syntax.{check_line, compare_line, explain_line, replies_line, report_line, settle_line, verify_line}
use Rattle.rx_cli.proofs.syntax.takes_retracing.Goals as goal

-- one subcommand after another
pub returns : goal.returns
returns c app drawn =
    let check = c.subcommand.ensures app check_line drawn c.check.ensures in
    let explain = c.subcommand-2.ensures _ explain_line check c.explain.ensures in
    let verify = c.subcommand-3.ensures _ verify_line explain c.verify.ensures in
    let report = c.subcommand-4.ensures _ report_line verify c.report.ensures in
    let replies = c.subcommand-5.ensures _ replies_line report c.replies.ensures in
    let settle = c.subcommand-6.ensures _ settle_line replies c.settle_line.ensures in
    c.subcommand-7.ensures _ compare_line settle c.compare_line.ensures
