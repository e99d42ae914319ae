use Rattle.rx_check.specs.Report.{may_pass_text}
use Rattle.rx_check.proofs.report_lines.put_may_pass.Goals as goal

pub returns : goal.returns
unfolding may_pass_text
returns c =
    rw c.if-not-may_pass.false
    (rw (c.as_str.ensures.value, c.in_ok-said.ensures.ok) at c.put_warning.ensures)
