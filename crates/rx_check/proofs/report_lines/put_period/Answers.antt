use Rattle.rx_check.proofs.report_lines.put_period.Goals as goal

pub returns : goal.returns
returns c =
    rw c.in-Some.is
    (rw (c.as_str.ensures.value, c.in_ok-place.ensures.ok, c.as_str-2.ensures.value, c.in_ok-said.ensures) at c.put_warning.ensures)
