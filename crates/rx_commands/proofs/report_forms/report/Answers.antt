use Rattle.std.proofs.lemmas.Result.{err_from_is_err_and}
use Rattle.rx_switch.specs.Planned.IsNotPlanned.{memory}
use Rattle.rx_commands.proofs.Accounted.{counted_by}
use Rattle.rx_commands.proofs.report_forms.report.Goals as goal

pub text_in_form-printed-requires-clause-counted : goal.text_in_form-printed-requires-clause-counted
text_in_form-printed-requires-clause-counted g c =
    counted_by c.in_ok-report.report c.in_ok-report.ensures.ready c.in_ok-report.ensures.reported.contents

pub returns-in_err-printed-clause-refused : goal.returns-in_err-printed-clause-refused
returns-in_err-printed-clause-refused g c =
    let p = err_from_is_err_and c.from_residual-in_err-printed.result c.from_residual-in_err-printed.ensures.1 in
    rw (p.1, p.2) memory

pub returns-clause-reported : goal.returns-clause-reported
returns-clause-reported g c =
    record {
      report = c.in_ok-report.report;
      reported = c.in_ok-report.ensures.reported;
      stamp_is = c.in_ok-report.ensures.stamp;
      is_printed = c.in_ok-printed.ensures;
    }
