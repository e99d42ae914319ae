use Rattle.std.proofs.lemmas.Result.{err_from_is_err_and}
use Rattle.rx_switch.specs.Planned.IsNotPlanned.{memory}
use Rattle.std.proofs.Common.{subst, sym}
use Rattle.rx_commands.specs.Adjudicated.{IsAdjudicated}
use Rattle.rx_commands.proofs.OwnRecords.{own_counted, replied}
use Rattle.rx_commands.proofs.report_forms.report_own.Goals as goal

pub own_part-requires : goal.own_part-requires
own_part-requires g c =
    let given = c.args.inputs.now in
    replied given.sheet.now given.books.now given.batch.now c.in_ok-whole.whole c.in_ok-whole.ensures.reported

pub text_in_form-printed-requires-clause-adjudicated : goal.text_in_form-printed-requires-clause-adjudicated
text_in_form-printed-requires-clause-adjudicated g c =
    subst IsAdjudicated (sym c.in_ok-own.ensures.batch_is) c.in_ok-whole.ensures.ready

pub text_in_form-printed-requires-clause-counted : goal.text_in_form-printed-requires-clause-counted
text_in_form-printed-requires-clause-counted g c =
    let given = c.args.inputs.now in
    own_counted given.sheet.now given.books.now given.batch.now c.in_ok-whole.whole c.in_ok-own.own
    c.in_ok-whole.ensures.reported c.in_ok-own.ensures

pub returns-in_err-printed-clause-refused : goal.returns-in_err-printed-clause-refused
returns-in_err-printed-clause-refused g c =
    let p = err_from_is_err_and c.from_residual-in_err-printed.result c.from_residual-in_err-printed.ensures.1 in
    rw (p.1, p.2) memory

pub returns-in_err-own-clause-refused : goal.returns-in_err-own-clause-refused
returns-in_err-own-clause-refused g c =
    let p = err_from_is_err_and c.from_residual-in_err-own.result c.from_residual-in_err-own.ensures.1 in
    rw (p.1, p.2) memory

pub returns-clause-reported : goal.returns-clause-reported
returns-clause-reported g c =
    record {
      whole = c.in_ok-whole.whole;
      reported = c.in_ok-whole.ensures.reported;
      stamp_is = c.in_ok-whole.ensures.stamp;
      report = c.in_ok-own.own;
      own = c.in_ok-own.ensures;
      is_printed = c.in_ok-printed.ensures;
    }
