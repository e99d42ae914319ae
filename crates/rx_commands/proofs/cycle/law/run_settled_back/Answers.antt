use Rattle.std.proofs.Common.{refl, sym}
use Rattle.std.proofs.lemmas.Result.{err_from_is_err_and}
use Rattle.rx_switch.specs.Job.{given_by}
use Rattle.rx_switch.specs.Output.IsRefused.{memory, words}
use Rattle.rx_switch.specs.Output.{texts_of}
use Rattle.rx_commands.specs.CycleSteps.{accepted_of}
use Rattle.rx_commands.proofs.CycleRun.{is_sent, refused_by}
use Rattle.rx_commands.proofs.cycle.law.run_settled_back.Goals as goal

pub settlement_of-requires-clause-within : goal.settlement_of-requires-clause-within
settlement_of-requires-clause-within g c κs within = c.in_ok-inputs.ensures.batch.few

pub settlement_of-requires-clause-sent : goal.settlement_of-requires-clause-sent
settlement_of-requires-clause-sent g c κs within =
    let inputs = c.in_ok-inputs.inputs in
    is_sent c.args.job.now.batch.now inputs.batch.head inputs.batch.details c.in_ok-inputs.ensures.batch

pub returns-clause-settled : goal.returns-clause-settled
returns-clause-settled g c =
    let x = accepted_of c.in_ok-inputs.inputs c.in_ok-stamp.stamp in
    record {
      texts = texts_of x;
      output = record {
        inputs = x;
        accepted = record {
          stamp = sym c.in_ok-stamp.ensures;
          sheet = c.in_ok-inputs.ensures.sheet;
          books = c.in_ok-inputs.ensures.books;
          batch = c.in_ok-inputs.ensures.batch;
        };
        texts_are = refl;
      };
      settled = c.in-Ok.ensures.settled;
    }

pub returns-in_err-stamp-clause-refused : goal.returns-in_err-stamp-clause-refused
returns-in_err-stamp-clause-refused g c =
    let p = err_from_is_err_and c.from_residual.result c.from_residual.ensures.1 in
    rw (p.1, p.2) (words c.in_err-stamp.field-0.0 (sym c.in_err-stamp.ensures))

pub returns-in_err-inputs-clause-refused : goal.returns-in_err-inputs-clause-refused
returns-in_err-inputs-clause-refused g c =
    let p = err_from_is_err_and c.from_residual-in_err-inputs.result c.from_residual-in_err-inputs.ensures.1 in
    rw (p.1, p.2)
    (refused_by (given_by c.args.job.now) c.in_ok-stamp.stamp c.in_err-inputs.field-0.0 (sym c.in_ok-stamp.ensures)
    c.in_err-inputs.ensures.refused)

pub returns-in_default-clause-refused : goal.returns-in_default-clause-refused
returns-in_default-clause-refused g c = memory c.in_ok-stamp.stamp (sym c.in_ok-stamp.ensures)
