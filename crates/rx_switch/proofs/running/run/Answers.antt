use Rattle.std.proofs.Common.{◌≡◌, ◌∙◌, ap, refl, Err, IfErr}
use Rattle.std.proofs.lemmas.Result.{IfErr-at_err, err_from_is_err_and}
use Rattle.rx_switch.specs.declared.fault.SwitchFault.TheVariants as fault
use Rattle.rx_switch.specs.Job.{accepted_of, given_by}
use Rattle.rx_switch.specs.Output.IsRefused.{memory}
use Rattle.rx_switch.proofs.Stopped.{if_thread, refuses, workers_of_stamp}
use Rattle.rx_switch.proofs.running.run.Goals as goal

pub returns-in_err-accepted-clause-refused : goal.returns-in_err-accepted-clause-refused
returns-in_err-accepted-clause-refused g c =
    let p = err_from_is_err_and c.from_residual.result c.from_residual.ensures.1 in
    rw (p.1, p.2) (c.in_err-accepted.ensures.refused c.args.job.now.batch.now refl)

pub returns-in_err-accepted-clause-thread : goal.returns-in_err-accepted-clause-thread
returns-in_err-accepted-clause-thread g c =
    let p = err_from_is_err_and c.from_residual.result c.from_residual.ensures.1 in
    let faults : IfErr c.from_residual.result (λ f. f ≡ fault.Thread → ⊥) =
    rw (p.1, p.2) (λ e. c.in_err-accepted.ensures.no_thread (ap Err e)) in
    λ thread. absurd (IfErr-at_err (λ f. f ≡ fault.Thread → ⊥) thread faults refl)

pub adjudicate-requires-clause-few : goal.adjudicate-requires-clause-few
adjudicate-requires-clause-few g c κs within = (c.in_ok-accepted.ensures.accepted c.args.job.now.batch.now refl).batch.few

pub adjudicate-requires-clause-workers : goal.adjudicate-requires-clause-workers
adjudicate-requires-clause-workers g c κs within =
    workers_of_stamp c.args.job.now.workers c.args.job.now.stamp.now c.in_ok-accepted.accepted.stamp
    (c.in_ok-accepted.ensures.accepted c.args.job.now.batch.now refl).stamp

pub returns-in_err-pieces-clause-refused : goal.returns-in_err-pieces-clause-refused
returns-in_err-pieces-clause-refused g c =
    let p = err_from_is_err_and c.from_residual-in_err-pieces.result c.from_residual-in_err-pieces.ensures.1 in
    rw (p.1, p.2)
    (refuses c.args.job.now.plain (g.G.Gate.starts c.args.gate.now) c.args.job.now.workers (given_by c.args.job.now)
    (accepted_of c.in_ok-accepted.accepted) (c.in_ok-accepted.ensures.accepted c.args.job.now.batch.now refl)
    c.in_err-pieces.field-0.0 c.in_err-pieces.ensures.stopped)

pub returns-in_err-pieces-clause-thread : goal.returns-in_err-pieces-clause-thread
returns-in_err-pieces-clause-thread g c =
    let p = err_from_is_err_and c.from_residual-in_err-pieces.result c.from_residual-in_err-pieces.ensures.1 in
    if_thread c.args.job.now.plain (g.G.Gate.starts c.args.gate.now) c.args.job.now.workers c.from_residual-in_err-pieces.result
    (rw (p.1, p.2) c.in_err-pieces.ensures.stopped)

pub returns-in_err-output-clause-refused : goal.returns-in_err-output-clause-refused
returns-in_err-output-clause-refused g c =
    let p = err_from_is_err_and c.from_residual-in_err-output.result c.from_residual-in_err-output.ensures.1 in
    rw (p.1, p.2)
    (memory c.in_ok-accepted.accepted.stamp (c.in_ok-accepted.ensures.accepted c.args.job.now.batch.now refl).stamp)

pub returns-clause-output : goal.returns-clause-output
returns-clause-output g c =
    record {
      inputs = accepted_of c.in_ok-accepted.accepted;
      accepted = c.in_ok-accepted.ensures.accepted c.args.job.now.batch.now refl;
      texts_are = c.in_ok-output.ensures ∙ c.in_ok-pieces.ensures.output;
    }
