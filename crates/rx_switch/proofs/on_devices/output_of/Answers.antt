use Rattle.std.proofs.Common.{◌≡◌, ap, refl, Err, IfErr}
use Rattle.std.proofs.lemmas.Result.{IfErr-at_err, err_from_is_err_and}
use Rattle.rx_switch.specs.declared.fault.SwitchFault.TheVariants as fault
use Rattle.rx_switch.specs.Job.{accepted_of, given_read}
use Rattle.rx_switch.specs.Rendered.{texts_made}
use Rattle.rx_switch.proofs.Stopped.{if_output, if_refused, if_thread, workers_of_stamp}
use Rattle.rx_switch.proofs.on_devices.output_of.Goals as goal

pub returns-in_err-accepted-clause-refused : goal.returns-in_err-accepted-clause-refused
returns-in_err-accepted-clause-refused g c batch stands =
    let p = err_from_is_err_and c.from_residual.result c.from_residual.ensures.1 in
    let refused = rw c.deref.ensures.value at c.in_err-accepted.ensures.refused batch stands in
    rw (p.1, p.2) refused

pub returns-in_err-accepted-clause-thread : goal.returns-in_err-accepted-clause-thread
returns-in_err-accepted-clause-thread g c =
    let p = err_from_is_err_and c.from_residual.result c.from_residual.ensures.1 in
    let faults : IfErr c.from_residual.result (λ f. f ≡ fault.Thread → ⊥) =
    rw (p.1, p.2) (λ e. c.in_err-accepted.ensures.no_thread (ap Err e)) in
    λ thread. absurd (IfErr-at_err (λ f. f ≡ fault.Thread → ⊥) thread faults refl)

pub adjudicate-requires-clause-few : goal.adjudicate-requires-clause-few
adjudicate-requires-clause-few g c κs within = (c.in_ok-accepted.ensures.accepted c.requires.0 c.requires.1).batch.few

pub adjudicate-requires-clause-workers : goal.adjudicate-requires-clause-workers
adjudicate-requires-clause-workers g c κs within =
    workers_of_stamp c.args.manner.now.workers c.args.stamp.now c.in_ok-accepted.accepted.stamp
    (c.in_ok-accepted.ensures.accepted c.requires.0 c.requires.1).stamp

pub returns-clause-refused : goal.returns-clause-refused
returns-clause-refused g c batch stands =
    let accepted = rw c.deref.ensures.value at c.in_ok-accepted.ensures.accepted batch stands in
    if_refused c.args.manner.now.plain (g.G.Gate.starts c.args.manner.now.gate.now) c.args.manner.now.workers
    (given_read c.args.stamp.now c.args.manner.now.workers c.args.read.sheet.items c.args.read.books.items batch)
    (accepted_of c.in_ok-accepted.accepted) accepted c.adjudicate.result c.adjudicate.ensures.stopped

pub returns-clause-thread : goal.returns-clause-thread
returns-clause-thread g c =
    if_thread c.args.manner.now.plain (g.G.Gate.starts c.args.manner.now.gate.now) c.args.manner.now.workers
    c.adjudicate.result c.adjudicate.ensures.stopped

pub returns-clause-output : goal.returns-clause-output
returns-clause-output g c batch stands =
    let accepted = rw c.deref.ensures.value at c.in_ok-accepted.ensures.accepted batch stands in
    if_output texts_made (given_read c.args.stamp.now c.args.manner.now.workers c.args.read.sheet.items c.args.read.books.items batch)
    (accepted_of c.in_ok-accepted.accepted) accepted c.adjudicate.result c.adjudicate.ensures.output
