use Rattle.std.proofs.lemmas.Result.{err_from_is_err_and}
use Rattle.rx_commands.specs.CycleSteps.{accepted_of}
use Rattle.rx_commands.proofs.CycleRun.{settlement_of_replies}
use Rattle.rx_commands.proofs.cycle.law.settlement_of.Goals as goal

pub settled_back-printed-requires-clause-equally_many : goal.settled_back-printed-requires-clause-equally_many
settled_back-printed-requires-clause-equally_many g c κs within =
    rw (c.as_slice-details.ensures, c.deref.ensures.value) c.in_ok-replies.ensures.as_many

pub settled_back-printed-requires-clause-within : goal.settled_back-printed-requires-clause-within
settled_back-printed-requires-clause-within g c κs within = rw c.as_slice-details.ensures c.requires.within

pub returns-clause-settled : goal.returns-clause-settled
returns-clause-settled g c =
    let so = rw (c.as_slice-details.ensures, c.deref.ensures.value) at c.in_ok-text.ensures in
    settlement_of_replies (accepted_of c.args.inputs c.args.stamp.now) c.in_ok-replies.replies.items c.in_ok-text.text.items
    c.in_ok-replies.ensures.replies (so.ok c.requires.sent) so.printed

pub returns-in_err-text-clause-err : goal.returns-in_err-text-clause-err
returns-in_err-text-clause-err g c =
    let p = err_from_is_err_and c.from_residual-in_err-text.result c.from_residual-in_err-text.ensures.1 in
    let so = rw c.as_slice-details.ensures at c.in_err-text.ensures in
    rw (p.1, p.2) (so.err c.requires.sent)
