-- There are as many replies as details.
use Rattle.std.proofs.Common.{sym}
use Rattle.rx_switch.proofs.Replied.{replied}
use Rattle.rx_switch.proofs.adjudicating.adjudicate.Goals as goal

pub render-requires-clause-equally_many : goal.render-requires-clause-equally_many
render-requires-clause-equally_many g c κs within =
    let x = c.args.accepted in
    rw (c.deref-2.ensures.value, c.in_ok-finished.ensures.replies)
    (sym (replied x.batch.head.lot x.sheet 1 x.sheet.figures.door x.batch.details x.books.ledger))
