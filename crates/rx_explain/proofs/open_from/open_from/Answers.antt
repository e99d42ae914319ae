-- The date among the family's rows is that among the ledger's.
use Rattle.rx_explain.proofs.Opened.{first_among}
use Rattle.rx_explain.proofs.open_from.open_from.Goals as goal

pub returns-in-Bill-TooSoon : goal.returns-in-Bill-TooSoon
returns-in-Bill-TooSoon c L has =
    let b = c.in-Bill-TooSoon.bill in
    let family = rw c.in-Bill-TooSoon.is-0 at has in
    rw (c.in-Bill-TooSoon.is-0, c.in-Bill-TooSoon.is-1)
    (first_among L c.args.rows.now c.args.figures.now b c.args.date family c.first_open.result c.first_open.ensures)
