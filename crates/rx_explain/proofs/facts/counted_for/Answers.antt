-- The rows of the family that count are those of the ledger.
use Rattle.rx_explain.proofs.Counted.{counted_among}
use Rattle.rx_explain.proofs.facts.counted_for.Goals as goal

pub returns-in-Bill-Payable : goal.returns-in-Bill-Payable
returns-in-Bill-Payable c L has =
    let b = c.in-Bill-Payable.bill in
    rw (c.in-Bill-Payable.is-0, c.in-Bill-Payable.is-1)
    (counted_among L c.args.rows.now c.args.period b (rw c.in-Bill-Payable.is-0 at has) c.counted_rows.result
    (rw c.parts.ensures at c.counted_rows.ensures))
