-- The family's claims are those of the ledger.
use Rattle.std.proofs.Common.{◌≡◌, ◌∙◌, sym, ap, subst, filter}
use Rattle.std.specs.Prelude.{IfOk}
use Rattle.std.proofs.lemmas.Result.{IfOk-weaker}
use Rattle.rx_d0_values.specs.declared.bill.BillParts.{BillParts}
use Rattle.rx_d0_values.specs.declared.transaction.Transaction.{Transaction}
use Rattle.rx_d0_values.specs.declared.transaction.Transaction.TheVariants.{Bill}
use Rattle.rx_explain.specs.Around.{HasRows}
use Rattle.rx_ledger.specs.Ledger.{rows_of}
use Rattle.rx_ledger.specs.Rows.{claimed_by}
use Rattle.rx_commands.proofs.Items.{filter_again}
use Rattle.rx_commands.proofs.replay.record.rows_for.Goals as goal

pub returns-in-Bill : goal.returns-in-Bill
returns-in-Bill c =
    let L = c.args.order.now.books.ledger in
    let b = c.in-Bill.bill in
    let rows_are : IfOk c.rows_of.result (λ rows. HasRows L rows.items (Bill b)) =
    IfOk-weaker c.rows_of.result (λ rows. rows.items ≡ rows_of L c.parts.result.now.family)
    (λ rows. HasRows L rows.items (Bill b))
    (λ rows e.
    ap (filter (claimed_by b.family)) (e ∙ ap (λ (p : BillParts). rows_of L p.family) c.parts.ensures)
    ∙ filter_again (claimed_by b.family) L.rows)
    c.rows_of.ensures in
    subst (λ (t : Transaction). IfOk c.rows_of.result (λ rows. HasRows L rows.items t)) (sym c.in-Bill.is) rows_are
