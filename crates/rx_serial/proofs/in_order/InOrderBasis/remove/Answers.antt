-- The fill of the row that is taken out counts no more.
use Rattle.std.proofs.Common.{◌≡◌, false, true, sym, ap, ◌∙◌}
use Rattle.std.specs.Prelude.{is_some}
use Rattle.rx_fields.specs.Order.{key_cmp}
use Rattle.rx_sorted.proofs.Totals.{sum_by-without}
use Rattle.rx_ledger.specs.Ledger.{is_listed, without_row}
use Rattle.rx_ledger.specs.Rows.{member_of_row, row_key}
use Rattle.rx_ledger.proofs.Ledgers.{IsLedger-without_row}
use Rattle.rx_ledger.proofs.Orders.{key_total}
use Rattle.rx_ledger.proofs.Passed.{passed_found}
use Rattle.rx_serial.specs.Fills.{fill_of, is_counted, lowered, one_of}
use Rattle.rx_serial.proofs.Counting.{AreCounted-lowered}
use Rattle.rx_serial.proofs.Holders.{at_row}
use Rattle.rx_serial.proofs.Longest.{within_lowered}
use Rattle.rx_serial.proofs.Places.{named_there}
use Rattle.rx_serial.proofs.in_order.InOrderBasis.remove.Goals as goal

pub unreachable-requires : goal.unreachable-requires
unreachable-requires c =
    c.in_default.ensures.absent (named_there c.args.self.now.keys c.args.key.now c.requires.key)

pub unreachable-requires-in_default-member_of : goal.unreachable-requires-in_default-member_of
unreachable-requires-in_default-member_of c =
    let L = c.self.inside.books.books.ledger in
    let r = c.remove-row.result in
    let listed : is_listed L (member_of_row r) ≡ true =
    passed_found (λ x. is_listed L (member_of_row x)) key_cmp row_key L.rows r.key r
    c.self.invariant.in_order.whole c.remove-row.ensures.row in
    let told = rw c.remove-row.ensures.books at c.member_of.ensures.listed in
    let absent : is_listed L (member_of_row r) ≡ false = sym told ∙ ap is_some c.in_default-member_of.is in
    let e : true ≡ false = sym listed ∙ absent in
    cc

pub invariant_of-self : goal.invariant_of-self
invariant_of-self c =
    let o = c.self.inside in
    let L = o.books.books.ledger in
    let r = c.remove-row.result in
    let at = rw c.remove-row.ensures.books at c.in-Some-member_of.ensures.found in
    let key = c.fill_at.ensures ∙ at_row L.members r c.in-Some-member_of.holder c.self.invariant.in_order.members_rise at in
    let lowered_is = c.lower.ensures ∙ ap (λ k. lowered o.fills k) key in
    let counted = AreCounted-lowered (is_counted o.marks o.first_day) L.members L.rows (without_row L r.key).rows o.fills r
    c.self.invariant.counted
    (λ k. sum_by-without key_cmp key_total row_key (one_of L.members k) L.rows r.key r c.self.invariant.in_order.rows_rise
    c.remove-row.ensures.row) in
    rw (c.remove-row.ensures.books, lowered_is)
    (record {
      in_order = IsLedger-without_row L r.key c.self.invariant.in_order;
      counted = counted;
      within = within_lowered o.longest o.fills (fill_of L.members r) c.self.invariant.within;
      near = c.self.invariant.near;
      rise = c.self.invariant.rise;
      opened = c.self.invariant.opened;
    })
