-- The fill of the row that is added is counted.
use Rattle.std.proofs.Common.{Some, refl, ap, ◌∙◌}
use Rattle.rx_fields.specs.Order.{key_cmp}
use Rattle.rx_sorted.proofs.LookUps.{item_at-free}
use Rattle.rx_sorted.proofs.Totals.{sum_by-put_free}
use Rattle.rx_ledger.specs.Ledger.{with_row}
use Rattle.rx_ledger.specs.Rows.{member_of_row, row_key}
use Rattle.rx_ledger.specs.declared.member.MemberKey.{MemberKey}
use Rattle.rx_ledger.proofs.Ledgers.{IsLedger-with_row}
use Rattle.rx_ledger.proofs.Orders.{key_total}
use Rattle.rx_serial.specs.declared.fill.Fill.{Fill}
use Rattle.rx_serial.specs.declared.fill.FillKey.{FillKey}
use Rattle.rx_serial.specs.Fills.{fill_of, is_counted, one_of, tallied}
use Rattle.rx_serial.proofs.Counting.{AreCounted-tallied}
use Rattle.rx_serial.proofs.Holders.{at_row}
use Rattle.rx_serial.proofs.Longest.{within_longer, within_tallied}
use Rattle.rx_serial.proofs.Places.{member_at_key, named_there}
use Rattle.rx_serial.proofs.in_order.InOrderBasis.add.Goals as goal

pub unreachable-requires : goal.unreachable-requires
unreachable-requires c =
    c.in_default.ensures.absent (named_there c.args.self.now.keys c.args.row.key c.requires.key)

pub add-requires-clause-family : goal.add-requires-clause-family
add-requires-clause-family c =
    let L = c.self.inside.books.books.ledger in
    let at = rw (← c.self.view_is, c.member.ensures) at c.in-Some-holder_of.ensures.found in
    let listed = member_at_key L.members (member_of_row c.args.row) c.in-Some-holder_of.holder at in
    rw listed.at at c.home_of-home.ensures ∙ ap (λ (k : MemberKey). Some k.family) listed.keyed

pub invariant_of-self-2 : goal.invariant_of-self-2
invariant_of-self-2 c =
    let o = c.self.inside in
    let L = o.books.books.ledger in
    let r = c.args.row in
    let free = rw (← c.self.view_is) at c.requires.free in
    let listed = rw (← c.self.view_is) at c.requires.listed in
    let at = rw (← c.self.view_is, c.member.ensures) at c.in-Some-holder_of.ensures.found in
    let none = item_at-free key_cmp key_total row_key L.rows r.key free in
    let key = c.fill_at-key.ensures ∙ at_row L.members r c.in-Some-holder_of.holder c.self.invariant.in_order.members_rise at in
    let made : FillKey → Fill = λ k. record { key = k; count = 1 } in
    let tallied_is = c.in_ok-tally_near.ensures.ok ∙ ap (λ k. tallied o.fills (made k)) key in
    let longer = within_longer o.longest c.longer-self-inside.result o.fills c.longer-self-inside.ensures.first
    c.self.invariant.within in
    let counted = AreCounted-tallied (is_counted o.marks o.first_day) L.members L.rows (with_row L r).rows o.fills r
    c.self.invariant.counted
    (λ k. sum_by-put_free key_cmp key_total row_key (one_of L.members k) L.rows r none) in
    rw (c.add.ensures, tallied_is)
    (record {
      in_order = IsLedger-with_row L r c.self.invariant.in_order listed;
      counted = counted;
      within = within_tallied c.longer-self-inside.result o.fills (made (fill_of L.members r)) longer
          c.longer-self-inside.ensures.second;
      near = c.self.invariant.near;
      rise = c.self.invariant.rise;
      opened = c.self.invariant.opened;
    })

pub returns-clause-added : goal.returns-clause-added
returns-clause-added c = rw (c.add.ensures, ← c.self.view_is) refl
