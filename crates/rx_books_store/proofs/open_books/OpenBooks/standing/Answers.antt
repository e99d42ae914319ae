use Rattle.std.proofs.Common.{arith}
use Rattle.rx_fields.specs.Order.{key_cmp}
use Rattle.rx_sorted.proofs.Overlaid.{length-overlaid}
use Rattle.rx_ledger.specs.Rows.{row_key}
use Rattle.rx_ledger.proofs.Orders.{key_total}
use Rattle.rx_books_store.specs.Store.{held, slot_key}
use Rattle.rx_books_store.proofs.open_books.OpenBooks.standing.Goals as goal

pub returns-clause-within : goal.returns-clause-within
returns-clause-within c = rw (← c.self.view_is) c.self.invariant.in_order

pub returns-clause-few : goal.returns-clause-few
returns-clause-few c = rw (← c.self.view_is) (omega (
  arith,
  c.self.invariant.few,
  length-overlaid key_cmp key_total row_key slot_key held c.self.inside.opening.rows c.self.inside.changed,
))

pub returns-clause-small : goal.returns-clause-small
returns-clause-small c = rw (← c.self.view_is) c.self.invariant.small
