-- Ledgers in order with the same members, and the same row under each fill key, are one.
use Rattle.std.proofs.Common.{◌≡◌}
use Rattle.rx_fields.specs.Order.{key_cmp}
use Rattle.rx_fields.specs.declared.key.Key.{Key}
use Rattle.rx_sorted.proofs.Edits.{same_items}
use Rattle.rx_ledger.specs.Ledger.{Ledger, row_under}
use Rattle.rx_ledger.specs.Rows.{row_key}
use Rattle.rx_ledger.proofs.Orders.{key_total}
use Rattle.rx_books_family.specs.Books.{IsInOrder}
use Rattle.rx_books_family.proofs.BookValues.{ledger_path}

pub same_ledger : (L M : Ledger) → IsInOrder L → IsInOrder M → L.members ≡ M.members
    → ((key : Key) → row_under L key ≡ row_under M key) → L ≡ M
same_ledger L M in_L in_M members rows =
    ledger_path L M members (same_items key_cmp key_total row_key L.rows M.rows in_L.rows_rise in_M.rows_rise rows)
