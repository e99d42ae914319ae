-- Open books while the slot of a key is brought to what the key's place holds.
use Rattle.std.proofs.Common.{◌≡◌, false, true, Option, Some, None, sym, ap, subst, ◌∙◌}
use Rattle.std.specs.Prelude.{IfSome}
use Rattle.std.specs.Option.{is_some}
use Rattle.rx_fields.specs.Order.{key_cmp}
use Rattle.rx_fields.specs.declared.key.Key.{Key}
use Rattle.rx_sorted.specs.Ascending.{IsAscending, put, without}
use Rattle.rx_sorted.specs.Overlaid.{written}
use Rattle.rx_sorted.proofs.Edits.{put-without, without_absent}
use Rattle.rx_sorted.proofs.LookUps.{item_at-without_same}
use Rattle.rx_ledger.specs.declared.row.Row.{Row}
use Rattle.rx_ledger.specs.Ledger.{IsLedger, is_listed, is_taken, row_under}
use Rattle.rx_ledger.specs.Rows.{member_of_row, row_key}
use Rattle.rx_ledger.proofs.Ledgers.{IsLedger-with_row, IsLedger-without_row}
use Rattle.rx_ledger.proofs.Orders.{key_total}
use Rattle.rx_books_store.specs.OpenBooks.{OpenParts, open_with, open_without}
use Rattle.rx_books_family.specs.declared.place.KeyPlace.{KeyPlace}
use Rattle.rx_books_family.specs.Shelves.{HoldsOwnRow, place_key, row_held}
use Rattle.rx_books_shelf.specs.Closed.{with_place}

-- nothing is under the key of an emptied slot
pub emptied_free : (o : OpenParts) (j k : Key) → j ≡ k → is_taken (open_without o k).books.ledger j ≡ false
emptied_free o j k same = ap (λ i. is_taken (open_without o k).books.ledger i) same
    ∙ ap is_some (item_at-without_same key_cmp key_total row_key o.books.ledger.rows k)

-- an empty slot is emptied
pub emptied_there : (o : OpenParts) (k : Key) → row_under o.books.ledger k ≡ None → o ≡ open_without o k
emptied_there o k none =
    ap (λ rows. record o { books = record o.books { ledger = record o.books.ledger { rows = rows } } })
    (sym (without_absent key_cmp key_total row_key o.books.ledger.rows k none))

-- the row that a place holds is under the place's key
pub own_key : (p : KeyPlace) (r : Row) → HoldsOwnRow p → row_held p ≡ Some r → r.key ≡ p.key
own_key p r own e = subst (λ o. IfSome o (λ (x : Row). x.key ≡ p.key)) e own

pub brought_row : (o : OpenParts) (p : KeyPlace) (r : Row) → IsAscending key_cmp row_key o.books.ledger.rows → HoldsOwnRow p
    → row_held p ≡ Some r → open_with (open_without o p.key) r ≡ with_place o p
brought_row o p r rise own e =
    let rows = o.books.ledger.rows in
    let put_in : put key_cmp row_key (without key_cmp row_key rows p.key) r ≡ written key_cmp row_key place_key row_held rows p.key
    (row_held p) =
    ap (λ k. put key_cmp row_key (without key_cmp row_key rows k) r) (sym (own_key p r own e))
    ∙ put-without key_cmp key_total row_key rows r rise ∙ ap (written key_cmp row_key place_key row_held rows p.key) (sym e) in
    ap (λ rs. record o { books = record o.books { ledger = record o.books.ledger { rows = rs } } }) put_in

pub brought_none : (o : OpenParts) (p : KeyPlace) → row_held p ≡ None → open_without o p.key ≡ with_place o p
brought_none o p e =
    ap (λ rs. record o { books = record o.books { ledger = record o.books.ledger { rows = rs } } })
    (ap (written key_cmp row_key place_key row_held o.books.ledger.rows p.key) (sym e))

-- the ledger stays in order, where the member of the row that a place holds is listed
pub brought_ledger : (o : OpenParts) (p : KeyPlace) → IsLedger o.books.ledger
    → IfSome (row_held p) (λ (r : Row). is_listed o.books.ledger (member_of_row r) ≡ true) → IsLedger (with_place o p).books.ledger
brought_ledger o p is = by_row (row_held p) where
  by_row : (h : Option Row) → IfSome h (λ (r : Row). is_listed o.books.ledger (member_of_row r) ≡ true)
      → IsLedger (record { members = o.books.ledger.members; rows = written key_cmp row_key place_key row_held o.books.ledger.rows p.key h })
  by_row None listed = IsLedger-without_row o.books.ledger p.key is
  by_row (Some r) listed = IsLedger-with_row o.books.ledger r is listed
