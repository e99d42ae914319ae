use Rattle.std.proofs.Common.{◌≡◌, true, set, ap, ◌∙◌}
use Rattle.rx_fields.specs.Order.{id_cmp, key_cmp}
use Rattle.rx_sorted.specs.Ascending.{IsAt, is_past}
use Rattle.rx_sorted.proofs.Places.{item_at-gap}
use Rattle.rx_ledger.specs.Ledger.{is_listed}
use Rattle.rx_ledger.specs.Rows.{member_of_row, row_key}
use Rattle.rx_ledger.proofs.Orders.{id_total}
use Rattle.rx_books_family.specs.FamilyBook.{FamilyBook, family_of, own_ledger}
use Rattle.rx_books_shelf.proofs.PutBooks.{family_at_place, row_at_place, row_nowhere, of_book, on_ok}
use Rattle.rx_books_shelf.proofs.gathering.put_row.Goals as goal

pub place_near-requires : goal.place_near-requires
place_near-requires c = rw c.deref.ensures.value c.requires.rise

pub add-requires-clause-listed : goal.add-requires-clause-listed
add-requires-clause-listed c =
    let is_at : IsAt id_cmp family_of c.args.books.now.items c.args.row.family c.in-Ok.at = rw c.deref.ensures.value at
    c.in-Ok.ensures.found in
    of_book (λ (b : FamilyBook). b.family ≡ c.args.row.family
    → is_listed (own_ledger b) (member_of_row c.args.row) ≡ true) c.args.books.now.items c.args.row.family c.in-Ok.at
    c.index_mut-book.result.now c.requires.listed is_at c.index_mut-book.ensures.value
    (family_at_place c.args.books.now.items c.args.row.family c.in-Ok.at c.index_mut-book.result.now is_at c.index_mut-book.ensures.value)

pub add-requires-clause-past : goal.add-requires-clause-past
add-requires-clause-past c =
    let is_at : IsAt id_cmp family_of c.args.books.now.items c.args.row.family c.in-Ok.at = rw c.deref.ensures.value at
    c.in-Ok.ensures.found in
    of_book (λ (b : FamilyBook). is_past key_cmp row_key b.rows c.args.row.key ≡ true) c.args.books.now.items c.args.row.family
    c.in-Ok.at c.index_mut-book.result.now c.requires.past is_at c.index_mut-book.ensures.value

pub returns-in-Ok : goal.returns-in-Ok
returns-in-Ok c =
    let is_at : IsAt id_cmp family_of c.args.books.now.items c.args.row.family c.in-Ok.at = rw c.deref.ensures.value at
    c.in-Ok.ensures.found in
    on_ok c.add.result
    (λ new. ap (λ b. set c.args.books.now.items c.in-Ok.at b) new
    ∙ row_at_place c.args.row c.args.books.now.items c.in-Ok.at c.index_mut-book.result.now c.requires.rise is_at
    c.index_mut-book.ensures.value)
    c.add.ensures.ok

pub returns-in-Err : goal.returns-in-Err
returns-in-Err c =
    let gap = rw c.deref.ensures.value at c.in-Err.ensures.absent in
    row_nowhere c.args.row c.args.books.now.items (item_at-gap id_cmp id_total family_of c.args.books.now.items c.args.row.family
    c.in-Err.field-0 gap)
