use Rattle.std.proofs.Common.{◌≡◌, true, set, sym, ap, ◌∙◌}
use Rattle.rx_fields.specs.Order.{id_cmp}
use Rattle.rx_sorted.specs.Ascending.{IsAt, is_past}
use Rattle.rx_sorted.proofs.Places.{item_at-gap}
use Rattle.rx_ledger.specs.Members.{member_cmp, member_key}
use Rattle.rx_ledger.proofs.Orders.{id_total}
use Rattle.rx_books_family.specs.FamilyBook.{FamilyBook, family_of}
use Rattle.rx_books_shelf.proofs.PutBooks.{family_at_place, member_at_place, member_nowhere, of_book, on_ok}
use Rattle.rx_books_shelf.proofs.gathering.put_member.Goals as goal

pub place_near-requires : goal.place_near-requires
place_near-requires c = rw c.deref.ensures.value c.requires.rise

pub add_member-requires-clause-own : goal.add_member-requires-clause-own
add_member-requires-clause-own c =
    let is_at : IsAt id_cmp family_of c.args.books.now.items c.args.member.key.family c.in-Ok.at = rw c.deref.ensures.value at
    c.in-Ok.ensures.found in
    sym (family_at_place c.args.books.now.items c.args.member.key.family c.in-Ok.at c.index_mut-book.result.now is_at
    c.index_mut-book.ensures.value)

pub add_member-requires-clause-past : goal.add_member-requires-clause-past
add_member-requires-clause-past c =
    let is_at : IsAt id_cmp family_of c.args.books.now.items c.args.member.key.family c.in-Ok.at = rw c.deref.ensures.value at
    c.in-Ok.ensures.found in
    of_book (λ (b : FamilyBook). is_past member_cmp member_key b.members c.args.member.key ≡ true) c.args.books.now.items
    c.args.member.key.family c.in-Ok.at
    c.index_mut-book.result.now c.requires.past is_at c.index_mut-book.ensures.value

pub returns-in-Ok : goal.returns-in-Ok
returns-in-Ok c =
    let is_at : IsAt id_cmp family_of c.args.books.now.items c.args.member.key.family c.in-Ok.at = rw c.deref.ensures.value at
    c.in-Ok.ensures.found in
    on_ok c.add_member.result
    (λ new. ap (λ b. set c.args.books.now.items c.in-Ok.at b) new
    ∙ member_at_place c.args.member c.args.books.now.items c.in-Ok.at c.index_mut-book.result.now c.requires.rise is_at
    c.index_mut-book.ensures.value)
    c.add_member.ensures.ok

pub returns-in-Err : goal.returns-in-Err
returns-in-Err c =
    let gap = rw c.deref.ensures.value at c.in-Err.ensures.absent in
    member_nowhere c.args.member c.args.books.now.items (item_at-gap id_cmp id_total family_of c.args.books.now.items
    c.args.member.key.family c.in-Err.field-0 gap)
