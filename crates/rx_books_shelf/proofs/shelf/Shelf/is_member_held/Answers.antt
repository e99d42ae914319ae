use Rattle.std.proofs.Common.{◌≡◌, Some, sym, ap, subst, ◌∙◌}
use Rattle.rx_sorted.specs.Ascending.{IsAscending}
use Rattle.rx_ledger.specs.Members.{member_cmp, member_key}
use Rattle.rx_books_family.specs.Shelves.{ShelfParts, family_place}
use Rattle.rx_books_family.proofs.Valued.{family_book_value, held_book_own}
use Rattle.rx_books_family.specs.Amended.{is_among}
use Rattle.rx_books_shelf.specs.Closed.{is_in_place}
use Rattle.rx_books_shelf.proofs.ShelfKept.{shelf_parts}
use Rattle.rx_books_shelf.proofs.shelf.Shelf.is_member_held.Goals as goal

pub is_among-requires : goal.is_among-requires
is_among-requires c =
    let s : ShelfParts = shelf_parts c.self.inside.books.books c.self.inside.keys c.self.inside.families in
    let f = c.args.member.now.key.family in
    let p = c.in-Some.place.now in
    let at : family_place s f ≡ Some p = sym c.in-Some.ensures in
    let value = family_book_value s.period f p.held (held_book_own s c.self.invariant.0 f p at) in
    subst (IsAscending member_cmp member_key) (sym c.members.ensures) value.order.members_rise

pub returns-in-Some : goal.returns-in-Some
returns-in-Some c =
    let s : ShelfParts = shelf_parts c.self.inside.books.books c.self.inside.keys c.self.inside.families in
    let m = c.args.member.now in
    let at : family_place s m.key.family ≡ Some c.in-Some.place.now = sym c.in-Some.ensures in
    rw (← c.self.view_is) (c.is_among.ensures ∙ ap (λ ms. is_among ms m) c.members.ensures ∙ sym (ap (λ q. is_in_place q m) at))
