use Rattle.std.proofs.Common.{◌≡◌, Some, None, sym, ap, subst, ◌∙◌}
use Rattle.rx_sorted.specs.Ascending.{IsAscending}
use Rattle.rx_ledger.specs.Members.{member_cmp, member_key}
use Rattle.rx_books_family.specs.Amended.{is_among}
use Rattle.rx_books_family.specs.Shelves.{ShelfParts, family_place}
use Rattle.rx_books_family.proofs.Valued.{family_book_value, held_book_own}
use Rattle.rx_books_store.specs.WholeBooks.{beside}
use Rattle.rx_books_store.proofs.WholeBooks.{among_beside, among_placed}
use Rattle.rx_books_store.proofs.whole.Whole.has_member.Goals as goal

pub item_of-requires : goal.item_of-requires
item_of-requires c = c.self.invariant.shelf.families_rise

pub is_among-requires : goal.is_among-requires
is_among-requires c =
    let s : ShelfParts = beside c.self.inside.books.now.books c.self.inside.keys.now c.self.inside.families.now in
    let f = c.args.member.now.key.family in
    let p = c.in-Some.place.now in
    let at : family_place s f ≡ Some p = sym c.in-Some.ensures in
    let value = family_book_value s.period f p.held (held_book_own s c.self.invariant.shelf f p at) in
    subst (IsAscending member_cmp member_key) (sym c.members.ensures) value.order.members_rise

pub returns-in-Some : goal.returns-in-Some
returns-in-Some c =
    let s : ShelfParts = beside c.self.inside.books.now.books c.self.inside.keys.now c.self.inside.families.now in
    let m = c.args.member.now in
    let at : family_place s m.key.family ≡ Some c.in-Some.place.now = sym c.in-Some.ensures in
    rw (← c.self.view_is) (c.is_among.ensures ∙ ap (λ ms. is_among ms m) c.members.ensures
    ∙ among_placed s c.self.invariant m c.in-Some.place.now at)

pub returns-in-None : goal.returns-in-None
returns-in-None c =
    let s : ShelfParts = beside c.self.inside.books.now.books c.self.inside.keys.now c.self.inside.families.now in
    let m = c.args.member.now in
    let at : family_place s m.key.family ≡ None = sym c.in-None.ensures in
    rw (← c.self.view_is) (c.is_among-in-None.ensures ∙ ap (λ ms. is_among ms m) c.members-in-None.ensures.value
    ∙ among_beside s c.self.invariant m at)
