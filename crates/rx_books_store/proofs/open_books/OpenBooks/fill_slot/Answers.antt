use Rattle.std.proofs.Common.{Some, sym, ap, ◌∙◌}
use Rattle.rx_ledger.specs.Ledger.{is_taken}
use Rattle.rx_books_store.specs.BooksText.{families_of}
use Rattle.rx_books_store.proofs.Stored.{home-of}
use Rattle.rx_books_store.proofs.Taken.{over-none, own-holder, own-key}
use Rattle.rx_books_store.proofs.open_books.OpenBooks.fill_slot.Goals as goal

pub add-requires-clause-slot : goal.add-requires-clause-slot
add-requires-clause-slot c =
    c.requires.slot ∙ ap Some (sym (own-key _ c.args.theirs c.in-Some.row c.requires.own c.in-Some.is))

pub add-requires-clause-free : goal.add-requires-clause-free
add-requires-clause-free c =
    ap (is_taken c.args.self.now.books.ledger) (own-key _ c.args.theirs c.in-Some.row c.requires.own c.in-Some.is)
    ∙ c.requires.free

pub add-requires-clause-family : goal.add-requires-clause-family
add-requires-clause-family c =
    let members = c.args.self.now.books.ledger.members in
    home-of members c.in-Some.row c.args.theirs.holder (families_of members) c.home_of.result
    (own-holder members c.args.theirs c.in-Some.row c.requires.own c.in-Some.is) c.home_of.ensures

pub returns-in_default : goal.returns-in_default
returns-in_default c = over-none c.args.self.now c.args.theirs c.requires.free c.in_default.is
