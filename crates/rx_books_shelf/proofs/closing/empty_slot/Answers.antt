use Rattle.std.proofs.Common.{◌≡◌, Bor, false, Option, Some, None, refl, sym, ap, ◌∙◌}
use Rattle.std.specs.Option.{is_some, option_copied}
use Rattle.std.proofs.lemmas.Option.{slice_get_within}
use Rattle.rx_ledger.specs.Ledger.{row_under}
use Rattle.rx_books_store.specs.OpenBooks.{open_without}
use Rattle.rx_books_shelf.proofs.Brought.{emptied_there}
use Rattle.rx_books_shelf.proofs.closing.empty_slot.Goals as goal

none_is : {A : Type 0} (o : Option A) → is_some o ≡ false → o ≡ None
none_is None h = refl
none_is (Some x) h = absurd (cc h)

some_copied : {A : Type 0} (o : Option (Bor A)) → is_some (option_copied o) ≡ is_some o
some_copied None = refl
some_copied (Some x) = refl

pub row_at-requires : goal.row_at-requires
row_at-requires c = slice_get_within c.args.books.now.slots c.args.slot c.args.key.now c.requires

pub remove-before-requires-clause-slot : goal.remove-before-requires-clause-slot
remove-before-requires-clause-slot c = slice_get_within c.args.books.now.slots c.args.slot c.args.key.now c.requires

pub remove-before-requires-clause-taken : goal.remove-before-requires-clause-taken
remove-before-requires-clause-taken c =
    let at_row : option_copied c.row_at.result ≡ row_under c.args.books.now.books.ledger c.args.key.now = rw c.requires at
    c.row_at.ensures in
    rw c.requires (ap is_some (sym at_row) ∙ some_copied c.row_at.result ∙ sym c.is_some.ensures ∙ c.if-is_some.true)

pub returns-then-is_some : goal.returns-then-is_some
returns-then-is_some c =
    let both = sym c.remove-before.ensures.slot ∙ c.requires in
    let same : c.remove-before.result.key ≡ c.args.key.now = cc in
    c.remove-before.ensures.books ∙ ap (open_without c.args.books.now) same

pub returns-else-is_some : goal.returns-else-is_some
returns-else-is_some c =
    let at_row : option_copied c.row_at.result ≡ row_under c.args.books.now.books.ledger c.args.key.now = rw c.requires at
    c.row_at.ensures in
    emptied_there c.args.books.now c.args.key.now (none_is (row_under c.args.books.now.books.ledger c.args.key.now)
    (ap is_some (sym at_row) ∙ some_copied c.row_at.result ∙ sym c.is_some.ensures ∙ c.if-is_some.false))
