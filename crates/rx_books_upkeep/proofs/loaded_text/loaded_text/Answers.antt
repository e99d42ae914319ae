use Rattle.std.proofs.Common.{◌≡◌, ◌+◌, ◌++◌, length, false, true, sym, subst, ap, ◌∙◌}
use Rattle.std.specs.Prelude.{nat_lt}
use Rattle.rx_fields.specs.declared.limits.TheConstants.{MOST_LINES}
use Rattle.rx_io.specs.Pieces.{text_of}
use Rattle.rx_books_text.specs.Printed.{line_feeds}
use Rattle.rx_books_store.specs.BooksText.{claims_text}
use Rattle.rx_books_store.specs.LedgerBooks.{LedgerBooks}
use Rattle.rx_books_upkeep.specs.ChangeKinds.{counts_in}
use Rattle.rx_books_upkeep.specs.LoadedText.{AreLoaded}
use Rattle.rx_books_upkeep.proofs.FiguredText.{not_long, too_long}
use Rattle.rx_books_upkeep.proofs.loaded_text.loaded_text.Goals as goal

pub returns-then-is_long-clause-text : goal.returns-then-is_long-clause-text
returns-then-is_long-clause-text g c =
    let b = c.args.books.now in
    let same : c.books-books.result.now.books ≡ b = c.books-books.ensures ∙ c.in_ok-lent.ensures in
    let sides = c.in_ok-sides.sides in
    let made = subst (λ (x : LedgerBooks). AreLoaded x c.args.table.now sides) same c.in_ok-sides.ensures in
    let lines = c.claims-claims.result in
    let count : lines ≡ line_feeds (claims_text b.ledger.rows) =
    c.claims-claims.ensures.value ∙ ap (λ (x : LedgerBooks). length x.ledger.rows) same ∙ sym c.requires in
    let past : nat_lt MOST_LINES (line_feeds sides.above.items + line_feeds sides.below.items + lines) ≡ true =
    (λ i. nat_lt MOST_LINES (line_feeds (sym c.deref.ensures.value i) + line_feeds (sym c.deref-2.ensures.value i) + lines))
    ∙ sym c.is_long.ensures ∙ c.if-is_long.true in
    too_long b c.args.table.now sides.above.items sides.below.items lines made.above made.below count past

pub returns-clause-text : goal.returns-clause-text
returns-clause-text g c =
    let b = c.args.books.now in
    let same : c.books-books.result.now.books ≡ b = c.books-books.ensures ∙ c.in_ok-lent.ensures in
    let sides = c.in_ok-sides.sides in
    let made = subst (λ (x : LedgerBooks). AreLoaded x c.args.table.now sides) same c.in_ok-sides.ensures in
    let lines = c.claims-claims.result in
    let count : lines ≡ line_feeds (claims_text b.ledger.rows) =
    c.claims-claims.ensures.value ∙ ap (λ (x : LedgerBooks). length x.ledger.rows) same ∙ sym c.requires in
    let few : nat_lt MOST_LINES (line_feeds sides.above.items + line_feeds sides.below.items + lines) ≡ false =
    (λ i. nat_lt MOST_LINES (line_feeds (sym c.deref.ensures.value i) + line_feeds (sym c.deref-2.ensures.value i) + lines))
    ∙ sym c.is_long.ensures ∙ c.if-is_long.false in
    let claims = claims_text c.books-books.result.now.books.ledger.rows in
    let text : text_of c.in_ok-end_books.end_books ≡ sides.above.items ++ (claims ++ sides.below.items) =
    c.in_ok-end_books.ensures ∙ ap (λ t. sides.above.items ++ (claims ++ t)) c.deref-3.ensures.value in
    not_long b c.args.table.now sides.above.items sides.below.items lines made.above made.below count few claims
    (text_of c.in_ok-end_books.end_books) sides.counts
    (ap (λ (x : LedgerBooks). claims_text x.ledger.rows) same) text (made.counts ∙ ap counts_in made.changes)

pub returns-clause-changes : goal.returns-clause-changes
returns-clause-changes g c =
    let same : c.books-books.result.now.books ≡ c.args.books.now = c.books-books.ensures ∙ c.in_ok-lent.ensures in
    let made = subst (λ (x : LedgerBooks). AreLoaded x c.args.table.now c.in_ok-sides.sides) same c.in_ok-sides.ensures in
    sym made.changes
