-- Plumbing: books that were read quickly.
use Rattle.std.specs.Prelude.{◌≡◌, ℕ, List, [], Ok}
use Rattle.rx_books_text.specs.declared.version.Version.{Version}
use Rattle.rx_books_text.specs.declared.version.Version.TheVariants.{Three}
use Rattle.rx_books_text.specs.Printed.{PrintedParts}
use Rattle.rx_books_scan.specs.declared.lists.Lists.{Lists}
use Rattle.rx_books_store.specs.declared.reader.Quick.{Quick}
use Rattle.rx_books_store.specs.declared.reader.Rest.{Rest}
use Rattle.rx_books_store.specs.Figures.{books_of}
use Rattle.rx_books_store.specs.Kept.{HoldsLines}
use Rattle.rx_books_store.specs.LedgerBooks.{LedgerBooks}

-- what the lists of a text have besides head, members and claims
abbrev pub rest_of : Lists → Rest
rest_of l = record {
  deductibles = l.deductibles;
  above = l.above;
  lengths = l.lengths;
  totals = l.totals;
}

-- books as a text prints them that has this besides
abbrev pub printed_with : Version → LedgerBooks → Rest → PrintedParts
printed_with version b rest = record {
  head = record { version = version; period = b.period };
  ledger = b.ledger;
  deductibles = rest.deductibles.items;
  totals = rest.totals;
}

-- the books are those of the text, which holds the lines of their rows if it is one of version 3
pub record IsQuick (text : List ℕ) (q : Quick) : Type 0 where
  pub books : books_of text ≡ Ok q.books.books
  pub none_open : q.books.slots ≡ []
  pub lines : q.version ≡ Three → HoldsLines text q.above q.lengths.items q.books.books.ledger.rows
