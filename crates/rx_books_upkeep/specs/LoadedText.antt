-- Plumbing: the text of books with the members of a table.
use Rattle.std.specs.Prelude.{◌≡◌, IfOk, List, Result, length}
use Rattle.rx_ledger.specs.declared.member.Member.{Member}
use Rattle.rx_ledger.specs.declared.row.Row.{Row}
use Rattle.rx_books_text.specs.Printed.{line_feeds}
use Rattle.rx_books_store.specs.BooksText.{above_text, below_text, claims_text}
use Rattle.rx_books_store.specs.LedgerBooks.{LedgerBooks}
use Rattle.rx_books_upkeep.specs.declared.loaded_text.LoadedSides.{LoadedSides}
use Rattle.rx_books_upkeep.specs.declared.text_fault.UpkeepFault.{UpkeepFault}
use Rattle.rx_books_upkeep.specs.ChangeKinds.{counts_in}
use Rattle.rx_books_upkeep.specs.Loading.{changes_of, loaded}

-- each of these claims has one line
abbrev pub HasLineEach : List Row → Type 0
HasLineEach rows = line_feeds (claims_text rows) ≡ length rows

-- books whose claims have one line each
abbrev pub ReadsLines : Result LedgerBooks UpkeepFault → Type 0
ReadsLines result = IfOk result (λ b. HasLineEach b.ledger.rows)

-- what stands above and below the claims of books with the members of a table, and what these come to
pub record AreLoaded (b : LedgerBooks) (table : List Member) (s : LoadedSides) : Type 0 where
  pub above : s.above.items ≡ above_text b.period (loaded b.ledger table)
  pub below : s.below.items ≡ below_text b.period (loaded b.ledger table)
  pub changes : s.changes.items ≡ changes_of b.ledger table
  pub counts : s.counts ≡ counts_in s.changes.items
