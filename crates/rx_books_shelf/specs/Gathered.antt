-- Plumbing: books of families while members and rows are put into them.
use Rattle.std.specs.Prelude.{ℕ, if◌then◌else◌}
use Rattle.rx_ledger.specs.declared.member.Member.{Member}
use Rattle.rx_ledger.specs.declared.row.Row.{Row}
use Rattle.rx_ledger.specs.Ledger.{Ledger, members_of, rows_of}
use Rattle.rx_ledger.specs.Members.{of_family}
use Rattle.rx_ledger.specs.Rows.{claimed_by}
use Rattle.rx_ledger.specs.Sums.{deductible}
use Rattle.rx_books_family.specs.FamilyBook.{FamilyBook, book_with_member, book_with_row}
use Rattle.rx_books_store.specs.LedgerBooks.{LedgerBooks}

-- the book with a member or a row, if it is one of its family
abbrev pub with_own_member : Member → FamilyBook → FamilyBook
with_own_member m b = if of_family b.family m then book_with_member b m else b

abbrev pub with_own_row : Row → FamilyBook → FamilyBook
with_own_row r b = if claimed_by b.family r then book_with_row b r else b

-- the book with all members, or with all rows, that its family has in a ledger
abbrev pub with_members : Ledger → FamilyBook → FamilyBook
with_members L b = record b { members = members_of L b.family }

abbrev pub with_rows : Ledger → FamilyBook → FamilyBook
with_rows L b = record b { rows = rows_of L b.family }

-- the deductible of a member, as the books have it
abbrev pub own_deductible : LedgerBooks → Member → ℕ
own_deductible b m = deductible b.period b.ledger m.key.family m.key.person
