-- The value of a book, and two ledgers of the same members and rows.
use Rattle.std.proofs.Common.{◌≡◌, true}
use Rattle.std.specs.List.{All}
use Rattle.rx_ledger.specs.Ledger.{Ledger}
use Rattle.rx_books_family.specs.Books.{Book, IsInOrder, has_member, has_row}

pub ledger_path : (L M : Ledger) → L.members ≡ M.members → L.rows ≡ M.rows → L ≡ M
ledger_path L M members rows = λ i. record { members = members i; rows = rows i }

-- the value of a book: in order, and its own members and rows only
pub record IsValue (b : Book) (L : Ledger) : Type 0 where
  pub order : IsInOrder L
  pub members_own : All (λ m. has_member b m ≡ true) L.members
  pub rows_own : All (λ r. has_row b r ≡ true) L.rows
