-- Plumbing: open books: the books, and the fill keys that have a slot.
use Rattle.std.specs.Prelude.{◌≡◌, ℕ, List, Some, slice_get}
use Rattle.std.specs.List.{Contains}
use Rattle.rx_fields.specs.Order.{key_cmp}
use Rattle.rx_fields.specs.declared.key.Key.{Key}
use Rattle.rx_sorted.specs.Overlaid.{with_slot}
use Rattle.rx_ledger.specs.declared.row.Row.{Row}
use Rattle.rx_ledger.specs.Ledger.{Ledger, row_under, with_row, without_row}
use Rattle.rx_ledger.specs.Rows.{row_key}
use Rattle.rx_books_store.specs.declared.slot.KeySlot.{KeySlot}
use Rattle.rx_books_store.specs.LedgerBooks.{LedgerBooks}
use Rattle.rx_books_store.specs.Store.{held, slot_key}

-- the books, and the fill keys under which a row can be written, ascending
pub record OpenParts : Type 0 where
  pub books : LedgerBooks
  pub slots : List Key

-- the books with one more row, and without the row under a fill key
abbrev pub books_with : LedgerBooks → Row → LedgerBooks
books_with b r = record b { ledger = with_row b.ledger r }

abbrev pub books_without : LedgerBooks → Key → LedgerBooks
books_without b key = record b { ledger = without_row b.ledger key }

-- the open books with one more row, and without the row under a fill key; the slots stay
abbrev pub open_with : OpenParts → Row → OpenParts
open_with o r = record o { books = books_with o.books r }

abbrev pub open_without : OpenParts → Key → OpenParts
open_without o key = record o { books = books_without o.books key }

-- the books, and the open books, with what a slot holds under its fill key; the slots stay
abbrev pub books_over : LedgerBooks → KeySlot → LedgerBooks
books_over b s = record b { ledger = record b.ledger { rows = with_slot key_cmp row_key slot_key held b.ledger.rows s } }

abbrev pub open_over : OpenParts → KeySlot → OpenParts
open_over o s = record o { books = books_over o.books s }

-- the place of a fill key's slot, if it has one
abbrev pub IsSlotOf : OpenParts → Key → ℕ → Type 0
IsSlotOf o key place = Contains o.slots key → slice_get o.slots place ≡ Some key

-- what stands under these fill keys is what stands there in a ledger; all else is as it was
pub record HasTaken (old : OpenParts) (from : Ledger) (keys : List Key) (new : OpenParts) : Type 0 where
  pub slots : new.slots ≡ old.slots
  pub period : new.books.period ≡ old.books.period
  pub members : new.books.ledger.members ≡ old.books.ledger.members
  pub taken : (key : Key) → Contains keys key → row_under new.books.ledger key ≡ row_under from key
  pub kept : (key : Key) → ¬ Contains keys key → row_under new.books.ledger key ≡ row_under old.books.ledger key
