-- Meaning: what is made of the texts of books and of a members table (docs/RULES.md, "Books between runs").
use Rattle.std.specs.Prelude.{ℕ, nat_lt, if◌then◌else◌, List, [], length, Option, Result, Ok, Err, unwrap_or}
use Rattle.std.specs.Ordering.{is_gt}
use Rattle.rx_fields.specs.Calendar.{Civil, day_cmp}
use Rattle.rx_fields.specs.Numbered.{Span}
use Rattle.rx_fields.specs.declared.limits.TheConstants.{MOST_LINES}
use Rattle.rx_ledger.specs.declared.member.Member.{Member}
use Rattle.rx_ledger.specs.Ledger.{Ledger}
use Rattle.rx_io.specs.Pieces.{text_of}
use Rattle.rx_text.specs.Results.{◌>>=◌}
use Rattle.rx_books_text.specs.declared.version.Version.TheVariants.{Three}
use Rattle.rx_books_text.specs.Printed.{line_feeds}
use Rattle.rx_books_store.specs.BooksText.{books_text, claims_text}
use Rattle.rx_books_store.specs.Figures.{books_of}
use Rattle.rx_books_store.specs.LedgerBooks.{LedgerBooks}
use Rattle.rx_books_upkeep.specs.declared.change.Loaded.{Loaded}
use Rattle.rx_books_upkeep.specs.declared.change.MemberChange.{MemberChange}
use Rattle.rx_books_upkeep.specs.declared.texts.AgedText.{AgedText}
use Rattle.rx_books_upkeep.specs.declared.texts.MembersText.{MembersText}
use Rattle.rx_books_upkeep.specs.declared.text_fault.UpkeepFault.{UpkeepFault}
use Rattle.rx_books_upkeep.specs.declared.text_fault.UpkeepFault.TheVariants as fault
use Rattle.rx_books_upkeep.specs.Ageing.{aged, dropped}
use Rattle.rx_books_upkeep.specs.Loading.{changes_of, counts_of, loaded}
use Rattle.rx_books_upkeep.specs.Table.{table_of}
use Rattle.rx_books_upkeep.specs.TextFault.{of_books, of_table}

-- a result, with another name for its fault
abbrev pub renamed : {X F G : Type 0} → (F → G) → Result X F → Result X G
renamed name (Ok x) = Ok x
renamed name (Err f) = Err (name f)

-- the books of a text, and the members of a table, or the text's first fault
abbrev pub opened : List ℕ → Result LedgerBooks UpkeepFault
opened text = renamed of_books (books_of text)

abbrev pub listed : List ℕ → Result (List Member) UpkeepFault
listed text = renamed of_table (table_of text)

-- ---- members

-- a text of end books, and the counts that are printed
abbrev pub MembersMade : Type 0
MembersMade = List ℕ × Loaded

abbrev pub seen_members : MembersText → MembersMade
seen_members done = (text_of done.books, done.counts)

-- books that can be read again: they have at most 1,000,000 lines
abbrev pub readable : MembersMade → Result MembersMade UpkeepFault
readable made = if nat_lt MOST_LINES (line_feeds made.0) then Err fault.TooMuch else Ok made

-- these books with the members of the table
abbrev pub with_members : LedgerBooks → List Member → MembersMade
with_members b table = (books_text Three b.period (loaded b.ledger table), counts_of b.ledger table)

-- no members and no claims
abbrev pub no_books : Span → LedgerBooks
no_books period = record { period = period; ledger = record { members = []; rows = [] } }

-- a table loaded into books
abbrev pub members_put : List ℕ → LedgerBooks → Result MembersMade UpkeepFault
members_put table b = listed table >>= λ ms. readable (with_members b ms)

-- the same, into the books of a text, and into none
abbrev pub members_made : List ℕ → List ℕ → Result MembersMade UpkeepFault
members_made books table = opened books >>= members_put table

abbrev pub members_founded : Span → List ℕ → Result MembersMade UpkeepFault
members_founded period table = members_put table (no_books period)

-- what the members of the table come to, in the books of a text and in such books
abbrev pub changes_put : List ℕ → LedgerBooks → Result (List MemberChange) UpkeepFault
changes_put table b = listed table >>= λ ms. Ok (changes_of b.ledger ms)

abbrev pub changes_made : List ℕ → List ℕ → Result (List MemberChange) UpkeepFault
changes_made books table = opened books >>= changes_put table

-- ---- age

-- the end books, the lines of the claims that left, and how many these are
abbrev pub AgedMade : Type 0
AgedMade = List ℕ × List ℕ × ℕ

abbrev pub seen_aged : AgedText → AgedMade
seen_aged done = (text_of done.books, text_of done.dropped, done.left)

-- the books without the claims before the day, with the totals of the period
abbrev pub without_claims : Civil → Span → Ledger → AgedMade
without_claims before period L = (
  books_text Three period (aged before L),
  claims_text (dropped before L.rows),
  length (dropped before L.rows),
)

abbrev pub within_period : Civil → Span → LedgerBooks → Result AgedMade UpkeepFault
within_period before period b =
    if is_gt (day_cmp before period.first) then Err fault.AfterPeriod else Ok (without_claims before period b.ledger)

-- claims aged out of the books of a text
abbrev pub aged_made : List ℕ → Civil → Option Span → Result AgedMade UpkeepFault
aged_made books before period = opened books >>= λ b. within_period before (unwrap_or period b.period) b
