-- Plumbing: the text of books with other members, whose figures are those of the ledger as it was.
use Rattle.std.specs.Prelude.{ℕ, List, map}
use Rattle.std.specs.List.{flat_map}
use Rattle.rx_ledger.specs.declared.member.Member.{Member}
use Rattle.rx_ledger.specs.Ledger.{Ledger}
use Rattle.rx_ledger.specs.Sums.{deductible}
use Rattle.rx_books_text.specs.declared.line.Line.{Line}
use Rattle.rx_books_text.specs.declared.line.Line.TheVariants as line
use Rattle.rx_books_text.specs.declared.version.Version.TheVariants.{Three}
use Rattle.rx_books_text.specs.LineText.{ended, line_text}
use Rattle.rx_books_store.specs.BooksText.{total_of}
use Rattle.rx_books_store.specs.LedgerBooks.{LedgerBooks}
use Rattle.rx_books_upkeep.specs.declared.families.Family.{Family}

-- the ledger with these members
abbrev pub of_members : List Member → Ledger → Ledger
of_members members L = record L { members = members }

-- a member's line, with the deductible so far
abbrev pub person_line : LedgerBooks → Member → Line
person_line b m = line.Member (record { member = m; deductible = deductible b.period b.ledger m.key.family m.key.person })

abbrev pub person_lines : LedgerBooks → List Member → List ℕ
person_lines b members = flat_map (λ m. ended (line_text Three (person_line b m))) members

-- families, by their ids
abbrev pub id_of : Family → List ℕ
id_of f = f.id

abbrev pub ids_of : List Family → List (List ℕ)
ids_of families = map id_of families

-- the total lines of families
abbrev pub family_lines : LedgerBooks → List Family → List ℕ
family_lines b families =
    flat_map (λ (f : Family). ended (line_text Three (line.Total (total_of Three b.period b.ledger f.id)))) families
