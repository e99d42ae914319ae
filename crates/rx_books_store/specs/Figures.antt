-- Meaning: a books file whose figures are the sums of its claims (docs/FORMATS.md, "Books file", Totals).
use Rattle.std.specs.Prelude.{ℕ, ◌+◌, ◌==◌, Bool, true, false, not, ◌&&◌, if◌then◌else◌, List}
use Rattle.std.specs.Prelude.{length, Option, Some, None, Result, Ok, Err, position}
use Rattle.std.specs.List.{list_all}
use Rattle.rx_fields.specs.Order.{id_cmp}
use Rattle.rx_sorted.specs.Ascending.{contains_key}
use Rattle.rx_books_text.specs.declared.fault.BooksFault.{BooksFault}
use Rattle.rx_books_text.specs.declared.fault.BooksFault.TheVariants as fault
use Rattle.rx_books_text.specs.declared.line.Line.{Line}
use Rattle.rx_books_text.specs.declared.line.Line.TheVariants as line
use Rattle.rx_books_text.specs.declared.line.TotalLine.{TotalLine}
use Rattle.rx_text.specs.Results.{◌>>=◌}
use Rattle.rx_books_text.specs.Printed.{PrintedParts, lines_of, total_family}
use Rattle.rx_books_text.specs.TextReading.{printed_of}
use Rattle.rx_books_store.specs.BooksText.{families_of}
use Rattle.rx_books_store.specs.LedgerBooks.{LedgerBooks, deductible_of_family, deductible_of_member, out_of_pocket_of_family}

-- the figure is the books' own
abbrev pub is_figure : Option ℕ → ℕ → Bool
is_figure None n = false
is_figure (Some sum) n = sum == n

-- it is, where it is printed
abbrev pub is_if_printed : Option ℕ → Option ℕ → Bool
is_if_printed sum None = true
is_if_printed sum (Some n) = is_figure sum n

-- the figures of a line are the sums
abbrev pub are_sums : LedgerBooks → Line → Bool
are_sums b (line.Member m) = is_figure (deductible_of_member b m.member.key.family m.member.key.person) m.deductible
are_sums b (line.Claim r) = true
are_sums b (line.Total t) =
    is_figure (out_of_pocket_of_family b t.family) t.out_of_pocket
    && is_if_printed (deductible_of_family b t.family) t.deductible

-- a family has its total line
abbrev pub has_total : List TotalLine → List ℕ → Bool
has_total totals family = contains_key id_cmp total_family totals family

-- the books of the ledger that is printed
abbrev pub unsummed : PrintedParts → LedgerBooks
unsummed p = record { period = p.head.period; ledger = p.ledger }

-- the place of the first line of which a figure isn't the sum
abbrev pub first_wrong : PrintedParts → Option ℕ
first_wrong p = position (λ l. not (are_sums (unsummed p) l)) (lines_of p)

-- each family has its total line
abbrev pub has_all_totals : PrintedParts → Bool
has_all_totals p = list_all (has_total p.totals) (families_of p.ledger.members)

-- the number of the first line that is wrong, or that of a missing total line; the head is line 1
abbrev pub wrong_from : PrintedParts → Option ℕ → Option ℕ
wrong_from p (Some at) = Some (at + 2)
wrong_from p None = if has_all_totals p then None else Some (length (lines_of p) + 2)

abbrev pub wrong_line : PrintedParts → Option ℕ
wrong_line p = wrong_from p (first_wrong p)

-- the books, unless a line is wrong
abbrev pub unless_wrong : LedgerBooks → Option ℕ → Result LedgerBooks BooksFault
unless_wrong b None = Ok b
unless_wrong b (Some n) = Err (fault.Totals n)

abbrev pub books_of_parts : PrintedParts → Result LedgerBooks BooksFault
books_of_parts p = unless_wrong (unsummed p) (wrong_line p)

-- the books of a text, or its first fault
abbrev pub books_of : List ℕ → Result LedgerBooks BooksFault
books_of text = printed_of text >>= books_of_parts
