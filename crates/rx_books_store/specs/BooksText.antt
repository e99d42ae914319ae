-- Meaning: the text of the books: the one text of a ledger with its sums (docs/FORMATS.md, "Books file").
use Rattle.std.specs.Prelude.{ℕ, not, List, [], ◌∷◌, ◌++◌, Option, Some, None, filter, map}
use Rattle.std.specs.List.{flat_map}
use Rattle.rx_fields.specs.Numbered.{Span}
use Rattle.rx_ledger.specs.declared.member.Member.{Member}
use Rattle.rx_ledger.specs.declared.row.Row.{Row}
use Rattle.rx_ledger.specs.Ledger.{Ledger}
use Rattle.rx_ledger.specs.Members.{is_same}
use Rattle.rx_ledger.specs.Sums.{deductible, family_deductible, out_of_pocket}
use Rattle.rx_books_text.specs.declared.line.Line.{Line}
use Rattle.rx_books_text.specs.declared.line.Line.TheVariants as line
use Rattle.rx_books_text.specs.declared.line.TotalLine.{TotalLine}
use Rattle.rx_books_text.specs.declared.version.Version.{Version}
use Rattle.rx_books_text.specs.declared.version.Version.TheVariants.{One, Two, Three}
use Rattle.rx_books_text.specs.LineText.{ended, head_text, line_text}
use Rattle.rx_books_text.specs.Printed.{PrintedParts, member_lines, printed_text}

-- the families of these members, each once, in the order in which they come
abbrev pub families_of : List Member → List (List ℕ)
families_of [] = []
families_of (m ∷ ms) = m.key.family ∷ filter (λ f. not (is_same f m.key.family)) (families_of ms)

-- each member's deductible in a period, as it is printed
abbrev pub deductibles_of : Span → Ledger → List ℕ
deductibles_of period L = map (λ m. deductible period L m.key.family m.key.person) L.members

-- the figure that only version 3 prints
abbrev pub from_three : Version → ℕ → Option ℕ
from_three One n = None
from_three Two n = None
from_three Three n = Some n

-- a family's total line
abbrev pub total_of : Version → Span → Ledger → List ℕ → TotalLine
total_of version period L family =
    record {
      family = family;
      out_of_pocket = out_of_pocket period L family;
      deductible = from_three version (family_deductible period L family);
    }

-- what the books print: the ledger, with each sum
abbrev pub parts_of : Version → Span → Ledger → PrintedParts
parts_of version period L =
    record {
      head = record { version = version; period = period };
      ledger = L;
      deductibles = deductibles_of period L;
      totals = map (total_of version period L) (families_of L.members);
    }

-- the text of the books in a version
abbrev pub books_text : Version → Span → Ledger → List ℕ
books_text version period L = printed_text (parts_of version period L)

-- ---- the parts of version 3

-- lines of version 3
abbrev pub lines_text : List Line → List ℕ
lines_text lines = flat_map (λ l. ended (line_text Three l)) lines

-- the lines of the rows
abbrev pub claims_text : List Row → List ℕ
claims_text rows = flat_map (λ r. ended (line_text Three (line.Claim r))) rows

-- the head line and the member lines, and the total lines
unfoldable pub above_text : Span → Ledger → List ℕ
above_text period L =
    ended (head_text (record { version = Three; period = period })) ++ lines_text (member_lines L.members (deductibles_of period L))

unfoldable pub below_text : Span → Ledger → List ℕ
below_text period L = lines_text (map (λ t. line.Total t) (map (total_of Three period L) (families_of L.members)))
