-- Meaning: a members table: the heading, and a line for each member in any order (docs/FORMATS.md, "Members table").
use Rattle.std.specs.Prelude.{ℕ, ◌+◌, nat_eq, nat_lt, ◌==◌, if◌then◌else◌, List, [], ◌∷◌, codes, length, map}
use Rattle.std.specs.Prelude.{Option, Some, None, Result, Ok, Err}
use Rattle.std.specs.BTreeMap.{insert_entry, is_at}
use Rattle.std.specs.Map.{lookup}
use Rattle.std.specs.Cmp.Lexicographic.{pointwise}
use Rattle.std.specs.List.{join_with_byte}
use Rattle.rx_fields.specs.declared.limits.TheConstants.{MOST_LINES}
use Rattle.rx_ledger.specs.declared.member.Member.{Member}
use Rattle.rx_ledger.specs.declared.member.MemberKey.{MemberKey}
use Rattle.rx_ledger.specs.Members.{member_cmp}
use Rattle.rx_text.specs.Results.{◌>>=◌}
use Rattle.rx_books_text.specs.Printed.{line_feeds}
use Rattle.rx_books_text.specs.TextReading.{lines}
use Rattle.rx_books_upkeep.specs.declared.table.Listed.{Listed}
use Rattle.rx_books_upkeep.specs.declared.table_fault.TableFault.{TableFault}
use Rattle.rx_books_upkeep.specs.declared.table_fault.TableFault.TheVariants as fault
use Rattle.rx_books_upkeep.specs.declared.table_fault.Wrong.{Wrong}
use Rattle.rx_books_upkeep.specs.TableLine.{member_in}

-- what is listed so far, in the order of the members
abbrev pub Entries : Type 0
Entries = List (MemberKey × Listed)

-- the heading line
abbrev pub heading : List ℕ
heading = join_with_byte 9 (codes "family" ∷ codes "person" ∷ codes "first" ∷ codes "last" ∷ [])

-- where the member is listed
abbrev pub listed_at : Entries → MemberKey → Option Listed
listed_at es key = lookup (is_at (member_cmp key)) es

-- the member of line n, after these members; no earlier line is the member's
abbrev pub member_added : ℕ → Entries → Member → Option Listed → Result Entries TableFault
member_added n es m None = Ok (insert_entry member_cmp es m.key (record { line = n; coverage = m.coverage }))
member_added n es m (Some earlier) = Err (fault.Twice n earlier.line)

-- line n, after these members, by what it is read as
abbrev pub row_added : ℕ → Entries → Result Member Wrong → Result Entries TableFault
row_added n es (Ok m) = member_added n es m (listed_at es m.key)
row_added n es (Err wrong) = Err (fault.Line n wrong)

-- the same, of its text
unfoldable pub row_read : ℕ → Entries → List ℕ → Result Entries TableFault
row_read n es line = row_added n es (member_in line)

-- the lines from line n on; after the last line feed stands nothing
unfoldable pub rows_read : ℕ → Entries → List (List ℕ) → Result Entries TableFault
rows_read n es [] = Ok es
rows_read n es (last ∷ []) = if length last == 0 then Ok es else Err (fault.Unended n)
rows_read n es (line ∷ next ∷ more) = row_read n es line >>= λ fs. rows_read (n + 1) fs (next ∷ more)

-- the heading, and the lines after it
unfoldable pub headed : List (List ℕ) → Result Entries TableFault
headed [] = Err fault.Heading
headed (last ∷ []) = Err fault.Heading
headed (first ∷ next ∷ more) = if pointwise nat_eq first heading then rows_read 2 [] (next ∷ more) else Err fault.Heading

-- the member of an entry
abbrev pub member_at : MemberKey × Listed → Member
member_at e = record { key = e.0; coverage = e.1.coverage }

-- the members of a table in their order, or its first fault
abbrev pub table_of : List ℕ → Result (List Member) TableFault
table_of text =
    if nat_lt MOST_LINES (line_feeds text) then Err fault.TooMuch
    else (headed (lines text) >>= λ es. Ok (map member_at es))
