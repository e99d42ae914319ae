-- Plumbing: the lists that a books text prints, before anything is looked up in them (docs/FORMATS.md, "Books file").
use Rattle.std.specs.Prelude.{◌≡◌, ℕ, ◌+◌, ◌≤◌, List, ◌++◌, length, map, All}
use Rattle.std.specs.List.{flat_map}
use Rattle.rx_sorted.specs.Ascending.{IsAscending}
use Rattle.rx_fields.specs.Order.{id_cmp, key_cmp}
use Rattle.rx_fields.specs.declared.limits.TheConstants.{MOST_LINES}
use Rattle.rx_ledger.specs.declared.member.Member.{Member}
use Rattle.rx_ledger.specs.declared.row.Row.{Row}
use Rattle.rx_ledger.specs.Members.{member_cmp, member_key}
use Rattle.rx_ledger.specs.Rows.{row_key}
use Rattle.rx_books_text.specs.declared.line.Line.{Line}
use Rattle.rx_books_text.specs.declared.line.Line.TheVariants as line
use Rattle.rx_books_text.specs.declared.line.TotalLine.{TotalLine}
use Rattle.rx_books_text.specs.declared.version.Version.{Version}
use Rattle.rx_books_text.specs.LineFits.{IsPeriod, IsLine}
use Rattle.rx_books_text.specs.LineText.{line_text, ended, head_text}
use Rattle.rx_books_text.specs.Printed.{PrintedParts, line_feeds, lines_of, member_lines, printed_text, total_family}

-- the text of lines, each with its line feed
abbrev pub lines_text : Version → List Line → List ℕ
lines_text v ls = flat_map (λ l. ended (line_text v l)) ls

-- how many bytes a claim's line has, with the line feed
abbrev pub claim_length : Version → Row → ℕ
claim_length v r = length (ended (line_text v (line.Claim r)))

abbrev pub claim_lengths : Version → List Row → List ℕ
claim_lengths v rows = map (claim_length v) rows

-- the bytes begin with these lines, which the version can print, and go on with the rest
pub record BeginWith (v : Version) (bytes : List ℕ) (ls : List Line) (rest : List ℕ) : Type 0 where
  pub whole : bytes ≡ lines_text v ls ++ rest
  pub fits : All (IsLine v) ls

-- a line for each claim, and for each total
abbrev pub claim_lines : List Row → List Line
claim_lines rows = map (λ r. line.Claim r) rows

abbrev pub total_lines : List TotalLine → List Line
total_lines totals = map (λ t. line.Total t) totals

-- the lines of the members with their deductibles, then those of the claims and the totals
abbrev pub lines_in : List Member → List ℕ → List Row → List TotalLine → List Line
lines_in ms ds rows totals = member_lines ms ds ++ (claim_lines rows ++ total_lines totals)

-- the text prints these lists, of at most `MOST_LINES` lines: the lists ascend, and each line is one of the head's version.
-- Whether the member of a row is listed, or a member of a total's family, isn't said.
pub record AreLists (text : List ℕ) (p : PrintedParts) : Type 0 where
  pub printed : text ≡ printed_text p
  pub period : IsPeriod p.head.period
  pub one_each : length p.deductibles ≡ length p.ledger.members
  pub members_rise : IsAscending member_cmp member_key p.ledger.members
  pub rows_rise : IsAscending key_cmp row_key p.ledger.rows
  pub totals_rise : IsAscending id_cmp total_family p.totals
  pub lines : All (IsLine p.head.version) (lines_of p)
  pub few : line_feeds text ≤ MOST_LINES

-- this many bytes stand above the first claim line, those of the head line and of the member lines, and each claim line has this
-- many
pub record AreMeasured (p : PrintedParts) (above : ℕ) (lengths : List ℕ) : Type 0 where
  pub begin : above ≡ length (ended (head_text p.head))
      + length (lines_text p.head.version (member_lines p.ledger.members p.deductibles))
  pub each : lengths ≡ claim_lengths p.head.version p.ledger.rows
