-- Meaning: a books file as it is printed: its lines and its text (docs/FORMATS.md, "Books file").
use Rattle.std.specs.Prelude.{◌≡◌, ℕ, ◌≤◌, Bool, true, ◌==◌, List, [], ◌∷◌, ◌++◌, length, map, count_by, All}
use Rattle.std.specs.List.{flat_map, list_all, list_any}
use Rattle.rx_sorted.specs.Ascending.{IsAscending}
use Rattle.rx_fields.specs.Order.{id_cmp}
use Rattle.rx_fields.specs.declared.limits.TheConstants.{MOST_LINES}
use Rattle.rx_ledger.specs.declared.member.Member.{Member}
use Rattle.rx_ledger.specs.Ledger.{Ledger, IsLedger}
use Rattle.rx_ledger.specs.Members.{of_family}
use Rattle.rx_books_text.specs.declared.head.Head.{Head}
use Rattle.rx_books_text.specs.declared.line.Line.{Line}
use Rattle.rx_books_text.specs.declared.line.Line.TheVariants as line
use Rattle.rx_books_text.specs.declared.line.TotalLine.{TotalLine}
use Rattle.rx_books_text.specs.LineFits.{IsPeriod, IsLine}
use Rattle.rx_books_text.specs.LineText.{head_text, line_text, ended}

-- the head, the members and claims, each member's deductible as printed, the totals as printed
pub record PrintedParts : Type 0 where
  pub head : Head
  pub ledger : Ledger
  pub deductibles : List ℕ
  pub totals : List TotalLine

-- a member line for each member, with its deductible
abbrev pub member_lines : List Member → List ℕ → List Line
member_lines [] ds = []
member_lines (m ∷ ms) [] = []
member_lines (m ∷ ms) (d ∷ ds) = line.Member (record { member = m; deductible = d }) ∷ member_lines ms ds

-- the lines after the head, in order
abbrev pub lines_of : PrintedParts → List Line
lines_of p =
    member_lines p.ledger.members p.deductibles
    ++ (map (λ r. line.Claim r) p.ledger.rows ++ map (λ t. line.Total t) p.totals)

-- the text: the head line and the lines after it, each with its line feed
abbrev pub printed_text : PrintedParts → List ℕ
printed_text p = ended (head_text p.head) ++ flat_map (λ l. ended (line_text p.head.version l)) (lines_of p)

-- how many line feeds there are
abbrev pub line_feeds : List ℕ → ℕ
line_feeds text = count_by (λ b. b == 10) text

-- the family has a member
abbrev pub has_member : Ledger → List ℕ → Bool
has_member L family = list_any (of_family family) L.members

abbrev pub total_family : TotalLine → List ℕ
total_family t = t.family

-- what can be printed: lines of the head's version, the totals ascending, of families that have a member
pub record IsPrinted (p : PrintedParts) : Type 0 where
  pub period : IsPeriod p.head.period
  pub ledger : IsLedger p.ledger
  pub one_each : length p.deductibles ≡ length p.ledger.members
  pub totals_rise : IsAscending id_cmp total_family p.totals
  pub families : list_all (λ t. has_member p.ledger t.family) p.totals ≡ true
  pub lines : All (IsLine p.head.version) (lines_of p)
  pub few : line_feeds (printed_text p) ≤ MOST_LINES
