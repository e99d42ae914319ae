-- Plumbing: parts of the lines of a books file, and how they are put one after another.
use Rattle.std.specs.Prelude.{◌≡◌, ℕ, ◌+◌, ◌<◌, Bool, ◌&&◌, ◌||◌, ◌==◌, List, [], length}
use Rattle.std.specs.List.{flat_map}
use Rattle.std.specs.Vec.{vec_items}
use Rattle.rx_sorted.specs.Ascending.{IsAscending}
use Rattle.rx_fields.specs.Order.{id_cmp, key_cmp}
use Rattle.rx_fields.specs.declared.limits.TheConstants.{MOST_LINES}
use Rattle.rx_ledger.specs.declared.member.Member.{Member}
use Rattle.rx_ledger.specs.declared.row.Row.{Row}
use Rattle.rx_ledger.specs.Members.{member_cmp, member_key}
use Rattle.rx_ledger.specs.Rows.{row_key}
use Rattle.rx_books_text.specs.declared.head.Head.{Head}
use Rattle.rx_books_text.specs.declared.line.Line.{Line}
use Rattle.rx_books_text.specs.declared.version.Version.{Version}
use Rattle.rx_books_text.specs.Printed.{PrintedParts, lines_of, member_lines, total_family}
use Rattle.rx_books_scan.specs.declared.whole.Whole.{Whole}
use Rattle.rx_books_scan.specs.declared.lists.Lists.{Lists}
use Rattle.rx_books_scan.specs.declared.part.Part.{Part}
use Rattle.rx_books_scan.specs.Lists.{BeginWith, claim_lengths, lines_in, lines_text}

-- the lines of a part
abbrev pub part_lines : Part → List Line
part_lines p = lines_in p.members.members.items p.members.deductibles.items p.rows.items p.totals.items

-- the member lines have this many bytes, and each claim line has this many
pub record AreLong (v : Version) (ms : List Member) (ds : List ℕ) (bytes : ℕ) (rows : List Row) (lengths : List ℕ) : Type 0 where
  pub members : bytes ≡ length (lines_text v (member_lines ms ds))
  pub claims : lengths ≡ claim_lengths v rows

abbrev pub IsPartMeasured : Version → Part → Type 0
IsPartMeasured v p =
    AreLong v p.members.members.items p.members.deductibles.items p.members.bytes p.rows.items p.lengths.items

-- a text is the lines of a part, which are as long as it says
pub record IsPart (v : Version) (text : List ℕ) (p : Part) : Type 0 where
  pub lines : BeginWith v text (part_lines p) []
  pub measured : IsPartMeasured v p

-- the lines of parts that were put one after another
abbrev pub whole_lines : Whole → List Line
whole_lines w =
    lines_in w.members.members.items w.members.deductibles.items (flat_map vec_items w.runs.items) w.totals.items

abbrev pub IsWholeMeasured : Version → Whole → Type 0
IsWholeMeasured v w =
    AreLong v w.members.members.items w.members.deductibles.items w.members.bytes (flat_map vec_items w.runs.items) w.lengths.items

abbrev pub is_none : {A : Type 0} → List A → Bool
is_none xs = length xs == 0

-- no kind of line of the part stands before that of a line above
abbrev pub may_follow : Whole → Part → Bool
may_follow w p =
    (is_none p.members.members.items || (is_none w.runs.items && is_none w.totals.items))
    && (is_none p.rows.items || is_none w.totals.items)

-- the file of these lists
abbrev pub printed_lists : Lists → PrintedParts
printed_lists l =
    record {
      head = l.head;
      ledger = record { members = l.members; rows = l.rows };
      deductibles = l.deductibles.items;
      totals = l.totals;
    }

-- the lists are those of the parts, one after another and in order; with the head line there are at most `MOST_LINES` lines
pub record IsMadeOf (h : Head) (ps : List Part) (l : Lists) : Type 0 where
  pub head : l.head ≡ h
  pub lines : lines_of (printed_lists l) ≡ flat_map part_lines ps
  pub one_each : length l.deductibles.items ≡ length l.members
  pub members_rise : IsAscending member_cmp member_key l.members
  pub rows_rise : IsAscending key_cmp row_key l.rows
  pub totals_rise : IsAscending id_cmp total_family l.totals
  pub few : length l.members + length l.rows + length l.totals < MOST_LINES
