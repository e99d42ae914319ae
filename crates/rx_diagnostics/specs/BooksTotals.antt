-- Meaning: what is said of a figure of a books file that isn't the sum over the claims, and of a total line that is lacking.
use Rattle.std.specs.Prelude.{ℕ, ◌+◌, ◌-◌, Bool, false, not, ◌&&◌, ◌==◌, if◌then◌else◌, List, [], ◌∷◌, ◌++◌, codes, count_by, find}
use Rattle.std.specs.Prelude.{length, slice_get, Option, Some, None, Result, Ok, Err}
use Rattle.std.specs.Fmt.{decimal}
use Rattle.std.specs.List.{list_any}
use Rattle.std.specs.Option.{unwrap_or}
use Rattle.std.specs.Ordering.{is_lt}
use Rattle.rx_books_text.specs.Printed.{PrintedParts, total_family}
use Rattle.rx_books_text.specs.TextReading.{printed_of}
use Rattle.rx_books_text.specs.declared.fault.BooksFault.{BooksFault}
use Rattle.rx_books_text.specs.declared.line.TotalLine.{TotalLine}
use Rattle.rx_books_text.specs.declared.version.Version.{Version}
use Rattle.rx_books_text.specs.declared.version.Version.TheVariants as version
use Rattle.rx_fields.specs.Calendar.{date_text}
use Rattle.rx_fields.specs.Numbered.{Span, is_within}
use Rattle.rx_fields.specs.Order.{id_cmp}
use Rattle.rx_ledger.specs.Members.{is_same}
use Rattle.rx_ledger.specs.Rows.{claimed_by}
use Rattle.rx_ledger.specs.Sums.{deductible, family_deductible, out_of_pocket}
use Rattle.rx_ledger.specs.declared.member.Member.{Member}
use Rattle.rx_ledger.specs.declared.row.Row.{Row}
use Rattle.rx_diagnostics.specs.Quoting.{shown_text}
use Rattle.rx_sorted.specs.Ascending.{contains_key}

-- the days of a period
unfoldable pub days_text : Span → List ℕ
days_text period = shown_text (date_text period.first) ++ (codes " to " ++ shown_text (date_text period.last))

-- a figure, and what the claims of these days sum to
unfoldable pub figure_said : ℕ → List ℕ → ℕ → List ℕ
figure_said figure days sum =
    decimal figure ++ (codes ": the claims of " ++ (days ++ (codes " sum to " ++ decimal sum)))

unfoldable pub sum_text : ℕ → Span → ℕ → List ℕ
sum_text figure period sum = figure_said figure (days_text period) sum

-- ---- a figure of a line

unfoldable pub member_said : List ℕ → List ℕ → List ℕ → List ℕ
member_said family person sum =
    codes "member " ++ (shown_text family ++ (codes "/" ++ (shown_text person ++ (codes ", deductible " ++ sum))))

-- the deductible of a member line
unfoldable pub member_text : PrintedParts → Member → ℕ → List ℕ
member_text p m figure =
    member_said m.key.family m.key.person
    (sum_text figure p.head.period (deductible p.head.period p.ledger m.key.family m.key.person))

unfoldable pub family_said : List ℕ → List ℕ → List ℕ → List ℕ
family_said family name sum = codes "family " ++ (shown_text family ++ (codes ", " ++ (name ++ (codes " " ++ sum))))

-- the figures of a total line, with what each should be
unfoldable pub paid_text : List ℕ → ℕ → Span → ℕ → List ℕ
paid_text family paid period sum = family_said family (codes "out of pocket") (sum_text paid period sum)

-- 0 where the line's version has none
unfoldable pub deductible_of : TotalLine → ℕ
deductible_of t = unwrap_or t.deductible 0

unfoldable pub deductible_text : TotalLine → Span → ℕ → List ℕ
deductible_text t period sum = family_said t.family (codes "deductible") (sum_text (deductible_of t) period sum)

-- a total line: the family's out of pocket where that isn't the sum, else its deductible
unfoldable pub total_text : PrintedParts → TotalLine → List ℕ
total_text p t =
    if out_of_pocket p.head.period p.ledger t.family == t.out_of_pocket
    then deductible_text t p.head.period (family_deductible p.head.period p.ledger t.family)
    else paid_text t.family t.out_of_pocket p.head.period (out_of_pocket p.head.period p.ledger t.family)

-- ---- a family without its total line

-- the deductible of a total line, which only version 3 has
unfoldable pub deductible_field : Version → ℕ → List ℕ
deductible_field version.Three cents = codes "|" ++ decimal cents
deductible_field v cents = []

-- the total line is of a family before this one
abbrev pub is_before : List ℕ → TotalLine → Bool
is_before family t = is_lt (id_cmp t.family family)

-- the number of the line at which a family's total line belongs
unfoldable pub line_of_total : PrintedParts → List ℕ → ℕ
line_of_total p family = length p.ledger.members + length p.ledger.rows + count_by (is_before family) p.totals + 2

-- a total line, with the deductible of its version
unfoldable pub total_line : List ℕ → ℕ → List ℕ → List ℕ
total_line family paid more = codes "T|" ++ (shown_text family ++ (codes "|" ++ (decimal paid ++ more)))

unfoldable pub lacking_said : List ℕ → List ℕ → ℕ → List ℕ
lacking_said family line at =
    codes "family " ++ (shown_text family ++ (codes " has no total line: expected " ++ (line ++ (codes " at line " ++ decimal at))))

-- the total line that a family lacks, and at which line
unfoldable pub expected_text : PrintedParts → List ℕ → List ℕ
expected_text p family =
    lacking_said family
    (total_line family (out_of_pocket p.head.period p.ledger family)
    (deductible_field p.head.version (family_deductible p.head.period p.ledger family))) (line_of_total p family)

-- the family of the member has no total line
abbrev pub lacks_total : List TotalLine → Member → Bool
lacks_total totals m = not (contains_key id_cmp total_family totals m.key.family)

abbrev pub lacking_text : PrintedParts → Option Member → List ℕ
lacking_text p None = codes "a family has no total line"
lacking_text p (Some m) = expected_text p m.key.family

-- ---- the line at fault

-- a total line, or else the first family that has none
abbrev pub total_or : PrintedParts → Option TotalLine → List ℕ
total_or p (Some t) = total_text p t
total_or p None = lacking_text p (find (lacks_total p.totals) p.ledger.members)

abbrev pub figure_or : PrintedParts → Option Member → Option ℕ → Option TotalLine → List ℕ
figure_or p (Some m) (Some figure) total = member_text p m figure
figure_or p (Some m) None total = total_or p total
figure_or p None figure total = total_or p total

-- the line of this number: of a member, of a total, or of none
unfoldable pub figure_text : PrintedParts → ℕ → List ℕ
figure_text p number =
    figure_or p (slice_get p.ledger.members (number - 2)) (slice_get p.deductibles (number - 2))
    (slice_get p.totals (number - 2 - length p.ledger.members - length p.ledger.rows))

-- there are claims, and none is within the period
abbrev pub has_none_within : Span → List Row → Bool
has_none_within period rows = not (length rows == 0) && not (list_any (λ r. is_within period r.key.date) rows)

-- none of the file is within the period that its head says
unfoldable pub head_doubt : PrintedParts → List ℕ
head_doubt p = if has_none_within p.head.period p.ledger.rows then codes "; no claim is within the days of line 1: are they right?" else []

abbrev pub printed_text : Result PrintedParts BooksFault → ℕ → List ℕ
printed_text (Ok p) number = figure_text p number ++ head_doubt p
printed_text (Err f) number = codes "a figure isn't the sum over the claims"

-- a figure that isn't the sum, or the family without its total line
unfoldable pub totals_text : List ℕ → ℕ → List ℕ
totals_text text number = printed_text (printed_of text) number

-- ---- sums

-- what a claim counts where it is of the family
abbrev pub of_family : List ℕ → (Row → ℕ) → Row → ℕ
of_family family figure r = if claimed_by family r then figure r else 0

-- ---- total lines in their order

-- those from the first on that isn't of a family before this one
abbrev pub from_family : List ℕ → List TotalLine → List TotalLine
from_family family [] = []
from_family family (t ∷ ts) = if is_before family t then from_family family ts else t ∷ ts

-- the first of them is the family's
abbrev pub is_first : List ℕ → List TotalLine → Bool
is_first family [] = false
is_first family (t ∷ ts) = is_same t.family family
