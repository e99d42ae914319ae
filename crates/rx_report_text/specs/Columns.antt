-- Text: an account in aligned columns, for people.
use Rattle.std.specs.Prelude.{ℕ, ◌-◌, Bool, true, if◌then◌else◌, List, [], ◌∷◌, ◌++◌, Option, Some, None, codes, length, map, max}
use Rattle.std.specs.Prelude.{replicate, take}
use Rattle.std.specs.Char.{is_ascii_whitespace}
use Rattle.std.specs.Fmt.{decimal}
use Rattle.std.specs.List.{flat_map, fold, suffix_len}
use Rattle.rx_fields.specs.declared.stamp.Stamp.{Stamp}
use Rattle.rx_print.specs.Money.{signed_dollars}
use Rattle.rx_print.specs.Escape.{escaped}
use Rattle.rx_print.specs.declared.style.Style.TheVariants.{Terminal}
use Rattle.rx_report.specs.declared.line.Line.{Line}
use Rattle.rx_report.specs.declared.portion.Portion.{Portion}
use Rattle.rx_report.specs.declared.portion.Portion.TheVariants as portion
use Rattle.rx_report.specs.declared.section.Account.{Account}
use Rattle.rx_report.specs.declared.section.Section.{Section}
use Rattle.rx_report_text.specs.declared.shown.Shown.{Shown}
use Rattle.rx_report_text.specs.declared.shown.Shown.TheVariants as shown
use Rattle.rx_report_text.specs.declared.wide.Wide.{Wide}
use Rattle.rx_report_text.specs.Shown.{columns, heading_of, is_amount, shown_cell}
use Rattle.rx_report_text.specs.Stamps.{stamp_words}
use Rattle.rx_settle.specs.Providers.{named}
use Rattle.rx_settle.specs.Settlement.{net}
use Rattle.rx_settle.specs.declared.tally.Tally.{Tally}

-- ---- the widths

-- what is printed for an answer in a column
abbrev pub printed : Shown → Line → List ℕ
printed s l = escaped Terminal (shown_cell s l)

-- a width that has room for the lines' cells too
abbrev pub widened : Shown → ℕ → List Line → ℕ
widened s width lines = fold (λ w l. max w (length (printed s l))) width lines

-- a column has room for its heading and each of its cells
abbrev pub width_of : List Section → Shown → ℕ
width_of sections s = fold (λ w section. widened s w section.lines.now) (length (heading_of s)) sections

abbrev pub wide : List Section → Shown → Wide
wide sections s = record { shown = s; width = width_of sections s }

unfoldable pub wide_columns : List Section → List Wide
wide_columns sections = map (wide sections) columns

-- ---- a row

-- places and amounts stand to the right
abbrev pub is_right : Shown → Bool
is_right shown.Record = true
is_right other = is_amount other

-- a cell in its width, after two blanks
abbrev pub aligned : Wide → List ℕ → List ℕ
aligned c cell =
    32 ∷ 32 ∷ (if is_right c.shown then replicate (c.width - length cell) 32 ++ cell
    else cell ++ replicate (c.width - length cell) 32)

-- the cells without the blanks at their end
unfoldable pub without_end : List ℕ → List ℕ
without_end cells = take (length cells - suffix_len is_ascii_whitespace cells) cells

-- the same and the line's end
abbrev pub row : List ℕ → List ℕ
row cells = without_end cells ++ 10 ∷ []

abbrev pub heading_cell : Wide → List ℕ
heading_cell c = aligned c (heading_of c.shown)

abbrev pub line_cell : Line → Wide → List ℕ
line_cell l c = aligned c (printed c.shown l)

unfoldable pub headings : List Wide → List ℕ
headings cs = row (flat_map heading_cell cs)

unfoldable pub line_row : List Wide → Line → List ℕ
line_row cs l = row (flat_map (line_cell l) cs)

-- ---- the text

-- the counts, and the net
abbrev pub tally_counts : Tally → List ℕ
tally_counts t =
    codes ": " ++ (decimal t.paid ++ (codes " paid, " ++ (decimal t.duplicate ++ (codes " duplicate, "
    ++ (decimal t.approved ++ (codes " reversed, " ++ (decimal t.rejected ++ codes " rejected, net ")))))))

unfoldable pub tally_line : Tally → List ℕ
tally_line t = tally_counts t ++ (signed_dollars (net t) ++ 10 ∷ [])

-- a provider with what its answers come to, the headings, its lines, and an empty line
unfoldable pub section_text : List Wide → Section → List ℕ
section_text cs s =
    codes "provider " ++ (escaped Terminal (named s.provider) ++ (tally_line s.tally
    ++ (headings cs ++ (flat_map (line_row cs) s.lines.now ++ 10 ∷ []))))

-- what the last line is about
abbrev pub scope_text : Portion → List ℕ
scope_text portion.Whole = codes "all"
scope_text (portion.Provider id) = codes "all of provider " ++ escaped Terminal id.now
scope_text (portion.Family id) = codes "the lines shown, of family " ++ escaped Terminal id.now

-- the sections, and what all come to
unfoldable pub account_text : List Wide → Portion → Account → List ℕ
account_text cs p account = flat_map (section_text cs) account.sections.items ++ (scope_text p ++ tally_line account.total)

-- above them the stamp of the run, where it is known, and an empty line
abbrev pub stamp_line : Option Stamp → List ℕ
stamp_line None = []
stamp_line (Some s) = codes "stamp " ++ (stamp_words s ++ codes "\n\n")

abbrev pub columns_text : Option Stamp → Portion → Account → List ℕ
columns_text stamp p account = stamp_line stamp ++ account_text (wide_columns account.sections.items) p account
