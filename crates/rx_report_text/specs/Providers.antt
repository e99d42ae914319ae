-- Text: how a page has the table of providers.
use Rattle.std.specs.Prelude.{ℕ, ◌*◌, ◌/◌, ◌^◌, ◌==◌, nat_lt, if◌then◌else◌}
use Rattle.std.specs.Prelude.{List, [], ◌++◌, codes, max}
use Rattle.std.specs.Fmt.{decimal}
use Rattle.std.specs.Int.{abs_diff}
use Rattle.std.specs.List.{enumerate_from, flat_map, fold, list_any}
use Rattle.rx_report.specs.declared.portion.Portion.{Portion}
use Rattle.rx_report.specs.declared.portion.Portion.TheVariants as portion
use Rattle.rx_report.specs.declared.section.Section.{Section}
use Rattle.rx_print.specs.Money.{signed_dollars}
use Rattle.rx_report_text.specs.declared.layout.Layout.{Layout}
use Rattle.rx_report_text.specs.declared.layout.Layout.TheVariants.{Claims, Commands, Index, Leaf}
use Rattle.rx_report_text.specs.Layouts.{page_name}
use Rattle.rx_report_text.specs.Pages.{provider_text}
use Rattle.rx_settle.specs.Settlement.{net}
use Rattle.rx_settle.specs.declared.tally.Tally.{Tally}

-- ---- counts and net

abbrev pub count_text : List ℕ → ℕ → List ℕ
count_text front count = front ++ (decimal count ++ codes "</td>")

-- the net, in a cell
abbrev pub net_cell : Tally → List ℕ
net_cell t = codes "<td class=\"net\">" ++ (signed_dollars (net t) ++ codes "</td>")

unfoldable pub tally_text : Tally → List ℕ
tally_text t =
    count_text (codes "<td><i>Paid</i>") t.paid ++ (count_text (codes "<td><i>Duplicate</i>") t.duplicate
    ++ (count_text (codes "<td><i>Reversed</i>") t.approved ++ (count_text (codes "<td><i>Rejected</i>") t.rejected
    ++ net_cell t)))

-- ---- the bar of a net

-- the net without its sign, in cents
abbrev pub size : Tally → ℕ
size t = abs_diff t.paid_out t.taken_back

-- the greatest of these
abbrev pub longest : List Section → ℕ
longest sections = fold (λ most s. max (size s.tally) most) 0 sections

-- a part in ten-thousandths of the whole, rounded down; all of them where that many times the part is wider than 128 bits
abbrev pub share : ℕ → ℕ → ℕ
share part whole =
    if whole == 0 then 0 else (if nat_lt (part * 10000) (2 ^ 128) then part * 10000 / whole else 10000)

-- where more is taken back than paid out
abbrev pub sign_text : Tally → List ℕ
sign_text t = if nat_lt t.paid_out t.taken_back then codes " class=\"minus\"" else []

-- its share of the longest, of which the page's style draws the square root
unfoldable pub length_text : ℕ → Tally → List ℕ
length_text most t =
    codes "<td class=\"bar\"><span" ++ (sign_text t ++ (codes " style=\"--share:" ++ (decimal (share (size t) most)
    ++ codes "\"></span></td>")))

-- none for no net
abbrev pub bar_text : ℕ → Tally → List ℕ
bar_text most t = if t.taken_back == t.paid_out then codes "<td class=\"bar\"></td>" else length_text most t

-- ---- a provider

-- its name, which leads to its claims on the same page
unfoldable pub link_text : ℕ → List ℕ → List ℕ
link_text number field =
    codes "<a href=\"#p" ++ (decimal number ++ (codes "\">" ++ (provider_text field ++ codes "</a>")))

-- its name, which leads to its page
unfoldable pub page_link : ℕ → List ℕ → List ℕ
page_link number field =
    codes "<a href=\"" ++ (page_name number ++ (codes "\">" ++ (provider_text field ++ codes "</a>")))

-- the name only where there is neither
abbrev pub name_text : Layout → ℕ → List ℕ → List ℕ
name_text Claims number field = link_text number field
name_text Commands number field = provider_text field
name_text Index number field = page_link number field
name_text (Leaf own) number field = link_text number field

unfoldable pub row_text : Layout → ℕ → ℕ → Section → List ℕ
row_text layout most number s =
    codes "<tr><th scope=\"row\">" ++ (name_text layout number s.provider ++ (codes "</th>" ++ (tally_text s.tally
    ++ (bar_text most s.tally ++ codes "</tr>\n"))))

-- each provider after its number, from 0
abbrev pub rows_text : Layout → ℕ → List (ℕ × Section) → List ℕ
rows_text layout most numbered = flat_map (λ s. row_text layout most s.0 s.1) numbered

-- ---- the table

-- where a net is below zero, the bars have room on both sides of it
abbrev pub class_text : List Section → List ℕ
class_text sections =
    if list_any (λ s. nat_lt s.tally.paid_out s.tally.taken_back) sections then codes "<table id=\"providers\" class=\"providers signed\">\n"
    else codes "<table id=\"providers\" class=\"providers\">\n"

abbrev pub caption_text : Layout → List ℕ
caption_text Index =
    codes "<caption>Providers, the greatest net first; a bar is as long as the square root of the net</caption>\n<thead><tr>"
caption_text other =
    codes "<caption>Providers in order of first appearance; a bar is as long as the square root of the net</caption>\n<thead><tr>"

abbrev pub headings_text : Layout → List ℕ
headings_text layout =
    caption_text layout
    ++ (codes "<th scope=\"col\">Provider</th><th scope=\"col\">Paid</th>"
    ++ (codes "<th scope=\"col\">Duplicate</th><th scope=\"col\">Reversed</th><th scope=\"col\">Rejected</th>"
    ++ codes "<th scope=\"col\">Net</th><th scope=\"col\">Net as a bar</th></tr></thead>\n<tbody>\n"))

abbrev pub whole_scope : Layout → List ℕ
whole_scope (Leaf field) = codes "This provider"
whole_scope other = codes "All"

-- what the last row is about
abbrev pub scope_text : Layout → Portion → List ℕ
scope_text layout portion.Whole = whole_scope layout
scope_text layout (portion.Provider id) = codes "This provider"
scope_text layout (portion.Family id) = codes "These lines"

unfoldable pub total_text : Layout → Portion → Tally → List ℕ
total_text layout p total =
    codes "</tbody>\n<tfoot><tr><th scope=\"row\">" ++ (scope_text layout p ++ (codes "</th>" ++ (tally_text total
    ++ codes "<td class=\"bar\"></td></tr></tfoot>\n</table>\n")))

-- the headings, a row for each provider, and what all come to
unfoldable pub table_text : Layout → Portion → List Section → Tally → List ℕ
table_text layout p sections total =
    class_text sections ++ (headings_text layout ++ (rows_text layout (longest sections) (enumerate_from 0 sections)
    ++ total_text layout p total))
