-- Text: how a page says why answers were rejected: each code with its words, how many answers have it, and which.
use Rattle.std.specs.Prelude.{ℕ, ◌==◌, if◌then◌else◌, Bool, true, false, List, [], ◌++◌, codes, length}
use Rattle.std.specs.Fmt.{decimal}
use Rattle.std.specs.List.{flat_map}
use Rattle.rx_fields.specs.Codes.{all_codes}
use Rattle.rx_fields.specs.declared.code.Code.{Code}
use Rattle.rx_report.specs.declared.line.Line.{Line}
use Rattle.rx_report.specs.declared.section.Section.{Section}
use Rattle.rx_report_text.specs.declared.shown.Shown.TheVariants.{Record}
use Rattle.rx_report_text.specs.Pages.{cell_text}
use Rattle.rx_report_text.specs.RejectCounts.{lines_with}
use Rattle.rx_report_text.specs.Rows.{code_within}

-- a claim's record, which leads to its row
unfoldable pub claim_link : Line → List ℕ
claim_link l =
    codes "<a href=\"#r" ++ (cell_text Record l ++ (codes "\">" ++ (cell_text Record l ++ codes "</a> ")))

-- none where the page has no claims
abbrev pub links_text : Bool → List Line → List ℕ
links_text true lines = flat_map claim_link lines
links_text false lines = []

abbrev pub code_cells : Code → List ℕ
code_cells c = code_within (codes "<tr><th scope=\"row\">") (codes "</th><td>") (codes "</td><td class=\"count\">") c

-- the code and its words, how many answers have it, and which
unfoldable pub reject_row : Bool → Code → List Line → List ℕ
reject_row unfolds c lines =
    code_cells c ++ (decimal (length lines) ++ (codes "</td><td>" ++ (links_text unfolds lines ++ codes "</td></tr>\n")))

-- none for a code that no answer has
abbrev pub given_row : Bool → Code → List Line → List ℕ
given_row unfolds c lines = if length lines == 0 then [] else reject_row unfolds c lines

abbrev pub code_row : Bool → List Section → Code → List ℕ
code_row unfolds sections c = given_row unfolds c (lines_with c sections)

abbrev pub rejects_front : List ℕ
rejects_front =
    codes "<table class=\"rejects\">\n<caption>Why rejected: the answers with each reject code; an answer can have several</caption>\n"
    ++ (codes "<thead><tr><th scope=\"col\">Code</th><th scope=\"col\">Meaning</th><th scope=\"col\">Answers</th>"
    ++ codes "<th scope=\"col\">Records</th></tr></thead>\n<tbody>\n")

unfoldable pub rejects_text : Bool → List Section → List ℕ
rejects_text unfolds sections =
    rejects_front ++ (flat_map (code_row unfolds sections) all_codes ++ codes "</tbody>\n</table>\n")
