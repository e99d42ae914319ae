-- Text: how a page has a provider's claims: a table, where each unfolds to its figures, and to why its answer was given.
use Rattle.std.specs.Prelude.{ℕ, List, ◌++◌, codes}
use Rattle.std.specs.Fmt.{decimal}
use Rattle.std.specs.List.{flat_map}
use Rattle.rx_d0_values.specs.declared.reply.Answer.{Answer}
use Rattle.rx_d0_values.specs.declared.reply.Answer.TheVariants.{Paid, Twice, Approved, Refused}
use Rattle.rx_report.specs.declared.line.Line.{Line}
use Rattle.rx_report.specs.declared.section.Section.{Section}
use Rattle.rx_report_text.specs.declared.shown.Shown.{Shown}
use Rattle.rx_report_text.specs.declared.shown.Shown.TheVariants as shown
use Rattle.rx_report_text.specs.declared.why.Why.{Why}
use Rattle.rx_report_text.specs.Pages.{cell_text, provider_text}
use Rattle.rx_report_text.specs.Reasons.{reason_text}
use Rattle.rx_report_text.specs.Rows.{row_text, titles_text}

-- ---- its figures

abbrev pub figure_text : List ℕ → Shown → Line → List ℕ
figure_text name s l = codes "<dt>" ++ (name ++ (codes "</dt><dd>" ++ (cell_text s l ++ codes "</dd>")))

-- all amounts, where what the plan pays has a name of its own
unfoldable pub amounts_text : List ℕ → Line → List ℕ
amounts_text paid l =
    figure_text (codes "Allowed") shown.Allowed l ++ (figure_text (codes "Deductible") shown.Deductible l
    ++ (figure_text (codes "Copay") shown.Copay l ++ (figure_text (codes "Coinsurance") shown.Coinsurance l
    ++ (figure_text (codes "Member pays") shown.MemberPays l ++ figure_text paid shown.PlanPays l))))

abbrev pub figures_of : Answer → Line → List ℕ
figures_of (Paid p) l = amounts_text (codes "Plan pays") l
figures_of (Twice p) l = amounts_text (codes "Plan paid before") l
figures_of (Approved a) l = figure_text (codes "Given back") shown.PlanPays l
figures_of (Refused r) l = figure_text (codes "Reject codes") shown.Codes l

-- ---- the claim: its row, and a second one that unfolds

unfoldable pub claim_text : List Why → Line → List ℕ
claim_text whys l =
    row_text l ++ (codes "<tr class=\"why\"><td colspan=\"11\"><details><summary>Why</summary>\n<dl>" ++ (figures_of l.answer l
    ++ (codes "</dl>\n" ++ (reason_text whys l ++ codes "</details></td></tr>\n</tbody>\n"))))

-- ---- the provider's claims

-- the provider's number, which the table of providers leads to, and its name; then its claims
unfoldable pub section_text : List Why → ℕ → Section → List ℕ
section_text whys number s =
    codes "<section id=\"p" ++ (decimal number ++ (codes "\">\n<h2>Provider " ++ (provider_text s.provider
    ++ (codes "</h2>\n" ++ (titles_text ++ (flat_map (claim_text whys) s.lines.now ++ codes "</table>\n</section>\n"))))))

-- those of each provider after its number
abbrev pub sections_text : List Why → List (ℕ × Section) → List ℕ
sections_text whys numbered = flat_map (λ s. section_text whys s.0 s.1) numbered
