-- Meaning: what `report` prints for a pharmacy.
use Rattle.std.specs.Prelude.{◌≡◌, ℕ, List, ⊤}
use Rattle.rx_commands.specs.declared.report_forms.Form.{Form}
use Rattle.rx_commands.specs.declared.report_forms.Form.TheVariants as form
use Rattle.rx_commands.specs.declared.report_forms.PrintedReport.{PrintedReport}
use Rattle.rx_report.specs.declared.portion.Portion.{Portion}
use Rattle.rx_report.specs.declared.portion.Portion.TheVariants as portion

-- the portion has the lines of the pharmacy with this id
abbrev pub IsPortionOf : List ℕ → Portion → Type 0
IsPortionOf own portion.Whole = ⊥
IsPortionOf own (portion.Provider id) = id.now ≡ own
IsPortionOf own (portion.Family id) = ⊥

-- a page has the checksums of everybody's books and batch at its head, so no pharmacy gets one
abbrev pub IsNoPage : Form → Type 0
IsNoPage (form.Html origin) = ⊥
IsNoPage other = ⊤

-- the same text, with lines or without
pub record IsSameReport (p q : PrintedReport) : Type 0 where
  pub text_is : p.text.items ≡ q.text.items
  pub lines_are : p.has_lines ≡ q.has_lines
