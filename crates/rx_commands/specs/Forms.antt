-- Meaning: the text of a report in each of its forms.
use Rattle.std.specs.Prelude.{◌≡◌, ℕ, Bool, true, false, not, ◌==◌, List, [], Option, length, map}
use Rattle.std.specs.List.{filter}
use Rattle.rx_fields.specs.declared.stamp.Stamp.{Stamp}
use Rattle.rx_report.specs.Accounts.{IsAccount, is_in, parts_of}
use Rattle.rx_report.specs.AddsUp.{AddsUp}
use Rattle.rx_report.specs.Groups.{grouped}
use Rattle.rx_report.specs.Texts.{claims_json, tsv_text}
use Rattle.rx_report.specs.declared.line.Line.{Line}
use Rattle.rx_report.specs.declared.portion.Portion.{Portion}
use Rattle.rx_report.specs.declared.section.Account.{Account}
use Rattle.rx_report_text.specs.ClaimsShown.{shows_claims}
use Rattle.rx_report_text.specs.Columns.{columns_text}
use Rattle.rx_report_text.specs.Json.{account_json}
use Rattle.rx_report_text.specs.Whole.{page_text}
use Rattle.rx_commands.specs.declared.replay.batch.Adjudicated.{Adjudicated}
use Rattle.rx_report_text.specs.Whys.{spot_cmp, spot_of}
use Rattle.rx_report_text.specs.declared.origin.PageHead.{PageHead}
use Rattle.rx_report_text.specs.declared.origin.Origin.{Origin}
use Rattle.rx_report_text.specs.declared.why.Why.{Why}
use Rattle.rx_commands.specs.Tiers.{SheetTable, table_of_text}
use Rattle.rx_sorted.specs.Ascending.{is_ascending}
use Rattle.rx_commands.specs.Reported.{IsReported}
use Rattle.rx_commands.specs.Whys.{AreWhys}
use Rattle.rx_commands.specs.declared.batch_report.Report.{Report}
use Rattle.rx_commands.specs.declared.report_forms.Form.{Form}
use Rattle.rx_commands.specs.declared.report_forms.Form.TheVariants as form
use Rattle.rx_commands.specs.declared.report_forms.PrintedReport.{PrintedReport}

-- where claims are shown, each of these lines of a batch has why its answer was given; else none has
abbrev pub HasWhys : Bool → SheetTable → Adjudicated → List Line → List Why → Type 0
HasWhys true tiers b kept whys = is_ascending spot_cmp spot_of kept ≡ true → AreWhys tiers b kept whys
HasWhys false tiers b kept whys = whys ≡ []

-- what the page of a report says at its head
abbrev pub head_of : Report → Origin → PageHead
head_of r origin = record { lot = r.batch.lot; stamp = r.stamp; door = r.batch.sheet.figures.door; origin = origin }

-- the page of an account, with why the answers of these lines were given
pub record IsPage (p : Portion) (origin : Origin) (tiers : SheetTable) (r : Report) (kept : List Line) (account : Account)
    (text : List ℕ) : Type 0 where
  pub whys : List Why
  pub whys_are : HasWhys (shows_claims p account.sections.items) tiers r.batch kept whys
  pub text_is : text ≡ page_text (head_of r origin) p account whys

-- the text of these lines and their account, in each form, with the stamp of the report
abbrev pub IsText : Portion → Form → SheetTable → Report → List Line → Account → List ℕ → Type 0
IsText p form.Columns tiers r kept account text = text ≡ columns_text r.stamp p account
IsText p form.Tsv tiers r kept account text = text ≡ tsv_text r.batch.lot r.stamp kept
IsText p form.Json tiers r kept account text = text ≡ account_json r.batch.lot r.stamp p account
IsText p form.Jsonl tiers r kept account text = text ≡ claims_json r.batch.lot r.stamp kept
IsText p (form.Html origin) tiers r kept account text = IsPage p origin tiers r kept account text

-- the lines of a portion of a report
abbrev pub kept_of : Portion → Report → List Line
kept_of p r = filter (is_in p) r.lines.items

-- the text has the lines of the portion and their account, which adds up
pub record IsInForm (p : Portion) (f : Form) (tiers : SheetTable) (r : Report) (text : List ℕ) : Type 0 where
  pub account : Account
  pub account_is : IsAccount p r.settled (kept_of p r) (grouped (kept_of p r)) (map parts_of account.sections.items)
      account.total
  pub adds_up : AddsUp (kept_of p r) (map parts_of account.sections.items) account.total
  pub text_is : IsText p f tiers r (kept_of p r) account text

-- it prints that text, and says whether the portion has lines
pub record IsPrintedReport (p : Portion) (f : Form) (tiers : SheetTable) (r : Report) (printed : PrintedReport) : Type 0 where
  pub in_form : IsInForm p f tiers r printed.text.items
  pub lines_are : printed.has_lines ≡ not (length (kept_of p r) == 0)

-- sheet, books and batch are accepted, and that is printed of the portion of the batch's report, with the sheet's own tiers
-- and this stamp
pub record IsReportText (sheet books batch : List ℕ) (stamp : Option Stamp) (p : Portion) (f : Form) (printed : PrintedReport)
    : Type 0 where
  pub report : Report
  pub reported : IsReported sheet books batch report
  pub stamp_is : report.stamp ≡ stamp
  pub is_printed : IsPrintedReport p f (table_of_text sheet) report printed
