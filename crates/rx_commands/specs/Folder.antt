-- Meaning: the pages of a report in a folder.
use Rattle.std.specs.Prelude.{◌≡◌, ℕ, nat_le, not, ◌==◌, List, Option, length, map}
use Rattle.std.specs.List.Sorted.{IsPermutation}
use Rattle.rx_fields.specs.declared.stamp.Stamp.{Stamp}
use Rattle.rx_report.specs.Accounts.{HasOwnLines, IsAccount, parts_of}
use Rattle.rx_report.specs.AddsUp.{AddsUp}
use Rattle.rx_report.specs.ByNet.{NetsFall}
use Rattle.rx_report.specs.Groups.{grouped}
use Rattle.rx_report.specs.declared.line.Line.{Line}
use Rattle.rx_report.specs.declared.portion.Portion.{Portion}
use Rattle.rx_report.specs.declared.section.Account.{Account}
use Rattle.rx_report_text.specs.Folder.{file_of, folder}
use Rattle.rx_report_text.specs.declared.origin.Origin.{Origin}
use Rattle.rx_report_text.specs.declared.whole.TheConstants.{MOST_LINES}
use Rattle.rx_report_text.specs.declared.why.Why.{Why}
use Rattle.rx_settle.specs.declared.tally.Tally.{Tally}
use Rattle.rx_commands.specs.Forms.{HasWhys, head_of, kept_of}
use Rattle.rx_commands.specs.Reported.{IsReported}
use Rattle.rx_commands.specs.Tiers.{SheetTable, table_of_text}
use Rattle.rx_commands.specs.declared.batch_report.Report.{Report}
use Rattle.rx_commands.specs.declared.folder.PrintedFolder.{PrintedFolder}

-- the account of these lines in the order of nets: its sections are those by first appearance, in another order
pub record IsSorted (p : Portion) (r : Report) (kept : List Line) (account : Account) : Type 0 where
  pub sections : List (List ℕ × (Tally × List Line))
  pub account_is : IsAccount p r.settled kept (grouped kept) sections account.total
  pub adds_up : AddsUp kept sections account.total
  pub moved : IsPermutation sections (map parts_of account.sections.items)
  pub nets_fall : NetsFall account.sections.items

-- the pages of these lines and their account; where there are few, with why the answers were given
pub record ArePages (p : Portion) (origin : Origin) (tiers : SheetTable) (r : Report) (kept : List Line) (account : Account)
    (printed : PrintedFolder) : Type 0 where
  pub whys : List Why
  pub whys_are : HasWhys (nat_le (length kept) MOST_LINES) tiers r.batch kept whys
  pub pages_are : map file_of printed.pages.items ≡ folder (head_of r origin) p account whys
  pub lines_are : printed.has_lines ≡ not (length kept == 0)

-- those of the portion: each provider's page has its lines, and no other's, and the first page a row for each
pub record IsPrintedFolder (p : Portion) (origin : Origin) (tiers : SheetTable) (r : Report) (printed : PrintedFolder) : Type 0 where
  pub account : Account
  pub sorted : IsSorted p r (kept_of p r) account
  pub own_lines : HasOwnLines (kept_of p r) (map parts_of account.sections.items)
  pub are_pages : ArePages p origin tiers r (kept_of p r) account printed

-- sheet, books and batch are accepted, and these are the pages of the portion of the batch's report, with this stamp
pub record IsReportFolder (sheet books batch : List ℕ) (stamp : Option Stamp) (p : Portion) (origin : Origin)
    (printed : PrintedFolder) : Type 0 where
  pub report : Report
  pub reported : IsReported sheet books batch report
  pub stamp_is : report.stamp ≡ stamp
  pub is_printed : IsPrintedFolder p origin (table_of_text sheet) report printed
