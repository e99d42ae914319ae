-- Meaning: the report of a plan's own records: those of a batch of several plans that name it (docs/FORMATS.md, "Several plans").
use Rattle.std.specs.Prelude.{◌≡◌, ℕ, ◌-◌, Bool, List, Option, length, map, slice_index_or}
use Rattle.std.specs.List.{filter}
use Rattle.rx_d0_request.specs.Doors.{door_in, names_plan}
use Rattle.rx_d0_values.specs.declared.reply.Reply.{Reply}
use Rattle.rx_fields.specs.declared.stamp.Stamp.{Stamp}
use Rattle.rx_report.specs.AddsUp.{IsSettlementOf}
use Rattle.rx_report.specs.declared.line.Line.{Line}
use Rattle.rx_report.specs.declared.portion.Portion.{Portion}
use Rattle.rx_schedule.specs.Shards.{places_of}
use Rattle.rx_switch.specs.Own.{no_reply}
use Rattle.rx_commands.specs.Explaining.{request_at}
use Rattle.rx_commands.specs.Forms.{IsPrintedReport}
use Rattle.rx_commands.specs.Reported.{IsReported}
use Rattle.rx_commands.specs.Tiers.{table_of_text}
use Rattle.rx_commands.specs.declared.batch_report.Report.{Report}
use Rattle.rx_commands.specs.declared.replay.batch.Adjudicated.{Adjudicated}
use Rattle.rx_commands.specs.declared.report_forms.Form.{Form}
use Rattle.rx_commands.specs.declared.report_forms.PrintedReport.{PrintedReport}

-- the record at a place names the plan on whose sheet the batch was adjudicated
abbrev pub is_own : Adjudicated → ℕ → Bool
is_own b place = names_plan (door_in (request_at b.details place)) b.sheet.figures.door

-- the places of these records, in file order
abbrev pub own_places : Adjudicated → List ℕ
own_places b = places_of (is_own b) (length b.details)

-- the replies to them
abbrev pub own_replies : Adjudicated → List Reply
own_replies b = map (λ place. slice_index_or b.replies.items (place - 1) no_reply) (own_places b)

-- a line is about one of them
abbrev pub is_own_line : Adjudicated → Line → Bool
is_own_line b l = is_own b l.place

-- of the report of a plan's run on the whole batch, what is about the plan's own records: their lines, and the tallies of the
-- replies to them
pub record IsOwnPart (whole r : Report) : Type 0 where
  pub batch_is : r.batch ≡ whole.batch
  pub stamp_is : r.stamp ≡ whole.stamp
  pub lines_are : r.lines.items ≡ filter (is_own_line whole.batch) whole.lines.items
  pub settled_is : IsSettlementOf (own_replies whole.batch) r.settled

-- sheet, books and batch are accepted, and that is printed of the portion of what the batch's report has about the records that
-- name the sheet's plan, with the sheet's own tiers and this stamp
pub record IsOwnReportText (sheet books batch : List ℕ) (stamp : Option Stamp) (p : Portion) (f : Form) (printed : PrintedReport)
    : Type 0 where
  pub whole : Report
  pub reported : IsReported sheet books batch whole
  pub stamp_is : whole.stamp ≡ stamp
  pub report : Report
  pub own : IsOwnPart whole report
  pub is_printed : IsPrintedReport p f (table_of_text sheet) report printed
