-- Meaning: how long each step took, by what passed through the files, and what is reported of each.
use Rattle.std.specs.Prelude.{ℕ, ◌-◌, if◌then◌else◌, List, [], ◌∷◌, Option, Some, None}
use Rattle.rx_run_log.specs.Steps.{time_of}
use Rattle.rx_run_log.specs.Times.{micros_between}
use Rattle.rx_run_log.specs.declared.report.Counted.{Counted}
use Rattle.rx_run_log.specs.declared.report.Counted.TheVariants as counted
use Rattle.rx_run_log.specs.declared.report.StepReport.{StepReport}
use Rattle.rx_run_log.specs.declared.run_traffic.RunTraffic.{RunTraffic}
use Rattle.rx_run_log.specs.declared.run_traffic.TheConstants.{NO_DETAILS}
use Rattle.rx_run_log.specs.declared.step.Step.{Step}
use Rattle.rx_run_log.specs.declared.step.Step.TheVariants as step
use Rattle.rx_run_log.specs.declared.step.StepTimes.{StepTimes}
use Rattle.rx_run_log.specs.declared.times.RunTimes.{RunTimes}
use Rattle.rx_run_log.specs.declared.traffic.Traffic.{Traffic}

-- each step ends with the last call of its file, adjudication with the first call of the response
abbrev pub steps_of : RunTraffic → RunTimes → StepTimes
steps_of t times =
    record {
      micros =
          micros_between times.begin t.inputs.sheet.last
          ∷ micros_between t.inputs.sheet.last t.inputs.books.last
          ∷ micros_between t.inputs.books.last t.inputs.batch.last
          ∷ micros_between t.inputs.batch.last t.outputs.response.first
          ∷ micros_between t.outputs.response.first t.outputs.response.last
          ∷ micros_between t.outputs.response.last t.outputs.books.last
          ∷ micros_between t.outputs.books.last t.outputs.settlement.last
          ∷ micros_between t.outputs.settlement.last times.end
          ∷ [];
    }

-- the records of a batch file, without header and trailer; the lines of another
abbrev pub counted_in : Step → Traffic → Counted
counted_in step.Batch t = counted.Records (t.starts - NO_DETAILS)
counted_in other t = counted.Lines t.line_feeds

abbrev pub input_report : Step → Traffic → StepReport
input_report s t =
    record { step = s; counted = Some (counted_in s t); bytes = Some t.bytes; micros = micros_between t.first t.last }

abbrev pub lines_report : Step → Traffic → StepTimes → StepReport
lines_report s t steps =
    record { step = s; counted = Some (counted.Lines t.line_feeds); bytes = Some t.bytes; micros = time_of steps s }

-- of a step, with what was counted in it
abbrev pub step_report : Step → Option ℕ → Option ℕ → StepTimes → StepReport
step_report s None bytes steps = record { step = s; counted = None; bytes = bytes; micros = time_of steps s }
step_report s (Some records) bytes steps =
    record { step = s; counted = Some (counted.Records records); bytes = bytes; micros = time_of steps s }

-- adjudication, the three outputs, and the disk
abbrev pub later_reports : RunTraffic → RunTimes → List StepReport
later_reports t times =
    step_report step.Adjudicate (Some (t.inputs.batch.starts - NO_DETAILS)) None (steps_of t times)
    ∷ step_report step.Response (Some (t.inputs.batch.starts - NO_DETAILS)) (Some t.outputs.response.bytes) (steps_of t times)
    ∷ lines_report step.EndBooks t.outputs.books (steps_of t times)
    ∷ lines_report step.Settlement t.outputs.settlement (steps_of t times)
    ∷ step_report step.Disk None None (steps_of t times)
    ∷ []

-- a number of a file that was read or written
abbrev pub if_called : Traffic → ℕ → Option ℕ
if_called t n = if t.called then Some n else None

-- how many bytes passed; how many line feeds; how many details a batch file has
abbrev pub bytes_passed : Traffic → Option ℕ
bytes_passed t = if_called t t.bytes

abbrev pub lines_passed : Traffic → Option ℕ
lines_passed t = if_called t t.line_feeds

abbrev pub details_passed : Traffic → Option ℕ
details_passed t = if_called t (t.starts - NO_DETAILS)
