-- Text: the lines that report how a run goes.
use Rattle.std.specs.Prelude.{ℕ, ◌==◌, if◌then◌else◌, List, [], ◌∷◌, ◌++◌, codes, Option, Some, None}
use Rattle.rx_run_log.specs.declared.settlement.Totals.{Totals}
use Rattle.rx_run_log.specs.declared.report.Counted.{Counted}
use Rattle.rx_run_log.specs.declared.report.Counted.TheVariants as counted
use Rattle.rx_run_log.specs.declared.report.RunReport.{RunReport}
use Rattle.rx_run_log.specs.declared.step.Step.{Step}
use Rattle.rx_run_log.specs.declared.step.Step.TheVariants as step
use Rattle.rx_run_log.specs.declared.report.Shards.{Shards}
use Rattle.rx_run_log.specs.declared.report.StepReport.{StepReport}
use Rattle.rx_print.specs.Decimal.{grouped}
use Rattle.rx_run_log.specs.Numbers.{net_text, size_text, time_text}

-- a step at the front of its line
abbrev pub label_of : Step → List ℕ
label_of step.Sheet = codes "sheet      "
label_of step.Books = codes "books      "
label_of step.Batch = codes "batch      "
label_of step.Adjudicate = codes "adjudicate "
label_of step.Response = codes "response   "
label_of step.EndBooks = codes "end books  "
label_of step.Settlement = codes "settlement "
label_of step.Disk = codes "disk       "

-- the ending of the plural
abbrev pub ending : ℕ → List ℕ
ending count = if count == 1 then [] else 115 ∷ []

abbrev pub counted_text : Counted → List ℕ
counted_text (counted.Lines n) = grouped n ++ (codes " line" ++ ending n)
counted_text (counted.Records n) = grouped n ++ (codes " record" ++ ending n)

-- a part of a line, after two blanks; nothing of what isn't known
abbrev pub counted_part : Option Counted → List ℕ
counted_part None = []
counted_part (Some c) = codes "  " ++ counted_text c

-- a number of bytes after this text, if there is one
abbrev pub size_part : List ℕ → Option ℕ → List ℕ
size_part front None = []
size_part front (Some bytes) = front ++ size_text bytes

abbrev pub time_part : Option ℕ → List ℕ
time_part None = []
time_part (Some micros) = codes "  " ++ time_text micros

-- a count, and what is counted
unfoldable pub named : ℕ → List ℕ → List ℕ
named n name = grouped n ++ name

-- the counts of the answers, and the net
abbrev pub totals_text : Totals → List ℕ
totals_text t =
    named t.paid (codes " paid, ") ++ (named t.duplicate (codes " duplicate, ")
    ++ (named t.approved (codes " approved, ") ++ (named t.rejected (codes " rejected, net ") ++ net_text t.net)))

abbrev pub totals_part : Option Totals → List ℕ
totals_part None = []
totals_part (Some t) = codes "  " ++ totals_text t

-- LABEL  COUNT lines  SIZE  TIME
abbrev pub step_text : StepReport → List ℕ
step_text r = label_of r.step ++ (counted_part r.counted ++ (size_part (codes "  ") r.bytes ++ (time_part r.micros ++ 10 ∷ [])))

-- shards  COUNT, the largest has COUNT of ALL transactions
abbrev pub shards_text : Shards → List ℕ
shards_text s =
    codes "shards       " ++ (named s.count (codes ", the largest has ") ++ (named s.largest (codes " of ")
    ++ (grouped s.transactions ++ (codes " transaction" ++ (ending s.transactions ++ 10 ∷ [])))))

-- adjudicated  COUNT of ALL records
abbrev pub progress_text : ℕ → ℕ → List ℕ
progress_text adjudicated records =
    codes "adjudicated  " ++ (grouped adjudicated ++ (codes " of " ++ (grouped records ++ (codes " records" ++ 10 ∷ []))))

-- done  TOTALS  peak SIZE  TIME
abbrev pub done_text : RunReport → List ℕ
done_text r = codes "done       " ++ (totals_part r.totals ++ (size_part (codes "  peak ") r.peak ++ (time_part r.micros ++ 10 ∷ [])))
