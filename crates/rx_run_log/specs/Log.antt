-- Meaning: the value of a log's line: what each member says.
use Rattle.std.specs.Prelude.{ℕ, List, Option, Some, None, codes, map, slice_index, string_bytes}
use Rattle.std.specs.Borrow.{Bor}
use Rattle.serde_json.specs.Data.{Data, null, boolean, number, unsigned, string, array, object, item, no_items, member, no_members}
use Rattle.serde_json.specs.Find.{of_integer}
use Rattle.serde_json.specs.View.{items_of}
use Rattle.rx_io.specs.declared.files.Inputs.{Inputs}
use Rattle.rx_io.specs.declared.files.Outputs.{Outputs}
use Rattle.rx_run_log.specs.declared.log.CodeCount.{CodeCount}
use Rattle.rx_run_log.specs.declared.log.FileLog.{FileLog}
use Rattle.rx_run_log.specs.declared.header.Lot.{Lot}
use Rattle.rx_run_log.specs.declared.log.RunLog.{RunLog}
use Rattle.rx_run_log.specs.declared.report.Shards.{Shards}
use Rattle.rx_run_log.specs.declared.step.Step.TheVariants as step
use Rattle.rx_run_log.specs.declared.step.StepTimes.{StepTimes}
use Rattle.rx_run_log.specs.declared.settlement.Totals.{Totals}
use Rattle.rx_run_log.specs.Steps.{time_of}

-- a number, or null where it isn't known
abbrev pub number_data : Option ℕ → Data
number_data None = null
number_data (Some n) = number (unsigned n)

-- a text, or null where it isn't known
abbrev pub text_data : Option (Bor (List ℕ)) → Data
text_data None = null
text_data (Some text) = string text.now

-- a file: its bytes, its path, its sum
abbrev pub file_data : FileLog → Data
file_data f = object (member (codes "bytes") (number_data f.bytes) (member (codes "path") (string f.path.now)
    (member (codes "sha256") (text_data f.sha256) no_members)))

-- the lot: the creation date and the batch number
abbrev pub lot_data : Option Lot → Data
lot_data None = null
lot_data (Some lot) = object (member (codes "created") (string lot.created.now)
    (member (codes "number") (string lot.number.now) no_members))

-- the counts and the net
abbrev pub totals_data : Option Totals → Data
totals_data None = null
totals_data (Some t) = object (member (codes "approved") (number (unsigned t.approved))
    (member (codes "duplicate") (number (unsigned t.duplicate)) (member (codes "net") (number (of_integer t.net))
    (member (codes "paid") (number (unsigned t.paid)) (member (codes "rejected") (number (unsigned t.rejected)) no_members)))))

-- the numbers of a refusal
abbrev pub refused_data : Option (List ℕ) → Data
refused_data None = null
refused_data (Some numbers) = array (item (number (unsigned (slice_index numbers 0)))
    (item (number (unsigned (slice_index numbers 1))) (item (number (unsigned (slice_index numbers 2))) no_items)))

-- the inputs
abbrev pub inputs_data : Inputs FileLog FileLog FileLog → Data
inputs_data i = object (member (codes "batch") (file_data i.batch) (member (codes "books") (file_data i.books)
    (member (codes "sheet") (file_data i.sheet) no_members)))

-- the outputs
abbrev pub outputs_data : Outputs FileLog FileLog FileLog → Data
outputs_data o = object (member (codes "books_out") (file_data o.books) (member (codes "response") (file_data o.response)
    (member (codes "settlement") (file_data o.settlement) no_members)))

-- the steps, in microseconds
abbrev pub steps_data : StepTimes → Data
steps_data s =
    object (member (codes "adjudicate") (number_data (time_of s step.Adjudicate))
    (member (codes "batch") (number_data (time_of s step.Batch)) (member (codes "books") (number_data (time_of s step.Books))
    (member (codes "books_out") (number_data (time_of s step.EndBooks)) (member (codes "end") (number_data (time_of s step.Disk))
    (member (codes "response") (number_data (time_of s step.Response))
    (member (codes "settlement") (number_data (time_of s step.Settlement))
    (member (codes "sheet") (number_data (time_of s step.Sheet)) no_members))))))))

-- how the batch was dealt out in shards, null where it wasn't
abbrev pub shards_data : Option Shards → Data
shards_data None = null
shards_data (Some s) = object (member (codes "count") (number (unsigned s.count))
    (member (codes "largest") (number (unsigned s.largest))
    (member (codes "transactions") (number (unsigned s.transactions)) no_members)))

-- how often a code was given
abbrev pub code_data : CodeCount → Data
code_data c = object (member (codes "code") (string (string_bytes c.code)) (member (codes "count") (number (unsigned c.count)) no_members))

abbrev pub codes_data : Option (Bor (List CodeCount)) → Data
codes_data None = null
codes_data (Some counts) = array (items_of (map code_data counts.now))

-- how many records and lines there are, and the codes
abbrev pub counts_data : RunLog → Data
counts_data r = object (member (codes "codes") (codes_data r.codes)
    (member (codes "end_books_lines") (number_data r.end_books_lines) (member (codes "records") (number_data r.records) no_members)))

-- where the run was
abbrev pub machine_data : RunLog → Data
machine_data r = object (member (codes "host") (text_data r.host)
    (member (codes "process") (number (unsigned r.process)) no_members))

-- when the run began, and how many microseconds it took
abbrev pub time_data : RunLog → Data
time_data r = object (member (codes "duration") (number_data r.duration) (member (codes "start") (text_data r.start) no_members))

-- what is said of it in words
abbrev pub said_data : RunLog → Data
said_data r = object (member (codes "fault") (text_data r.fault) (member (codes "warning") (text_data r.warning) no_members))

-- the run: its options, and what is known of it
abbrev pub run_data : RunLog → Data
run_data r = object (member (codes "counts") (counts_data r) (member (codes "desk") (boolean r.desk)
    (member (codes "machine") (machine_data r) (member (codes "plain") (boolean r.plain)
    (member (codes "plan") (text_data r.plan) (member (codes "safe") (boolean r.safe)
    (member (codes "stamp") (string r.stamp.now) (member (codes "time") (time_data r)
    (member (codes "words") (said_data r) (member (codes "workers") (number (unsigned r.workers)) no_members))))))))))

-- the whole
abbrev pub log_data : RunLog → Data
log_data r = object (member (codes "file") (number_data r.file) (member (codes "inputs") (inputs_data r.inputs)
    (member (codes "lot") (lot_data r.lot) (member (codes "microseconds") (steps_data r.steps)
    (member (codes "outputs") (outputs_data r.outputs) (member (codes "peak_kilobytes") (number_data r.peak)
    (member (codes "refused") (refused_data r.refused) (member (codes "run") (run_data r)
    (member (codes "shards") (shards_data r.shards) (member (codes "status") (number (unsigned r.status))
    (member (codes "totals") (totals_data r.totals)
    (member (codes "version") (string r.version.now) no_members))))))))))))
