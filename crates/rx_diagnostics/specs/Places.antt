-- Meaning: where in its file a fault stands (docs/FORMATS.md: the faults of a books file and of a batch file).
use Rattle.std.specs.Prelude.{ℕ, ◌==◌, List, take, count_by, Option, Some, None}
use Rattle.rx_batch.specs.declared.fault.BatchFault.{BatchFault}
use Rattle.rx_batch.specs.Fault.{place_of}
use Rattle.rx_batch.specs.declared.layout.TheConstants.{STX}
use Rattle.rx_books_text.specs.declared.fault.BooksFault.{BooksFault}
use Rattle.rx_books_text.specs.declared.fault.BooksFault.TheVariants as books
use Rattle.rx_books_text.specs.Fault.{line_of_fault}
use Rattle.rx_diagnostics.specs.declared.place.Place.{Place}
use Rattle.rx_diagnostics.specs.declared.place.Place.TheVariants as place

-- a line, or the whole file if there is none
abbrev pub line_place : Option ℕ → Place
line_place (Some line) = place.Line line
line_place None = place.Whole

-- a books fault stands at its line, and the head's is the first
abbrev pub books_place : BooksFault → Place
books_place books.Head = place.Line 1
books_place fault = line_place (line_of_fault fault)

-- how many records begin before a byte: the number of the record that begins there, the header's being 0
abbrev pub starts_before : List ℕ → ℕ → ℕ
starts_before text byte = count_by (λ b. b == STX) (take byte text)

abbrev pub record_place : List ℕ → Option ℕ → Place
record_place text (Some byte) = place.Record (starts_before text byte) byte
record_place text None = place.Whole

-- a batch fault stands at its byte, which begins this record, or where this record could begin
abbrev pub batch_place : List ℕ → BatchFault → Place
batch_place text fault = record_place text (place_of fault)

abbrev pub byte_place : Option ℕ → Place
byte_place (Some byte) = place.Byte byte
byte_place None = place.Whole

-- where the text can't be read again, the byte only is known
abbrev pub unread_batch_place : BatchFault → Place
unread_batch_place fault = byte_place (place_of fault)
