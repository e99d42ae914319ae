-- Meaning: the fields of a batch header and of a trailer, each at its place between STX and ETX (NCPDP Batch Standard 1.2).
use Rattle.std.specs.Prelude.{ℕ, Bool, ◌&&◌, nat_eq, nat_le, ◌==◌, if◌then◌else◌, List, codes, length, slice_index, slice_range}
use Rattle.std.specs.Prelude.{Option, Some, None}
use Rattle.std.specs.List.{starts_with}
use Rattle.std.specs.Result.{result_ok}
use Rattle.rx_text.specs.Options.{◌>>=◌}
use Rattle.rx_fields.specs.Digits.{number_of}
use Rattle.rx_fields.specs.Calendar.{date_of}
use Rattle.rx_fields.specs.Clock.{time_of}
use Rattle.rx_fields.specs.Numbered.{LotParts, lot_of}
use Rattle.rx_batch.specs.declared.head.Head.{Head}
use Rattle.rx_batch.specs.declared.head.Kind.{Kind}
use Rattle.rx_batch.specs.declared.head.Kind.TheVariants.{Transmission, Response}
use Rattle.rx_batch.specs.declared.head.FileType.{FileType}
use Rattle.rx_batch.specs.declared.head.FileType.TheVariants.{Production, Test}
use Rattle.rx_batch.specs.declared.layout.TheConstants.{BATCH_NUMBER_AT, CREATION_DATE_AT, CREATION_TIME_AT}
use Rattle.rx_batch.specs.declared.trailer.Trailer.{Trailer}

-- T for requests, R for replies
abbrev pub byte_of_kind : Kind → ℕ
byte_of_kind Transmission = 84
byte_of_kind Response = 82

-- P for production, T for a test
abbrev pub byte_of_file : FileType → ℕ
byte_of_file Production = 80
byte_of_file Test = 84

-- the file type of a byte
abbrev pub file_of : ℕ → Option FileType
file_of b = if b == 80 then Some Production else (if b == 84 then Some Test else None)

-- a record of this kind: its first two bytes
abbrev pub is_kind : List ℕ → List ℕ → Bool
is_kind two body = starts_with nat_eq body two

-- the batch number and the creation date of their digits
abbrev pub lot_in : List ℕ → List ℕ → Option LotParts
lot_in number created = do
  n ← result_ok (number_of 7 number)
  day ← result_ok (date_of created)
  lot_of n day

-- the head of a header: 73 bytes between STX and ETX, type T, version 12
abbrev pub head_of : List ℕ → Option Head
head_of body =
    if length body == 73 && slice_index body 2 == 84 && is_kind (codes "12") (slice_range body 47 49) then (do
      lot ← lot_in (slice_range body BATCH_NUMBER_AT CREATION_DATE_AT) (slice_range body CREATION_DATE_AT CREATION_TIME_AT)
      time ← time_of (slice_range body CREATION_TIME_AT 46)
      file ← file_of (slice_index body 46)
      Some (record {
        kind = Transmission;
        sender = slice_range body 3 27;
        lot = lot;
        time = time;
        file = file;
        receiver = slice_range body 49 73;
      }))
    else None

-- what a trailer says: a batch number, a count, and a message of at most 35 bytes
abbrev pub trailer_of : List ℕ → Option Trailer
trailer_of body =
    if nat_le 19 (length body) && nat_le (length body) 54 then (do
      number ← result_ok (number_of 7 (slice_range body 2 9))
      count ← result_ok (number_of 10 (slice_range body 9 19))
      Some (record { number = number; count = count }))
    else None
