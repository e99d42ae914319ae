-- Text: what is said of a fault of a batch file: what stands there, and what is expected.
use Rattle.std.specs.Prelude.{ℕ, ◌+◌, ◌-◌, Bool, true, false, not, ◌&&◌, ◌||◌, ◌==◌, nat_le, nat_lt}
use Rattle.std.specs.Prelude.{if◌then◌else◌, List, [], ◌∷◌, ◌++◌, codes, drop, length, slice_range, take}
use Rattle.std.specs.Prelude.{Option, Some, None, is_err, is_none}
use Rattle.std.specs.Fmt.{decimal}
use Rattle.std.specs.List.{position_or_len}
use Rattle.std.specs.Result.{result_unwrap_or}
use Rattle.std.specs.Str.{bytes_eq}
use Rattle.rx_batch.specs.declared.fault.BatchFault.{BatchFault}
use Rattle.rx_batch.specs.declared.fault.BatchFault.TheVariants as fault
use Rattle.rx_batch.specs.declared.layout.TheConstants.{BATCH_NUMBER_AT, CREATION_DATE_AT, CREATION_TIME_AT, ETX, HEADER_LENGTH}
use Rattle.rx_batch.specs.declared.layout.TheConstants.{STX, TRAILER_LENGTH}
use Rattle.rx_fields.specs.Calendar.{date_of}
use Rattle.rx_fields.specs.declared.limits.TheConstants.{MOST_DETAILS}
use Rattle.rx_fields.specs.Clock.{time_of}
use Rattle.rx_fields.specs.Digits.{number_of}
use Rattle.rx_text.specs.Bytes.{all_digits}
use Rattle.rx_diagnostics.specs.Looks.{begins, has_mark, looks_like}
use Rattle.rx_diagnostics.specs.Parts.{after_byte, body_at}
use Rattle.rx_diagnostics.specs.Places.{starts_before}
use Rattle.rx_diagnostics.specs.Quoting.{quoted_text}

-- ---- where a record could begin

-- what stands at a place, as far as it is shown
abbrev pub seen_at : List ℕ → ℕ → List ℕ
seen_at text at = quoted_text (take 16 (drop at text))

-- the kind of file that the text looks like, where its first byte is at fault
abbrev pub kind_at : List ℕ → ℕ → Option (List ℕ)
kind_at text at = if at == 0 then looks_like text else None

-- an ETX, which ends a record, stands before the place
abbrev pub ends_before : List ℕ → ℕ → Bool
ends_before text at = bytes_eq (slice_range text (at - 1) at) (ETX ∷ [])

abbrev pub outside_with : List ℕ → Option (List ℕ) → Bool → List ℕ
outside_with there (Some kind) after_end = there ++ (codes ": expected STX (X'02'); this looks like " ++ kind)
outside_with there None true =
    there ++ codes " after a record's ETX (X'03'): expected STX (X'02'); a record must not contain ETX"
outside_with there None false = there ++ codes " where a record could begin: expected STX (X'02')"

-- a blank or a tab stands right after a record
abbrev pub is_blank_after : List ℕ → ℕ → Bool
is_blank_after text at = ends_before text at && (begins (drop at text) (codes " ") || begins (drop at text) (9 ∷ []))

-- a byte where a record could begin
unfoldable pub outside_text : List ℕ → ℕ → List ℕ
outside_text text at =
    if at == 0 && has_mark text
    then codes "the file begins with a byte order mark (EF BB BF): expected STX (X'02')"
    else (if is_blank_after text at
    then codes "a blank after a record's ETX (X'03'): only line ends may stand between records"
    else outside_with (seen_at text at) (kind_at text at) (ends_before text at))

-- no header where one is expected
unfoldable pub no_header_text : List ℕ → ℕ → List ℕ
no_header_text text at =
    if length text == 0 then codes "the file is empty: expected a header, which begins STX 00"
    else (if nat_le (length text) at then codes "the file ends before a header, which begins STX 00"
    else (codes "the first record begins "
    ++ (quoted_text (take 2 (after_byte text at)) ++ codes ": expected a header, which begins \"00\"")))

-- X'1A', with which some systems end a text
abbrev pub is_end_mark : List ℕ → Bool
is_end_mark rest = bytes_eq rest (26 ∷ [])

unfoldable pub follows_text : List ℕ → ℕ → List ℕ
follows_text text at =
    if is_end_mark (drop at text) then codes "X'1A' (Ctrl-Z) follows the trailer: the file ends with the trailer"
    else (decimal (length (drop at text)) ++ (codes " bytes follow the trailer, "
    ++ (seen_at text at ++ codes ": the file ends with the trailer")))

-- what follows the trailer
unfoldable pub after_text : List ℕ → ℕ → List ℕ
after_text text at =
    if begins (drop at text) (STX ∷ codes "00")
    then codes "a second batch begins after the trailer: a file has one batch"
    else follows_text text at

-- ---- a record's fields

-- a field of a record whose STX stands at a place, with its own byte, and what is expected of it
unfoldable pub field_text : ℕ → List ℕ → List ℕ → ℕ → ℕ → List ℕ → List ℕ
field_text at name body start end expected =
    name ++ (codes " " ++ (quoted_text (slice_range body start end) ++ (codes " at byte "
    ++ (decimal (at + start + 1) ++ (codes ": " ++ expected)))))

-- why eight bytes are no date
unfoldable pub date_expected : List ℕ → List ℕ
date_expected date = if all_digits date then codes "no such date" else codes "expected 8 digits CCYYMMDD"

-- P for production, T for a test
abbrev pub is_file_type : List ℕ → Bool
is_file_type file = bytes_eq file (codes "P") || bytes_eq file (codes "T")

-- the fields of a header, the first that is wrong: from the file type on
unfoldable pub file_type_text : ℕ → List ℕ → List ℕ
file_type_text at body =
    if is_file_type (slice_range body 46 47) then field_text at (codes "version") body 47 49 (codes "expected 12")
    else field_text at (codes "file type") body 46 47 (codes "expected P or T")

-- from the creation time on
unfoldable pub time_text : ℕ → List ℕ → List ℕ
time_text at body =
    if is_none (time_of (slice_range body CREATION_TIME_AT 46))
    then field_text at (codes "creation time") body CREATION_TIME_AT 46 (codes "expected HHMM from 0000 to 2359")
    else file_type_text at body

-- from the creation date on
unfoldable pub date_text : ℕ → List ℕ → List ℕ
date_text at body =
    if is_err (date_of (slice_range body CREATION_DATE_AT CREATION_TIME_AT))
    then field_text at (codes "creation date") body CREATION_DATE_AT CREATION_TIME_AT (date_expected (slice_range body CREATION_DATE_AT CREATION_TIME_AT))
    else time_text at body

-- from the batch number on
unfoldable pub lot_text : ℕ → List ℕ → List ℕ
lot_text at body =
    if all_digits (slice_range body BATCH_NUMBER_AT CREATION_DATE_AT) then date_text at body
    else field_text at (codes "batch number") body BATCH_NUMBER_AT CREATION_DATE_AT (codes "expected 7 digits")

-- all of them
unfoldable pub fields_text : ℕ → List ℕ → List ℕ
fields_text at body =
    if bytes_eq (slice_range body 2 3) (codes "T") then lot_text at body
    else field_text at (codes "type") body 2 3 (codes "expected T")

-- a header: its length, or that it is a response file's, or its first field that is wrong
unfoldable pub header_text : ℕ → List ℕ → List ℕ
header_text at body =
    if not (length body + 2 == HEADER_LENGTH)
    then codes "the header has " ++ (decimal (length body + 2) ++ (codes " bytes: expected "
    ++ decimal HEADER_LENGTH))
    else (if bytes_eq (slice_range body 2 3) (codes "R")
    then codes "type \"R\" at byte " ++ (decimal (at + 3) ++ codes ": this is a response file, expected T")
    else fields_text at body)

-- a trailer: its length, or its first number that is none
unfoldable pub trailer_text : ℕ → List ℕ → List ℕ
trailer_text at body =
    if nat_lt (length body) 19
    then codes "the trailer has " ++ (decimal (length body + 2) ++ (codes " bytes: expected 21 to "
    ++ decimal TRAILER_LENGTH))
    else (if nat_lt 54 (length body)
    then codes "the trailer's message has " ++ (decimal (length body - 19) ++ codes " bytes: expected at most 35")
    else (if not (all_digits (slice_range body 2 9))
    then field_text at (codes "batch number") body 2 9 (codes "expected 7 digits")
    else field_text at (codes "count") body 9 19 (codes "expected 10 digits")))

-- ---- a record as a whole

-- how many bytes after a record's STX the next mark stands, STX or ETX
abbrev pub to_mark : List ℕ → ℕ
to_mark rest = position_or_len (λ b. b == STX || b == ETX) rest

-- a record that isn't closed
unfoldable pub unclosed_text : ℕ → List ℕ → List ℕ
unclosed_text at rest =
    if nat_lt (to_mark rest) (length rest)
    then codes "another STX (X'02') at byte "
    ++ (decimal (at + 1 + to_mark rest) ++ codes ", before the record's ETX (X'03')")
    else codes "the file ends "
    ++ (decimal (length rest) ++ codes " bytes after the record's STX, before its ETX (X'03'): it may have been cut")

-- a record of no kind
unfoldable pub kind_text : List ℕ → List ℕ
kind_text body =
    codes "the record begins " ++ (quoted_text (take 2 body) ++ codes ": a detail begins \"G1\", the trailer \"99\"")

-- a detail without a reference
unfoldable pub detail_text : List ℕ → List ℕ
detail_text body =
    codes "the detail has " ++ (decimal (length body - 2) ++ codes " bytes after G1: expected a reference of 10 bytes")

-- ---- the batch as a whole

-- how many details begin before a byte after the header
abbrev pub details_before : List ℕ → ℕ → ℕ
details_before text at = starts_before text at - 1

-- no trailer
unfoldable pub no_trailer_text : ℕ → List ℕ
no_trailer_text details =
    codes "the file ends without a trailer, after " ++ (decimal details ++ codes " details: it may have been cut")

-- a trailer of another batch: what holds the first record's batch number, and what its own
unfoldable pub number_text : List ℕ → List ℕ → List ℕ
number_text header trailer =
    codes "the trailer has batch number " ++ (quoted_text (slice_range trailer 2 9)
    ++ (codes ", the header " ++ quoted_text (slice_range header BATCH_NUMBER_AT CREATION_DATE_AT)))

-- the first record of a text
abbrev pub first_body : List ℕ → List ℕ
first_body text = body_at text (position_or_len (λ b. b == STX) text)

-- a trailer that counts otherwise
unfoldable pub count_text : List ℕ → ℕ → List ℕ
count_text trailer details =
    codes "the trailer says " ++ (decimal (result_unwrap_or (number_of 10 (slice_range trailer 9 19)) 0)
    ++ (codes " records, the file has " ++ (decimal details ++ codes ": it may have been cut or joined")))

abbrev pub too_much_text : List ℕ
too_much_text =
    codes "this is detail " ++ (decimal (MOST_DETAILS + 1) ++ (codes ": at most " ++ (decimal MOST_DETAILS ++ codes " are read")))

abbrev pub no_memory_text : List ℕ
no_memory_text = codes "out of memory"

-- what is said of each fault
abbrev pub batch_text : List ℕ → BatchFault → List ℕ
batch_text text (fault.Outside at) = outside_text text at
batch_text text (fault.NoHeader at) = no_header_text text at
batch_text text (fault.HeaderShape at) = header_text at (body_at text at)
batch_text text (fault.Unclosed at) = unclosed_text at (after_byte text at)
batch_text text (fault.RecordKind at) = kind_text (body_at text at)
batch_text text (fault.DetailShape at) = detail_text (body_at text at)
batch_text text (fault.TrailerShape at) = trailer_text at (body_at text at)
batch_text text (fault.NoTrailer at) = no_trailer_text (details_before text at)
batch_text text (fault.NumberDiffers at) = number_text (first_body text) (body_at text at)
batch_text text (fault.CountDiffers at) = count_text (body_at text at) (details_before text at)
batch_text text (fault.AfterTrailer at) = after_text text at
batch_text text (fault.TooMuch at) = too_much_text
batch_text text fault.Memory = no_memory_text

-- the command that takes away a byte order mark, unpacks a file, or writes control bytes that are spelled out as themselves
abbrev pub front_mend : List ℕ → List ℕ
front_mend text =
    if has_mark text then codes "sed -i '1s/^\\xef\\xbb\\xbf//'"
    else (if begins text (31 ∷ 139 ∷ []) then codes "sh -c 'zcat < \"$1\" > \"$1.new\" && mv \"$1.new\" \"$1\"' sh"
    else (if begins text (codes "<02>")
    then codes "sed -i 's/<02>/\\x02/g;s/<03>/\\x03/g;s/<1C>/\\x1c/Ig;s/<1D>/\\x1d/Ig;s/<1E>/\\x1e/Ig;s/<0[AD]>//Ig'" else []))

-- the command that takes away blanks after records
abbrev pub blank_mend : List ℕ → ℕ → List ℕ
blank_mend text at = if is_blank_after text at then codes "sed -i 's/\\x03[[:blank:]]*/\\x03/g'" else []

-- the command that mends the file, empty where no one step does
abbrev pub batch_mend : List ℕ → BatchFault → List ℕ
batch_mend text (fault.Outside at) = if at == 0 then front_mend text else blank_mend text at
batch_mend text (fault.AfterTrailer at) = if is_end_mark (drop at text) then codes "sed -i '$s/\\x1a$//'" else []
batch_mend text other = []

-- the same where the text can't be read again
abbrev pub unread_batch_text : BatchFault → List ℕ
unread_batch_text (fault.Outside at) = codes "a byte where a record could begin: expected STX (X'02')"
unread_batch_text (fault.NoHeader at) = codes "expected a header, which begins STX 00"
unread_batch_text (fault.HeaderShape at) = codes "a field of the header is wrong, or it hasn't 75 bytes"
unread_batch_text (fault.Unclosed at) = codes "the record has no ETX (X'03')"
unread_batch_text (fault.RecordKind at) = codes "the record begins neither G1 nor 99"
unread_batch_text (fault.DetailShape at) = codes "the detail has no reference of 10 bytes"
unread_batch_text (fault.TrailerShape at) = codes "the trailer's numbers aren't digits, or its message is too long"
unread_batch_text (fault.NoTrailer at) = codes "the file ends without a trailer"
unread_batch_text (fault.NumberDiffers at) = codes "the trailer's batch number isn't the header's"
unread_batch_text (fault.CountDiffers at) =
    codes "the trailer's count isn't the number of details, nor that number plus two"
unread_batch_text (fault.AfterTrailer at) = codes "bytes follow the trailer"
unread_batch_text (fault.TooMuch at) = too_much_text
unread_batch_text fault.Memory = no_memory_text
