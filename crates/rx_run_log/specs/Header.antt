-- Meaning: what a log says of a batch file's header (docs/FORMATS.md, "Batch file").
use Rattle.std.specs.Prelude.{◌≡◌, ℕ, ◌+◌, ◌&&◌, nat_le, if◌then◌else◌, List, drop, length, slice_range}
use Rattle.std.specs.Prelude.{Option, Some, None, MatchOption}
use Rattle.std.specs.List.{prefix_len}
use Rattle.rx_batch.specs.declared.layout.TheConstants.{BATCH_NUMBER_AT, CREATION_DATE_AT, CREATION_TIME_AT}
use Rattle.rx_text.specs.Bytes.{all_digits, is_line_end}
use Rattle.rx_run_log.specs.declared.header.Lot.{Lot}

-- the file from its header on: the CR and LF before it are skipped
abbrev pub from_header : List ℕ → List ℕ
from_header bytes = drop (prefix_len is_line_end bytes) bytes

-- the digits from one place up to another; none where another byte stands there, or the bytes end before
abbrev pub digits_at : ℕ → ℕ → List ℕ → Option (List ℕ)
digits_at from to bytes =
    if nat_le to (length bytes) && all_digits (slice_range bytes from to) then Some (slice_range bytes from to) else None

-- the batch number and the creation date, where both are digits
abbrev pub both : Option (List ℕ) → Option (List ℕ) → Option (List ℕ × List ℕ)
both (Some number) (Some created) = Some (number, created)
both (Some number) None = None
both None created = None

-- the batch number and the creation date at their places after the header's STX
abbrev pub lot_of : List ℕ → Option (List ℕ × List ℕ)
lot_of bytes =
    both (digits_at (1 + BATCH_NUMBER_AT) (1 + CREATION_DATE_AT) (from_header bytes))
    (digits_at (1 + CREATION_DATE_AT) (1 + CREATION_TIME_AT) (from_header bytes))

-- the lot has these texts
abbrev pub IsLot : Option (List ℕ × List ℕ) → Option Lot → Type 0
IsLot texts lot = MatchOption lot (texts ≡ None) (λ l. texts ≡ Some (l.number.now, l.created.now))
