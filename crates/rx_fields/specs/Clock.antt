-- Meaning: times of day to the minute, and stamps of a day and a time.
use Rattle.std.specs.Prelude.{ℕ, ◌&&◌, ◌==◌, if◌then◌else◌, List, ◌++◌, length, take, drop, slice_range}
use Rattle.std.specs.Prelude.{Option, Some, None, Result, Ok, Err}
use Rattle.rx_fields.specs.declared.fault.FieldFault.{FieldFault}
use Rattle.rx_fields.specs.declared.stamp.Stamp.{Stamp}
use Rattle.rx_text.specs.Bytes.{all_digits}
use Rattle.rx_fields.specs.Digits.{number, digits_text}
use Rattle.rx_fields.specs.Calendar.{Civil, date_of, date_text}
use Rattle.rx_fields.specs.TimeOfDay.{Clock, is_clock}

-- the parts of four digits HHMM
abbrev pub clock_of : List ℕ → Clock
clock_of bs = record { hour = number (slice_range bs 0 2); minute = number (slice_range bs 2 4) }

-- the time of four digits, where the clock shows it
abbrev pub time_of : List ℕ → Option Clock
time_of bs = if length bs == 4 && (all_digits bs && is_clock (clock_of bs)) then Some (clock_of bs) else None

-- the one spelling of a time: HHMM
unfoldable pub time_text : Clock → List ℕ
time_text t = digits_text 2 t.hour ++ digits_text 2 t.minute

-- a day and a time, where there are both
abbrev pub stamp : Result Civil FieldFault → Option Clock → Option Stamp
stamp (Ok d) (Some t) = Some (record { date = d; time = t })
stamp (Ok d) None = None
stamp (Err e) t = None

-- the stamp of twelve digits CCYYMMDDHHMM, where the day and the time exist
abbrev pub stamp_of : List ℕ → Option Stamp
stamp_of bs = if length bs == 12 then stamp (date_of (take 8 bs)) (time_of (drop 8 bs)) else None

-- the one spelling of a stamp: CCYYMMDDHHMM
unfoldable pub stamp_text : Stamp → List ℕ
stamp_text s = date_text s.date ++ time_text s.time
