-- Text: the line that says which stamp a run has, and the warning of a stamp before the batch.
use Rattle.std.specs.Prelude.{ℕ, Bool, false, ◌&&◌, ◌==◌, if◌then◌else◌, List, [], ◌++◌, codes, length, take}
use Rattle.std.specs.Prelude.{Result, Ok, Err}
use Rattle.std.specs.Ordering.{is_lt}
use Rattle.rx_fields.specs.Calendar.{Civil, date_of, date_text, day_cmp}
use Rattle.rx_fields.specs.declared.fault.FieldFault.{FieldFault}

abbrev pub stamp_line : List ℕ → List ℕ
stamp_line stamp = codes "stamp        " ++ stamp

-- the date of the stamp is before the day on which the batch was created
abbrev pub is_earlier : Result Civil FieldFault → Civil → Bool
is_earlier (Ok day) created = is_lt (day_cmp day created)
is_earlier (Err fault) created = false

abbrev pub is_dated_before : List ℕ → Civil → Bool
is_dated_before stamp created = length stamp == 12 && is_earlier (date_of (take 8 stamp)) created

abbrev pub early_line : List ℕ → Civil → List ℕ
early_line stamp created =
    codes "--stamp " ++ (stamp ++ (codes ": warning: the batch was created later, on " ++ (date_text created ++ codes "\n")))

-- nothing where it isn't
abbrev pub early_text : List ℕ → Civil → List ℕ
early_text stamp created = if is_dated_before stamp created then early_line stamp created else []
