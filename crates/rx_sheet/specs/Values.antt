-- Meaning: the values of keys: what a table has at a key, and what a value stands for.
use Rattle.std.specs.Prelude.{ℕ, ℤ, pos, negsuc, ◌&&◌, ◌-◌, nat_le, ◌==◌, if◌then◌else◌}
use Rattle.std.specs.Prelude.{List, ◌++◌, length, replicate, Option, Some, None, Result, Ok}
use Rattle.std.specs.Option.{ok_or, option_and_then, option_map}
use Rattle.std.specs.Result.{result_ok}
use Rattle.toml.specs.Data.{Data, Members, get_member, as_str, as_integer}
use Rattle.rx_fields.specs.Calendar.{Civil, date_of}
use Rattle.rx_text.specs.Bytes.{all_digits, all_printable}
use Rattle.rx_ledger.specs.declared.sheet_key.SheetKey.{SheetKey}
use Rattle.rx_sheet.specs.declared.fault.SheetFault.{SheetFault}
use Rattle.rx_sheet.specs.declared.fault.SheetFault.TheVariants.{Missing, Wrong}
use Rattle.rx_text.specs.Results.{◌>>=◌}
use Rattle.rx_sheet.specs.Names.{name_of}

-- the value at a key, which has to be there
abbrev pub value_at : SheetKey → Members → Result Data SheetFault
value_at key table = ok_or (get_member (name_of key) table) (Missing key)

-- what the value at a key stands for: it has to be there, and then to stand for something
abbrev pub read_at : {A : Type 0} → SheetKey → (Data → Option A) → Members → Result A SheetFault
read_at key read table = value_at key table >>= λ value. ok_or (read value) (Wrong key)

-- what a value stands for, if there is one
abbrev pub may_read : {A : Type 0} → SheetKey → (Data → Option A) → Option Data → Result (Option A) SheetFault
may_read key read None = Ok None
may_read key read (Some value) = ok_or (option_map (λ x. Some x) (read value)) (Wrong key)

-- what the value at a key stands for, where the key may be absent
abbrev pub read_if_there : {A : Type 0} → SheetKey → (Data → Option A) → Members → Result (Option A) SheetFault
read_if_there key read table = may_read key read (get_member (name_of key) table)

-- a whole number from low to high
abbrev pub whole : ℕ → ℕ → ℤ → Option ℕ
whole low high (pos n) = if nat_le low n && nat_le n high then Some n else None
whole low high (negsuc n) = None

abbrev pub number : ℕ → ℕ → Data → Option ℕ
number low high value = option_and_then (whole low high) (as_integer value)

-- a text of six digits
abbrev pub bin_text : List ℕ → Option (List ℕ)
bin_text text = if length text == 6 && all_digits text then Some text else None

abbrev pub bin : Data → Option (List ℕ)
bin value = option_and_then bin_text (as_str value)

-- a text of 0 to 10 printable bytes, filled with blanks to 10
abbrev pub pcn_text : List ℕ → Option (List ℕ)
pcn_text text =
    if nat_le (length text) 10 && all_printable text then Some (text ++ replicate (10 - length text) 32) else None

abbrev pub pcn : Data → Option (List ℕ)
pcn value = option_and_then pcn_text (as_str value)

-- a text that is a date CCYYMMDD
abbrev pub day : Data → Option Civil
day value = option_and_then (λ text. result_ok (date_of text)) (as_str value)
