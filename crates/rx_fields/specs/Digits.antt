-- Meaning: what digits stand for, and how a number is written in them.
use Rattle.std.specs.Prelude.{ℕ, zero, suc, ◌+◌, ◌-◌, ◌*◌, ◌/◌, ◌%◌, ◌^◌, nat_lt, ◌==◌, if◌then◌else◌}
use Rattle.std.specs.Prelude.{List, [], ◌∷◌, ◌++◌, length, Result, Ok, Err}
use Rattle.rx_text.specs.Bytes.{all_digits}
use Rattle.rx_fields.specs.declared.fault.FieldFault.{FieldFault}
use Rattle.rx_fields.specs.declared.fault.FieldFault.TheVariants.{Empty, TooLong, NotDigit}

-- digits stand for the sum of their weights in base ten
abbrev pub number : List ℕ → ℕ
number [] = 0
number (b ∷ bs) = (b - 48) * 10 ^ length bs + number bs

-- the number of 1 to max digits, or the first fault
abbrev pub number_of : ℕ → List ℕ → Result ℕ FieldFault
number_of max bs =
    if length bs == 0 then Err Empty
    else (if nat_lt max (length bs) then Err TooLong
    else (if all_digits bs then Ok (number bs) else Err NotDigit))

-- the one spelling of a number in n digits, filled with zeros in front
unfoldable pub digits_text : ℕ → ℕ → List ℕ
digits_text zero x = []
digits_text (suc n) x = digits_text n (x / 10) ++ (48 + x % 10) ∷ []
