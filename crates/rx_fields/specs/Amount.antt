-- Meaning: overpunched amounts: the last character carries the last digit and the sign.
use Rattle.std.specs.Prelude.{ℕ, ◌+◌, ◌-◌, ◌*◌, ◌/◌, ◌%◌, Bool, true, false, ◌&&◌, nat_lt, nat_le, ◌==◌, if◌then◌else◌}
use Rattle.std.specs.Prelude.{List, [], ◌∷◌, ◌++◌, length, take, slice_index, Option, Some, None, Result, Ok, Err}
use Rattle.std.specs.Prelude.{ℤ, pos, negsuc, neg_ℤ, unsigned_abs}
use Rattle.rx_fields.specs.declared.fault.FieldFault.{FieldFault}
use Rattle.rx_fields.specs.declared.fault.FieldFault.TheVariants.{Empty, TooLong, NotDigit}
use Rattle.rx_text.specs.Bytes.{is_digit, all_digits}
use Rattle.rx_fields.specs.Digits.{number, digits_text}

-- whether the amount is negative, and its last digit: 0 to 9 stand for themselves, { and A to I for 0 to 9,
-- } and J to R for 0 to 9 of a negative amount
abbrev pub last_of : ℕ → Option (Bool × ℕ)
last_of b =
    if is_digit b then Some (false, b - 48)
    else (if b == 123 then Some (false, 0)
    else (if nat_le 65 b && nat_le b 73 then Some (false, b - 64)
    else (if b == 125 then Some (true, 0)
    else (if nat_le 74 b && nat_le b 82 then Some (true, b - 73) else None))))

-- the number of that sign and size; negative zero is 0
abbrev pub signed : Bool → ℕ → ℤ
signed true n = neg_ℤ (pos n)
signed false n = pos n

-- the amount of the number in front and of what the last character says
abbrev pub with_last : ℕ → Option (Bool × ℕ) → Result ℤ FieldFault
with_last front None = Err NotDigit
with_last front (Some last) = Ok (signed last.0 (front * 10 + last.1))

-- the amount, in cents, of 1 to 8 characters, all but the last being digits, or the first fault
abbrev pub signed_of : List ℕ → Result ℤ FieldFault
signed_of bs =
    let front = take (length bs - 1) bs in
    if length bs == 0 then Err Empty
    else (if nat_lt 8 (length bs) then Err TooLong
    else (if all_digits front then with_last (number front) (last_of (slice_index bs (length bs - 1)))
    else Err NotDigit))

-- below zero
abbrev pub is_negative : ℤ → Bool
is_negative (pos n) = false
is_negative (negsuc n) = true

-- the character of a sign and a last digit
abbrev pub last_char : Bool → ℕ → ℕ
last_char true d = if d == 0 then 125 else 73 + d
last_char false d = if d == 0 then 123 else 64 + d

-- the one spelling of an amount: seven digits, and the character of the eighth
unfoldable pub signed_text : ℤ → List ℕ
signed_text z = digits_text 7 (unsigned_abs z / 10) ++ last_char (is_negative z) (unsigned_abs z % 10) ∷ []
