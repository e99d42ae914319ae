-- The spelling of a day is text.
use Rattle.std.proofs.Common.{◌+◌, ◌/◌, ◌%◌, ◌<◌, ℕ, zero, suc, [], ◌∷◌, arith}
use Rattle.std.specs.Str.{IsAscii, IsUtf8}
use Rattle.std.proofs.lemmas.Str.{IsUtf8-append, IsUtf8-from_ascii, IsUtf8-nil}
use Rattle.rx_fields.specs.Calendar.{Civil, date_text}
use Rattle.rx_fields.specs.Digits.{digits_text}

-- a digit is ASCII
digit_is_ascii : (d : ℕ) → d < 10 → IsAscii ((48 + d) ∷ [])
digit_is_ascii d below zero = omega arith
digit_is_ascii d below (suc i) = omega arith

number_is_text : (n x : ℕ) → IsUtf8 (digits_text n x)
unfolding digits_text
number_is_text zero x = IsUtf8-nil
number_is_text (suc n) x =
    IsUtf8-append (digits_text n (x / 10)) _ (number_is_text n (x / 10))
    (IsUtf8-from_ascii _ (digit_is_ascii (x % 10) (omega arith)))

pub date_is_text : (day : Civil) → IsUtf8 (date_text day)
unfolding date_text
date_is_text day =
    IsUtf8-append (digits_text 4 day.year) _ (number_is_text 4 day.year)
    (IsUtf8-append (digits_text 2 day.month) _ (number_is_text 2 day.month) (number_is_text 2 day.day))
