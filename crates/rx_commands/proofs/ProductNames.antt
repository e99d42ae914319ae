-- The digits of a product are text.
use Rattle.std.specs.Prelude.{if◌then◌else◌}
use Rattle.std.proofs.Common.{◌≡◌, ◌<◌, ◌&&◌, ◌==◌, ℕ, zero, suc, Bool, List, [], ◌∷◌, Some, None, true, false, length, slice_index}
use Rattle.std.proofs.Common.{refl, arith}
use Rattle.std.specs.Str.{IsUtf8}
use Rattle.std.proofs.lemmas.Bool.{and_parts}
use Rattle.std.proofs.lemmas.Bool.Decides.{nat_tests}
use Rattle.std.proofs.lemmas.Str.{IsUtf8-from_ascii}
use Rattle.rx_text.specs.Bytes.{is_digit, all_digits}
use Rattle.rx_fields.specs.Digits.{number}
use Rattle.rx_fields.specs.Numbered.{product_of}

digit_is_ascii : (b : ℕ) → is_digit b ≡ true → b < 128
digit_is_ascii b h = grind (arith, nat_tests)

digits_are_ascii : (bs : List ℕ) → all_digits bs ≡ true → (i : ℕ) → slice_index bs i < 128
digits_are_ascii [] all zero = omega arith
digits_are_ascii [] all (suc i) = omega arith
digits_are_ascii (b ∷ bs) all zero = digit_is_ascii b (and_parts (is_digit b) (all_digits bs) all).0
digits_are_ascii (b ∷ bs) all (suc i) = digits_are_ascii bs (and_parts (is_digit b) (all_digits bs) all).1 i

fits_where_some : (fits : Bool) (n p : ℕ) → (if fits then Some n else None) ≡ Some p → fits ≡ true
fits_where_some true n p is = refl
fits_where_some false n p is = absurd (let bad : None ≡ Some p = is in cc)

pub product_is_text : (bs : List ℕ) (p : ℕ) → product_of bs ≡ Some p → IsUtf8 bs
product_is_text bs p is =
    let fits = fits_where_some (length bs == 11 && all_digits bs) (number bs) p is in
    IsUtf8-from_ascii bs (digits_are_ascii bs (and_parts (length bs == 11) (all_digits bs) fits).1)
