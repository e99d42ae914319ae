-- Worked cases of the definitions: numbers, amounts, quantities, prices and days as people read them.
use Rattle.std.proofs.Common.{◌≡◌, refl, codes}
use Rattle.std.specs.Fmt.{digits}
use Rattle.rx_fields.specs.Calendar.{date_text}
use Rattle.rx_fields.specs.Digits.{digits_text}
use Rattle.rx_print.specs.Dates.{dashed}
use Rattle.rx_print.specs.Decimal.{grouped}
use Rattle.rx_print.specs.Money.{hundredths_text, money_text, price_text, right_in, thousandths_text}

three-digits : grouped 999 ≡ codes "999"
unfolding digits
three-digits = refl

seven-digits : grouped 1_234_567 ≡ codes "1,234,567"
unfolding digits
seven-digits = refl

amount : money_text 12_705 ≡ codes "$127.05"
unfolding digits
amount = refl

amount-of-thousands : money_text 135_200 ≡ codes "$1,352.00"
unfolding digits
amount-of-thousands = refl

large-amount : hundredths_text 123_450 ≡ codes "1,234.50"
unfolding digits
large-amount = refl

-- two blanks before it
amount-in-column : right_in 9 (money_text 12_705) ≡ codes "  $127.05"
unfolding digits
amount-in-column = refl

amount-too-wide : right_in 3 (money_text 12_705) ≡ codes "$127.05"
unfolding digits
amount-too-wide = refl

whole-quantity : thousandths_text 30_000 ≡ codes "30"
unfolding digits
whole-quantity = refl

half : thousandths_text 500 ≡ codes "0.500"
unfolding digits digits_text
half = refl

price-in-cents : price_text 95_000 ≡ codes "$9.50"
unfolding digits
price-in-cents = refl

price-below-a-cent : price_text 375 ≡ codes "$0.0375"
unfolding digits digits_text
price-below-a-cent = refl

fifth-of-march : dashed (record { year = 2026; month = 3; day = 5 }) ≡ codes "2026-03-05"
unfolding digits_text date_text
fifth-of-march = refl
