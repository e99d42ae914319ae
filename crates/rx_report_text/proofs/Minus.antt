-- What an amount is after its minus, if it has one.
use Rattle.std.proofs.Common.{◌≡◌, ℤ, pos, negsuc, unsigned_abs, ◌++◌, refl}
use Rattle.std.specs.Fmt.{decimal, signed_decimal}
use Rattle.rx_print.specs.Money.{dollars, signed_dollars}
use Rattle.rx_report_text.specs.Money.{minus_of}

pub after_minus : (cents : ℤ) → minus_of cents ++ decimal (unsigned_abs cents) ≡ signed_decimal cents
after_minus (pos n) = refl
after_minus (negsuc n) = refl

pub dollars_after_minus : (cents : ℤ) → minus_of cents ++ dollars (unsigned_abs cents) ≡ signed_dollars cents
dollars_after_minus (pos n) = refl
dollars_after_minus (negsuc n) = refl
