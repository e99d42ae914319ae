-- The front is digits and the last character has a sign and a digit, so the text is of that amount.
use Rattle.std.proofs.Common.{◌≤◌, ◌^◌, length, arith, ◌≡◌, true, rules, sym, ◌∙◌, FitsSigned, w64}
use Rattle.std.proofs.lemmas.Int.{to_z-of_z}
use Rattle.rx_fields.proofs.AmountLaws.{signed_at}
use Rattle.rx_fields.proofs.DigitLaws.{power_le}
use Rattle.rx_fields.proofs.amount.signed_read.Goals as goal

pub returns-clause-value : goal.returns-clause-value
returns-clause-value c =
    let split = c.split_at in
    let last = c.in-Some in
    let fits : FitsSigned w64 c.signed.result = search rules in
    let digits : c.all_digits.result ≡ true = search rules in
    let some = sym c.is_empty.ensures ∙ c.if-is_empty.false in
    let at =
    signed_at c.args.bytes.now split.result.0.now split.result.1.now last.negative last.digit some (omega arith)
    split.ensures.front split.ensures.back (sym c.all_digits.ensures ∙ digits) last.ensures.value in
    simp to_z-of_z (cc)

pub returns-clause-within : goal.returns-clause-within
returns-clause-within c =
    let fits : FitsSigned w64 c.signed.result = search rules in
    let low : 10 ^ length c.split_at.result.0.now ≤ 10 ^ 7 =
    power_le _ 7 (omega (arith, c.split_at.ensures.front_len)) in
    let size = c.signed.ensures.within in
    let below = c.in-Some.ensures.within in
    simp to_z-of_z (omega (arith, low, size, below))
