use Rattle.std.proofs.Common.{arith, refl, sym, ◌∙◌}
use Rattle.std.proofs.lemmas.Bool.{false_from_ne_true, false≢true}
use Rattle.rx_fields.proofs.DateFaults.{date_fault, fault_told}
use Rattle.rx_fields.proofs.DateLaws.{civil_made, date_made, date_is, date_isnt, part_below}
use Rattle.rx_fields.proofs.day.date_read.Goals as goal

-- What isn't a number of eight digits is no date.
pub returns-in_err-check_digits : goal.returns-in_err-check_digits
returns-in_err-check_digits c =
    fault_told _ _ c.from_residual.ensures.1 ∙ sym (date_fault c.args.bytes.now _ c.in_err-check_digits.ensures.number)

-- What the library makes a date of is in the calendar.
pub invariant_of-result : goal.invariant_of-result
invariant_of-result c =
    let bytes = c.args.bytes.now in
    let many = c.if-bytes-lt8.false in
    civil_made _ _ _ (part_below bytes 0 4 _ (omega arith) c.value-year.ensures.within)
    (part_below bytes 4 2 _ (omega arith) c.value-month.ensures.within)
    (part_below bytes 6 2 _ (omega arith) c.value-day.ensures.within) (c.in-Ok.ensures.succeeds.0 refl)

-- Eight digits are the date of their parts.
pub returns-in-Ok : goal.returns-in-Ok
returns-in-Ok c =
    let digits = c.in_ok-check_digits.ensures in
    date_is c.args.bytes.now _ _ _ digits.few c.if-bytes-lt8.false digits.digits
    c.value-year.ensures.value c.value-month.ensures.value c.value-day.ensures.value (invariant_of-result c)

-- What the library makes no date of is not in the calendar.
pub returns-in-Err : goal.returns-in-Err
returns-in-Err c =
    let bytes = c.args.bytes.now in
    let many = c.if-bytes-lt8.false in
    let digits = c.in_ok-check_digits.ensures in
    date_isnt bytes _ _ _ digits.few many digits.digits
    c.value-year.ensures.value c.value-month.ensures.value c.value-day.ensures.value
    (false_from_ne_true _ (λ civil. false≢true (c.in-Err.ensures.succeeds.1
    (date_made _ _ _ (part_below bytes 0 4 _ (omega arith) c.value-year.ensures.within)
    (part_below bytes 4 2 _ (omega arith) c.value-month.ensures.within)
    (part_below bytes 6 2 _ (omega arith) c.value-day.ensures.within) civil))))
