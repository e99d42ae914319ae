use Rattle.std.proofs.Common.{refl}
use Rattle.rx_books_scan.proofs.FieldLines.{member_begin}
use Rattle.rx_books_scan.proofs.quick.quick_member.Goals as goal

pub returns : goal.returns
returns c =
    let dates = c.in-Some-dates_at.dates in
    rw c.from.ensures (member_begin c.in-Some.key dates.first dates.last c.in_ok-deductible.deductible
    c.in_ok-coverage.coverage c.args.bytes.now c.in_ok-rest.rest.now c.in-Some.rest.now _
    c.in-Some-dates_at.rest.now c.in_ok-deductible.rest.now c.in_ok-rest.ensures
    c.in-Some.ensures.whole c.in-Some.ensures.key
    c.in-Some-dates_at.ensures.whole c.in-Some-dates_at.ensures.first
    refl c.in-Some-dates_at.ensures.last
    c.in_ok-deductible.ensures.whole c.in_ok-deductible.ensures.short
    c.in_ok-coverage.ensures)
