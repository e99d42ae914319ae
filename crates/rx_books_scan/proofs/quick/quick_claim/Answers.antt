use Rattle.std.proofs.Common.{refl}
use Rattle.rx_books_scan.proofs.FieldLines.{claim_begin}
use Rattle.rx_books_scan.proofs.quick.quick_claim.Goals as goal

pub returns : goal.returns
returns c =
    let what = c.in-Some-dispensed_at.what in
    let paid = c.in-Some-paid_at.paid in
    claim_begin c.in-Some.key c.in-Some-member_key_at.member what.product what.quantity what.days paid.amounts
    paid.number c.in_ok-row.row c.args.bytes.now c.in_ok-rest.rest.now c.in-Some.rest.now
    c.in-Some-member_key_at.rest.now c.in-Some-dispensed_at.rest.now _ c.in-Some-paid_at.rest.now
    c.in_ok-rest.ensures
    c.in-Some.ensures.whole c.in-Some.ensures.key
    c.in-Some-member_key_at.ensures.whole c.in-Some-member_key_at.ensures.key
    c.in-Some-dispensed_at.ensures.whole c.in-Some-dispensed_at.ensures.dispensed
    c.in-Some-paid_at.ensures.whole refl c.in-Some-paid_at.ensures.number
    c.in_ok-row.ensures
