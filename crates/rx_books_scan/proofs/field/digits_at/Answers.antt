use Rattle.std.proofs.Common.{arith}
use Rattle.rx_fields.proofs.DigitLaws.{number_more, fits_more, below_more}
use Rattle.rx_books_scan.proofs.Numbers.{digits_more}
use Rattle.rx_books_scan.proofs.field.digits_at.Goals as goal

pub overflow_mul-number : goal.overflow_mul-number
overflow_mul-number c =
    let loop = c.loop-at in
    omega (arith, fits_more loop.number loop.at 0 (omega arith) loop.invariant.within (omega arith))

pub overflow_add-number : goal.overflow_add-number
overflow_add-number c =
    let loop = c.loop-at in
    omega (arith, fits_more loop.number loop.at c.from.result (omega arith) loop.invariant.within (omega arith))

pub loop-at-preserved : goal.loop-at-preserved
loop-at-preserved c =
    let loop = c.loop-at in
    let bytes = c.args.bytes.now in
    record {
      few = omega arith;
      digits = digits_more bytes loop.at c.loop-at-test.true loop.invariant.digits c.if-byte-lt48.false c.if-byte-gt57.false;
      so_far = rw (number_more bytes loop.at c.loop-at-test.true, ← loop.invariant.so_far) (omega arith);
      within = below_more loop.number loop.at c.from.result loop.invariant.within (omega arith);
    }
