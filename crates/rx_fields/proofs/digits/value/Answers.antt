-- Each step appends a digit to the sum, which stays below 10^19.
use Rattle.std.proofs.Common.{arith}
use Rattle.rx_fields.proofs.DigitLaws.{number_more, digit_at, fits_more, below_more}
use Rattle.rx_fields.proofs.digits.value.Goals as goal

pub overflow_mul-sum : goal.overflow_mul-sum
overflow_mul-sum c =
    let loop = c.loop-digit in
    omega (arith, fits_more loop.sum loop.digit-index 0 (omega arith) loop.invariant.within (omega arith))

pub overflow_add-sum : goal.overflow_add-sum
overflow_add-sum c =
    let loop = c.loop-digit in
    let digit = digit_at c.args.digits.now loop.digit-index c.requires.digits c.loop-digit-test.true in
    omega (arith, fits_more loop.sum loop.digit-index c.from.result (omega arith) loop.invariant.within (omega arith))

pub loop-digit-preserved : goal.loop-digit-preserved
loop-digit-preserved c =
    let loop = c.loop-digit in
    let digit = digit_at c.args.digits.now loop.digit-index c.requires.digits c.loop-digit-test.true in
    record {
      so_far =
          rw (number_more c.args.digits.now loop.digit-index c.loop-digit-test.true, ← loop.invariant.so_far)
          (omega arith);
      within = below_more loop.sum loop.digit-index c.from.result loop.invariant.within (omega arith);
    }
