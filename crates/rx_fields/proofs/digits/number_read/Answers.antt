-- Digits below the limit stand for a number below its power of ten.
use Rattle.std.proofs.Common.{length, arith}
use Rattle.rx_fields.proofs.DigitLaws.{power_le}
use Rattle.rx_fields.proofs.digits.number_read.Goals as goal

pub returns-clause-within : goal.returns-clause-within
returns-clause-within c = omega (arith, power_le (length c.args.bytes.now) c.args.max (omega (arith, c.in_ok-check_digits.ensures.few)))
