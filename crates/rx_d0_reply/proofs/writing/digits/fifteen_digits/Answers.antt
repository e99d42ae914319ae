use Rattle.std.proofs.Common.{sym}
use Rattle.rx_fields.specs.Digits.{digits_text}
use Rattle.rx_d0_reply.proofs.DigitJoins.{digits_join}
use Rattle.rx_d0_reply.proofs.writing.digits.fifteen_digits.Goals as goal

pub returns : goal.returns
unfolding digits_text
returns c = rw (c.eight_digits.ensures, c.eight_digits-2.ensures) (sym (digits_join 7 8 c.args.number))
