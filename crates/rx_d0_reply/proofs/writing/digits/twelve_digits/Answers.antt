use Rattle.std.proofs.Common.{sym}
use Rattle.rx_fields.specs.Digits.{digits_text}
use Rattle.rx_d0_reply.proofs.DigitJoins.{digits_join}
use Rattle.rx_d0_reply.proofs.writing.digits.twelve_digits.Goals as goal

pub returns : goal.returns
unfolding digits_text
returns c = rw (c.four_digits.ensures, c.eight_digits.ensures) (sym (digits_join 4 8 c.args.number))
