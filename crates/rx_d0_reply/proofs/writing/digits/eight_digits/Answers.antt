use Rattle.std.proofs.Common.{sym}
use Rattle.rx_fields.specs.Digits.{digits_text}
use Rattle.rx_d0_reply.proofs.DigitJoins.{digits_join}
use Rattle.rx_d0_reply.proofs.writing.digits.eight_digits.Goals as goal

pub returns : goal.returns
unfolding digits_text
returns c = rw (c.four_digits.ensures, c.four_digits-2.ensures) (sym (digits_join 4 4 c.args.number))
