use Rattle.rx_explain_text.specs.Reasons.{again_text}
use Rattle.rx_explain_text.specs.Said.{say}
use Rattle.rx_fields.specs.Digits.{digits_text}
use Rattle.rx_print.proofs.Written.{three}
use Rattle.rx_explain_text.proofs.reasons.put_again.Goals as goal

pub returns : goal.returns
unfolding again_text
returns c =
    three c.args.page.now c.say.new.self c.put_batch_number.new.page c.say-2.new.self
    (say "  the opening books have it by batch ")
    (digits_text 7 c.args.lot.number)
    (say ": this batch was adjudicated on them already\n")
    c.say.ensures
    c.put_batch_number.ensures
    c.say-2.ensures
