use Rattle.rx_print.specs.Dates.{dashed}
use Rattle.rx_explain_text.specs.Claims.{elsewhere_text}
use Rattle.rx_explain_text.specs.Said.{say}
use Rattle.rx_print.proofs.Written.{three}
use Rattle.rx_explain_text.proofs.reasons.put_elsewhere.Goals as goal

pub returns : goal.returns
unfolding elsewhere_text
returns c =
    three c.args.page.now c.say.new.self c.day.new.self c.say-2.new.self
    (say "claim of ")
    (dashed c.args.date)
    (say " at another pharmacy")
    c.say.ensures
    c.day.ensures
    c.say-2.ensures
