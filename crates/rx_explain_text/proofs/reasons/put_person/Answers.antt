use Rattle.std.proofs.Common.{ap}
use Rattle.rx_explain_text.specs.Codes.{shown}
use Rattle.rx_explain_text.specs.Reasons.{person_text}
use Rattle.rx_explain_text.specs.Said.{say}
use Rattle.rx_print.proofs.Written.{as_text, five}
use Rattle.rx_explain_text.proofs.reasons.put_person.Goals as goal

pub returns : goal.returns
unfolding person_text
returns c =
    five c.args.page.now c.say.new.self c.escaped.new.self c.say-2.new.self c.escaped-2.new.self c.say-3.new.self
    (say "  the books list family ")
    (shown c.args.parts.now.family)
    (say ", but no person ")
    (shown c.args.parts.now.person)
    (say " of it\n")
    c.say.ensures
    (as_text c.say.new.self c.escaped.new.self (ap shown c.bytes.ensures.value) c.escaped.ensures)
    c.say-2.ensures
    (as_text c.say-2.new.self c.escaped-2.new.self (ap shown c.bytes-2.ensures.value) c.escaped-2.ensures)
    c.say-3.ensures
