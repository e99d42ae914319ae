use Rattle.std.proofs.Common.{ap}
use Rattle.rx_explain_text.specs.Codes.{shown}
use Rattle.rx_explain_text.specs.Reasons.{family_text}
use Rattle.rx_explain_text.specs.Said.{say}
use Rattle.rx_print.proofs.Written.{as_text, three}
use Rattle.rx_explain_text.proofs.reasons.put_family.Goals as goal

pub returns : goal.returns
unfolding family_text
returns c =
    three c.args.page.now c.say.new.self c.escaped.new.self c.say-2.new.self
    (say "  the books list no member of family ")
    (shown c.args.family.now)
    (say "\n")
    c.say.ensures
    (as_text c.say.new.self c.escaped.new.self (ap shown c.bytes.ensures.value) c.escaped.ensures)
    c.say-2.ensures
