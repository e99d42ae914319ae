use Rattle.std.proofs.Common.{ap, rules}
use Rattle.rx_d0_values.specs.Priced.{total_paid}
use Rattle.rx_explain_text.specs.Claims.{standing_text}
use Rattle.rx_print.specs.Money.{money_text}
use Rattle.rx_explain_text.specs.Reasons.{taken_text}
use Rattle.rx_explain_text.specs.Said.{say}
use Rattle.rx_print.proofs.Written.{as_text, five}
use Rattle.rx_explain_text.proofs.reasons.put_taken.Goals as goal

pub returns : goal.returns
unfolding taken_text
returns c =
    five c.args.page.now c.say.new.self c.put_standing.new.page c.say-2.new.self c.money.new.self c.say-3.new.self
    (say "  the claim ")
    (standing_text c.args.explanation.now.decision c.args.explanation.now.standing)
    (say " stands no longer; the plan gets back ")
    (money_text (total_paid c.args.pricing.now))
    (say "\n")
    c.say.ensures
    c.put_standing.ensures
    c.say-2.ensures
    (as_text c.say-2.new.self c.money.new.self (ap money_text (search rules)) c.money.ensures)
    c.say-3.ensures
