use Rattle.rx_explain_text.specs.Claims.{standing_text}
use Rattle.rx_explain_text.specs.Reasons.{other_text}
use Rattle.rx_explain_text.specs.Said.{say}
use Rattle.rx_print.proofs.Written.{three}
use Rattle.rx_explain_text.proofs.reasons.put_other.Goals as goal

pub returns : goal.returns
unfolding other_text
returns c =
    three c.args.page.now c.say.new.self c.put_standing.new.page c.say-2.new.self
    (say "  another claim stands under this pharmacy, prescription and date: ")
    (standing_text c.args.explanation.now.decision c.args.explanation.now.standing)
    (say "\n")
    c.say.ensures
    c.put_standing.ensures
    c.say-2.ensures
