use Rattle.std.proofs.Common.{rules}
use Rattle.rx_explain_text.specs.Claims.{standing_text}
use Rattle.rx_explain_text.specs.Reasons.{product_text}
use Rattle.rx_explain_text.specs.Said.{say}
use Rattle.rx_fields.specs.Digits.{digits_text}
use Rattle.rx_print.proofs.Written.{as_text, seven}
use Rattle.rx_explain_text.proofs.reasons.put_product.Goals as goal

pub returns : goal.returns
unfolding product_text
returns c =
    seven c.args.page.now c.say.new.self c.put.new.self c.say-2.new.self c.put-2.new.self c.say-3.new.self c.put_standing.new.page
    c.say-4.new.self
    (say "  the claim that stands is of product ")
    (digits_text 11 c.args.stands)
    (say ", not ")
    (digits_text 11 c.args.product)
    (say "; it is ")
    (standing_text c.args.explanation.now.decision c.args.explanation.now.standing)
    (say "\n")
    c.say.ensures
    (as_text c.say.new.self c.put.new.self (search rules) c.put.ensures)
    c.say-2.ensures
    (as_text c.say-2.new.self c.put-2.new.self (search rules) c.put-2.ensures)
    c.say-3.ensures
    c.put_standing.ensures
    c.say-4.ensures
