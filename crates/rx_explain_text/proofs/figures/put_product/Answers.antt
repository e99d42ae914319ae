use Rattle.std.specs.Fmt.{decimal}
use Rattle.rx_print.specs.Money.{money_text}
use Rattle.rx_explain_text.specs.Figures.{product_text, rest_text}
use Rattle.rx_explain_text.specs.Said.{say}
use Rattle.rx_print.proofs.Written.{six}
use Rattle.rx_explain_text.proofs.figures.put_product.Goals as goal

pub returns : goal.returns
unfolding product_text
returns c =
    six c.args.page.now c.say.new.self c.number.new.self c.say-2.new.self c.put_rest.new.page c.say-3.new.self c.money.new.self
    (say "  ")
    (decimal c.args.percent)
    (say " percent of ")
    (rest_text c.args.allowed c.args.under)
    (say " = ")
    (money_text c.args.share)
    c.say.ensures
    c.number.ensures
    c.say-2.ensures
    c.put_rest.ensures
    c.say-3.ensures
    c.money.ensures
