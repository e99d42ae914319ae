use Rattle.rx_print.specs.Money.{money_text}
use Rattle.rx_print.proofs.Written.{three}
use Rattle.std.proofs.Common.{codes}
use Rattle.rx_commands.proofs.family.page.put_amount.Goals as goal

pub returns : goal.returns
returns c =
    three c.args.page.now c.markup.new.self c.money.new.self c.markup-2.new.self
    c.args.front.now
    (money_text c.args.cents)
    (codes "</td>")
    c.markup.ensures
    c.money.ensures
    c.markup-2.ensures
